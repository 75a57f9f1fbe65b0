-- One slot more is grouped.
use Rattle.std.proofs.Common.{◌≡◌, ℕ, ◌+◌, ◌<◌, Bool, cond, List, [], ◌∷◌, ◌++◌, Option, Some, None, length, get_or, IsTrue, IsFalse, inl, inr, refl, sym, subst, ap, ◌∙◌, length-append, arith}
use Rattle.std.specs.List.{filter, list_any, range_with_len}
use Rattle.std.specs.Str.{bytes_eq}
use Rattle.std.specs.Cmp.Lexicographic.{bytes_decides}
use Rattle.std.proofs.lemmas.Bool.{cases_lt, cases_eq, cond-true, cond-false}
use Rattle.std.proofs.lemmas.List.{get_or_append_left, get_or_default, get_or_past}
use Rattle.std.proofs.Math.Seq.{get_or-append_seam}
use Rattle.ad_theory.proofs.Members.{either, not_both, has_of_any, any_of_has, contains_of_has, has_get_or}
use Rattle.ad_decomposition.specs.Atoms.{firsts_among}
use Rattle.ad_groups.specs.Signatures.{same_members, first_slots}
use Rattle.ad_groups.specs.Keys.{IsKeyOf}
use Rattle.ad_groups.specs.Groups.{AreGroups, AreKnown}
use Rattle.ad_groups.proofs.KeyLemmas.{same_members_of, same_members_turn, same_members_trans, same_key, key_same}
use Rattle.ad_groups.proofs.FirstLemmas.{firsts_among-same, firsts_among-new, filter_range_yes, filter_range_no}

-- the group at a place, after one more is pushed
pushed_here : (groups : List (Option ℕ)) (n : ℕ) (o : Option ℕ) → length groups ≡ n → get_or (groups ++ o ∷ []) n None ≡ o
pushed_here groups n o e = subst (λ k. get_or (groups ++ o ∷ []) k None ≡ o) e (get_or-append_seam groups o [] None)

pushed_before : (groups : List (Option ℕ)) (n i : ℕ) (o : Option ℕ) → length groups ≡ n → i < n → get_or (groups ++ o ∷ []) i None ≡ get_or groups i None
pushed_before groups n i o e l = get_or_append_left groups (o ∷ []) None i (omega arith)

pushed_long : (groups : List (Option ℕ)) (n : ℕ) (o : Option ℕ) → length groups ≡ n → length (groups ++ o ∷ []) ≡ n + 1
pushed_long groups n o e = length-append groups (o ∷ []) ∙ ap (λ k. k + 1) e

module _ (symbols : ℕ → List ℕ) (wanted : ℕ → Bool) (n : ℕ) (groups : List (Option ℕ)) (firsts : List ℕ) (are : AreGroups symbols wanted n groups firsts) where
  -- whether two slots have the same signature
  abbrev same : ℕ → ℕ → Bool
  same i k = same_members (symbols i) (symbols k)

  trans : (a b c : ℕ) → IsTrue (same a b) → IsTrue (same b c) → IsTrue (same a c)
  trans a b c = same_members_trans (symbols a) (symbols b) (symbols c)

  -- the slots below a number that are wanted, and the firsts of slots
  abbrev wanted_below : ℕ → List ℕ
  wanted_below k = filter wanted (range_with_len 0 k)

  abbrev firsts_of : List ℕ → List ℕ
  firsts_of slots = firsts_among same slots

  -- a number that is not wanted has no group afterwards
  others_pushed : (o : Option ℕ) → (IsFalse (wanted n) → o ≡ None) → (i : ℕ) → IsFalse (wanted i) → get_or (groups ++ o ∷ []) i None ≡ None
  others_pushed o none i f = elim (cases_lt i n) [
    | inl l ↦ pushed_before groups n i o are.long l ∙ are.of_others i f
    | inr m ↦ elim (cases_eq i n) [
      | inl e ↦ ap (λ k. get_or (groups ++ o ∷ []) k None) e ∙ pushed_here groups n o are.long ∙ none (subst (λ k. IsFalse (wanted k)) e f)
      | inr ne ↦ get_or_past (groups ++ o ∷ []) i None (omega (arith, pushed_long groups n o are.long))
    ]
  ]

  -- a slot that isn't wanted
  pub unwanted_placed : IsFalse (wanted n) → AreGroups symbols wanted (n + 1) (groups ++ None ∷ []) firsts
  unwanted_placed f = record {
    long = pushed_long groups n None are.long;
    firsts_are = are.firsts_are ∙ ap (λ l. firsts_of l) (sym (filter_range_no wanted n f));
    few = omega (arith, are.few);
    wanted_firsts = are.wanted_firsts;
    distinct = are.distinct;
    of_wanted = λ i l t. elim (cases_lt i n) [
      | inl b ↦ (let r = are.of_wanted i b t in (r.0, pushed_before groups n i None are.long b ∙ r.1, r.2, r.3))
      | inr m ↦ (let e : i ≡ n = omega arith in absurd (not_both (subst (λ k. IsTrue (wanted k)) e t) f))
    ];
    of_others = others_pushed None (λ _. refl);
  }

  -- a slot whose signature is that of a group
  pub old_placed : IsTrue (wanted n) → (g : ℕ) → g < length firsts → IsTrue (same (get_or firsts g 0) n) → AreGroups symbols wanted (n + 1) (groups ++ Some g ∷ []) firsts
  old_placed t g below like = record {
    long = pushed_long groups n (Some g) are.long;
    firsts_are =
        let some : IsTrue (list_any (λ b. same b n) (first_slots symbols wanted n)) = subst (λ l. IsTrue (list_any (λ b. same b n) l)) are.firsts_are
        (any_of_has (λ b. same b n) firsts (get_or firsts g 0) (has_get_or firsts g 0 below) like) in
        are.firsts_are ∙ sym (ap firsts_of (filter_range_yes wanted n t) ∙ firsts_among-same same trans (wanted_below n) n some);
    few = omega (arith, are.few);
    wanted_firsts = are.wanted_firsts;
    distinct = are.distinct;
    of_wanted = λ i l t'. elim (cases_lt i n) [
      | inl b ↦ (let r = are.of_wanted i b t' in (r.0, pushed_before groups n i (Some g) are.long b ∙ r.1, r.2, r.3))
      | inr m ↦ (let e : i ≡ n = omega arith in (g, ap (λ k. get_or (groups ++ Some g ∷ []) k None) e ∙ pushed_here groups n (Some g) are.long, below, subst (λ k. IsTrue (same (get_or firsts g 0) k)) (sym e) like))
    ];
    of_others = others_pushed (Some g) (λ f. absurd (not_both t f));
  }

  -- a signature that is that of no group is apart from each
  new_distinct : IsFalse (list_any (λ b. same b n) firsts) → (g h : ℕ) → g < length (firsts ++ n ∷ []) → h < length (firsts ++ n ∷ [])
      → IsTrue (same (get_or (firsts ++ n ∷ []) g 0) (get_or (firsts ++ n ∷ []) h 0)) → g ≡ h
  new_distinct none g h l m like =
      let more = length-append firsts (n ∷ []) in
      let first : ℕ → ℕ = λ k. get_or (firsts ++ n ∷ []) k 0 in
      let kept : (k : ℕ) → k < length firsts → first k ≡ get_or firsts k 0 = λ k b. get_or_append_left firsts (n ∷ []) 0 k b in
      let last : (k : ℕ) → k ≡ length firsts → first k ≡ n = λ k e. ap first e ∙ get_or-append_seam firsts n [] 0 in
      let moved : (a b : ℕ) → first g ≡ a → first h ≡ b → IsTrue (same a b) = λ a b p q. subst (λ x. IsTrue (same a x)) q (subst (λ x. IsTrue (same x (first h))) p like) in
      let apart : (k : ℕ) → k < length firsts → IsTrue (same (get_or firsts k 0) n) → ⊥ = λ k b t. not_both (any_of_has (λ b. same b n) firsts (get_or firsts k 0) (has_get_or firsts k 0 b) t) none in
      elim (cases_lt g (length firsts)) [
        | inl b ↦ elim (cases_lt h (length firsts)) [
          | inl d ↦ are.distinct g h b d (moved (get_or firsts g 0) (get_or firsts h 0) (kept g b) (kept h d))
          | inr d ↦ (let e : h ≡ length firsts = omega (arith, more) in absurd (apart g b (moved (get_or firsts g 0) n (kept g b) (last h e))))
        ]
        | inr b ↦ (let e : g ≡ length firsts = omega (arith, more) in elim (cases_lt h (length firsts)) [
          | inl d ↦ absurd (apart h d (same_members_turn (symbols n) (symbols (get_or firsts h 0)) (moved n (get_or firsts h 0) (last g e) (kept h d))))
          | inr d ↦ omega (arith, more, e)
        ])
      ]

  -- a slot whose signature is that of no group
  pub new_placed : IsTrue (wanted n) → IsFalse (list_any (λ b. same b n) firsts) → AreGroups symbols wanted (n + 1) (groups ++ Some (length firsts) ∷ []) (firsts ++ n ∷ [])
  new_placed t none =
      let more = length-append firsts (n ∷ []) in
      let kept : (g : ℕ) → g < length firsts → get_or (firsts ++ n ∷ []) g 0 ≡ get_or firsts g 0 = λ g l. get_or_append_left firsts (n ∷ []) 0 g l in
      let last : get_or (firsts ++ n ∷ []) (length firsts) 0 ≡ n = get_or-append_seam firsts n [] 0 in
      record {
        long = pushed_long groups n (Some (length firsts)) are.long;
        firsts_are =
            let no : IsFalse (list_any (λ b. same b n) (first_slots symbols wanted n)) = subst (λ l. IsFalse (list_any (λ b. same b n) l)) are.firsts_are none in
            ap (λ l. l ++ n ∷ []) are.firsts_are ∙ sym (ap firsts_of (filter_range_yes wanted n t) ∙ firsts_among-new same trans (wanted_below n) n no);
        few = omega (arith, are.few, more);
        wanted_firsts = λ g l. elim (cases_lt g (length firsts)) [
          | inl b ↦ subst (λ k. IsTrue (wanted k)) (sym (kept g b)) (are.wanted_firsts g b)
          | inr m ↦ (let e : g ≡ length firsts = omega (arith, more) in subst (λ k. IsTrue (wanted k)) (sym (ap (λ k. get_or (firsts ++ n ∷ []) k 0) e ∙ last)) t)
        ];
        distinct = new_distinct none;
        of_wanted = λ i l t'. elim (cases_lt i n) [
          | inl b ↦ (let r = are.of_wanted i b t' in (
            r.0,
            pushed_before groups n i (Some (length firsts)) are.long b ∙ r.1,
            omega (arith, r.2, more),
            subst (λ k. IsTrue (same k i)) (sym (kept r.0 r.2)) r.3,
          ))
          | inr m ↦ (let e : i ≡ n = omega arith in (
            length firsts,
            ap (λ k. get_or (groups ++ Some (length firsts) ∷ []) k None) e ∙ pushed_here groups n (Some (length firsts)) are.long,
            omega (arith, more),
            subst (λ k. IsTrue (same k i)) (sym last) (subst (λ k. IsTrue (same n k)) (sym e) (same_members_of (symbols n) (symbols n) (λ s h. h) (λ s h. h))),
          ))
        ];
        of_others = others_pushed (Some (length firsts)) (λ f. absurd (not_both t f));
      }

-- ---- the keys that are known

module _ (symbols : ℕ → List ℕ) (old new : List ℕ → Option ℕ) (firsts : List ℕ) (key : List ℕ) (g n : ℕ) (is_key : IsKeyOf (symbols n) key)
    (updates : (q : List ℕ) → new q ≡ cond (bytes_eq key q) (Some g) (old q)) (known : AreKnown symbols old firsts) where
  at_key : (q : List ℕ) → key ≡ q → new q ≡ Some g
  at_key q e = updates q ∙ cond-true (bytes_eq key q) (Some g) (old q) ((bytes_decides key q).1 e)

  -- the key was known already
  pub known_again : old key ≡ Some g → AreKnown symbols new firsts
  known_again had =
      let stays : (q : List ℕ) → new q ≡ old q = λ q. elim (either (bytes_eq key q)) [
        | inl y ↦ (let e = (bytes_decides key q).0 y in at_key q e ∙ sym had ∙ ap old e)
        | inr f ↦ updates q ∙ cond-false (bytes_eq key q) (Some g) (old q) f
      ] in
      record {
        all = λ h l. let r = known.all h l in (r.0, r.1, stays r.0 ∙ r.2);
        only = λ q h e. known.only q h (sym (stays q) ∙ e);
      }

  -- the slot's signature is that of the group
  pub known_same : old key ≡ Some g → (g < length firsts) × IsTrue (same_members (symbols (get_or firsts g 0)) (symbols n))
  known_same had = let r = known.only key g had in (r.0, key_same (symbols (get_or firsts g 0)) (symbols n) key r.1 is_key)

  -- or it is that of no group
  pub unknown_none : old key ≡ None → IsFalse (list_any (λ b. same_members (symbols b) (symbols n)) firsts)
  unknown_none had = elim (either (list_any (λ b. same_members (symbols b) (symbols n)) firsts)) [
    | inr f ↦ f
    | inl t ↦ (
        let r = has_of_any (λ b. same_members (symbols b) (symbols n)) firsts t in
        let at = contains_of_has firsts r.0 r.1 in
        let here : get_or firsts at.0 0 ≡ r.0 = get_or_default firsts at.0 0 r.0 at.1 ∙ at.2 in
        let k = known.all at.0 at.1 in
        let e : k.0 ≡ key = same_key (symbols (get_or firsts at.0 0)) (symbols n) k.0 key k.1 is_key (subst (λ b. IsTrue (same_members (symbols b) (symbols n))) (sym here) r.2) in
        let clash : Some at.0 ≡ None = sym k.2 ∙ ap old e ∙ had in
        cc)
  ]

  -- the key is new, and that of the new group
  pub known_new : old key ≡ None → g ≡ length firsts → AreKnown symbols new (firsts ++ n ∷ [])
  known_new had is =
      let more = length-append firsts (n ∷ []) in
      let kept : (h : ℕ) → h < length firsts → get_or (firsts ++ n ∷ []) h 0 ≡ get_or firsts h 0 = λ h l. get_or_append_left firsts (n ∷ []) 0 h l in
      let last : get_or (firsts ++ n ∷ []) g 0 ≡ n = subst (λ k. get_or (firsts ++ n ∷ []) k 0 ≡ n) (sym is) (get_or-append_seam firsts n [] 0) in
      let other : (q : List ℕ) (h : ℕ) → old q ≡ Some h → new q ≡ Some h = λ q h e. elim (either (bytes_eq key q)) [
        | inl y ↦ (let clash : None ≡ Some h = sym had ∙ ap old ((bytes_decides key q).0 y) ∙ e in cc)
        | inr f ↦ updates q ∙ cond-false (bytes_eq key q) (Some g) (old q) f ∙ e
      ] in
      record {
        all = λ h l. elim (cases_lt h (length firsts)) [
          | inl b ↦ (let r = known.all h b in (r.0, subst (λ k. IsKeyOf (symbols k) r.0) (sym (kept h b)) r.1, other r.0 h r.2))
          | inr m ↦ (let e : h ≡ g = omega (arith, more, is) in (key, subst (λ k. IsKeyOf (symbols k) key) (sym (ap (λ k. get_or (firsts ++ n ∷ []) k 0) e ∙ last)) is_key, at_key key refl ∙ ap Some (sym e)))
        ];
        only = λ q h e. elim (either (bytes_eq key q)) [
          | inl y ↦ (
              let eq = (bytes_decides key q).0 y in
              let both : Some g ≡ Some h = sym (at_key q eq) ∙ e in
              let same : g ≡ h = cc in
              let at : get_or (firsts ++ n ∷ []) h 0 ≡ n = subst (λ k. get_or (firsts ++ n ∷ []) k 0 ≡ n) same last in
              (omega (arith, more, is, same), subst (λ k. IsKeyOf (symbols k) q) (sym at) (subst (λ p. IsKeyOf (symbols n) p) eq is_key)))
          | inr f ↦ (
              let before : old q ≡ Some h = sym (updates q ∙ cond-false (bytes_eq key q) (Some g) (old q) f) ∙ e in
              let r = known.only q h before in
              (omega (arith, more, r.0), subst (λ k. IsKeyOf (symbols k) q) (sym (kept h r.0)) r.1))
        ];
      }
