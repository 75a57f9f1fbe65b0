-- Sets of words that are kept as the lists of their words.
use Rattle.std.proofs.Common.{◌≡◌, ℕ, Bool, true, false, cond, ◌||◌, List, [], ◌∷◌, nat_eq, refl, sym, ap, ◌∙◌, subst}
use Rattle.std.specs.List.{list_any}
use Rattle.std.specs.Ordering.{eq_by_cmp, nat_cmp}
use Rattle.std.specs.Cmp.Lexicographic.{nat_list_cmp_total, nat_list_eq_equiv, texts_ties}
use Rattle.std.specs.FinSet as set
use Rattle.std.specs.FinSet.{FinSet, nat_cmp-IsAntisymmetric, slice_cmp-IsAntisymmetric}
use Rattle.ad_base.specs.Words.{same_text, text_order}

abbrev words : List (List ℕ) → FinSet text_order
words ks = set.from_list ks

any_tied : (q : List ℕ) (ks : List (List ℕ)) → list_any (eq_by_cmp text_order q) ks ≡ list_any (same_text q) ks
any_tied q [] = refl
any_tied q (k ∷ ks) = ap (λ b. b || list_any (eq_by_cmp text_order q) ks) (sym (texts_ties q k)) ∙ ap (λ b. same_text q k || b) (any_tied q ks)

pub contains_words : (ks : List (List ℕ)) (q : List ℕ) → set.contains (words ks) q ≡ list_any (same_text q) ks
contains_words ks q = set.contains-from_list nat_list_cmp_total ks q ∙ any_tied q ks

contains_more : (ks : List (List ℕ)) (k q : List ℕ) → set.contains (set.insert (words ks) k) q ≡ (same_text q k || list_any (same_text q) ks)
contains_more ks k q =
    set.contains-insert nat_list_cmp_total (words ks) k q
    ∙ ap (λ b. b || set.contains (words ks) q) (sym (texts_ties q k))
    ∙ ap (λ b. same_text q k || b) (contains_words ks q)

cond_or : (a b : Bool) → cond a true b ≡ (a || b)
cond_or true b = refl
cond_or false b = refl

-- a word came in
pub words_more : (old new : List (List ℕ)) (k : List ℕ)
    → ((q : List ℕ) → list_any (same_text q) new ≡ cond (same_text k q) true (list_any (same_text q) old)) → words new ≡ set.insert (words old) k
words_more old new k updates = set.same_set nat_list_cmp_total (slice_cmp-IsAntisymmetric nat_cmp-IsAntisymmetric) (words new) (set.insert (words old) k) (λ q.
    contains_words new q
    ∙ updates q
    ∙ cond_or (same_text k q) (list_any (same_text q) old)
    ∙ ap (λ b. b || list_any (same_text q) old) (nat_list_eq_equiv.symm k q)
    ∙ sym (contains_more old k q))

same_member : (ks : List (List ℕ)) (k q : List ℕ) → same_text q k ≡ true → list_any (same_text q) ks ≡ list_any (same_text k) ks
same_member [] k q e = refl
same_member (x ∷ ks) k q e = ap (λ b. b || list_any (same_text q) ks) (nat_list_eq_equiv.congr q k x e) ∙ ap (λ b. same_text k x || b) (same_member ks k q e)

or_with : (a b : Bool) → (a ≡ true → b ≡ true) → b ≡ (a || b)
or_with true b h = h refl
or_with false b h = refl

-- a word is in already
pub words_with : (ks : List (List ℕ)) (k : List ℕ) → list_any (same_text k) ks ≡ true → words ks ≡ set.insert (words ks) k
words_with ks k has = set.same_set nat_list_cmp_total (slice_cmp-IsAntisymmetric nat_cmp-IsAntisymmetric) (words ks) (set.insert (words ks) k) (λ q.
    contains_words ks q
    ∙ or_with (same_text q k) (list_any (same_text q) ks) (λ e. same_member ks k q e ∙ has)
    ∙ sym (contains_more ks k q))
