-- Modules are carried from one logic to another along names of its axioms and entities.
use Rattle.std.proofs.Common.{◌≡◌, Bool, ◌⊎◌, ◌||◌, ◌&&◌, not, IsTrue, IsFalse, inl, inr, sym, subst}
use Rattle.ad_theory.specs.Module.{Logic, IsModule, IsFixed, IsStar}
use Rattle.ad_theory.proofs.Members.{either, not_both, not_true, false_not, or_left, or_right, or_cases, and_intro, and_left, and_right}

-- the set has what is named by something of the other set
pub record IsImage {A B : Type 0} (names : A → B → Type 0) (image : (A → Bool) → B → Bool) : Type 0 where
  pub out : (M : A → Bool) (b : B) → IsTrue (image M b) → (a : A) × names a b × IsTrue (M a)
  pub into : (M : A → Bool) (a : A) (b : B) → names a b → IsTrue (M a) → IsTrue (image M b)

-- signatures and locality agree along the names
pub record IsAlong {A B E F : Type 0} (L : Logic A E) (K : Logic B F) (names : A → B → Type 0) (means : E → F → Type 0) : Type 0 where
  pub sig_to : (a : A) (b : B) (e : E) → names a b → IsTrue (L.sig a e) → (f : F) × means e f × IsTrue (K.sig b f)
  pub sig_from : (a : A) (b : B) (f : F) → names a b → IsTrue (K.sig b f) → (e : E) × means e f × IsTrue (L.sig a e)
  pub local_to : (a : A) (b : B) (S : E → Bool) (T : F → Bool) → names a b → ((e : E) (f : F) → means e f → IsTrue (T f) → IsTrue (S e)) → IsTrue (L.local S a) → IsTrue (K.local T b)
  pub local_from : (a : A) (b : B) (S : E → Bool) (T : F → Bool) → names a b → ((e : E) (f : F) → means e f → IsTrue (S e) → IsTrue (T f)) → IsTrue (K.local T b) → IsTrue (L.local S a)

pub turned : {A B E F : Type 0} {L : Logic A E} {K : Logic B F} {names : A → B → Type 0} {means : E → F → Type 0} → IsAlong L K names means → IsAlong K L (λ b a. names a b) (λ f e. means e f)
turned along = record {
  sig_to = λ b a f n t. along.sig_from a b f n t;
  sig_from = λ b a e n t. along.sig_to a b e n t;
  local_to = λ b a T S n h t. along.local_from a b S T n (λ e f m s. h f e m s) t;
  local_from = λ b a T S n h t. along.local_to a b S T n (λ e f m s. h f e m s) t;
}

-- each name names one, and each is named once
pub record IsOneToOne {A B : Type 0} (names : A → B → Type 0) : Type 0 where
  pub one : (a : A) (b c : B) → names a b → names a c → b ≡ c
  pub once : (a c : A) (b : B) → names a b → names c b → a ≡ c

-- the set has what is named by something of the other set, and by nothing outside it
module _ {A B : Type 0} (names : B → A → Type 0) (image : (B → Bool) → A → Bool) (is : IsImage names image) (N : B → Bool) where
  abbrev pub whole : A → Bool
  whole a = image N a && not (image (λ b. not (N b)) a)

  pub whole_out : (a : A) → IsTrue (whole a) → (b : B) × names b a × IsTrue (N b)
  whole_out a t = is.out N a (and_left (image N a) (not (image (λ b. not (N b)) a)) t)

  pub whole_each : (a : A) (b : B) → names b a → IsTrue (whole a) → IsTrue (N b)
  whole_each a b n t = elim (either (N b)) [
    | inl y ↦ y
    | inr f ↦ absurd (not_both (is.into (λ b. not (N b)) b a n (false_not (N b) f)) (not_true (image (λ b. not (N b)) a) (and_right (image N a) (not (image (λ b. not (N b)) a)) t)))
  ]

  -- it is in the set, or named by something outside the other
  pub whole_or : (a : A) (b : B) → names b a → IsTrue (whole a) ⊎ ((c : B) × names c a × IsFalse (N c))
  whole_or a b n = elim (either (image (λ b. not (N b)) a)) [
    | inl t ↦ (let r = is.out (λ b. not (N b)) a t in inr (r.0, r.1, not_true (N r.0) r.2))
    | inr f ↦ elim (either (N b)) [
      | inl y ↦ inl (and_intro (image N a) (not (image (λ b. not (N b)) a)) (is.into N b a n y) (false_not (image (λ b. not (N b)) a) f))
      | inr g ↦ inr (b, n, g)
    ]
  ]

module _ {A B E F : Type 0} (L : Logic A E) (K : Logic B F) (names : A → B → Type 0) (means : E → F → Type 0)
    (up : (A → Bool) → B → Bool) (down : (B → Bool) → A → Bool) (to : (E → Bool) → F → Bool) (fro : (F → Bool) → E → Bool)
    (ups : IsImage names up) (downs : IsImage (λ b a. names a b) down) (tos : IsImage means to) (fros : IsImage (λ f e. means e f) fro)
    (one_meaning : IsOneToOne means)
    (seed : E → Bool) (seed' : F → Bool) (same : (e : E) (f : F) → means e f → seed e ≡ seed' f) where
  -- the module of the named axioms
  pub carry : IsAlong L K names means → (O : A → Type 0) (O' : B → Type 0) → ((a : A) (b : B) → names a b → O a → O' b) → ((a : A) → O a → (b : B) × names a b) → ((b : B) → O' b → (a : A) × names a b × O a)
      → (M : A → Bool) (S : E → Bool) → IsModule L seed O M S → IsModule K seed' O' (up M) (λ f. seed' f || to S f)
  carry along O O' keeps covers named M S m =
      let seed_to : (e : E) (f : F) → means e f → IsTrue (seed e) → IsTrue (seed' f) = λ e f n t. subst IsTrue (same e f n) t in
      let seed_from : (e : E) (f : F) → means e f → IsTrue (seed' f) → IsTrue (seed e) = λ e f n t. subst IsTrue (sym (same e f n)) t in
      let S' : F → Bool = λ f. seed' f || to S f in
      record {
        within = λ b t. let r = ups.out M b t in keeps r.0 b r.1 (m.within r.0 r.2);
        only = λ f t. elim (or_cases (seed' f) (to S f) t) [
          | inl s ↦ inl s
          | inr s ↦ (let r = tos.out S f s in elim (m.only r.0 r.2) [
            | inl h ↦ inl (seed_to r.0 f r.1 h)
            | inr h ↦ (let c = covers h.0 (m.within h.0 h.1) in
                let g = along.sig_to h.0 c.0 r.0 c.1 h.2 in
                inr (c.0, ups.into M h.0 c.0 c.1 h.1, subst (λ z. IsTrue (K.sig c.0 z)) (one_meaning.one r.0 g.0 f g.1 r.1) g.2))
          ])
        ];
        closed = record {
          has_seed = λ f t. or_left (seed' f) (to S f) t;
          has_symbols = λ b f t g. let r = ups.out M b t in let e = along.sig_from r.0 b f r.1 g in or_right (seed' f) (to S f) (tos.into S e.0 f e.1 (m.closed.has_symbols r.0 e.0 r.2 e.2));
          rest = λ b o. let r = named b o in elim (m.closed.rest r.0 r.2) [
            | inl t ↦ inl (ups.into M r.0 b r.1 t)
            | inr l ↦ inr (along.local_to r.0 b S S' r.1 (λ e f n t. elim (or_cases (seed' f) (to S f) t) [
              | inl s ↦ m.closed.has_seed e (seed_from e f n s)
              | inr s ↦ (let x = tos.out S f s in subst (λ z. IsTrue (S z)) (one_meaning.once x.0 e f x.1 n) x.2)
            ]) l)
          ];
        };
        least = λ N T c b t.
            let r = ups.out M b t in
            let T' : E → Bool = λ e. seed e || fro T e in
            let found = m.least (whole (λ b a. names a b) down downs N) T' (record {
              has_seed = λ e s. or_left (seed e) (fro T e) s;
              has_symbols = λ a e d s. let x = whole_out (λ b a. names a b) down downs N a d in let g = along.sig_to a x.0 e x.1 s in or_right (seed e) (fro T e) (fros.into T g.0 e g.1 (c.has_symbols x.0 g.0 x.2 g.2));
              rest = λ a o. let x = covers a o in elim (whole_or (λ b a. names a b) down downs N a x.0 x.1) [
                | inl h ↦ inl h
                | inr y ↦ elim (c.rest y.0 (keeps a y.0 y.1 o)) [
                  | inl h ↦ absurd (not_both h y.2)
                  | inr l ↦ inr (along.local_from a y.0 T' T y.1 (λ e f n s. elim (or_cases (seed e) (fro T e) s) [
                    | inl h ↦ c.has_seed f (seed_to e f n h)
                    | inr h ↦ (let z = fros.out T e h in subst (λ w. IsTrue (T w)) (one_meaning.one e z.0 f z.1 n) z.2)
                  ]) l)
                ]
              ];
            }) r.0 r.2 in
            whole_each (λ b a. names a b) down downs N r.0 b r.1 found;
      }

-- names of axioms and entities with the sets of what is named, both ways: all axioms of the one ontology have names in the
-- other, and all of that are named; each entity has one name, and the seeds are the same
pub record IsNaming {A B E F : Type 0} (names : A → B → Type 0) (means : E → F → Type 0)
    (up : (A → Bool) → B → Bool) (down : (B → Bool) → A → Bool) (to : (E → Bool) → F → Bool) (fro : (F → Bool) → E → Bool)
    (seed : E → Bool) (seed' : F → Bool) (O : A → Type 0) (O' : B → Type 0) : Type 0 where
  pub ups : IsImage names up
  pub downs : IsImage (λ b a. names a b) down
  pub tos : IsImage means to
  pub fros : IsImage (λ f e. means e f) fro
  pub one_meaning : IsOneToOne means
  pub same : (e : E) (f : F) → means e f → seed e ≡ seed' f
  pub keeps : (a : A) (b : B) → names a b → O a → O' b
  pub keeps_back : (a : A) (b : B) → names a b → O' b → O a
  pub covers : (a : A) → O a → (b : B) × names a b
  pub named : (b : B) → O' b → (a : A) × names a b

module _ {A B E F : Type 0} {names : A → B → Type 0} {means : E → F → Type 0}
    {up : (A → Bool) → B → Bool} {down : (B → Bool) → A → Bool} {to : (E → Bool) → F → Bool} {fro : (F → Bool) → E → Bool}
    {seed : E → Bool} {seed' : F → Bool} {O : A → Type 0} {O' : B → Type 0} (by : IsNaming names means up down to fro seed seed' O O') where
  one_back : IsOneToOne (λ f e. means e f)
  one_back = record { one = λ f e g h k. by.one_meaning.once e g f h k; once = λ f g e h k. by.one_meaning.one e f g h k }

  pub carry_up : (L : Logic A E) (K : Logic B F) → IsAlong L K names means → (M : A → Bool) (S : E → Bool) → IsModule L seed O M S → IsModule K seed' O' (up M) (λ f. seed' f || to S f)
  carry_up L K along M S m =
      carry L K names means up down to fro by.ups by.downs by.tos by.fros by.one_meaning seed seed' by.same along O O' by.keeps by.covers
      (λ b o. let r = by.named b o in (r.0, r.1, by.keeps_back r.0 b r.1 o)) M S m

  carry_down : (L : Logic A E) (K : Logic B F) → IsAlong L K names means → (N : B → Bool) (T : F → Bool) → IsModule K seed' O' N T → IsModule L seed O (down N) (λ e. seed e || fro T e)
  carry_down L K along N T n =
      carry K L (λ b a. names a b) (λ f e. means e f) down up fro to by.downs by.ups by.fros by.tos one_back seed' seed (λ f e h. sym (by.same e f h)) (turned along) O' O
      (λ b a h o. by.keeps_back a b h o) by.named (λ a o. let r = by.covers a o in (r.0, r.1, by.keeps a r.0 r.1 o)) N T n

  -- where an axiom is named by something of the module, all that names it is of the module
  pub module_whole : (L : Logic A E) (K : Logic B F) → IsAlong L K names means → (M : A → Bool) (S : E → Bool) → IsModule L seed O M S → (a : A) (b : B) → names a b → IsTrue (up M b) → IsTrue (M a)
  module_whole L K along M S m a b n t = (carry_down L K along (up M) _ (carry_up L K along M S m)).least M S m.closed a (by.downs.into (up M) b a n t)

  fixed_up : (L : Logic A E) (K : Logic B F) → IsAlong L K names means → (M : A → Bool) → ((a : A) → IsTrue (M a) → (b : B) × names a b) → IsFixed L seed M → IsFixed K seed' (up M)
  fixed_up L K along M covers m = (
    _,
    carry L K names means up down to fro by.ups by.downs by.tos by.fros by.one_meaning seed seed' by.same along (λ a. IsTrue (M a)) (λ b. IsTrue (up M b))
        (λ a b n t. by.ups.into M a b n t) covers (λ b t. by.ups.out M b t) M m.0 m.1,
  )

  fixed_down : (L : Logic A E) (K : Logic B F) → IsAlong L K names means → (N : B → Bool) → ((b : B) → IsTrue (N b) → (a : A) × names a b) → IsFixed K seed' N → IsFixed L seed (down N)
  fixed_down L K along N covers n = (
    _,
    carry K L (λ b a. names a b) (λ f e. means e f) down up fro to by.downs by.ups by.fros by.tos one_back
        seed' seed (λ f e h. sym (by.same e f h)) (turned along) (λ b. IsTrue (N b)) (λ a. IsTrue (down N a)) (λ b a h t. by.downs.into N b a h t) covers (λ a t. by.downs.out N a t) N n.0 n.1,
  )

  down_within : (N : B → Bool) → ((b : B) → IsTrue (N b) → O' b) → (a : A) → IsTrue (down N a) → O a
  down_within N inside a t = let x = by.downs.out N a t in by.keeps_back a x.0 x.1 (inside x.0 x.2)

  up_within : (M : A → Bool) → ((a : A) → IsTrue (M a) → O a) → (b : B) → IsTrue (up M b) → O' b
  up_within M inside b t = let r = by.ups.out M b t in by.keeps r.0 b r.1 (inside r.0 r.2)

  module _ {L L2 : Logic A E} {K K2 : Logic B F} (along : IsAlong L K names means) (along2 : IsAlong L2 K2 names means) where
    -- the star module of the named axioms
    pub carry_star : (M : A → Bool) → IsStar L L2 seed O M → IsStar K K2 seed' O' (up M)
    carry_star M s = record {
      within = up_within M s.within;
      bottom = fixed_up L K along M (λ a t. by.covers a (s.within a t)) s.bottom;
      top = fixed_up L2 K2 along2 M (λ a t. by.covers a (s.within a t)) s.top;
      greatest = λ N inside b2 t2 b t.
          let r = by.named b (inside b t) in
          let covered : (b : B) → IsTrue (N b) → (a : A) × names a b = λ c k. by.named c (inside c k) in
          by.ups.into M r.0 b r.1 (s.greatest (down N) (down_within N inside)
          (fixed_down L K along N covered b2) (fixed_down L2 K2 along2 N covered t2) r.0 (by.downs.into N b r.0 r.1 t));
    }

    pub star_whole : (M : A → Bool) → IsStar L L2 seed O M → (a : A) (b : B) → names a b → IsTrue (up M b) → IsTrue (M a)
    star_whole M s a b n t =
        let u = carry_star M s in
        let covered : (b : B) → IsTrue (up M b) → (a : A) × names a b = λ c k. by.named c (u.within c k) in
        s.greatest (down (up M)) (down_within (up M) u.within) (fixed_down L K along (up M) covered u.bottom) (fixed_down L2 K2 along2 (up M) covered u.top) a (by.downs.into (up M) b a n t)
