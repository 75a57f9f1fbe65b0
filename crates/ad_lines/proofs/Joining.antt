-- Texts that a pen writes one after the other, and what they are together.
use Rattle.std.proofs.Common.{◌≡◌, ℕ, List, ◌++◌, subst}

abbrev pub Joins : {S : Type 0} → (S → S → List ℕ → Type 0) → Type 0
Joins {S} writes = (old mid new : S) (xs ys : List ℕ) → writes old mid xs → writes mid new ys → writes old new (xs ++ ys)

pub two : {S : Type 0} (writes : S → S → List ℕ → Type 0) → Joins writes → {a b c : S} {x y whole : List ℕ} → writes a b x → writes b c y → x ++ y ≡ whole → writes a c whole
two {S} writes joins {a} {b} {c} {x} {y} {whole} h i e = subst (λ t. writes a c t) e (joins a b c x y h i)

pub three : {S : Type 0} (writes : S → S → List ℕ → Type 0) → Joins writes → {a b c d : S} {x y z whole : List ℕ} → writes a b x → writes b c y → writes c d z → (x ++ y) ++ z ≡ whole → writes a d whole
three {S} writes joins {a} {b} {c} {d} {x} {y} {z} {whole} h i j e = two writes joins (joins a b c x y h i) j e

pub four : {S : Type 0} (writes : S → S → List ℕ → Type 0) → Joins writes → {a b c d f : S} {x y z v whole : List ℕ} → writes a b x → writes b c y → writes c d z → writes d f v → ((x ++ y) ++ z) ++ v ≡ whole → writes a f whole
four {S} writes joins {a} {b} {c} {d} {f} {x} {y} {z} {v} {whole} h i j k e = three writes joins (joins a b c x y h i) j k e

pub five : {S : Type 0} (writes : S → S → List ℕ → Type 0) → Joins writes → {a b c d f g : S} {x y z v w whole : List ℕ} → writes a b x → writes b c y → writes c d z → writes d f v → writes f g w → (((x ++ y) ++ z) ++ v) ++ w ≡ whole → writes a g whole
five {S} writes joins {a} {b} {c} {d} {f} {g} {x} {y} {z} {v} {w} {whole} h i j k l e = four writes joins (joins a b c x y h i) j k l e
