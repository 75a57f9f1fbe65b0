-- What the modules of the two sides have in common contains the star module.
use Rattle.std.proofs.Common.{◌≡◌, ℕ, zero, suc, ◌<◌, Bool, ◌&&◌, List, [], ◌∷◌, length, get_or, refl, ap, ◌∙◌, arith}
use Rattle.std.specs.List.{AllZip}
use Rattle.ad_theory.specs.Module.{Logic, IsModule}
use Rattle.ad_theory.specs.Alternation.{IsAboveStar}
use Rattle.ad_theory.proofs.Members.{and_intro}
use Rattle.ad_theory.proofs.ModuleLemmas.{fixed_within}

pub above_common : {A E : Type 0} {B T : Logic A E} {seed : E → Bool} {O : A → Type 0} {M N common : A → Bool} {S R : E → Bool} → IsModule B seed O M S → IsModule T seed O N R
    → ((a : A) → common a ≡ (M a && N a)) → IsAboveStar B T seed O common
above_common {M = M} {N = N} m n both = record { above = λ K part f g a t. both a ∙ and_intro (M a) (N a) (fixed_within f part m a t) (fixed_within g part n a t) }

-- two lists that are zipped, at a place
pub zip_at : {X Y : Type 0} (R : X → Y → Type 0) (xs : List X) (ys : List Y) (i : ℕ) (d : X) (e : Y) → AllZip R xs ys → i < length xs → R (get_or xs i d) (get_or ys i e)
zip_at R [] [] i d e h l = absurd (omega arith)
zip_at R [] (y ∷ ys) i d e h l = absurd h
zip_at R (x ∷ xs) [] i d e h l = absurd h
zip_at R (x ∷ xs) (y ∷ ys) zero d e h l = h.0
zip_at R (x ∷ xs) (y ∷ ys) (suc i) d e h l = zip_at R xs ys i d e h.1 (omega arith)

pub zip_long : {X Y : Type 0} (R : X → Y → Type 0) (xs : List X) (ys : List Y) → AllZip R xs ys → length ys ≡ length xs
zip_long R [] [] h = refl
zip_long R [] (y ∷ ys) h = absurd h
zip_long R (x ∷ xs) [] h = absurd h
zip_long R (x ∷ xs) (y ∷ ys) h = ap suc (zip_long R xs ys h.1)
