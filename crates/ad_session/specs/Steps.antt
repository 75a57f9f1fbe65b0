-- A run in steps: each item gets a reply, and leads from one state to the next.
use Rattle.std.specs.Prelude.{◌≡◌, List, [], ◌∷◌}

abbrev pub Steps : {P I R : Type 0} → (P → I → R → P → Type 0) → P → List I → List R → P → Type 0
Steps step old [] [] new = new ≡ old
Steps step old [] (reply ∷ replies) new = ⊥
Steps step old (i ∷ items) [] new = ⊥
Steps {P} step old (i ∷ items) (reply ∷ replies) new = (mid : P) × step old i reply mid × Steps step mid items replies new
