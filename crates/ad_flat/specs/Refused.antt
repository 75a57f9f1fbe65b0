-- When the entities of an axiom are not entered.
use Rattle.std.specs.Prelude.{◌≡◌, ℕ, Bool, None, IsTrue}
use Rattle.ad_entity.specs.declared.entities.Entity.{Entity}
use Rattle.ad_signature.specs.declared.numbers.EntityNumbers.{EntityNumbers}
use Rattle.ad_signature.specs.declared.refused.SymbolRefused.{SymbolRefused}
use Rattle.ad_signature.specs.declared.refused.SymbolRefused.TheVariants.{Full, Memory}
use Rattle.ad_signature.specs.Numbering.{number_in, count}

-- one of them has no number, and as many entities have numbers as the limit allows; want of memory comes at any time
abbrev pub IsRefusedForOneOf : (Entity → Bool) → ℕ → EntityNumbers → SymbolRefused → Type 0
IsRefusedForOneOf wanted limit names (Full n) = ((e : Entity) × IsTrue (wanted e) × (number_in names e ≡ None)) × (count names ≡ limit) × (n ≡ limit)
IsRefusedForOneOf wanted limit names Memory = Unit {0}
