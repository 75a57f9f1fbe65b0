-- When an entity is not entered.
use Rattle.std.specs.Prelude.{◌≡◌, ℕ, None}
use Rattle.ad_entity.specs.declared.entities.Entity.{Entity}
use Rattle.ad_signature.specs.declared.numbers.EntityNumbers.{EntityNumbers}
use Rattle.ad_signature.specs.declared.refused.SymbolRefused.{SymbolRefused}
use Rattle.ad_signature.specs.declared.refused.SymbolRefused.TheVariants.{Full, Memory}
use Rattle.ad_signature.specs.Numbering.{number_in, count}

-- it has no number, and as many entities have numbers as the limit allows; want of memory comes at any time
abbrev pub IsRefusedFor : ℕ → EntityNumbers → Entity → SymbolRefused → Type 0
IsRefusedFor limit names entity (Full n) = (number_in names entity ≡ None) × (count names ≡ limit) × (n ≡ limit)
IsRefusedFor limit names entity Memory = Unit {0}
