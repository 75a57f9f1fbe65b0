-- What hinders an edit: another edition was expected, or the first limit that it passes, with the count that passes it.
use Rattle.std.specs.Prelude.{◌≡◌, ℕ, ◌+◌, ◌-◌, ◌^◌, ◌<◌, cond, Bool, false, not, IsFalse, IsTrue, List, Option, None, Some, nat_eq, nat_lt, length, min}
use Rattle.ad_base.specs.declared.limits.Which.{Which}
use Rattle.ad_base.specs.declared.limits.Which.TheVariants as limits
use Rattle.ad_base.specs.declared.limits.Limits.{Limits}
use Rattle.ad_tree.specs.declared.axioms.Noted.{Noted}
use Rattle.ad_syntax_laws.specs.OntologyModule.{logical}
use Rattle.ad_write.specs.Canonical.{canon_document}
use Rattle.ad_numbered.specs.Numbered.{entities_of}
use Rattle.ad_edition.specs.declared.receipts.Refused.{Refused}
use Rattle.ad_edition.specs.declared.receipts.Refused.TheVariants as refusals

pub record Passed : Type 0 where
  pub which : Which
  pub count : ℕ

-- this limit, where the count is above it, and else what comes later
abbrev pub first_of : Which → ℕ → ℕ → Option Passed → Option Passed
first_of which limit count later = cond (nat_lt limit count) (Some (record { which = which; count = count })) later

-- the first limit that is passed by so many bytes of a document, and by the number after this one
abbrev pub passed_by_size : Limits → ℕ → ℕ → Option Passed
passed_by_size l number bytes = first_of limits.Bytes l.bytes bytes (first_of limits.Editions l.editions (number + 1) None)

-- the length of the ontology's document, as far as it is counted
abbrev pub document_count : List Noted → ℕ
document_count ontology = min (length (canon_document ontology)) (2 ^ 64 - 1)

-- the first limit that is passed where this ontology follows the edition of this number: the limits on its logical axioms,
-- on the entities in their signatures, on the bytes of its document, and on the number
abbrev pub passed : Limits → ℕ → List Noted → Option Passed
passed l number after =
    first_of limits.Axioms l.axioms (length (logical after))
    (first_of limits.Entities l.entities (length (entities_of (logical after)))
    (passed_by_size l number (document_count after)))

-- why an edit is refused on the edition of this number, where this is the first limit that is passed; want of memory
-- comes at any time
abbrev pub IsRefusedBy : Option Passed → ℕ → Refused → Type 0
IsRefusedBy first number (refusals.Limit edition which count) = (edition ≡ number) × (first ≡ Some (record { which = which; count = count }))
IsRefusedBy first number (refusals.Moved edition) = ⊥
IsRefusedBy first number refusals.Memory = Unit {0}

-- the entities of this ontology are above the limit, so many; want of memory comes at any time
abbrev pub HasManyEntities : Limits → ℕ → List Noted → Refused → Type 0
HasManyEntities l number after (refusals.Limit edition which count) =
    (edition ≡ number) × (which ≡ limits.Entities) × (l.entities < count) × (count ≡ length (entities_of (logical after)))
HasManyEntities l number after (refusals.Moved edition) = ⊥
HasManyEntities l number after refusals.Memory = Unit {0}

-- whether an edition is expected, and it isn't the one of this number
abbrev pub is_moved : Option ℕ → ℕ → Bool
is_moved None number = false
is_moved (Some expected) number = not (nat_eq expected number)

-- Why an edit that may expect an edition is refused on the edition of this number, where this is the first limit that is
-- passed: another edition was expected, and only else the limit; want of memory comes at any time.
abbrev pub IsHinderedBy : Option ℕ → Option Passed → ℕ → Refused → Type 0
IsHinderedBy expected first number (refusals.Moved edition) = (edition ≡ number) × IsTrue (is_moved expected number)
IsHinderedBy expected first number (refusals.Limit edition which count) = IsFalse (is_moved expected number) × IsRefusedBy first number (refusals.Limit edition which count)
IsHinderedBy expected first number refusals.Memory = Unit {0}
