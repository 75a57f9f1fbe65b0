-- What an edition holds, and how the next one is made of it.
use Rattle.std.specs.Prelude.{◌≡◌, ℕ, ◌+◌, ◌≤◌, List, Option, [], length, refl}
use Rattle.std.specs.Coded.{Coded, code_by, coded×, coded_ℕ, coded_list}
use Rattle.std.specs.List.{IsDistinct}
use Rattle.ad_base.specs.contracts.limits.Limits as limits_row
use Rattle.ad_base.specs.Limits.{AreWithinStandard}
use Rattle.ad_base.specs.declared.limits.Limits.{Limits}
use Rattle.ad_tree.specs.contracts.axioms.Noted as noted_row
use Rattle.ad_tree.specs.contracts.edits.Op as op_row
use Rattle.ad_tree.specs.declared.axioms.Noted.{Noted}
use Rattle.ad_tree.specs.declared.edits.Op.{Op}
use Rattle.ad_syntax_laws.specs.OntologyModule.{logical}
use Rattle.ad_write.specs.Canonical.{canon_document}
use Rattle.ad_apply.specs.Apply.{applied, Counts, counts_of}
use Rattle.ad_apply.specs.Same.{same_axiom}
use Rattle.ad_slots.specs.Places.{is_held, held_symbols, is_held_local}
use Rattle.ad_numbered.specs.Numbered.{InSlots, IsNumbered, in_slots_code, order_of}
use Rattle.ad_decompose.specs.Decomposed.{Decomposed, IsDecomposition}
use Rattle.ad_decompose.specs.contracts.decomposition.Decomposition as found_row
use Rattle.ad_edition.specs.Limit.{IsHinderedBy, Passed, passed}
use Rattle.ad_edition.specs.Log.{Logged, Shown, defined_by}
use Rattle.ad_edition.specs.declared.receipts.Receipt.{Receipt}
use Rattle.ad_edition.specs.declared.receipts.Refused.{Refused}

-- what an edition shows, and the limits that it and its successors keep to
pub record Limited : Type 0 where
  pub shown : Shown
  pub limits : Limits

abbrev pub limited_edition : ℕ → List Noted → Limits → Limited
limited_edition number axioms limits = record { shown = record { number = number; axioms = axioms }; limits = limits }

-- An edition whole: what it shows and the limits; its ontology in numbered slots; and the decomposition of it.
pub record Whole : Type 0 where
  pub shown : Shown
  pub limits : Limits
  pub numbered : InSlots
  pub found : Decomposed

abbrev pub whole : ℕ → Limits → InSlots → Decomposed → Whole
whole number limits numbered found = record { shown = record { number = number; axioms = numbered.axioms }; limits = limits; numbered = numbered; found = found }

-- what an edition shows, and its limits
abbrev pub limited_of : Whole → Limited
limited_of edition = record { shown = edition.shown; limits = edition.limits }

-- the edition with these limits that a log defines
pub record IsEditionOf (limits : Limits) (log : List Logged) (edition : Limited) : Type 0 where
  pub shown : edition.shown ≡ defined_by log
  pub limited : edition.limits ≡ limits

-- the first edition: number 0, without axioms
abbrev pub first_of_all : Limits → Limited
first_of_all limits = record { shown = defined_by []; limits = limits }

-- what the types of editions and drafts keep, of what one shows, of the count of logical axioms beside it, and of the
-- length of its document
pub record IsSound (edition : Limited) (count bytes : ℕ) : Type 0 where
  pub distinct : IsDistinct same_axiom edition.shown.axioms
  pub counted : count ≡ length (logical edition.shown.axioms)
  pub measured : bytes ≡ length (canon_document edition.shown.axioms)
  pub few : length edition.shown.axioms ≤ 4294967295
  pub within : count ≤ edition.limits.axioms
  pub numbered : edition.shown.number ≤ edition.limits.editions
  pub standard : AreWithinStandard edition.limits

-- the ontology has as many slots and numbers as the limits allow
pub record FitsLimits (limits : Limits) (numbered : InSlots) : Type 0 where
  pub slots : numbered.most ≡ limits.axioms
  pub symbols : numbered.symbols ≡ limits.entities

-- The decomposition is that of the ontology's logical axioms, in their order: their genuine modules, and of each kind the
-- atoms and covers that these define, written in slots and in the numbers of atoms.
abbrev pub IsDecompositionOf : InSlots → Decomposed → Type 0
IsDecompositionOf numbered found = IsDecomposition (held_symbols numbered.held) (is_held_local numbered.held) (is_held numbered.held) numbered.most (order_of numbered) found

-- What holds of every edition. Its axioms are distinct, the logical ones stand in slots, and its decomposition is theirs.
pub record IsEdition (edition : Whole) : Type 0 where
  pub axioms : edition.numbered.axioms ≡ edition.shown.axioms
  pub distinct : IsDistinct same_axiom edition.shown.axioms
  pub numbered : IsNumbered edition.numbered
  pub fits : FitsLimits edition.limits edition.numbered
  pub decomposed : IsDecompositionOf edition.numbered edition.found

-- an edition that is about to follow another, with what the batch did and the batch itself
pub record Drafted : Type 0 where
  pub next : Limited
  pub counts : Counts
  pub batch : List Op

abbrev pub drafted_of : Limited → Counts → List Op → Drafted
drafted_of next counts batch = record { next = next; counts = counts; batch = batch }

-- the edition after a batch
abbrev pub next_edition : Limited → List Op → Limited
next_edition edition batch = record { shown = record { number = edition.shown.number + 1; axioms = applied edition.shown.axioms batch }; limits = edition.limits }

abbrev pub drafted : Limited → List Op → Drafted
drafted edition batch = record { next = next_edition edition batch; counts = counts_of edition.shown.axioms batch; batch = batch }

-- the first limit that the batch passes on this edition
abbrev pub passed_by : Limited → List Op → Option Passed
passed_by edition batch = passed edition.limits edition.shown.number (applied edition.shown.axioms batch)

-- why a batch that may expect an edition is refused on this one: another was expected, or it passes a limit, the first of
-- them, or memory is wanting
abbrev pub IsRefusal : Limited → Option ℕ → List Op → Refused → Type 0
IsRefusal edition expected batch cause = IsHinderedBy expected (passed_by edition batch) edition.shown.number cause

-- the receipt of an edit that made the edition with this number
abbrev pub receipt_of : ℕ → Counts → Receipt
receipt_of number counts = record { number = number; added = counts.added; already = counts.already; removed = counts.removed; absent = counts.absent }

-- what is shown under limits is told apart by its number, its axioms and its limits
abbrev pub limited_code : Coded Limited
limited_code =
    code_by (ℕ × (List Noted × Limits)) (coded× coded_ℕ (coded× (coded_list noted_row.the_row.coded) limits_row.the_row.coded)) (λ e. (e.shown.number, (e.shown.axioms, e.limits))) (λ p. limited_edition p.0 p.1.0 p.1.1) (λ _. refl)

-- an edition whole is told apart by these, by its ontology in slots and by its decomposition
abbrev pub whole_code : Coded Whole
whole_code =
    code_by (Limited × (InSlots × Decomposed)) (coded× limited_code (coded× in_slots_code found_row.the_row.coded)) (λ e. (limited_of e, (e.numbered, e.found))) (λ p. record { shown = p.0.shown; limits = p.0.limits; numbered = p.1.0; found = p.1.1 }) (λ _. refl)

-- a draft, by its edition, its four counts and its batch
abbrev pub drafted_code : Coded Drafted
drafted_code =
    code_by (Limited × (ℕ × (ℕ × (ℕ × (ℕ × List Op))))) (coded× limited_code (coded× coded_ℕ (coded× coded_ℕ (coded× coded_ℕ (coded× coded_ℕ (coded_list op_row.the_row.coded)))))) (λ d. (d.next, (d.counts.added, (d.counts.already, (d.counts.removed, (d.counts.absent, d.batch)))))) (λ p. record { next = p.0; counts = record { added = p.1.0; already = p.1.1.0; removed = p.1.1.1.0; absent = p.1.1.1.1.0 }; batch = p.1.1.1.1.1 }) (λ _. refl)
