-- The document of some axioms is no longer than that of the ontology.
use Rattle.std.proofs.Common.{◌≡◌, ℕ, ◌≤◌, ◌<◌, ◌+◌, ◌-◌, ◌^◌, ◌++◌, Bool, true, false, cond, List, [], ◌∷◌, Option, length, map, min, ap, arith, length-append}
use Rattle.std.specs.List.{filter, flat_map, zip}
use Rattle.ad_edition.specs.Edition.{Whole, IsEdition}
use Rattle.ad_module_document.specs.Documents.{taken_of}
use Rattle.ad_numbered.specs.Numbered.{InSlots}
use Rattle.ad_tree.specs.declared.axioms.Noted.{Noted}
use Rattle.ad_write.specs.Canonical.{canon_document, canon_line, document_head, document_foot}

abbrev chosen : (Noted × Option ℕ → Bool) → List Noted → List (Option ℕ) → List Noted
chosen test axioms slots = map (λ p. p.0) (filter test (zip axioms slots))

fewer_lines : (test : Noted × Option ℕ → Bool) (axioms : List Noted) (slots : List (Option ℕ)) → length (flat_map canon_line (chosen test axioms slots)) ≤ length (flat_map canon_line axioms)
fewer_lines test [] slots = omega arith
fewer_lines test (a ∷ axioms) [] = omega arith
fewer_lines test (a ∷ axioms) (slot ∷ slots) =
    let rest = fewer_lines test axioms slots in
    let whole = length-append (canon_line a) (flat_map canon_line axioms) in
    let here = length-append (canon_line a) (flat_map canon_line (chosen test axioms slots)) in
    elim (test (a, slot)) as (λ b. length (flat_map canon_line (map (λ p. p.0) (cond b ((a, slot) ∷ filter test (zip axioms slots)) (filter test (zip axioms slots))))) ≤ length (flat_map canon_line (a ∷ axioms))) [
      | true ↦ omega (arith, rest, whole, here)
      | false ↦ omega (arith, rest, whole)
    ]

document_size : (axioms : List Noted) → length (canon_document axioms) ≡ length document_head + length (flat_map canon_line axioms) + length document_foot
document_size axioms = omega (arith, length-append document_head (flat_map canon_line axioms ++ document_foot), length-append (flat_map canon_line axioms) document_foot)

no_longer : (ontology : InSlots) (takes : Noted → Option ℕ → Bool) → length (canon_document (taken_of takes ontology)) ≤ length (canon_document ontology.axioms)
no_longer ontology takes =
    omega (arith, document_size (taken_of takes ontology), document_size ontology.axioms, fewer_lines (λ p. takes p.0 p.1) ontology.axioms ontology.slots)

-- so it has as many bytes as were counted, where the bytes of the ontology's are a u64
pub sized : (edition : Whole) (takes : Noted → Option ℕ → Bool) (size bytes : ℕ) → IsEdition edition → bytes ≡ length (canon_document edition.shown.axioms) → bytes < 2 ^ 64
    → size ≡ min (length (canon_document (taken_of takes edition.numbered))) (2 ^ 64 - 1) → size ≡ length (canon_document (taken_of takes edition.numbered))
sized edition takes size bytes is measured fits found =
    omega (arith, measured, fits, found, no_longer edition.numbered takes, ap (λ axioms. length (canon_document axioms)) is.axioms)
