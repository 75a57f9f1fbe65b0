-- The document of some axioms is no longer than that of the ontology.
use Rattle.std.proofs.Common.{◌≡◌, ℕ, ◌≤◌, ◌<◌, ◌+◌, ◌-◌, ◌^◌, ◌++◌, Bool, true, false, cond, List, [], ◌∷◌, Option, length, map, min, refl, ap, arith, subst, length-append}
use Rattle.std.specs.List.{filter, flat_map, zip}
use Rattle.ad_entity.specs.declared.entities.Entity.{Entity}
use Rattle.ad_tree.specs.declared.axioms.Noted.{Noted}
use Rattle.ad_write.specs.Canonical.{canon_document, canon_line, document_head, document_foot}
use Rattle.ad_numbered.specs.Numbered.{InSlots, IsNumbered}
use Rattle.ad_module_document.specs.Documents.{HoldModule, document_in, taken_of}
use Rattle.ad_base.specs.declared.limits.Kind.{Kind}
use Rattle.ad_syntax_laws.specs.ModuleDocument.{IsModuleDocumentOf}
use Rattle.ad_syntax_laws.specs.OntologyLogic.{seed_test}
use Rattle.ad_entity.specs.Entities.{has_entity}
use Rattle.ad_io.specs.declared.writes.Wrote.{Wrote}
use Rattle.ad_locality.specs.Signature.{in_signature}
use Rattle.ad_edition.specs.Log.{Shown}
use Rattle.ad_edition.specs.Edition.{Whole, IsEdition}
use Rattle.ad_reply.proofs.SignatureLemmas.{test_of_signature}
use Rattle.ad_reply.specs.Bodies.{IsModuleDocument, IsModuleText}
use Rattle.ad_reply.specs.Written.{PutsGenuine, PutsModule}

abbrev chosen : (Noted × Option ℕ → Bool) → List Noted → List (Option ℕ) → List Noted
chosen test axioms slots = map (λ p. p.0) (filter test (zip axioms slots))

fewer_lines : (test : Noted × Option ℕ → Bool) (axioms : List Noted) (slots : List (Option ℕ)) → length (flat_map canon_line (chosen test axioms slots)) ≤ length (flat_map canon_line axioms)
fewer_lines test [] slots = omega arith
fewer_lines test (a ∷ axioms) [] = omega arith
fewer_lines test (a ∷ axioms) (slot ∷ slots) =
    let rest = fewer_lines test axioms slots in
    let whole = length-append (canon_line a) (flat_map canon_line axioms) in
    let here = length-append (canon_line a) (flat_map canon_line (chosen test axioms slots)) in
    elim (test (a, slot)) as (λ b. length (flat_map canon_line (map (λ p. p.0) (cond b ((a, slot) ∷ filter test (zip axioms slots)) (filter test (zip axioms slots))))) ≤ length (flat_map canon_line (a ∷ axioms))) [
      | true ↦ omega (arith, rest, whole, here)
      | false ↦ omega (arith, rest, whole)
    ]

document_size : (axioms : List Noted) → length (canon_document axioms) ≡ length document_head + length (flat_map canon_line axioms) + length document_foot
document_size axioms = omega (arith, length-append document_head (flat_map canon_line axioms ++ document_foot), length-append (flat_map canon_line axioms) document_foot)

pub no_longer : (ontology : InSlots) (takes : Noted → Option ℕ → Bool) → length (canon_document (taken_of takes ontology)) ≤ length (canon_document ontology.axioms)
no_longer ontology takes =
    omega (arith, document_size (taken_of takes ontology), document_size ontology.axioms, fewer_lines (λ p. takes p.0 p.1) ontology.axioms ontology.slots)

-- so it has as many bytes as were counted, where the bytes of the ontology's are a u64
pub sized : (edition : Whole) (takes : Noted → Option ℕ → Bool) (size bytes : ℕ) → IsEdition edition → bytes ≡ length (canon_document edition.shown.axioms) → bytes < 2 ^ 64
    → size ≡ min (length (canon_document (taken_of takes edition.numbered))) (2 ^ 64 - 1) → size ≡ length (canon_document (taken_of takes edition.numbered))
sized edition takes size bytes is counted fits found =
    omega (arith, counted, fits, found, no_longer edition.numbered takes, ap (λ axioms. length (canon_document axioms)) is.axioms)

-- what was found is the document of the edition's module
pub module_is : (kind : Kind) (edition : Whole) (seed : List Entity) (members closure : List Bool) → IsEdition edition
    → ((kind : Kind) (ontology : InSlots) (seed : List Entity) (members closure : List Bool) → IsNumbered ontology → HoldModule kind ontology seed members closure →
    IsModuleDocumentOf kind (seed_test seed) ontology.axioms (document_in ontology seed members closure))
    → HoldModule kind edition.numbered seed members closure → IsModuleDocument kind seed edition.shown.axioms (canon_document (document_in edition.numbered seed members closure))
module_is kind edition seed members closure is law holds = record {
  axioms = document_in edition.numbered seed members closure;
  holds = subst (λ o. IsModuleDocumentOf kind (seed_test seed) o (document_in edition.numbered seed members closure)) is.axioms (law kind edition.numbered seed members closure is.numbered holds);
  document = refl;
}

-- the module for a seed is that for a test, where the two are one test
text_along : (kind : Kind) (ontology : List Noted) (body : List ℕ) (one other : Entity → Bool) → one ≡ other → IsModuleText kind one ontology body → IsModuleText kind other ontology body
text_along kind ontology body one other same is = subst (λ test. IsModuleText kind test ontology body) same is

-- what was written for the entities of an axiom's signature is the module for the signature
pub genuine_is : (kind : Kind) (edition : Shown) (seed : List Entity) (a : Noted) (old new : Option (List ℕ)) (w : Wrote) → ((e : Entity) → has_entity seed e ≡ in_signature a.axiom e)
    → PutsModule kind edition seed old new w → PutsGenuine kind edition a old new w
genuine_is kind edition seed a old new w is puts = record {
  body = puts.body;
  is = text_along kind edition.axioms puts.body (seed_test seed) (in_signature a.axiom) (test_of_signature seed a.axiom is) puts.is;
  puts = puts.puts;
}
