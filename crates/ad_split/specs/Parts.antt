-- An ontology in parts for review: each part is the genuine module of the axioms of an atom on which no other depends, and
-- stands as a document of its own. These are the definitions that all crates cite.
use Rattle.std.specs.Prelude.{◌≡◌, ℕ, Bool, List, [], ◌∷◌, ◌++◌, Option, codes, decimal, length}
use Rattle.std.specs.List.{filter, flat_map, range_with_len, zip}
use Rattle.ad_base.specs.declared.limits.Kind.{Kind}
use Rattle.ad_io.specs.Sink.{Puts}
use Rattle.ad_io.specs.declared.writes.Wrote.{Wrote}
use Rattle.ad_lines.specs.Lines.{line_of}
use Rattle.ad_locality.specs.Signature.{in_signature}
use Rattle.ad_ontology_atoms.specs.OntologyAtoms.{AreGenuineModules}
use Rattle.ad_syntax_laws.specs.ModuleDocument.{document_with}
use Rattle.ad_syntax_laws.specs.OntologyModule.{logical}
use Rattle.ad_tree.specs.declared.axioms.Noted.{Noted}
use Rattle.ad_write.specs.Canonical.{canon_document}
use Rattle.ad_split.specs.Tops.{tops, top_atoms}

-- the elements of a list with their numbers, from 0 on
abbrev pub numbered : {A : Type 0} → List A → List (ℕ × A)
numbered xs = zip (range_with_len 0 (length xs)) xs

-- the first line: how many parts there are
abbrev pub head_line : ℕ → List ℕ
head_line parts = line_of (codes "parts" ∷ decimal parts ∷ [])

-- the line of a part: its number, how many axioms its module has, and how many bytes its document
abbrev pub part_line : ℕ → ℕ → ℕ → List ℕ
part_line number axioms bytes = line_of (codes "part" ∷ decimal number ∷ codes "axioms" ∷ decimal axioms ∷ codes "bytes" ∷ decimal bytes ∷ [])

-- a part whose module has so many axioms: its line, and its document
abbrev pub part_with : ℕ → ℕ → List Noted → List ℕ
part_with number axioms document = part_line number axioms (length (canon_document document)) ++ canon_document document

-- G says which logical axioms are in the genuine module of one
module _ (G : Noted → Noted → Bool) (ontology : List Noted) where
  -- the axioms of the genuine module of a
  abbrev pub module_of : Noted → List Noted
  module_of a = filter (G a) (logical ontology)

  -- what is in the document of the genuine module of a
  abbrev pub part_document : Noted → List Noted
  part_document a = document_with (in_signature a.axiom) (module_of a) ontology

  -- the part of this number, whose atom begins with a
  abbrev pub part_text : ℕ × Noted → List ℕ
  part_text part = part_with part.0 (length (module_of part.1)) (part_document part.1)

  -- the text: the first line, and the parts
  abbrev pub parts_text : List ℕ
  parts_text = head_line (length (tops G (logical ontology))) ++ flat_map part_text (numbered (tops G (logical ontology)))

-- the text has the parts of this kind
abbrev pub IsPartsText : Kind → List Noted → List ℕ → Type 0
IsPartsText kind ontology text = (G : Noted → Noted → Bool) × AreGenuineModules kind ontology G × (text ≡ parts_text G ontology)

-- these are the atoms of this kind on which no other depends, rising
abbrev pub ArePartsOf : Kind → List Noted → List ℕ → Type 0
ArePartsOf kind ontology parts = (G : Noted → Noted → Bool) × AreGenuineModules kind ontology G × (parts ≡ top_atoms G (logical ontology))

-- the parts were written, or a front of them
pub record PutsParts (kind : Kind) (ontology : List Noted) (old new : Option (List ℕ)) (wrote : Wrote) : Type 0 where
  pub text : List ℕ
  pub is : IsPartsText kind ontology text
  pub puts : Puts old new wrote text
