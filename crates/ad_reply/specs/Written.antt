-- What a call that writes the reply of a module, or the atoms of an ontology, amounts to.
use Rattle.std.specs.Prelude.{◌≡◌, ◌≤◌, ℕ, List, Option}
use Rattle.ad_base.specs.declared.limits.Kind.{Kind}
use Rattle.ad_base.specs.declared.limits.Limits.{Limits}
use Rattle.ad_edition.specs.Log.{Shown}
use Rattle.ad_io.specs.Flow.{Rose}
use Rattle.ad_io.specs.Sink.{Puts}
use Rattle.ad_io.specs.declared.writes.Wrote.{Wrote}
use Rattle.ad_io.specs.declared.writes.Wrote.TheVariants as wrote
use Rattle.ad_locality.specs.Signature.{in_signature}
use Rattle.ad_entity.specs.declared.entities.Entity.{Entity}
use Rattle.ad_tree.specs.declared.axioms.Noted.{Noted}
use Rattle.ad_shapes.specs.Shapes.{Shape}
use Rattle.ad_ontology_atoms.specs.OntologyAtoms.{IsShapeOf}
use Rattle.ad_atoms_text.specs.AtomsText.{atoms_text}
use Rattle.ad_module_document.specs.Documents.{IsRoomFor}
use Rattle.ad_module_document.specs.declared.room.Room.{Room}
use Rattle.ad_reply.specs.Bodies.{HasAtoms, IsAtomBody, IsModuleDocument, IsModuleText}
use Rattle.ad_reply.specs.declared.atoms.Told.{Told}
use Rattle.ad_reply.specs.declared.atoms.Told.TheVariants as told
use Rattle.ad_request.specs.declared.request.Request.TheVariants.{Atom}
use Rattle.ad_reply.specs.Replies.{Reply, IsReplyOn, answered, reply_bytes}

-- the answer on the edition of this number has a body that is such a one, and it was written, or a front of it
pub record PutsAnswer (is_body : List ℕ → Type 0) (number : ℕ) (old new : Option (List ℕ)) (wrote : Wrote) : Type 0 where
  pub body : List ℕ
  pub is : is_body body
  pub puts : Puts old new wrote (reply_bytes (answered number body))

-- the reply has the document of the edition's module for the seed, and it was written, or a front of it
abbrev pub PutsModule : Kind → Shown → List Entity → Option (List ℕ) → Option (List ℕ) → Wrote → Type 0
PutsModule kind edition seed = PutsAnswer (IsModuleDocument kind seed edition.axioms) edition.number

-- the same for the signature of an axiom
abbrev pub PutsGenuine : Kind → Shown → Noted → Option (List ℕ) → Option (List ℕ) → Wrote → Type 0
PutsGenuine kind edition noted = PutsAnswer (IsModuleText kind (in_signature noted.axiom) edition.axioms) edition.number

-- The reply has the document of the axioms of the edition's atom of this number, and it was written, or a front of it; or
-- there are only so many atoms, and nothing was written.
abbrev pub IsTold : Kind → ℕ → Shown → Option (List ℕ) → Option (List ℕ) → Told → Type 0
IsTold kind atom edition old new told.All = PutsAnswer (IsAtomBody kind atom edition.axioms) edition.number old new wrote.All
IsTold kind atom edition old new (told.NoAtom count) = HasAtoms kind edition.axioms count × (count ≤ atom) × (new ≡ old)
IsTold kind atom edition old new told.Failed = PutsAnswer (IsAtomBody kind atom edition.axioms) edition.number old new wrote.Failed

-- the reply to a request for an atom of the edition was written, or a front of it: the atom's axioms, or how many atoms there are
pub record PutsAtom (kind : Kind) (atom : ℕ) (edition : Shown) (old new : Option (List ℕ)) (wrote : Wrote) : Type 0 where
  pub reply : Reply
  pub is : (depth : ℕ) (payload : List ℕ) → IsReplyOn depth (Atom kind atom) payload edition.number edition.axioms reply
  pub puts : Puts old new wrote (reply_bytes reply)

-- the count of faults never falls, and telling fails only where it rises
pub record ToldCause (before now : ℕ) (answer : Told) : Type 0 where
  pub later : before ≤ now
  pub failed : answer ≡ told.Failed → Rose before now

-- the text lists the ontology's atoms of this kind, and it was written, or a front of it
pub record PutsAtoms (kind : Kind) (ontology : List Noted) (old new : Option (List ℕ)) (wrote : Wrote) : Type 0 where
  pub shape : Shape
  pub is : IsShapeOf kind ontology shape
  pub puts : Puts old new wrote (atoms_text shape)

-- what finds modules was made for these limits, and so was the room
pub record AreToolsOf (limits made : Limits) (room : Room) : Type 0 where
  pub made_for : made ≡ limits
  pub room_for : IsRoomFor limits.axioms limits.entities room
