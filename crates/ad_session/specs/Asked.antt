-- Which requests are queries, which are edits, and which take memory.
use Rattle.std.specs.Prelude.{ℕ, List}
use Rattle.ad_request.specs.declared.request.Request.{Request}
use Rattle.ad_request.specs.declared.request.Request.TheVariants.{Load, Edit, Module, Genuine, Atoms, Atom, Export, Stat, Quit}
use Rattle.ad_grammar.specs.Faults as form
use Rattle.ad_read.specs.Outcome.{Refuses}
use Rattle.ad_entity.specs.declared.entities.Entity.{Entity}
use Rattle.ad_read.specs.Texts.{IsDocument, IsEdit, IsSeed, IsSingle}
use Rattle.ad_read.specs.declared.texts.ReadRefused.{ReadRefused}
use Rattle.ad_tree.specs.declared.axioms.Noted.{Noted}
use Rattle.ad_tree.specs.declared.edits.Op.{Op}

-- the request asks for something of the ontology, and its payload spells what, with a nesting within the limit
abbrev pub SpellsQuery : ℕ → Request → List ℕ → Type 0
SpellsQuery depth (Load n) payload = ⊥
SpellsQuery depth (Edit n expected) payload = ⊥
SpellsQuery depth (Module kind n) payload = (seed : List Entity) × IsSeed depth payload seed
SpellsQuery depth (Genuine kind n) payload = (noted : Noted) × IsSingle depth payload noted
SpellsQuery depth (Atoms kind) payload = Unit {0}
SpellsQuery depth (Atom kind n) payload = Unit {0}
SpellsQuery depth Export payload = Unit {0}
SpellsQuery depth Stat payload = Unit {0}
SpellsQuery depth Quit payload = ⊥

-- the requests whose answer takes memory
abbrev pub TakesMemory : Request → Type 0
TakesMemory (Load n) = Unit {0}
TakesMemory (Edit n expected) = Unit {0}
TakesMemory (Module kind n) = Unit {0}
TakesMemory (Genuine kind n) = Unit {0}
TakesMemory (Atoms kind) = ⊥
TakesMemory (Atom kind n) = ⊥
TakesMemory Export = ⊥
TakesMemory Stat = ⊥
TakesMemory Quit = ⊥

-- the request is an edit whose payload spells these operations, with a nesting within the limit; those of a document are
-- additions
abbrev pub SpellsBatch : ℕ → Request → List ℕ → List Op → Type 0
SpellsBatch depth (Load n) payload ops = IsDocument depth payload ops
SpellsBatch depth (Edit n expected) payload ops = IsEdit depth payload ops
SpellsBatch depth (Module kind n) payload ops = ⊥
SpellsBatch depth (Genuine kind n) payload ops = ⊥
SpellsBatch depth (Atoms kind) payload ops = ⊥
SpellsBatch depth (Atom kind n) payload ops = ⊥
SpellsBatch depth Export payload ops = ⊥
SpellsBatch depth Stat payload ops = ⊥
SpellsBatch depth Quit payload ops = ⊥

-- the payload of the request is refused for this cause
abbrev pub IsUnread : ℕ → Request → List ℕ → ReadRefused → Type 0
IsUnread depth (Load n) payload cause = Refuses form.document depth payload cause
IsUnread depth (Edit n expected) payload cause = Refuses form.edit depth payload cause
IsUnread depth (Module kind n) payload cause = Refuses form.seed depth payload cause
IsUnread depth (Genuine kind n) payload cause = Refuses form.single depth payload cause
IsUnread depth (Atoms kind) payload cause = ⊥
IsUnread depth (Atom kind n) payload cause = ⊥
IsUnread depth Export payload cause = ⊥
IsUnread depth Stat payload cause = ⊥
IsUnread depth Quit payload cause = ⊥
