-- The words of a command.
use Rattle.std.specs.Prelude.{◌≡◌, ℕ, ◌≤◌, List, [], ◌∷◌, ◌++◌, Option, None, Some, map, codes, decimal, IsTrue}
use Rattle.std.specs.List.{AllByRecursion, list_all}
use Rattle.ad_base.specs.declared.limits.Kind.{Kind}
use Rattle.ad_base.specs.Kinds.{kind_word}
use Rattle.ad_lex.specs.Characters.{is_iri}
use Rattle.ad_entity.specs.declared.entities.Entity.{Entity}
use Rattle.ad_write.specs.Canonical.{entity_kind_word}

-- an entity as a word: its keyword, =, and its IRI
abbrev pub seed_word : Entity → List ℕ
seed_word e = entity_kind_word e.kind ++ 61 ∷ e.name

-- what the words of a command ask for
pub data Command : Type 0 where
  -- the module of this kind for these entities, of the document on the source
  of_module : (kind : Kind) (seed : List Entity) → Command
  -- the atoms of this kind, of the document on the source, found by this many workers, or one
  of_atoms : (kind : Kind) (workers : Option ℕ) → Command
  -- the session whose requests are on the source, over a machine of one session, with this many workers, or one
  of_script : (workers : Option ℕ) → Command
  -- the parts of this kind, of the document on the source
  of_split : (kind : Kind) → Command
  -- the generated document of this size
  of_generate : (size : ℕ) → Command
  -- the summary of the generated ontology of this size, found by this many workers, or one
  of_summary : (size : ℕ) (workers : Option ℕ) → Command

-- what a command reads from the source
pub data Input : Type 0 where
  -- a document, whose ontology it writes of
  a_document : Input
  -- the requests of a session
  a_session : Input
  -- nothing: it writes of an ontology that it makes
  nothing : Input

abbrev pub reads : Command → Input
reads (of_module kind seed) = a_document
reads (of_atoms kind workers) = a_document
reads (of_script workers) = a_session
reads (of_split kind) = a_document
reads (of_generate size) = nothing
reads (of_summary size workers) = nothing

-- a number of workers as words; none where the command leaves it out
abbrev pub workers_words : Option ℕ → List (List ℕ)
workers_words None = []
workers_words (Some workers) = codes "--workers" ∷ decimal workers ∷ []

abbrev pub command_words : Command → List (List ℕ)
command_words (of_module kind seed) = codes "module" ∷ kind_word kind ∷ map seed_word seed
command_words (of_atoms kind workers) = codes "atoms" ∷ kind_word kind ∷ workers_words workers
command_words (of_script workers) = codes "script" ∷ workers_words workers
command_words (of_split kind) = codes "split" ∷ kind_word kind ∷ []
command_words (of_generate size) = codes "generate" ∷ decimal size ∷ []
command_words (of_summary size workers) = codes "summary" ∷ decimal size ∷ workers_words workers

-- the entities that a command may name: those whose IRI has only characters that may stand between < and >
abbrev pub IsSeedEntity : Entity → Type 0
IsSeedEntity e = IsTrue (list_all is_iri e.name)

-- a command may name 1 to 16 workers, or leave the number out
abbrev pub AreWorkers : Option ℕ → Type 0
AreWorkers None = Unit {0}
AreWorkers (Some workers) = (1 ≤ workers) × (workers ≤ 16)

-- a generated ontology has a size of at most this
abbrev pub most_size : ℕ
most_size = 10000

-- the commands that are offered: modules, atoms and parts of the three kinds, sessions, and generated ontologies
abbrev pub IsOffered : Command → Type 0
IsOffered (of_module kind seed) = AllByRecursion IsSeedEntity seed
IsOffered (of_atoms kind workers) = AreWorkers workers
IsOffered (of_script workers) = AreWorkers workers
IsOffered (of_split kind) = Unit {0}
IsOffered (of_generate size) = size ≤ most_size
IsOffered (of_summary size workers) = (size ≤ most_size) × AreWorkers workers

-- the words are those of this command
pub record IsCommand (words : List (List ℕ)) (command : Command) : Type 0 where
  pub offered : IsOffered command
  pub spelled : words ≡ command_words command

-- the words are those of no command
abbrev pub IsNoCommand : List (List ℕ) → Type 0
IsNoCommand words = (command : Command) → IsCommand words command → ⊥

-- words spell one command at most
abbrev pub SpellsOneCommand : Type 0
SpellsOneCommand = (words : List (List ℕ)) (one other : Command) → IsCommand words one → IsCommand words other → one ≡ other
