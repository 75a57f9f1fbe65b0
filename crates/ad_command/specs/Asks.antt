-- What words ask for.
use Rattle.std.specs.Prelude.{◌≡◌, ℕ, ◌≤◌, List, Option, Some}
use Rattle.ad_base.specs.declared.limits.Kind.{Kind}
use Rattle.ad_entity.specs.declared.entities.Entity.{Entity}
use Rattle.ad_command.specs.declared.asked.Asked.{Asked}
use Rattle.ad_command.specs.declared.asked.Asked.TheVariants.{Module, Atoms, Script, Split, Generate, Summary, Nothing}
use Rattle.ad_command.specs.Command.{Command, IsCommand, IsNoCommand, a_document, nothing, of_module, of_atoms, of_script, of_split, of_generate, of_summary, reads}
use Rattle.ad_command.specs.Words.{module_kind, workers_in}

-- the words are those of a module of this kind
pub record IsModule (words : List (List ℕ)) (kind : Kind) : Type 0 where
  pub seed : List Entity
  pub commanded : IsCommand words (of_module kind seed)

-- the words are those of a command that reads a document: of some module, of atoms, or of parts
pub record IsSomeDocument (words : List (List ℕ)) : Type 0 where
  pub command : Command
  pub commanded : IsCommand words command
  pub document : reads command ≡ a_document

-- the words are those of a command that reads nothing: of a generated ontology, or of its summary
pub record IsSomeGenerated (words : List (List ℕ)) : Type 0 where
  pub command : Command
  pub commanded : IsCommand words command
  pub generated : reads command ≡ nothing

-- the words are those of a session
pub record IsSomeScript (words : List (List ℕ)) : Type 0 where
  pub workers : Option ℕ
  pub commanded : IsCommand words (of_script workers)

-- the words are those of this command with so many workers, or without their number, and it is 1
pub record IsWithWorkers (command : Option ℕ → Command) (words : List (List ℕ)) (workers : ℕ) : Type 0 where
  pub low : 1 ≤ workers
  pub high : workers ≤ 16
  pub number : Option ℕ
  pub commanded : IsCommand words (command number)
  pub count : workers ≡ workers_in number

-- what the words ask for
abbrev pub AsksFor : List (List ℕ) → Asked → Type 0
AsksFor words (Module kind) = (module_kind words ≡ Some kind) × IsModule words kind
AsksFor words (Atoms kind workers) = IsWithWorkers (of_atoms kind) words workers
AsksFor words (Script workers) = IsWithWorkers of_script words workers
AsksFor words (Split kind) = IsCommand words (of_split kind)
AsksFor words (Generate size) = IsCommand words (of_generate size)
AsksFor words (Summary size workers) = IsWithWorkers (of_summary size) words workers
AsksFor words Nothing = IsNoCommand words

-- words ask for one thing only
abbrev pub AsksForOneThing : Type 0
AsksForOneThing = (words : List (List ℕ)) (one other : Asked) → AsksFor words one → AsksFor words other → one ≡ other
