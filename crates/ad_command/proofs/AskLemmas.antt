-- Words ask for one thing only.
use Rattle.std.proofs.Common.{◌≡◌, ◌⊎◌, inl, inr, ℕ, List, refl, sym, ◌∙◌, ap}
use Rattle.ad_command.specs.declared.asked.Asked.{Asked}
use Rattle.ad_command.specs.declared.asked.Asked.TheVariants.{Module, Atoms, Script, Split, Generate, Summary, Nothing}
use Rattle.ad_base.specs.declared.limits.Kind.{Kind}
use Rattle.ad_command.specs.Command.{Command, IsCommand, IsNoCommand, of_module, of_atoms, of_script, of_split, of_generate, of_summary}
use Rattle.ad_command.specs.Words.{workers_in}
use Rattle.ad_command.specs.Asks.{AsksFor, AsksForOneThing, IsModule, IsWithWorkers}
use Rattle.ad_command.proofs.CommandLemmas.{one_command}

-- what a command asks for
abbrev asking : Command → Asked
asking (of_module kind seed) = Module kind
asking (of_atoms kind workers) = Atoms kind (workers_in workers)
asking (of_script workers) = Script (workers_in workers)
asking (of_split kind) = Split kind
asking (of_generate size) = Generate size
asking (of_summary size workers) = Summary size (workers_in workers)

-- the words are those of a command that asks for this
abbrev IsAsking : List (List ℕ) → Asked → Type 0
IsAsking words asked = (command : Command) × IsCommand words command × (asked ≡ asking command)

of_its_module : (words : List (List ℕ)) (kind : Kind) → IsModule words kind → IsAsking words (Module kind)
of_its_module words kind is = (of_module kind is.seed, is.commanded, refl)

of_its_atoms : (words : List (List ℕ)) (kind : Kind) (workers : ℕ) → IsWithWorkers (of_atoms kind) words workers → IsAsking words (Atoms kind workers)
of_its_atoms words kind workers is = (of_atoms kind is.number, is.commanded, ap (Atoms kind) is.count)

of_its_script : (words : List (List ℕ)) (workers : ℕ) → IsWithWorkers of_script words workers → IsAsking words (Script workers)
of_its_script words workers is = (of_script is.number, is.commanded, ap Script is.count)

both : (words : List (List ℕ)) (one other : Asked) → IsAsking words one → IsAsking words other → one ≡ other
both words one other a b = a.2 ∙ ap asking (one_command words a.0 b.0 a.1 b.1) ∙ sym b.2

-- it is what a command asks for; or the words are no command, and nothing is asked
asked_by : (words : List (List ℕ)) (asked : Asked) → AsksFor words asked → IsAsking words asked ⊎ (IsNoCommand words × (asked ≡ Nothing))
asked_by words (Module kind) is = inl (of_its_module words kind is.1)
asked_by words (Atoms kind workers) is = inl (of_its_atoms words kind workers is)
asked_by words (Script workers) is = inl (of_its_script words workers is)
asked_by words (Split kind) is = inl (of_split kind, is, refl)
asked_by words (Generate size) is = inl (of_generate size, is, refl)
asked_by words (Summary size workers) is = inl (of_summary size is.number, is.commanded, ap (Summary size) is.count)
asked_by words Nothing is = inr (is, refl)

pub one_thing : AsksForOneThing
one_thing words one other a b = elim (asked_by words one a) [
  | inl e ↦ elim (asked_by words other b) [
    | inl f ↦ both words one other e f
    | inr f ↦ absurd (f.0 e.0 e.1)
  ]
  | inr e ↦ elim (asked_by words other b) [
    | inl f ↦ absurd (e.0 f.0 f.1)
    | inr f ↦ e.1 ∙ sym f.1
  ]
]
