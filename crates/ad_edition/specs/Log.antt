-- The log of accepted edits, and the editions that it defines.
use Rattle.std.specs.Prelude.{◌≡◌, ℕ, ◌+◌, cond, List, [], ◌∷◌, ◌++◌, nat_eq, length, refl}
use Rattle.std.specs.Coded.{Coded, code_by, coded×, coded_ℕ, coded_list}
use Rattle.ad_tree.specs.contracts.edits.Op as op_row
use Rattle.ad_tree.specs.declared.axioms.Noted.{Noted}
use Rattle.ad_tree.specs.declared.edits.Op.{Op}
use Rattle.ad_apply.specs.Apply.{applied}

-- an accepted edit: whose it is, which of that ticket's edits, and its operations
pub record Logged : Type 0 where
  pub ticket : ℕ
  pub sequence : ℕ
  pub batch : List Op

abbrev pub logged : ℕ → ℕ → List Op → Logged
logged ticket sequence batch = record { ticket = ticket; sequence = sequence; batch = batch }

-- entries are told apart by their ticket, sequence and operations
abbrev pub logged_code : Coded Logged
logged_code =
    code_by (ℕ × (ℕ × List Op)) (coded× coded_ℕ (coded× coded_ℕ (coded_list op_row.the_row.coded))) (λ e. (e.ticket, (e.sequence, e.batch))) (λ p. record { ticket = p.0; sequence = p.1.0; batch = p.1.1 }) (λ _. refl)

-- how many entries a ticket has
abbrev pub count_of : List Logged → ℕ → ℕ
count_of [] ticket = 0
count_of (e ∷ es) ticket = cond (nat_eq e.ticket ticket) (1 + count_of es ticket) (count_of es ticket)

-- the next entry of a ticket
abbrev pub next_entry : List Logged → ℕ → List Op → Logged
next_entry log ticket batch = logged ticket (count_of log ticket + 1) batch

-- the entries go on after those before: each ticket's sequences are 1, 2, 3 and so on, in order
abbrev pub GoesOn : List Logged → List Logged → Type 0
GoesOn before [] = Unit {0}
GoesOn before (e ∷ es) = (e.sequence ≡ count_of before e.ticket + 1) × GoesOn (before ++ e ∷ []) es

abbrev pub IsLog : List Logged → Type 0
IsLog log = GoesOn [] log

-- the ontology after the edits, from one before them
abbrev pub replay_from : List Noted → List Logged → List Noted
replay_from ontology [] = ontology
replay_from ontology (e ∷ es) = replay_from (applied ontology e.batch) es

-- the ontology after the edits, from the empty one
abbrev pub replay : List Logged → List Noted
replay log = replay_from [] log

-- what an edition shows: its number, and its ontology
pub record Shown : Type 0 where
  pub number : ℕ
  pub axioms : List Noted

-- the edition that a log defines
abbrev pub defined_by : List Logged → Shown
defined_by log = record { number = length log; axioms = replay log }
