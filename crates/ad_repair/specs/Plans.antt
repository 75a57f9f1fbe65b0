-- Tasks, rows that stay, and the tables that come of both.
use Rattle.std.specs.Prelude.{◌≡◌, ◌≢◌, ◌<◌, ◌≤◌, ◌+◌, ◌⊎◌, ◌++◌, if◌then◌else◌, ℕ, Bool, List, Option, Some, None, length, map, slice_get, slice_index_or, IsTrue, IsFalse}
use Rattle.std.specs.List.{AllZip}
use Rattle.ad_base.specs.declared.limits.Kind.{Kind}
use Rattle.ad_base.specs.declared.limits.Kind.TheVariants.{Bottom, Top, Star}
use Rattle.ad_theory.specs.declared.task.Task.{Task}
use Rattle.ad_tables.specs.Rows.{Tables, of_kind, row_of}
use Rattle.ad_groups.specs.GenuineRows.{IsGenuineRow}
use Rattle.ad_groups.specs.Signatures.{same_members}
use Rattle.ad_decomposition.specs.Affected.{Theory}

-- One task for each kind and signature among the wanted slots: each task is of a wanted slot, each wanted slot has a
-- task of its kind and signature, and no two tasks have both in common.
pub record AreTasks (symbols : ℕ → List ℕ) (wanted : Kind → ℕ → Bool) (tasks : List Task) : Type 0 where
  pub each : (t : ℕ) (task : Task) → slice_get tasks t ≡ Some task → IsTrue (wanted task.kind task.slot)
  pub covered : (kind : Kind) (i : ℕ) → IsTrue (wanted kind i) → (t : ℕ) × (task : Task) × (slice_get tasks t ≡ Some task) × (task.kind ≡ kind) × IsTrue (same_members (symbols task.slot) (symbols i))
  pub distinct : (t u : ℕ) (a b : Task) → slice_get tasks t ≡ Some a → slice_get tasks u ≡ Some b → a.kind ≡ b.kind → IsTrue (same_members (symbols a.slot) (symbols b.slot)) → t ≡ u

-- the tasks, the rows that stay, and for each kind the number of each slot's task, where it has one
pub record Planned : Type 0 where
  pub tasks : List Task
  pub kept : Tables
  pub bottom : List (Option ℕ)
  pub top : List (Option ℕ)
  pub star : List (Option ℕ)

abbrev pub numbers_of_kind : Planned → Kind → List (Option ℕ)
numbers_of_kind plan Bottom = plan.bottom
numbers_of_kind plan Top = plan.top
numbers_of_kind plan Star = plan.star

-- the number of the slot's task
abbrev pub task_of : Planned → Kind → ℕ → Option ℕ
task_of plan kind i = slice_index_or (numbers_of_kind plan kind) i None

-- each number is below n
abbrev pub AreNumbersBelow : ℕ → List (Option ℕ) → Type 0
AreNumbersBelow n numbers = (i t : ℕ) → slice_index_or numbers i None ≡ Some t → t < n

-- the slot has a task of this kind, for its signature
pub record HasTask (symbols : ℕ → List ℕ) (plan : Planned) (kind : Kind) (i : ℕ) : Type 0 where
  pub number : ℕ
  pub task : Task
  pub of_slot : task_of plan kind i ≡ Some number
  pub there : slice_get plan.tasks number ≡ Some task
  pub kind_is : task.kind ≡ kind
  pub signature : IsTrue (same_members (symbols task.slot) (symbols i))

-- the row of the slot that stays is its genuine module, and it has no task
pub record HasKept (theory : Theory) (slots : ℕ) (plan : Planned) (kind : Kind) (i : ℕ) : Type 0 where
  pub row : List Bool
  pub none : task_of plan kind i ≡ None
  pub kept : row_of plan.kept kind i ≡ Some row
  pub genuine : IsGenuineRow theory.symbols theory.local theory.live slots kind i row

-- each live slot has a task or its genuine module, and the others have neither
pub record IsPlanFor (theory : Theory) (slots : ℕ) (plan : Planned) : Type 0 where
  pub long : (kind : Kind) → length (of_kind plan.kept kind) ≡ slots
  pub below : (i : ℕ) → IsTrue (theory.live i) → i < slots
  pub sources : (kind : Kind) (i : ℕ) → IsTrue (theory.live i) → HasTask theory.symbols plan kind i ⊎ HasKept theory slots plan kind i
  pub no_task : (kind : Kind) (i : ℕ) → IsFalse (theory.live i) → task_of plan kind i ≡ None
  pub no_row : (kind : Kind) (i : ℕ) → IsFalse (theory.live i) → row_of plan.kept kind i ≡ None

-- the rows are the genuine modules of the tasks, in order
abbrev pub AreResults : Theory → ℕ → List Task → List (List Bool) → Type 0
AreResults theory slots tasks results = AllZip (λ task row. IsGenuineRow theory.symbols theory.local theory.live slots task.kind task.slot row) tasks results

-- the first, where there is one; or the second
abbrev pub first_of : {A : Type 0} → Option A → Option A → Option A
first_of (Some a) other = Some a
first_of None other = other

-- the row, where it is wanted
abbrev pub row_where : Bool → Option (List Bool) → Option (List Bool)
row_where wanted row = if wanted then row else None

-- The rows of one kind are f's where f has one, and those before elsewhere, for the slots below n.
pub record IsFilled (kind : Kind) (f : ℕ → Option (List Bool)) (before after : Tables) (n : ℕ) : Type 0 where
  pub here : (i : ℕ) → i < n → row_of after kind i ≡ first_of (f i) (row_of before kind i)
  pub rest : (i : ℕ) → n ≤ i → row_of after kind i ≡ row_of before kind i
  pub others : (other : Kind) → other ≢ kind → of_kind after other ≡ of_kind before other
  pub long : (any : Kind) → length (of_kind after any) ≡ length (of_kind before any)

-- of one kind, tasks were appended for the signatures of the wanted slots, and each of these has the number of one
pub record AreOfKind (symbols : ℕ → List ℕ) (wanted : ℕ → Bool) (kind : Kind) (before after : List Task) (numbers : List (Option ℕ)) : Type 0 where
  pub more : List Task
  pub appended : after ≡ before ++ more
  pub each : (t : ℕ) (task : Task) → slice_get more t ≡ Some task → (task.kind ≡ kind) × IsTrue (wanted task.slot)
  pub distinct : (t u : ℕ) (a b : Task) → slice_get more t ≡ Some a → slice_get more u ≡ Some b → IsTrue (same_members (symbols a.slot) (symbols b.slot)) → t ≡ u
  pub of_wanted : (i : ℕ) → IsTrue (wanted i) → (t : ℕ) × (task : Task) × (slice_index_or numbers i None ≡ Some (length before + t)) × (slice_get more t ≡ Some task) × IsTrue (same_members (symbols task.slot) (symbols i))
  pub of_others : (i : ℕ) → IsFalse (wanted i) → slice_index_or numbers i None ≡ None

-- each wanted slot has a task, and the others have none
pub record IsPlanOf (symbols : ℕ → List ℕ) (wanted : Kind → ℕ → Bool) (plan : Planned) : Type 0 where
  pub of_wanted : (kind : Kind) (i : ℕ) → IsTrue (wanted kind i) → HasTask symbols plan kind i
  pub of_others : (kind : Kind) (i : ℕ) → IsFalse (wanted kind i) → task_of plan kind i ≡ None

-- a task of this kind for each of the slots
abbrev pub tasks_for : Kind → List ℕ → List Task
tasks_for kind slots = map (λ slot. record { kind = kind; slot = slot }) slots
