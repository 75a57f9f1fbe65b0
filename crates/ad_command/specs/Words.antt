-- Tests of the words of a command.
use Rattle.std.specs.Prelude.{◌≡◌, ℕ, ◌≤◌, Bool, ◌&&◌, List, [], ◌∷◌, ◌++◌, Option, None, Some, is_some, length, drop, codes, nat_eq, if◌then◌else◌}
use Rattle.std.specs.List.{list_all, starts_with}
use Rattle.ad_base.specs.Words.{same_text}
use Rattle.ad_base.specs.declared.limits.Kind.{Kind}
use Rattle.ad_base.specs.declared.limits.Kind.TheVariants as modules
use Rattle.ad_base.specs.Kinds.{kind_word}
use Rattle.ad_lex.specs.Characters.{is_iri}
use Rattle.ad_entity.specs.declared.entities.EntityKind.{EntityKind}
use Rattle.ad_entity.specs.Entities.{all_kinds}
use Rattle.ad_write.specs.Canonical.{entity_kind_word}
use Rattle.ad_command.specs.Command.{AreWorkers, workers_words}

-- what stands before the IRI in the word of an entity
abbrev pub front_of : EntityKind → List ℕ
front_of kind = entity_kind_word kind ++ 61 ∷ []

-- the front of a word, and then an IRI
abbrev pub is_iri_behind : List ℕ → List ℕ → Bool
is_iri_behind front word = starts_with nat_eq word front && list_all is_iri (drop (length front) word)

-- the kind of the entity that a word names, of those in the list
abbrev pub first_entity_kind : List EntityKind → List ℕ → Option EntityKind
first_entity_kind [] word = None
first_entity_kind (kind ∷ kinds') word = if is_iri_behind (front_of kind) word then Some kind else first_entity_kind kinds' word

-- the kind of the entity that a word names
abbrev pub entity_kind_in : List ℕ → Option EntityKind
entity_kind_in word = first_entity_kind all_kinds word

abbrev pub is_seed_word : List ℕ → Bool
is_seed_word word = is_some (entity_kind_in word)

abbrev pub are_seed_words : List (List ℕ) → Bool
are_seed_words words = list_all is_seed_word words

-- the kind of module that a word names
abbrev pub kind_in : List ℕ → Option Kind
kind_in word =
    if same_text word (kind_word modules.Bottom) then Some modules.Bottom
    else (if same_text word (kind_word modules.Top) then Some modules.Top
    else (if same_text word (kind_word modules.Star) then Some modules.Star
    else None))

-- the kind that the first word names, where each word behind it names an entity
abbrev pub seeded_kind : List (List ℕ) → Option Kind
seeded_kind [] = None
seeded_kind (kind ∷ seed) = if are_seed_words seed then kind_in kind else None

-- the kind whose module the words ask for
abbrev pub module_kind : List (List ℕ) → Option Kind
module_kind [] = None
module_kind (first ∷ rest) = if same_text first (codes "module") then seeded_kind rest else None

-- how many workers there are: one where their number is left out
abbrev pub workers_in : Option ℕ → ℕ
workers_in None = 1
workers_in (Some workers) = workers

-- the words name this number of workers, or leave it out, and it is 1
pub record NameWorkers (words : List (List ℕ)) (workers : ℕ) : Type 0 where
  pub low : 1 ≤ workers
  pub high : workers ≤ 16
  pub number : Option ℕ
  pub offered : AreWorkers number
  pub spelled : words ≡ workers_words number
  pub count : workers ≡ workers_in number

-- the words name no number of workers, nor do they leave it out
abbrev pub NameNoWorkers : List (List ℕ) → Type 0
NameNoWorkers words = (number : Option ℕ) → AreWorkers number → words ≡ workers_words number → ⊥
