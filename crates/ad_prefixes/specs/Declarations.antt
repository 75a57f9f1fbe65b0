-- The prefixes that a text declares, as the grammar speaks of them.
use Rattle.std.specs.Prelude.{ℕ, List, map}
use Rattle.ad_grammar.specs.Texts.{Declared}

abbrev pub declared : List ℕ × List ℕ → Declared
declared entry = record { prefix = entry.0; iri = entry.1 }

abbrev pub declarations : List (List ℕ × List ℕ) → List Declared
declarations entries = map declared entries
