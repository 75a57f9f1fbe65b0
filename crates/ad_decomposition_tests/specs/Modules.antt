-- Tables of modules that are written down, and when the atoms of an order can be found in them.
use Rattle.std.specs.Prelude.{◌==◌, ℕ, ◌&&◌, ◌||◌, not, Bool, true, List, [], ◌∷◌, Some, None, length, map, nat_lt, replicate}
use Rattle.std.specs.List.{list_all, list_any, range_with_len}
use Rattle.ad_base.specs.declared.limits.Kind.TheVariants.{Star}
use Rattle.ad_theory.specs.Numbers.{among}
use Rattle.ad_tables.specs.Rows.{Tables}
use Rattle.ad_decomposition.specs.Tables.{is_in_row_of}

-- star rows alone
abbrev pub tables_of : List (List Bool) → Tables
tables_of modules = record { bottom = replicate (length modules) None; top = replicate (length modules) None; star = map Some modules }

abbrev pub slots_of : List (List Bool) → List ℕ
slots_of modules = range_with_len 0 (length modules)

abbrev pub is_in_module : List (List Bool) → ℕ → ℕ → Bool
is_in_module modules = is_in_row_of (tables_of modules) Star

-- each module is a row over all slots
abbrev pub are_square : List (List Bool) → Bool
are_square modules = list_all (λ row. length row == length modules) modules

-- each number stands in the list once
abbrev pub are_distinct : List ℕ → Bool
are_distinct [] = true
are_distinct (x ∷ xs) = not (list_any (λ y. x == y) xs) && are_distinct xs

-- b is listed, and a has what b has
abbrev pub is_below : List (List Bool) → List ℕ → ℕ → ℕ → Bool
is_below modules order a b = among order b && list_all (λ c. not (is_in_module modules b c) || is_in_module modules a c) (slots_of modules)

-- the modules of the listed slots have listed slots alone, and with each of them all that its module has
abbrev pub are_nested : List (List Bool) → List ℕ → Bool
are_nested modules order = list_all (λ a. list_all (λ b. not (is_in_module modules a b) || is_below modules order a b) (slots_of modules)) order

-- modules and an order of slots at which the atoms can be found
abbrev pub is_example : List (List Bool) → List ℕ → Bool
is_example modules order = are_square modules && (list_all (λ a. nat_lt a (length modules)) order && (are_distinct order && are_nested modules order))
