-- Looking a keyword up in a list of rows.
use Rattle.std.proofs.Common.{Bor, sym, ◌∙◌, ◌≡◌, ℕ, true, false, List, [], ◌∷◌, ◌++◌, Option, None, Some, refl, ap}
use Rattle.std.specs.Prelude.{if◌then◌else◌}
use Rattle.std.specs.Option.{option_or, option_copied}
use Rattle.std.specs.Str.{bytes_eq}
use Rattle.ad_check.specs.declared.items.Symbol.{Symbol}
use Rattle.ad_check.specs.Machine.{Entry, lookup}

pub lookup_hit : (e : Entry) (es : List Entry) (word : List ℕ) → bytes_eq e.word word ≡ true → lookup (e ∷ es) word ≡ Some e.items
lookup_hit e es word h = rw h

pub lookup_miss : (e : Entry) (es : List Entry) (word : List ℕ) → bytes_eq e.word word ≡ false → lookup (e ∷ es) word ≡ lookup es word
lookup_miss e es word h = rw h

pub lookup_append : (xs ys : List Entry) (word : List ℕ) → lookup (xs ++ ys) word ≡ option_or (lookup xs word) (lookup ys word)
lookup_append [] ys word = refl
lookup_append (e ∷ es) ys word = elim (bytes_eq e.word word) as (λ b. (if b then Some e.items else lookup (es ++ ys) word) ≡ option_or (if b then Some e.items else lookup es word) (lookup ys word)) [ true ↦ refl | false ↦ lookup_append es ys word ]

-- the same of rows as they stand in the code
pub copied_or : (a b : Option (Bor (List Symbol))) → option_copied (option_or a b) ≡ option_or (option_copied a) (option_copied b)
copied_or None b = refl
copied_or (Some x) b = refl

pub either_row : (a b r : Option (Bor (List Symbol))) (xs ys : List Entry) (word : List ℕ) → r ≡ option_or a b → option_copied a ≡ lookup xs word → option_copied b ≡ lookup ys word → option_copied r ≡ lookup (xs ++ ys) word
either_row a b r xs ys word or first second = ap option_copied or ∙ copied_or a b ∙ ap (λ x. option_or x (option_copied b)) first ∙ ap (option_or (lookup xs word)) second ∙ sym (lookup_append xs ys word)
