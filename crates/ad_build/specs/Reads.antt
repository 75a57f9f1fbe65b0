-- What the tokens of a text stand for, read from the last to the first: each puts an item before those of the
-- tokens behind it, and takes what belongs to it off their front.
use Rattle.std.specs.Prelude.{ℕ, Bool, ◌&&◌, cond, false, nat_le, List, [], ◌∷◌, ◌++◌, Option, None, Some, codes}
use Rattle.std.specs.Option.{option_map}
use Rattle.std.specs.Str.{all_ascii_digits}
use Rattle.std.specs.Str.Parse.{digits_value}
use Rattle.ad_lex.specs.Lexemes.{Lexeme}
use Rattle.ad_lex.specs.Lexemes as says
use Rattle.ad_grammar.specs.Names.{Words, followed_by}
use Rattle.ad_grammar.specs.Shapes.{Text}
use Rattle.ad_entity.specs.Entities.{entity}
use Rattle.ad_tree.specs.declared.edits.Sign.TheVariants as signs
use Rattle.ad_tree.specs.declared.literals.Literal.TheVariants as literals
use Rattle.ad_tree.specs.declared.notes.Annotation.{Annotation}
use Rattle.ad_tree.specs.declared.notes.Annotation.TheViews.{roll-Annotation}
use Rattle.ad_tree.specs.declared.axioms.Axiom.{Axiom}
use Rattle.ad_terms.specs.declared.item.StackItem.{StackItem}
use Rattle.ad_terms.specs.declared.item.StackItem.TheVariants as i
use Rattle.ad_terms.specs.declared.keyword.Keyword.{Keyword}
use Rattle.ad_terms.specs.declared.keyword.Keyword.TheVariants as keyword
use Rattle.ad_terms.specs.Items.{as_name, as_property, as_value}
use Rattle.ad_terms.specs.Shapes.{one, two, each}
use Rattle.ad_terms.specs.Stacks.{gather, leading_notes}
use Rattle.ad_build.specs.Words.{keyword_of}
use Rattle.ad_terms.specs.Built.{range_of, class_of, axiom_of}

-- no item where nothing was made
abbrev pub unless_broken : {A : Type 0} → (A → StackItem) → Option A → StackItem
unless_broken item (Some x) = item x
unless_broken item None = i.Broken

abbrev pub noted : List Annotation → Axiom → StackItem
noted notes stated = i.Axiom (record { notes = notes; «axiom» = stated })

-- an annotation behind its own annotations
abbrev pub annotated : List Annotation → List StackItem → StackItem
annotated notes items = unless_broken (λ p. i.Note (roll-Annotation (record { notes = notes; property = p.0; value = p.1 }))) (two as_name as_value items)

abbrev pub built_by : Keyword → List StackItem → StackItem
built_by keyword.Annotation items = annotated (leading_notes items).0 (leading_notes items).1
built_by keyword.Inverse items = unless_broken i.Inverse (one as_name items)
built_by keyword.Chain items = unless_broken i.Chain (each as_property items)
built_by (keyword.Entity kind) items = unless_broken (λ name. i.Entity (entity kind name)) (one as_name items)
built_by (keyword.Range word) items = unless_broken i.Range (range_of word items)
built_by (keyword.Class word) items = unless_broken i.Class (class_of word items)
built_by (keyword.Axiom word) items = unless_broken (noted (leading_notes items).0) (axiom_of word (leading_notes items).1)

abbrev pub built_if : Option Keyword → List StackItem → StackItem
built_if None items = i.Broken
built_if (Some word) items = built_by word items

-- what a keyword and its arguments stand for
abbrev pub built : List ℕ → List StackItem → StackItem
built word items = built_if (keyword_of word) items

-- the number that a word is, if it is one of 32 bits
abbrev pub some_digits : List ℕ → Bool
some_digits [] = false
some_digits (c ∷ cs) = all_ascii_digits (c ∷ cs)

abbrev pub number_of : List ℕ → Option ℕ
number_of word = cond (some_digits word && nat_le (digits_value 10 word) 4294967295) (Some (digits_value 10 word)) None

-- a word: with a parenthesis behind it a keyword, else a number
abbrev pub put_word : List ℕ → List StackItem → List StackItem
put_word word (i.Open ∷ items) = built word (gather items 0).0 ∷ (gather items 0).1
put_word word items = unless_broken i.Number (number_of word) ∷ items

-- a string, with what may stand behind it
abbrev pub put_text : List ℕ → List StackItem → List StackItem
put_text text (i.Tag tag ∷ items) = i.Literal (literals.Lang text tag) ∷ items
put_text text (i.Carets ∷ i.Name datatype ∷ items) = i.Literal (literals.Typed text datatype) ∷ items
put_text text items = i.Literal (literals.Plain text) ∷ items

-- the name of a local part behind a prefix's IRI
abbrev pub named : List ℕ → Option (List ℕ) → StackItem
named local iri = unless_broken i.Name (followed_by local iri)

abbrev pub put : Words → Lexeme → List StackItem → List StackItem
put words says.Left items = i.Open ∷ items
put words says.Right items = i.Close ∷ items
put words says.Equals items = i.Broken ∷ items
put words says.Carets items = i.Carets ∷ items
put words says.Plus items = i.Signed signs.Add ∷ items
put words says.Minus items = i.Signed signs.Remove ∷ items
put words (says.Iri name) items = i.Name name ∷ items
put words (says.Short prefix local) items = named local (words prefix) ∷ items
put words (says.Text text) items = put_text text items
put words (says.Plain word) items = put_word word items
put words (says.Node label) items = i.Label label ∷ items
put words (says.Lang tag) items = i.Tag tag ∷ items

abbrev pub reads : Words → Text → List StackItem
reads words [] = []
reads words (l ∷ ls) = put words l (reads words ls)
