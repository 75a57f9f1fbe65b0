-- What stands on top of the items of a text, by its first token.
use Rattle.std.proofs.Common.{◌≡◌, ℕ, Bool, true, false, List, [], ◌∷◌, Option, None, Some, refl, sym, ◌∙◌, ap}
use Rattle.ad_lex.specs.Lexemes.{Lexeme}
use Rattle.ad_lex.specs.Lexemes as says
use Rattle.ad_grammar.specs.Names.{Words, followed_by}
use Rattle.ad_grammar.specs.Shapes.{Text}
use Rattle.ad_tree.specs.declared.literals.Literal.TheVariants as literals
use Rattle.ad_terms.specs.declared.item.StackItem.{StackItem}
use Rattle.ad_terms.specs.declared.item.StackItem.TheVariants as i
use Rattle.ad_terms.specs.declared.keyword.Keyword.{Keyword}
use Rattle.ad_terms.specs.declared.keyword.Keyword.TheVariants as keyword
use Rattle.ad_terms.specs.Items.{as_name, as_property, as_value}
use Rattle.ad_terms.specs.Shapes.{one, two, each}
use Rattle.ad_terms.specs.Stacks.{leading_notes}
use Rattle.ad_build.specs.Words.{keyword_of}
use Rattle.ad_terms.specs.Built.{range_of, class_of, axiom_of}
use Rattle.ad_build.specs.Reads.{put, put_word, put_text, reads, built, built_if, built_by, noted, unless_broken, number_of}

-- the first token may begin a phrase
abbrev pub begins : Text → Bool
begins (says.Iri name ∷ ts) = true
begins (says.Short prefix local ∷ ts) = true
begins (says.Plain word ∷ ts) = true
begins (says.Text text ∷ ts) = true
begins (says.Node label ∷ ts) = true
begins _ = false

-- the first token may stand behind a string
abbrev pub begins_tail : Text → Bool
begins_tail (says.Carets ∷ ts) = true
begins_tail (says.Lang tag ∷ ts) = true
begins_tail _ = false

pub no_tail : (ts : Text) → begins ts ≡ true → begins_tail ts ≡ false
no_tail [] h = refl
no_tail (says.Carets ∷ ts) h = cc
no_tail (says.Lang tag ∷ ts) h = cc
no_tail (l ∷ ts) h = refl

-- a phrase, or none
abbrev pub is_made : StackItem → Bool
is_made i.Open = false
is_made i.Close = false
is_made (i.Signed sign) = false
is_made i.Carets = false
is_made (i.Tag tag) = false
is_made _ = true

abbrev pub top_made : List StackItem → Bool
top_made [] = false
top_made (item ∷ items) = is_made item

-- what may stand behind a string
abbrev pub is_tail : StackItem → Bool
is_tail i.Carets = true
is_tail (i.Tag tag) = true
is_tail _ = false

abbrev pub top_tail : List StackItem → Bool
top_tail [] = false
top_tail (item ∷ items) = is_tail item

made_no_tail : (items : List StackItem) → top_made items ≡ true → top_tail items ≡ false
made_no_tail [] h = refl
made_no_tail (i.Carets ∷ items) h = cc
made_no_tail (i.Tag tag ∷ items) h = cc
made_no_tail (item ∷ items) h = refl

unless_made : {A : Type 0} (item : A → StackItem) → ((x : A) → is_made (item x) ≡ true) → (o : Option A) → is_made (unless_broken item o) ≡ true
unless_made item h None = refl
unless_made item h (Some x) = h x

built_by_made : (word : Keyword) (items : List StackItem) → is_made (built_by word items) ≡ true
built_by_made keyword.Annotation items = unless_made _ (λ p. refl) (two as_name as_value (leading_notes items).1)
built_by_made keyword.Inverse items = unless_made i.Inverse (λ x. refl) (one as_name items)
built_by_made keyword.Chain items = unless_made i.Chain (λ x. refl) (each as_property items)
built_by_made (keyword.Entity kind) items = unless_made _ (λ x. refl) (one as_name items)
built_by_made (keyword.Range word) items = unless_made i.Range (λ x. refl) (range_of word items)
built_by_made (keyword.Class word) items = unless_made i.Class (λ x. refl) (class_of word items)
built_by_made (keyword.Axiom word) items = unless_made (noted (leading_notes items).0) (λ x. refl) (axiom_of word (leading_notes items).1)

built_if_made : (word : Option Keyword) (items : List StackItem) → is_made (built_if word items) ≡ true
built_if_made None items = refl
built_if_made (Some word) items = built_by_made word items

put_word_made : (word : List ℕ) (items : List StackItem) → top_made (put_word word items) ≡ true
put_word_made word [] = unless_made i.Number (λ x. refl) (number_of word)
put_word_made word (i.Open ∷ items) = built_if_made (keyword_of word) _
put_word_made word (item ∷ items) = unless_made i.Number (λ x. refl) (number_of word)

put_text_made : (text : List ℕ) (items : List StackItem) → top_made (put_text text items) ≡ true
put_text_made text (i.Carets ∷ i.Name datatype ∷ items) = refl
put_text_made text items = refl

pub made_top : (words : Words) (ts : Text) → begins ts ≡ true → top_made (reads words ts) ≡ true
made_top words (says.Iri name ∷ ts) h = refl
made_top words (says.Short prefix local ∷ ts) h = unless_made i.Name (λ x. refl) (followed_by local (words prefix))
made_top words (says.Plain word ∷ ts) h = put_word_made word (reads words ts)
made_top words (says.Text text ∷ ts) h = put_text_made text (reads words ts)
made_top words (says.Node label ∷ ts) h = refl
made_top words ts h = cc

no_tail_top : (words : Words) (ts : Text) → begins_tail ts ≡ false → top_tail (reads words ts) ≡ false
no_tail_top words [] h = refl
no_tail_top words (says.Carets ∷ ts) h = cc
no_tail_top words (says.Lang tag ∷ ts) h = cc
no_tail_top words (says.Short prefix local ∷ ts) h = made_no_tail (reads words (says.Short prefix local ∷ ts)) (made_top words (says.Short prefix local ∷ ts) refl)
no_tail_top words (says.Plain word ∷ ts) h = made_no_tail (reads words (says.Plain word ∷ ts)) (made_top words (says.Plain word ∷ ts) refl)
no_tail_top words (says.Text text ∷ ts) h = made_no_tail (reads words (says.Text text ∷ ts)) (made_top words (says.Text text ∷ ts) refl)
no_tail_top words (l ∷ ts) h = refl

put_number : (word : List ℕ) (items : List StackItem) → top_made items ≡ true → put_word word items ≡ unless_broken i.Number (number_of word) ∷ items
put_number word [] h = refl
put_number word (i.Open ∷ items) h = cc
put_number word (item ∷ items) h = refl

-- a word before a phrase is read as a number
pub number_before : (words : Words) (word : List ℕ) (ts : Text) → begins ts ≡ true → reads words (says.Plain word ∷ ts) ≡ unless_broken i.Number (number_of word) ∷ reads words ts
number_before words word ts h = put_number word (reads words ts) (made_top words ts h)

put_plain : (text : List ℕ) (items : List StackItem) → top_tail items ≡ false → put_text text items ≡ i.Literal (literals.Plain text) ∷ items
put_plain text [] h = refl
put_plain text (i.Carets ∷ items) h = cc
put_plain text (i.Tag tag ∷ items) h = cc
put_plain text (item ∷ items) h = refl

-- a string with no tail behind it
pub plain_before : (words : Words) (text : List ℕ) (ts : Text) → begins_tail ts ≡ false → reads words (says.Text text ∷ ts) ≡ i.Literal (literals.Plain text) ∷ reads words ts
plain_before words text ts h = put_plain text (reads words ts) (no_tail_top words ts h)
