-- What the readers know on the way: the form that is asked for, and a text whose declarations are read.
use Rattle.std.specs.Prelude.{◌≡◌, ℕ, ◌≤◌, Bool, List, [], ◌∷◌, length, drop, find, codes, None, Some}
use Rattle.ad_lex.specs.Lexemes.{Lexeme, lexeme, lexemes}
use Rattle.ad_lex.specs.Lexemes as says
use Rattle.ad_lex.specs.declared.token.Token.{Token}
use Rattle.ad_grammar.specs.Shapes.{Text}
use Rattle.ad_grammar.specs.Texts.{Declared, AreDistinct, in_force}
use Rattle.ad_grammar.specs.Faults.{Form}
use Rattle.ad_grammar.specs.Faults as form
use Rattle.ad_check.specs.declared.texts.Stop.{Stop}
use Rattle.ad_prefixes.specs.Declarations.{declarations}
use Rattle.ad_prefixes.specs.Heads.{heads}
use Rattle.ad_prefixes.specs.Unknown.{is_unknown}
use Rattle.ad_read.specs.Texts.{IsFormed, place}
use Rattle.ad_read.specs.declared.texts.whole.Whole.{Whole}
use Rattle.ad_read.specs.declared.texts.whole.Whole.TheVariants.{Document, Edit, Seed, Single}
use Rattle.ad_read.specs.declared.texts.ReadRefused.{ReadRefused}
use Rattle.ad_read.specs.declared.texts.ReadRefused.TheVariants as refused_by

abbrev pub form_of : Whole → Form
form_of Document = form.document
form_of Edit = form.edit
form_of Seed = form.seed
form_of Single = form.single

-- the tokens of declarations
abbrev pub text_of : List Declared → Text
text_of [] = []
text_of (d ∷ ds) = says.Plain (codes "Prefix") ∷ says.Left ∷ says.Short d.prefix [] ∷ says.Equals ∷ says.Iri d.iri ∷ says.Right ∷ text_of ds

-- whether a token is a name whose prefix is neither declared nor standard
abbrev pub is_unknown_in : List ℕ → List (List ℕ × List ℕ) → Token → Bool
is_unknown_in text prefixes token = is_unknown (in_force (declarations prefixes)) (lexeme text token)

-- the refusal of the first such name
abbrev pub RefusesUnknown : List ℕ → List Token → List (List ℕ × List ℕ) → ℕ → ReadRefused → Type 0
RefusesUnknown text tokens prefixes behind (refused_by.Prefix at) = (token : Token) × (find (is_unknown_in text prefixes) (drop behind tokens) ≡ Some token) × (at ≡ token.from)
RefusesUnknown text tokens prefixes behind _ = ⊥

-- a text of the form whose prefixes are declared once and known
pub record IsOpened (whole : Whole) (limit : ℕ) (text : List ℕ) (tokens : List Token) (prefixes : List (List ℕ × List ℕ)) (behind : ℕ) : Type 0 where
  pub formed : IsFormed (form_of whole) limit text tokens
  pub within : behind ≤ length tokens
  pub declared : declarations prefixes ≡ (heads (lexemes text tokens)).0
  pub rest : lexemes text (drop behind tokens) ≡ (heads (lexemes text tokens)).1
  pub once : AreDistinct (declarations prefixes)
  pub known : find (is_unknown_in text prefixes) (drop behind tokens) ≡ None

-- the refusal of a text whose first fault is this
abbrev pub IsRefusalOf : List ℕ → List Token → Stop → ReadRefused → Type 0
IsRefusalOf text tokens stop (refused_by.Syntax at) = (stop.what ≡ None) × (at ≡ place text tokens stop.token)
IsRefusalOf text tokens stop (refused_by.Unsupported at what) = (stop.what ≡ Some what) × (at ≡ place text tokens stop.token)
IsRefusalOf text tokens stop _ = ⊥
