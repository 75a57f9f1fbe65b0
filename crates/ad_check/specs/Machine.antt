-- A reading of texts from the left by a list of what may stand next. Its rows are those of the written grammar; what it
-- accepts is exactly what the grammar has, which is a law of this crate.
use Rattle.std.specs.Prelude.{ℕ, ◌+◌, ◌&&◌, Bool, true, false, List, [], ◌∷◌, ◌++◌, length, nat_lt, Option, None, Some, if◌then◌else◌}
use Rattle.std.specs.List.{list_all}
use Rattle.std.specs.Char.{digit_value}
use Rattle.std.specs.Option.{is_some}
use Rattle.std.specs.Str.{bytes_eq}
use Rattle.std.specs.Str.Parse.{digits_value}
use Rattle.ad_lex.specs.Lexemes.{Lexeme}
use Rattle.ad_lex.specs.Lexemes as says
use Rattle.ad_write.specs.Keywords as kw
use Rattle.ad_grammar.specs.Shapes.{Text}
use Rattle.ad_grammar.specs.Faults.{Form, class, range, property, individual, literal, document, edit, seed, single}
use Rattle.ad_check.specs.declared.items.Symbol.{Symbol}
use Rattle.ad_check.specs.declared.items.Symbol.TheVariants as it
use Rattle.ad_check.specs.declared.items.Nonterminal.{Nonterminal}
use Rattle.ad_check.specs.declared.items.Nonterminal.TheVariants as kind
use Rattle.ad_check.specs.declared.items.Production.{Production}
use Rattle.ad_check.specs.declared.items.Halt.{Halt}

-- a keyword, and what stands behind it
pub record Entry : Type 0 where
  pub word : List ℕ
  pub items : List Symbol

abbrev pub entry : List ℕ → List Symbol → Entry
entry word items = record { word = word; items = items }

abbrev pub entry_of : Production → Entry
entry_of row = entry row.word.now row.items.now

abbrev pub lookup : List Entry → List ℕ → Option (List Symbol)
lookup [] word = None
lookup (e ∷ es) word = if bytes_eq e.word word then Some e.items else lookup es word

abbrev pub property_rows : List Entry
property_rows =
    entry kw.ObjectInverseOf (it.Left ∷ it.One kind.Name ∷ it.Right ∷ [])
    ∷ []

abbrev pub chain_rows : List Entry
chain_rows =
    entry kw.ObjectPropertyChain (it.Left ∷ it.One kind.Property ∷ it.Until kind.Property ∷ [])
    ∷ []

abbrev pub range_rows : List Entry
range_rows =
    entry kw.DataIntersectionOf (it.Left ∷ it.One kind.Range ∷ it.Until kind.Range ∷ [])
    ∷ entry kw.DataUnionOf (it.Left ∷ it.One kind.Range ∷ it.Until kind.Range ∷ [])
    ∷ entry kw.DataComplementOf (it.Left ∷ it.One kind.Range ∷ it.Right ∷ [])
    ∷ entry kw.DataOneOf (it.Left ∷ it.One kind.Literal ∷ it.Until kind.Literal ∷ [])
    ∷ entry kw.DatatypeRestriction (it.Left ∷ it.One kind.Name ∷ it.One kind.Facet ∷ it.Until kind.Facet ∷ [])
    ∷ []

abbrev pub class_rows : List Entry
class_rows =
    entry kw.ObjectIntersectionOf (it.Left ∷ it.One kind.Class ∷ it.Until kind.Class ∷ [])
    ∷ entry kw.ObjectUnionOf (it.Left ∷ it.One kind.Class ∷ it.Until kind.Class ∷ [])
    ∷ entry kw.ObjectComplementOf (it.Left ∷ it.One kind.Class ∷ it.Right ∷ [])
    ∷ entry kw.ObjectOneOf (it.Left ∷ it.One kind.Individual ∷ it.Until kind.Individual ∷ [])
    ∷ entry kw.ObjectSomeValuesFrom (it.Left ∷ it.One kind.Property ∷ it.One kind.Class ∷ it.Right ∷ [])
    ∷ entry kw.ObjectAllValuesFrom (it.Left ∷ it.One kind.Property ∷ it.One kind.Class ∷ it.Right ∷ [])
    ∷ entry kw.ObjectHasValue (it.Left ∷ it.One kind.Property ∷ it.One kind.Individual ∷ it.Right ∷ [])
    ∷ entry kw.ObjectHasSelf (it.Left ∷ it.One kind.Property ∷ it.Right ∷ [])
    ∷ entry kw.ObjectMinCardinality (it.Left ∷ it.One kind.Number ∷ it.One kind.Property ∷ it.Maybe kind.Class ∷ it.Right ∷ [])
    ∷ entry kw.ObjectMaxCardinality (it.Left ∷ it.One kind.Number ∷ it.One kind.Property ∷ it.Maybe kind.Class ∷ it.Right ∷ [])
    ∷ entry kw.ObjectExactCardinality (it.Left ∷ it.One kind.Number ∷ it.One kind.Property ∷ it.Maybe kind.Class ∷ it.Right ∷ [])
    ∷ entry kw.DataSomeValuesFrom (it.Left ∷ it.One kind.Name ∷ it.Filler ∷ [])
    ∷ entry kw.DataAllValuesFrom (it.Left ∷ it.One kind.Name ∷ it.Filler ∷ [])
    ∷ entry kw.DataHasValue (it.Left ∷ it.One kind.Name ∷ it.One kind.Literal ∷ it.Right ∷ [])
    ∷ entry kw.DataMinCardinality (it.Left ∷ it.One kind.Number ∷ it.One kind.Name ∷ it.Maybe kind.Range ∷ it.Right ∷ [])
    ∷ entry kw.DataMaxCardinality (it.Left ∷ it.One kind.Number ∷ it.One kind.Name ∷ it.Maybe kind.Range ∷ it.Right ∷ [])
    ∷ entry kw.DataExactCardinality (it.Left ∷ it.One kind.Number ∷ it.One kind.Name ∷ it.Maybe kind.Range ∷ it.Right ∷ [])
    ∷ []

abbrev pub note_rows : List Entry
note_rows =
    entry kw.Annotation (it.Left ∷ it.Star kind.Note ∷ it.One kind.Name ∷ it.One kind.Value ∷ it.Right ∷ [])
    ∷ []

abbrev pub entity_rows : List Entry
entity_rows =
    entry kw.Class (it.Left ∷ it.One kind.Name ∷ it.Right ∷ [])
    ∷ entry kw.Datatype (it.Left ∷ it.One kind.Name ∷ it.Right ∷ [])
    ∷ entry kw.ObjectProperty (it.Left ∷ it.One kind.Name ∷ it.Right ∷ [])
    ∷ entry kw.DataProperty (it.Left ∷ it.One kind.Name ∷ it.Right ∷ [])
    ∷ entry kw.AnnotationProperty (it.Left ∷ it.One kind.Name ∷ it.Right ∷ [])
    ∷ entry kw.NamedIndividual (it.Left ∷ it.One kind.Name ∷ it.Right ∷ [])
    ∷ []

abbrev pub logical_rows : List Entry
logical_rows =
    entry kw.SubClassOf (it.Left ∷ it.Star kind.Note ∷ it.One kind.Class ∷ it.One kind.Class ∷ it.Right ∷ [])
    ∷ entry kw.EquivalentClasses (it.Left ∷ it.Star kind.Note ∷ it.One kind.Class ∷ it.Until kind.Class ∷ [])
    ∷ entry kw.DisjointClasses (it.Left ∷ it.Star kind.Note ∷ it.One kind.Class ∷ it.Until kind.Class ∷ [])
    ∷ entry kw.DisjointUnion (it.Left ∷ it.Star kind.Note ∷ it.One kind.Name ∷ it.One kind.Class ∷ it.Until kind.Class ∷ [])
    ∷ entry kw.SubObjectPropertyOf (it.Left ∷ it.Star kind.Note ∷ it.One kind.Link ∷ it.One kind.Property ∷ it.Right ∷ [])
    ∷ entry kw.EquivalentObjectProperties (it.Left ∷ it.Star kind.Note ∷ it.One kind.Property ∷ it.Until kind.Property ∷ [])
    ∷ entry kw.DisjointObjectProperties (it.Left ∷ it.Star kind.Note ∷ it.One kind.Property ∷ it.Until kind.Property ∷ [])
    ∷ entry kw.InverseObjectProperties (it.Left ∷ it.Star kind.Note ∷ it.One kind.Property ∷ it.One kind.Property ∷ it.Right ∷ [])
    ∷ entry kw.ObjectPropertyDomain (it.Left ∷ it.Star kind.Note ∷ it.One kind.Property ∷ it.One kind.Class ∷ it.Right ∷ [])
    ∷ entry kw.ObjectPropertyRange (it.Left ∷ it.Star kind.Note ∷ it.One kind.Property ∷ it.One kind.Class ∷ it.Right ∷ [])
    ∷ entry kw.FunctionalObjectProperty (it.Left ∷ it.Star kind.Note ∷ it.One kind.Property ∷ it.Right ∷ [])
    ∷ entry kw.InverseFunctionalObjectProperty (it.Left ∷ it.Star kind.Note ∷ it.One kind.Property ∷ it.Right ∷ [])
    ∷ entry kw.ReflexiveObjectProperty (it.Left ∷ it.Star kind.Note ∷ it.One kind.Property ∷ it.Right ∷ [])
    ∷ entry kw.IrreflexiveObjectProperty (it.Left ∷ it.Star kind.Note ∷ it.One kind.Property ∷ it.Right ∷ [])
    ∷ entry kw.SymmetricObjectProperty (it.Left ∷ it.Star kind.Note ∷ it.One kind.Property ∷ it.Right ∷ [])
    ∷ entry kw.AsymmetricObjectProperty (it.Left ∷ it.Star kind.Note ∷ it.One kind.Property ∷ it.Right ∷ [])
    ∷ entry kw.TransitiveObjectProperty (it.Left ∷ it.Star kind.Note ∷ it.One kind.Property ∷ it.Right ∷ [])
    ∷ entry kw.SubDataPropertyOf (it.Left ∷ it.Star kind.Note ∷ it.One kind.Name ∷ it.One kind.Name ∷ it.Right ∷ [])
    ∷ entry kw.EquivalentDataProperties (it.Left ∷ it.Star kind.Note ∷ it.One kind.Name ∷ it.Until kind.Name ∷ [])
    ∷ entry kw.DisjointDataProperties (it.Left ∷ it.Star kind.Note ∷ it.One kind.Name ∷ it.Until kind.Name ∷ [])
    ∷ entry kw.DataPropertyDomain (it.Left ∷ it.Star kind.Note ∷ it.One kind.Name ∷ it.One kind.Class ∷ it.Right ∷ [])
    ∷ entry kw.DataPropertyRange (it.Left ∷ it.Star kind.Note ∷ it.One kind.Name ∷ it.One kind.Range ∷ it.Right ∷ [])
    ∷ entry kw.FunctionalDataProperty (it.Left ∷ it.Star kind.Note ∷ it.One kind.Name ∷ it.Right ∷ [])
    ∷ entry kw.DatatypeDefinition (it.Left ∷ it.Star kind.Note ∷ it.One kind.Name ∷ it.One kind.Range ∷ it.Right ∷ [])
    ∷ entry kw.HasKey (it.Left ∷ it.Star kind.Note ∷ it.One kind.Class ∷ it.Left ∷ it.Until kind.Property ∷ it.Left ∷ it.Until kind.Name ∷ it.Right ∷ [])
    ∷ entry kw.SameIndividual (it.Left ∷ it.Star kind.Note ∷ it.One kind.Individual ∷ it.Until kind.Individual ∷ [])
    ∷ entry kw.DifferentIndividuals (it.Left ∷ it.Star kind.Note ∷ it.One kind.Individual ∷ it.Until kind.Individual ∷ [])
    ∷ entry kw.ClassAssertion (it.Left ∷ it.Star kind.Note ∷ it.One kind.Class ∷ it.One kind.Individual ∷ it.Right ∷ [])
    ∷ entry kw.ObjectPropertyAssertion (it.Left ∷ it.Star kind.Note ∷ it.One kind.Property ∷ it.One kind.Individual ∷ it.One kind.Individual ∷ it.Right ∷ [])
    ∷ entry kw.NegativeObjectPropertyAssertion (it.Left ∷ it.Star kind.Note ∷ it.One kind.Property ∷ it.One kind.Individual ∷ it.One kind.Individual ∷ it.Right ∷ [])
    ∷ entry kw.DataPropertyAssertion (it.Left ∷ it.Star kind.Note ∷ it.One kind.Name ∷ it.One kind.Individual ∷ it.One kind.Literal ∷ it.Right ∷ [])
    ∷ entry kw.NegativeDataPropertyAssertion (it.Left ∷ it.Star kind.Note ∷ it.One kind.Name ∷ it.One kind.Individual ∷ it.One kind.Literal ∷ it.Right ∷ [])
    ∷ []

abbrev pub carried_rows : List Entry
carried_rows =
    entry kw.Declaration (it.Left ∷ it.Star kind.Note ∷ it.One kind.Entity ∷ it.Right ∷ [])
    ∷ entry kw.AnnotationAssertion (it.Left ∷ it.Star kind.Note ∷ it.One kind.Name ∷ it.One kind.Subject ∷ it.One kind.Value ∷ it.Right ∷ [])
    ∷ entry kw.SubAnnotationPropertyOf (it.Left ∷ it.Star kind.Note ∷ it.One kind.Name ∷ it.One kind.Name ∷ it.Right ∷ [])
    ∷ entry kw.AnnotationPropertyDomain (it.Left ∷ it.Star kind.Note ∷ it.One kind.Name ∷ it.One kind.Name ∷ it.Right ∷ [])
    ∷ entry kw.AnnotationPropertyRange (it.Left ∷ it.Star kind.Note ∷ it.One kind.Name ∷ it.One kind.Name ∷ it.Right ∷ [])
    ∷ []

abbrev pub prefix_rows : List Entry
prefix_rows = entry kw.Prefix (it.Left ∷ it.Label ∷ it.Equals ∷ it.Full ∷ it.Right ∷ []) ∷ []

abbrev pub ontology_rows : List Entry
ontology_rows = entry kw.Ontology (it.Left ∷ it.Maybe kind.Name ∷ it.Maybe kind.Name ∷ it.Body ∷ []) ∷ []

abbrev pub rule_rows : List Entry
rule_rows = entry kw.DLSafeRule (it.Left ∷ it.Any ∷ []) ∷ []

-- the rows that the wide grammar alone has
abbrev pub rules_in : Bool → List Entry
rules_in true = rule_rows
rules_in false = []

abbrev pub wide_table : Bool → Nonterminal → List Entry
wide_table w kind.Axiom = rules_in w
wide_table w kind.Logical = rules_in w
wide_table w _ = []

abbrev pub plain_table : Nonterminal → List Entry
plain_table kind.Name = []
plain_table kind.Number = []
plain_table kind.Property = property_rows
plain_table kind.Link = property_rows ++ chain_rows
plain_table kind.Individual = []
plain_table kind.Literal = []
plain_table kind.Facet = []
plain_table kind.Range = range_rows
plain_table kind.Class = class_rows
plain_table kind.Note = note_rows
plain_table kind.Subject = []
plain_table kind.Value = []
plain_table kind.Entity = entity_rows
plain_table kind.Axiom = logical_rows ++ carried_rows
plain_table kind.Logical = logical_rows
plain_table kind.Prefix = prefix_rows
plain_table kind.Signed = []
plain_table kind.Ontology = ontology_rows

abbrev pub table : Bool → Nonterminal → List Entry
table w k = plain_table k ++ wide_table w k

-- behind an iri that begins a phrase
abbrev pub named : Nonterminal → Option (List Symbol)
named kind.Name = Some []
named kind.Number = None
named kind.Property = Some []
named kind.Link = Some []
named kind.Individual = Some []
named kind.Literal = None
named kind.Facet = Some (it.One kind.Literal ∷ [])
named kind.Range = Some []
named kind.Class = Some []
named kind.Note = None
named kind.Subject = Some []
named kind.Value = Some []
named kind.Entity = None
named kind.Axiom = None
named kind.Logical = None
named kind.Prefix = None
named kind.Signed = None
named kind.Ontology = None

-- behind the label of an anonymous individual
abbrev pub labelled : Nonterminal → Option (List Symbol)
labelled kind.Individual = Some []
labelled kind.Subject = Some []
labelled kind.Value = Some []
labelled _ = None

-- behind a string
abbrev pub quoted : Nonterminal → Option (List Symbol)
quoted kind.Literal = Some (it.Tail ∷ [])
quoted kind.Value = Some (it.Tail ∷ [])
quoted _ = None

-- behind a sign
abbrev pub signed : Nonterminal → Option (List Symbol)
signed kind.Signed = Some (it.One kind.Axiom ∷ [])
signed _ = None

-- digits whose value fits 32 bits
abbrev pub is_number : List ℕ → Bool
is_number digits = nat_lt 0 (length digits) && list_all (λ d. nat_lt (digit_value d) 10) digits && nat_lt (digits_value 10 digits) 4294967296

-- whether the word is a number where one may stand
abbrev pub counts : Nonterminal → List ℕ → Bool
counts kind.Number word = is_number word
counts _ word = false

abbrev pub is_empty : List ℕ → Bool
is_empty [] = true
is_empty (c ∷ cs) = false

-- what stands behind this token in a phrase that begins with it, if one does
abbrev pub row : Bool → Nonterminal → Lexeme → Option (List Symbol)
row w k says.Left = None
row w k says.Right = None
row w k says.Equals = None
row w k says.Carets = None
row w k says.Plus = signed k
row w k says.Minus = signed k
row w k (says.Iri name) = named k
row w k (says.Text value) = quoted k
row w k (says.Plain word) = if counts k word then Some [] else lookup (table w k) word
row w k (says.Short prefix local) = named k
row w k (says.Node label) = if is_empty label then None else labelled k
row w k (says.Lang tag) = None

-- whether the wide grammar alone has a phrase of this kind that begins with this token
abbrev pub goes_wide : Nonterminal → Lexeme → Bool
goes_wide k (says.Plain word) = is_some (lookup (wide_table true k) word)
goes_wide k _ = false

abbrev pub behind : List Symbol → Option (List Symbol) → Option (List Symbol)
behind more None = None
behind more (Some items) = Some (items ++ more)

abbrev pub is_left : Lexeme → Option (List Symbol)
is_left says.Left = Some []
is_left _ = None

abbrev pub is_right : Lexeme → Option (List Symbol)
is_right says.Right = Some []
is_right _ = None

abbrev pub is_equals : Lexeme → Option (List Symbol)
is_equals says.Equals = Some []
is_equals _ = None

abbrev pub is_full : Lexeme → Option (List Symbol)
is_full (says.Iri name) = Some []
is_full _ = None

abbrev pub is_label : Lexeme → Option (List Symbol)
is_label (says.Short prefix local) = if is_empty local then Some [] else None
is_label _ = None

-- what may stand behind the string of a literal
abbrev pub tail : Lexeme → Option (List Symbol)
tail says.Carets = Some (it.One kind.Name ∷ [])
tail (says.Lang tag) = Some []
tail _ = None

abbrev pub is_name : Lexeme → Bool
is_name (says.Iri name) = true
is_name (says.Short prefix local) = true
is_name _ = false

-- the range of a restriction on data, or in the wide grammar a further property: a name may be either
abbrev pub filler : Lexeme → Option (List Symbol)
filler (says.Iri name) = Some (it.End ∷ [])
filler (says.Short prefix local) = Some (it.End ∷ [])
filler (says.Plain word) = behind (it.Right ∷ []) (row false kind.Range (says.Plain word))
filler _ = None

abbrev pub end : Bool → Lexeme → Option (List Symbol)
end w says.Right = Some []
end true t = filler t
end false t = None

-- the inside of a rule, which the wide grammar alone has
abbrev pub any : Bool → Lexeme → Option (List Symbol)
any false t = None
any true says.Left = Some (it.Any ∷ it.Any ∷ [])
any true says.Right = Some []
any true _ = Some (it.Any ∷ [])

abbrev pub until : Bool → Nonterminal → Lexeme → Option (List Symbol)
until w k says.Right = Some []
until w k t = behind (it.Until k ∷ []) (row w k t)

-- imports, which the wide grammar alone has
abbrev pub import_rows : Bool → List Entry
import_rows true = entry kw.Import (it.Left ∷ it.One kind.Name ∷ it.Right ∷ it.Body ∷ []) ∷ []
import_rows false = []

abbrev pub imports : Lexeme → Bool
imports (says.Plain word) = bytes_eq kw.Import word
imports _ = false

abbrev pub rules : Lexeme → Bool
rules (says.Plain word) = bytes_eq kw.DLSafeRule word
rules _ = false

abbrev pub first_row : Option (List Symbol) → Option (List Symbol) → Option (List Symbol)
first_row (Some items) other = Some items
first_row None other = other

-- an import, an annotation, an axiom, or the end of the ontology
abbrev pub body : Bool → Lexeme → Option (List Symbol)
body w (says.Plain word) = first_row (lookup (import_rows w) word) (first_row (behind (it.Star kind.Note ∷ it.Until kind.Axiom ∷ []) (lookup note_rows word)) (until w kind.Axiom (says.Plain word)))
body w t = until w kind.Axiom t

-- what stands behind this token where the item stands at the front and takes it
abbrev pub opens : Bool → Symbol → Lexeme → Option (List Symbol)
opens w it.Left t = is_left t
opens w it.Right t = is_right t
opens w it.Equals t = is_equals t
opens w it.Full t = is_full t
opens w it.Label t = is_label t
opens w it.Tail t = tail t
opens w it.Filler t = filler t
opens w it.End t = end w t
opens w it.Any t = any w t
opens w it.Body t = body w t
opens w (it.One k) t = row w k t
opens w (it.Star k) t = behind (it.Star k ∷ []) (row false k t)
opens w (it.Maybe k) t = row false k t
opens w (it.Until k) t = until w k t

-- whether the item may be absent
abbrev pub skips : Symbol → Bool
skips it.Tail = true
skips (it.Star k) = true
skips (it.Maybe k) = true
skips _ = false

-- what may stand next behind a token
abbrev pub after : Symbol → List Symbol → Option (List Symbol) → Option (List Symbol) → Option (List Symbol)
after item more (Some items) next = Some (items ++ more)
after item more None next = if skips item then next else None

abbrev pub step : Bool → List Symbol → Lexeme → Option (List Symbol)
step w [] t = None
step w (item ∷ items) t = after item items (opens w item t) (step w items t)

-- whether the text may end here
abbrev pub ends : List Symbol → Bool
ends [] = true
ends (item ∷ items) = skips item && ends items

abbrev pub goes : (List Symbol → Bool) → Option (List Symbol) → Bool
goes f None = false
goes f (Some items) = f items

-- whether a text is read to its end
abbrev pub accepts : Bool → List Symbol → Text → Bool
accepts w items [] = ends items
accepts w items (t ∷ ts) = goes (λ next. accepts w next ts) (step w items t)

abbrev pub halt : ℕ → Bool → Halt
halt at wide = record { token = at; wide = wide }

abbrev pub go_on : (List Symbol → Option Halt) → Halt → Option (List Symbol) → Option Halt
go_on f stop None = Some stop
go_on f stop (Some items) = f items

-- where the reading of a text, from this token on, stops in the plain grammar, and whether it goes on there in the wide one
abbrev pub fault : ℕ → List Symbol → Text → Option Halt
fault at items [] = if ends items then None else Some (halt at false)
fault at items (t ∷ ts) = go_on (λ next. fault (at + 1) next ts) (halt at (is_some (step true items t))) (step false items t)

-- what a text of a form is read by
abbrev pub start : Form → List Symbol
start class = it.One kind.Class ∷ []
start range = it.One kind.Range ∷ []
start property = it.One kind.Property ∷ []
start individual = it.One kind.Individual ∷ []
start literal = it.One kind.Literal ∷ []
start document = it.Star kind.Prefix ∷ it.One kind.Ontology ∷ []
start edit = it.Star kind.Prefix ∷ it.Star kind.Signed ∷ []
start seed = it.Star kind.Prefix ∷ it.Star kind.Entity ∷ []
start single = it.Star kind.Prefix ∷ it.One kind.Logical ∷ []
