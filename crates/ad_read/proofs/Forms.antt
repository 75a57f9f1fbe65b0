-- Texts of each form: their declarations, and the body behind them.
use Rattle.std.proofs.Common.{◌≡◌, ◌≢◌, ℕ, Bool, true, false, List, [], ◌∷◌, ◌++◌, IsTrue, refl, sym, ◌∙◌, ap}
use Rattle.std.specs.Prelude.{codes}
use Rattle.std.specs.Str.{bytes_eq}
use Rattle.std.proofs.lemmas.Bool.{true≢false}
use Rattle.ad_lex.proofs.Pieces.{bytes_eq-refl}
use Rattle.ad_lex.specs.Lexemes.{Lexeme}
use Rattle.ad_lex.specs.Lexemes as says
use Rattle.ad_write.specs.Keywords as kw
use Rattle.ad_write.specs.Canonical.{entity_kind_word}
use Rattle.ad_tree.specs.Logical.{is_logical}
use Rattle.ad_tree.specs.declared.axioms.Axiom.{Axiom}
use Rattle.ad_tree.specs.declared.axioms.Axiom.TheVariants as axioms
use Rattle.ad_tree.specs.declared.axioms.Noted.{Noted}
use Rattle.ad_entity.specs.declared.entities.EntityKind.{EntityKind}
use Rattle.ad_entity.specs.declared.entities.EntityKind.TheVariants as kinds
use Rattle.ad_entity.specs.declared.entities.Entity.{Entity}
use Rattle.ad_tree.specs.declared.edits.Op.{Op}
use Rattle.ad_tree.specs.declared.edits.Sign.{Sign}
use Rattle.ad_tree.specs.declared.edits.Sign.TheVariants as signs
use Rattle.ad_grammar.specs.Shapes.{Text, Compound, Many0}
use Rattle.ad_grammar.specs.Names.{Words, IsName, SpellsEntity}
use Rattle.ad_grammar.specs.Axioms.{SpellsAxiom, SpellsNoted}
use Rattle.ad_grammar.specs.Texts.{Declared, Ontology, SpellsOp, sign_of}
use Rattle.ad_grammar.specs.Faults.{Statement, stated, rule, SpellsStatement, SpellsSigned, IsOf}
use Rattle.ad_grammar_laws.specs.Known.{AreKnown}
use Rattle.ad_grammar_laws.proofs.Words.{noted_moves}
use Rattle.ad_grammar_laws.proofs.WordsOfTexts.{ontology_moves, operations_move, entities_move}
use Rattle.ad_read.specs.Prefixed.{IsOver}
use Rattle.ad_read.specs.Opened.{text_of, form_of}
use Rattle.ad_read.specs.declared.texts.whole.Whole.{Whole}
use Rattle.ad_read.specs.declared.texts.whole.Whole.TheVariants.{Document, Edit, Seed, Single}
use Rattle.ad_read.proofs.Declarations.{text_is, is_text}

-- what stands behind the declarations, under a meaning of the prefixes
abbrev pub Body : Whole → Words → Text → Type 0
Body Document words ts = (xs : List Noted) × Ontology false words (Many0 (SpellsNoted false words) xs) ts
Body Edit words ts = (ops : List Op) × Many0 (SpellsOp words) ops ts
Body Seed words ts = (entities : List Entity) × Many0 (SpellsEntity words) entities ts
Body Single words ts = (x : Noted) × IsTrue (is_logical x.axiom) × SpellsNoted false words x ts

-- no declaration begins where another word does
abbrev word_in : Text → List ℕ
word_in (says.Plain word ∷ ts) = word
word_in ts = []

abbrev is_plain : Text → Bool
is_plain (says.Plain word ∷ ts) = true
is_plain ts = false

other_word : (word : List ℕ) → bytes_eq word (codes "Prefix") ≡ false → word ≢ codes "Prefix"
other_word word h e = true≢false (sym (bytes_eq-refl (codes "Prefix")) ∙ ap (λ us. bytes_eq us (codes "Prefix")) (sym e) ∙ h)

over_more : (word : List ℕ) (inside : Text → Type 0) → bytes_eq word (codes "Prefix") ≡ false → (ts more : Text) → Compound word inside ts → IsOver (ts ++ more)
over_more word inside h ts more (inner, e, s) = λ rest e'. other_word word h (ap word_in (sym (ap (λ us. us ++ more) e) ∙ e'))

over_alone : (word : List ℕ) (inside : Text → Type 0) → bytes_eq word (codes "Prefix") ≡ false → (ts : Text) → Compound word inside ts → IsOver ts
over_alone word inside h ts (inner, e, s) = λ rest e'. other_word word h (ap word_in (sym e ∙ e'))

entity_word : (kind : EntityKind) → bytes_eq (entity_kind_word kind) (codes "Prefix") ≡ false
entity_word kinds.Class = refl
entity_word kinds.Datatype = refl
entity_word kinds.ObjectProperty = refl
entity_word kinds.DataProperty = refl
entity_word kinds.AnnotationProperty = refl
entity_word kinds.NamedIndividual = refl

not_empty : (ts : Text) → ts ≡ [] → IsOver ts
not_empty ts e = λ rest e'. nothing_plain (sym e ∙ e')
  where
    nothing_plain : {rest : Text} → [] ≡ says.Plain (codes "Prefix") ∷ rest → ⊥
    nothing_plain e' = true≢false (sym (ap is_plain e'))

over_entities : (words : Words) (entities : List Entity) (ts : Text) → Many0 (SpellsEntity words) entities ts → IsOver ts
over_entities words [] ts e = not_empty ts e
over_entities words (x ∷ entities) ts (a, b, e, s, ss) = λ rest e'. over_more (entity_kind_word x.kind) (IsName words x.name) (entity_word x.kind) a b s rest (sym e ∙ e')

sign_plain : (sign : Sign) (ts : Text) → is_plain (sign_of sign ∷ ts) ≡ false
sign_plain signs.Add ts = refl
sign_plain signs.Remove ts = refl

over_operations : (words : Words) (ops : List Op) (ts : Text) → Many0 (SpellsOp words) ops ts → IsOver ts
over_operations words [] ts e = not_empty ts e
over_operations words (op ∷ ops) ts (a, b, e, (rest', e', s), ss) = λ rest e''. true≢false (sym (ap is_plain (sym (e ∙ ap (λ us. us ++ b) e') ∙ e'')) ∙ sign_plain op.sign (rest' ++ b))

over_axiom : (words : Words) (notes : Text → Type 0) (x : Axiom) (ts : Text) → SpellsAxiom false words notes x ts → IsOver ts
over_axiom words notes (axioms.SubClassOf a b) ts h = over_alone kw.SubClassOf _ refl ts h
over_axiom words notes (axioms.SubObjectPropertyOf a b) ts h = over_alone kw.SubObjectPropertyOf _ refl ts h
over_axiom words notes (axioms.InverseObjectProperties a b) ts h = over_alone kw.InverseObjectProperties _ refl ts h
over_axiom words notes (axioms.ObjectPropertyDomain a b) ts h = over_alone kw.ObjectPropertyDomain _ refl ts h
over_axiom words notes (axioms.ObjectPropertyRange a b) ts h = over_alone kw.ObjectPropertyRange _ refl ts h
over_axiom words notes (axioms.SubDataPropertyOf a b) ts h = over_alone kw.SubDataPropertyOf _ refl ts h
over_axiom words notes (axioms.DataPropertyDomain a b) ts h = over_alone kw.DataPropertyDomain _ refl ts h
over_axiom words notes (axioms.DataPropertyRange a b) ts h = over_alone kw.DataPropertyRange _ refl ts h
over_axiom words notes (axioms.DatatypeDefinition a b) ts h = over_alone kw.DatatypeDefinition _ refl ts h
over_axiom words notes (axioms.ClassAssertion a b) ts h = over_alone kw.ClassAssertion _ refl ts h
over_axiom words notes (axioms.SubAnnotationPropertyOf a b) ts h = over_alone kw.SubAnnotationPropertyOf _ refl ts h
over_axiom words notes (axioms.AnnotationPropertyDomain a b) ts h = over_alone kw.AnnotationPropertyDomain _ refl ts h
over_axiom words notes (axioms.AnnotationPropertyRange a b) ts h = over_alone kw.AnnotationPropertyRange _ refl ts h
over_axiom words notes (axioms.DisjointUnion a b) ts h = over_alone kw.DisjointUnion _ refl ts h
over_axiom words notes (axioms.SubObjectPropertyChainOf a b) ts h = over_alone kw.SubObjectPropertyOf _ refl ts h
over_axiom words notes (axioms.EquivalentClasses a) ts h = over_alone kw.EquivalentClasses _ refl ts h
over_axiom words notes (axioms.DisjointClasses a) ts h = over_alone kw.DisjointClasses _ refl ts h
over_axiom words notes (axioms.EquivalentObjectProperties a) ts h = over_alone kw.EquivalentObjectProperties _ refl ts h
over_axiom words notes (axioms.DisjointObjectProperties a) ts h = over_alone kw.DisjointObjectProperties _ refl ts h
over_axiom words notes (axioms.FunctionalObjectProperty a) ts h = over_alone kw.FunctionalObjectProperty _ refl ts h
over_axiom words notes (axioms.InverseFunctionalObjectProperty a) ts h = over_alone kw.InverseFunctionalObjectProperty _ refl ts h
over_axiom words notes (axioms.ReflexiveObjectProperty a) ts h = over_alone kw.ReflexiveObjectProperty _ refl ts h
over_axiom words notes (axioms.IrreflexiveObjectProperty a) ts h = over_alone kw.IrreflexiveObjectProperty _ refl ts h
over_axiom words notes (axioms.SymmetricObjectProperty a) ts h = over_alone kw.SymmetricObjectProperty _ refl ts h
over_axiom words notes (axioms.AsymmetricObjectProperty a) ts h = over_alone kw.AsymmetricObjectProperty _ refl ts h
over_axiom words notes (axioms.TransitiveObjectProperty a) ts h = over_alone kw.TransitiveObjectProperty _ refl ts h
over_axiom words notes (axioms.EquivalentDataProperties a) ts h = over_alone kw.EquivalentDataProperties _ refl ts h
over_axiom words notes (axioms.DisjointDataProperties a) ts h = over_alone kw.DisjointDataProperties _ refl ts h
over_axiom words notes (axioms.FunctionalDataProperty a) ts h = over_alone kw.FunctionalDataProperty _ refl ts h
over_axiom words notes (axioms.SameIndividual a) ts h = over_alone kw.SameIndividual _ refl ts h
over_axiom words notes (axioms.DifferentIndividuals a) ts h = over_alone kw.DifferentIndividuals _ refl ts h
over_axiom words notes (axioms.Declaration a) ts h = over_alone kw.Declaration _ refl ts h
over_axiom words notes (axioms.HasKey a b d) ts h = over_alone kw.HasKey _ refl ts h
over_axiom words notes (axioms.ObjectPropertyAssertion a b d) ts h = over_alone kw.ObjectPropertyAssertion _ refl ts h
over_axiom words notes (axioms.NegativeObjectPropertyAssertion a b d) ts h = over_alone kw.NegativeObjectPropertyAssertion _ refl ts h
over_axiom words notes (axioms.DataPropertyAssertion a b d) ts h = over_alone kw.DataPropertyAssertion _ refl ts h
over_axiom words notes (axioms.NegativeDataPropertyAssertion a b d) ts h = over_alone kw.NegativeDataPropertyAssertion _ refl ts h
over_axiom words notes (axioms.AnnotationAssertion a b d) ts h = over_alone kw.AnnotationAssertion _ refl ts h

pub over_body : (whole : Whole) (words : Words) (ts : Text) → Body whole words ts → IsOver ts
over_body Document words ts h = over_alone kw.Ontology _ refl ts h.1
over_body Edit words ts h = over_operations words h.0 ts h.1
over_body Seed words ts h = over_entities words h.0 ts h.1
over_body Single words ts h = over_axiom words _ h.0.axiom ts h.2

pub body_moves : (whole : Whole) (words words' : Words) (ts : Text) → Body whole words ts → AreKnown words ts × (AreKnown words' ts → Body whole words' ts)
body_moves Document words words' ts h = ontology_moves words words' h.0 ts h.1
body_moves Edit words words' ts h = operations_move words words' h.0 ts h.1
body_moves Seed words words' ts h = entities_move words words' h.0 ts h.1
body_moves Single words words' ts h =
    let d = noted_moves words words' h.0 ts h.2 in
    (d.0, λ known. let u = d.1 known in (u.0, u.1 ∙ h.1, u.2))

-- statements are axioms outside the wide grammar
stated_only : (words : Words) (statements : List Statement) (ts : Text) → Many0 (SpellsStatement false words) statements ts → (xs : List Noted) × Many0 (SpellsNoted false words) xs ts
stated_only words [] ts e = ([], e)
stated_only words (stated x ∷ statements) ts (a, b, e, s, ss) = let r = stated_only words statements b ss in (x ∷ r.0, (a, b, e, s, r.1))
stated_only words (rule ∷ statements) ts (a, b, e, s, ss) = absurd s

as_stated : (words : Words) (xs : List Noted) (ts : Text) → Many0 (SpellsNoted false words) xs ts → (statements : List Statement) × Many0 (SpellsStatement false words) statements ts
as_stated words [] ts e = ([], e)
as_stated words (x ∷ xs) ts (a, b, e, s, ss) = let r = as_stated words xs b ss in (stated x ∷ r.0, (a, b, e, s, r.1))

abbrev op_of : Sign → Noted → Op
op_of sign x = record { sign = sign; noted = x }

signed_only : (words : Words) (signed : List (Sign × Statement)) (ts : Text) → Many0 (SpellsSigned false words) signed ts → (ops : List Op) × Many0 (SpellsOp words) ops ts
signed_only words [] ts e = ([], e)
signed_only words ((sign, stated x) ∷ signed) ts (a, b, e, s, ss) = let r = signed_only words signed b ss in (op_of sign x ∷ r.0, (a, b, e, s, r.1))
signed_only words ((sign, rule) ∷ signed) ts (a, b, e, (rest, e', s), ss) = absurd s

as_signed : (words : Words) (ops : List Op) (ts : Text) → Many0 (SpellsOp words) ops ts → (signed : List (Sign × Statement)) × Many0 (SpellsSigned false words) signed ts
as_signed words [] ts e = ([], e)
as_signed words (op ∷ ops) ts (a, b, e, s, ss) = let r = as_signed words ops b ss in ((op.sign, stated op.noted) ∷ r.0, (a, b, e, s, r.1))

-- a text of a form
pub record Formed (whole : Whole) (ts : Text) : Type 0 where
  pub words : Words
  pub declared : List Declared
  pub body : Text
  pub is : ts ≡ text_of declared ++ body
  pub spelled : Body whole words body

pub formed : (whole : Whole) (ts : Text) → IsOf false (form_of whole) ts → Formed whole ts
formed Document ts (words, declared, statements, (a, b, e, d, (inner, e0, (h, r1, e1, hp, (i, r2, e2, ip, (n, s, e3, np, sp)))))) =
    let r = stated_only words statements s sp in
    record { words = words; declared = declared; body = b; is = e ∙ ap (λ us. us ++ b) (text_is declared a d); spelled = (r.0, (inner, e0, (h, r1, e1, hp, (i, r2, e2, ip, (n, s, e3, np, r.1))))) }
formed Edit ts (words, declared, signed, (a, b, e, d, h)) = record { words = words; declared = declared; body = b; is = e ∙ ap (λ us. us ++ b) (text_is declared a d); spelled = signed_only words signed b h }
formed Seed ts (words, declared, entities, (a, b, e, d, h)) = record { words = words; declared = declared; body = b; is = e ∙ ap (λ us. us ++ b) (text_is declared a d); spelled = (entities, h) }
formed Single ts (words, declared, stated x, logical, (a, b, e, d, h)) = record { words = words; declared = declared; body = b; is = e ∙ ap (λ us. us ++ b) (text_is declared a d); spelled = (x, logical, h) }
formed Single ts (words, declared, rule, logical, (a, b, e, d, h)) = absurd h

pub of_form : (whole : Whole) (words : Words) (declared : List Declared) (body ts : Text) → ts ≡ text_of declared ++ body → Body whole words body → IsOf false (form_of whole) ts
of_form Document words declared b ts e (xs, (inner, e0, (h, r1, e1, hp, (i, r2, e2, ip, (n, s, e3, np, sp))))) =
    let r = as_stated words xs s sp in
    (words, declared, r.0, (text_of declared, b, e, is_text declared, (inner, e0, (h, r1, e1, hp, (i, r2, e2, ip, (n, s, e3, np, r.1))))))
of_form Edit words declared b ts e (ops, h) = let r = as_signed words ops b h in (words, declared, r.0, (text_of declared, b, e, is_text declared, r.1))
of_form Seed words declared b ts e (entities, h) = (words, declared, entities, (text_of declared, b, e, is_text declared, h))
of_form Single words declared b ts e (x, logical, h) = (words, declared, stated x, logical, (text_of declared, b, e, is_text declared, h))
