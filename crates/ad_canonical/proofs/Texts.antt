-- What a whole text spells can be written.
use Rattle.std.proofs.Common.{◌≡◌, ℕ, ◌<◌, ◌&&◌, Bool, true, false, cond, nat_lt, List, [], ◌∷◌, ◌++◌, Option, Some, codes, refl, subst}
use Rattle.std.specs.List.{AllByRecursion}
use Rattle.std.specs.Str.{bytes_eq}
use Rattle.std.proofs.lemmas.Bool.{and_parts, ltb-true}
use Rattle.std.proofs.lemmas.List.Elements.{All-from_recursion}
use Rattle.std.proofs.lemmas.Str.{IsUtf8-from_ascii}
use Rattle.std.proofs.lemmas.Str.Ascii.{IsAscii-from_all}
use Rattle.ad_lex.specs.declared.token.Token.{Token}
use Rattle.ad_lex.specs.Characters.{kind_of, is_iri}
use Rattle.ad_lex.specs.Lexed.{IsLexed}
use Rattle.ad_lex.specs.Lexemes.{Lexeme, lexemes}
use Rattle.ad_lex.specs.Lexemes as says
use Rattle.ad_write.specs.Keywords as kw
use Rattle.ad_entity.specs.declared.entities.Entity.{Entity}
use Rattle.ad_tree.specs.declared.axioms.Noted.{Noted}
use Rattle.ad_tree.specs.declared.edits.Op.{Op}
use Rattle.ad_grammar.specs.Shapes.{Text, Then, Many0}
use Rattle.ad_grammar.specs.Names.{Words, SpellsEntity}
use Rattle.ad_grammar.specs.Axioms.{SpellsNoted}
use Rattle.ad_grammar.specs.Texts.{Declared, SpellsDeclared, standard, iri_of, in_force, Ontology, sign_of, SpellsOp, Behind, SpellsDocument, SpellsEdit, SpellsSeed, SpellsSingle}
use Rattle.ad_canonical.specs.Spellable.{SpellableIri, SpellableEntity, IsSpellable}
use Rattle.ad_canonical.proofs.Ranges.{every}
use Rattle.ad_canonical.proofs.Sound.{AreSound, AreSoundWords, tokens_sound}
use Rattle.ad_canonical.proofs.Shapes.{Gives, parts, inside, any, entity}
use Rattle.ad_canonical.proofs.Trees.{noted}

-- an IRI of ASCII characters
plain_iri : List ℕ → Bool
plain_iri [] = true
plain_iri (c ∷ iri) = (is_iri c && nat_lt c 128) && plain_iri iri

plain_each : (iri : List ℕ) → plain_iri iri ≡ true → AllByRecursion (λ c. is_iri c ≡ true) iri × AllByRecursion (λ c. c < 128) iri
unfolding plain_iri
plain_each [] h = (tt, tt)
plain_each (c ∷ iri) h =
    let both = and_parts _ _ h in
    let here = and_parts (is_iri c) (nat_lt c 128) both.0 in
    let others = plain_each iri both.1 in
    ((here.0, others.0), (ltb-true c 128 here.1, others.1))

plain_spellable : (iri : List ℕ) → plain_iri iri ≡ true → SpellableIri iri
plain_spellable iri h =
    let each = plain_each iri h in
    record {
      each = All-from_recursion (λ c. is_iri c ≡ true) iri each.0;
      utf8 = IsUtf8-from_ascii iri (IsAscii-from_all iri (All-from_recursion (λ c. c < 128) iri each.1));
    }

-- the prefixes in force stand for IRIs
abbrev AreIris : List Declared → Type 0
AreIris declared = AllByRecursion (λ (d : Declared). SpellableIri d.iri) declared

standard_iris : AreIris standard
unfolding kind_of plain_iri
standard_iris = (plain_spellable (codes "http://www.w3.org/2002/07/owl#") refl, (plain_spellable (codes "http://www.w3.org/1999/02/22-rdf-syntax-ns#") refl, (plain_spellable (codes "http://www.w3.org/2000/01/rdf-schema#") refl, (plain_spellable (codes "http://www.w3.org/2001/XMLSchema#") refl, tt))))

chosen : (b : Bool) (x : List ℕ) (o : Option (List ℕ)) (iri : List ℕ) → SpellableIri x → (o ≡ Some iri → SpellableIri iri) → cond b (Some x) o ≡ Some iri → SpellableIri iri
chosen true x o iri h g e = let same : x ≡ iri = cc in subst SpellableIri same h
chosen false x o iri h g e = g e

of_sound : (declared : List Declared) → AreIris declared → AreSoundWords (iri_of declared)
of_sound [] h prefix iri e = cc
of_sound (d ∷ declared) h prefix iri e = chosen (bytes_eq d.prefix prefix) d.iri (iri_of declared prefix) iri h.0 (of_sound declared h.1 prefix iri) e

with_standard : (declared : List Declared) → AreIris declared → AreIris (declared ++ standard)
with_standard [] h = standard_iris
with_standard (d ∷ declared) h = (h.0, with_standard declared h.1)

declared_iri : (d : Declared) → Gives (SpellsDeclared d) (SpellableIri d.iri)
declared_iri d ts s e =
    let here : AreSound (says.Plain kw.Prefix ∷ says.Left ∷ says.Short d.prefix [] ∷ says.Equals ∷ says.Iri d.iri ∷ says.Right ∷ []) = subst AreSound e s in
    here.1.1.1.1.0

-- behind its prefix declarations
behind : {P : Text → Type 0} {A : Type 0} (declared : List Declared) → (AreSoundWords (in_force declared) → Gives P A) → Gives (Behind declared P) A
behind declared f ts s (a, b, e, d, h) =
    let both = parts a b (subst AreSound e s) in
    let iris : AreIris declared = any SpellsDeclared (λ (x : Declared). SpellableIri x.iri) declared (every declared_iri declared) a both.0 d in
    f (of_sound (declared ++ standard) (with_standard declared iris)) b both.1 h

-- what is spelled behind anything
last : {P Q : Text → Type 0} {A : Type 0} → Gives Q A → Gives (Then P Q) A
last g ts s (a, b, e, p, q) = g b (parts a b (subst AreSound e s)).1 q

ontology : (words : Words) → AreSoundWords words → (all : List Noted) → Gives (Ontology false words (Many0 (SpellsNoted false words) all)) (AllByRecursion IsSpellable all)
ontology words sound all = inside kw.Ontology (last (last (last (any (SpellsNoted false words) IsSpellable all (every (noted false words sound) all)))))

operation : (words : Words) → AreSoundWords words → (op : Op) → Gives (SpellsOp words op) (IsSpellable op.noted)
operation words sound op ts s (rest, e, h) =
    let here : AreSound (sign_of op.sign ∷ rest) = subst AreSound e s in
    noted false words sound op.noted rest here.1 h

pub document_spellable : (text : List ℕ) (ts : List Token) (declared : List Declared) (all : List Noted) → IsLexed text ts → SpellsDocument declared all (lexemes text ts) → AllByRecursion IsSpellable all
document_spellable text ts declared all lexed h = behind declared (λ sound. ontology (in_force declared) sound all) (lexemes text ts) (tokens_sound text ts lexed) h

pub edit_spellable : (text : List ℕ) (ts : List Token) (declared : List Declared) (ops : List Op) → IsLexed text ts → SpellsEdit declared ops (lexemes text ts) → AllByRecursion (λ op. IsSpellable op.noted) ops
edit_spellable text ts declared ops lexed h = behind declared (λ sound. any (SpellsOp (in_force declared)) (λ (op : Op). IsSpellable op.noted) ops (every (operation (in_force declared) sound) ops)) (lexemes text ts) (tokens_sound text ts lexed) h

pub seed_spellable : (text : List ℕ) (ts : List Token) (declared : List Declared) (entities : List Entity) → IsLexed text ts → SpellsSeed declared entities (lexemes text ts) → AllByRecursion SpellableEntity entities
seed_spellable text ts declared entities lexed h = behind declared (λ sound. any (SpellsEntity (in_force declared)) SpellableEntity entities (every (entity (in_force declared) sound) entities)) (lexemes text ts) (tokens_sound text ts lexed) h

pub single_spellable : (text : List ℕ) (ts : List Token) (declared : List Declared) (a : Noted) → IsLexed text ts → SpellsSingle declared a (lexemes text ts) → IsSpellable a
single_spellable text ts declared a lexed h = behind declared (λ sound. noted false (in_force declared) sound a) (lexemes text ts) (tokens_sound text ts lexed) h.1
