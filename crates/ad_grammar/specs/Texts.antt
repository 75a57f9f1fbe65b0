-- Whole texts: documents, edits, seeds and single axioms, each behind its prefix declarations.
use Rattle.std.specs.Prelude.{◌≡◌, ◌≢◌, ℕ, ◌≤◌, Bool, true, false, List, [], ◌∷◌, ◌++◌, length, None, Some, IsTrue, codes, if◌then◌else◌}
use Rattle.std.specs.List.{AllPairs}
use Rattle.std.specs.Str.{bytes_eq}
use Rattle.ad_lex.specs.Lexemes.{Lexeme}
use Rattle.ad_lex.specs.Lexemes as says
use Rattle.ad_write.specs.Keywords as kw
use Rattle.ad_tree.specs.Logical.{is_logical}
use Rattle.ad_entity.specs.declared.entities.Entity.{Entity}
use Rattle.ad_tree.specs.declared.notes.Annotation.{Annotation}
use Rattle.ad_tree.specs.declared.axioms.Noted.{Noted}
use Rattle.ad_tree.specs.declared.edits.Op.{Op}
use Rattle.ad_tree.specs.declared.edits.Sign.{Sign}
use Rattle.ad_tree.specs.declared.edits.Sign.TheVariants as signs
use Rattle.ad_grammar.specs.Shapes.{Text, Then, Compound, Many0}
use Rattle.ad_grammar.specs.Names.{Words, IsName, SpellsEntity}
use Rattle.ad_grammar.specs.Phrases.{SpellsAnnotation}
use Rattle.ad_grammar.specs.Axioms.{SpellsNoted}

-- a prefix, and the IRI that a text declares it for
pub record Declared : Type 0 where
  pub prefix : List ℕ
  pub iri : List ℕ

abbrev pub SpellsDeclared : Declared → Text → Type 0
SpellsDeclared d ts = ts ≡ says.Plain kw.Prefix ∷ says.Left ∷ says.Short d.prefix [] ∷ says.Equals ∷ says.Iri d.iri ∷ says.Right ∷ []

-- the standard prefixes
abbrev pub standard : List Declared
standard =
    record { prefix = codes "owl"; iri = codes "http://www.w3.org/2002/07/owl#" }
    ∷ record { prefix = codes "rdf"; iri = codes "http://www.w3.org/1999/02/22-rdf-syntax-ns#" }
    ∷ record { prefix = codes "rdfs"; iri = codes "http://www.w3.org/2000/01/rdf-schema#" }
    ∷ record { prefix = codes "xsd"; iri = codes "http://www.w3.org/2001/XMLSchema#" }
    ∷ []

-- the IRI of the first declaration of a prefix
abbrev pub iri_of : List Declared → Words
iri_of [] prefix = None
iri_of (d ∷ ds) prefix = if bytes_eq d.prefix prefix then Some d.iri else iri_of ds prefix

-- the prefixes in force: what the text declares counts before what is standard
abbrev pub in_force : List Declared → Words
in_force declared = iri_of (declared ++ standard)

-- no prefix is declared twice
abbrev pub AreDistinct : List Declared → Type 0
AreDistinct declared = AllPairs (λ d e. d.prefix ≢ e.prefix) declared

-- Import ( iri ), any number of times: in the wide grammar alone
abbrev pub IsImport : Words → List ℕ → Text → Type 0
IsImport words name ts = Compound kw.Import (IsName words name) ts

abbrev pub Imports : Bool → Words → Text → Type 0
Imports true words ts = (names : List (List ℕ)) × Many0 (IsImport words) names ts
Imports false words ts = ts ≡ []

-- tokens with matching parentheses
pub data Matching : Text → Type 0 where
  nothing : Matching []
  enclosed : (a b : Text) → Matching a → Matching b → Matching (says.Left ∷ (a ++ says.Right ∷ b))
  another : (l : Lexeme) (b : Text) → l ≢ says.Left → l ≢ says.Right → Matching b → Matching (l ∷ b)

-- a rule, which the wide grammar has as one more logical axiom
abbrev pub IsRule : Text → Type 0
IsRule ts = Compound kw.DLSafeRule Matching ts

-- the ontology's IRI and its version's, which may be absent
abbrev pub IsHead : Words → Text → Type 0
IsHead words ts = (names : List (List ℕ)) × (length names ≤ 2) × Many0 (IsName words) names ts

-- annotations that no tree keeps
abbrev pub AreNotes : Words → Text → Type 0
AreNotes words ts = (notes : List Annotation) × Many0 (SpellsAnnotation words) notes ts

-- an ontology whose axioms are spelled so
abbrev pub Ontology : Bool → Words → (Text → Type 0) → Text → Type 0
Ontology w words statements ts = Compound kw.Ontology (Then (IsHead words) (Then (Imports w words) (Then (AreNotes words) statements))) ts

abbrev pub sign_of : Sign → Lexeme
sign_of signs.Add = says.Plus
sign_of signs.Remove = says.Minus

-- a sign, and what is added or removed
abbrev pub Signed : Lexeme → (Text → Type 0) → Text → Type 0
Signed sign statement ts = (rest : Text) × (ts ≡ sign ∷ rest) × statement rest

abbrev pub SpellsOp : Words → Op → Text → Type 0
SpellsOp words op ts = Signed (sign_of op.sign) (SpellsNoted false words op.noted) ts

-- a text of this kind, behind its prefix declarations
abbrev pub Behind : List Declared → (Text → Type 0) → Text → Type 0
Behind declared body ts = Then (Many0 SpellsDeclared declared) body ts

abbrev pub SpellsDocument : List Declared → List Noted → Text → Type 0
SpellsDocument declared axioms ts = Behind declared (Ontology false (in_force declared) (Many0 (SpellsNoted false (in_force declared)) axioms)) ts

abbrev pub SpellsEdit : List Declared → List Op → Text → Type 0
SpellsEdit declared ops ts = Behind declared (Many0 (SpellsOp (in_force declared)) ops) ts

abbrev pub SpellsSeed : List Declared → List Entity → Text → Type 0
SpellsSeed declared entities ts = Behind declared (Many0 (SpellsEntity (in_force declared)) entities) ts

-- one logical axiom
abbrev pub SpellsSingle : List Declared → Noted → Text → Type 0
SpellsSingle declared noted ts = IsTrue (is_logical noted.axiom) × Behind declared (SpellsNoted false (in_force declared) noted) ts
