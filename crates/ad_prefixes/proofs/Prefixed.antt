-- What the prefixes stand for, by the map of those that are declared.
use Rattle.std.proofs.Common.{◌≡◌, ℕ, Bool, true, false, not, cond, is_some, if◌then◌else◌, List, [], ◌∷◌, ◌++◌, map, string_bytes, Option, None, Some, refl, sym, ◌∙◌, ap}
use Rattle.std.specs.Map.{lookup}
use Rattle.std.specs.Str.{bytes_eq}
use Rattle.std.specs.declared.string.String.{String}
use Rattle.std.specs.String.{string_eq}
use Rattle.indexmap.specs.IndexMap.{IndexMap, insert_entry}
use Rattle.indexmap.proofs.CallerLemmas.{insert_entry-new}
use Rattle.std.specs.Cmp.Lexicographic.{nat_list_eq_equiv}
use Rattle.std.proofs.lemmas.List.{map-append}
use Rattle.ad_grammar.specs.Texts.{Declared, iri_of, in_force, standard}
use Rattle.ad_prefixes.specs.Declarations.{declared, declarations}

module _ {Y : Type 0} where
  abbrev pub shown : String Y × List ℕ → List ℕ × List ℕ
  shown entry = (string_bytes entry.0, entry.1)

  -- the map of the declared prefixes, and the list of them
  pub iri_looked : (entries : List (String Y × List ℕ)) (prefix : List ℕ) → iri_of (declarations (map shown entries)) prefix ≡ lookup (λ k. bytes_eq prefix (string_bytes k)) entries
  iri_looked [] prefix = refl
  iri_looked (e ∷ es) prefix =
      ap (λ b. cond b (Some e.1) (iri_of (declarations (map shown es)) prefix)) (nat_list_eq_equiv.symm (string_bytes e.0) prefix)
      ∙ ap (λ o. cond (bytes_eq prefix (string_bytes e.0)) (Some e.1) o) (iri_looked es prefix)

  -- a prefix that isn't declared yet goes last
  pub declared_last : {S : Type 0} (m : IndexMap (String Y) (List ℕ) S) (k : String Y) (iri prefix : List ℕ) (es : List (String Y × List ℕ))
      → string_bytes k ≡ prefix → lookup (λ x. bytes_eq prefix (string_bytes x)) m.entries ≡ None → es ≡ insert_entry string_eq m.entries k iri
      → map shown es ≡ map shown m.entries ++ (prefix, iri) ∷ []
  declared_last m k iri prefix es same none e =
      ap (map shown) (e ∙ insert_entry-new string_eq m k iri (ap (λ p. lookup (λ x. bytes_eq p (string_bytes x)) m.entries) same ∙ none))
      ∙ map-append shown m.entries ((k, iri) ∷ [])
      ∙ ap (λ p. map shown m.entries ++ (p, iri) ∷ []) same

pub is_none : {X : Type 0} (o : Option X) → is_some o ≡ false → o ≡ None
is_none None h = refl
is_none (Some x) h = cc

abbrev first_of : Option (List ℕ) → Option (List ℕ) → Option (List ℕ)
first_of (Some x) o = Some x
first_of None o = o

first_cond : (b : Bool) (x : List ℕ) (o p : Option (List ℕ)) → cond b (Some x) (first_of o p) ≡ first_of (cond b (Some x) o) p
first_cond true x o p = refl
first_cond false x o p = refl

iri_joined : (ds es : List Declared) (prefix : List ℕ) → iri_of (ds ++ es) prefix ≡ first_of (iri_of ds prefix) (iri_of es prefix)
iri_joined [] es prefix = refl
iri_joined (d ∷ ds) es prefix = ap (λ o. cond (bytes_eq d.prefix prefix) (Some d.iri) o) (iri_joined ds es prefix) ∙ first_cond (bytes_eq d.prefix prefix) d.iri (iri_of ds prefix) (iri_of es prefix)

-- what is declared counts
pub declared_first : (ds : List Declared) (prefix iri : List ℕ) → iri_of ds prefix ≡ Some iri → in_force ds prefix ≡ Some iri
declared_first ds prefix iri e = iri_joined ds standard prefix ∙ ap (λ o. first_of o (iri_of standard prefix)) e

-- and then what is standard
pub standard_next : (ds : List Declared) (prefix : List ℕ) → iri_of ds prefix ≡ None → in_force ds prefix ≡ iri_of standard prefix
standard_next ds prefix e = iri_joined ds standard prefix ∙ ap (λ o. first_of o (iri_of standard prefix)) e
