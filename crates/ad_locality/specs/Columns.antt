-- The columns of the locality table, "surely empty", "surely everything" and "surely not empty", as one value,
-- and what they are at a built-in name.
use Rattle.std.specs.Prelude.{ℕ, true, false, cond, List, ◌++◌, Option, None, Some, codes}
use Rattle.ad_base.specs.Words.{same_text}
use Rattle.ad_entity.specs.Builtin.{owl, rdfs, is_reserved}
use Rattle.ad_entity.specs.declared.entities.EntityKind.{EntityKind}
use Rattle.ad_entity.specs.declared.entities.EntityKind.TheVariants as kinds
use Rattle.ad_locality.specs.declared.surely.Surely.{Surely}

-- nothing is in it; everything is, and a domain isn't empty; none of the three is sure
abbrev pub nothing : Surely
nothing = record { empty = true; whole = false; nonempty = false }

abbrev pub everything : Surely
everything = record { empty = false; whole = true; nonempty = true }

abbrev pub neither : Surely
neither = record { empty = false; whole = false; nonempty = false }

-- something is in it, and that is all that is sure
abbrev pub inhabited : Surely
inhabited = record { empty = false; whole = false; nonempty = true }

-- one name of the standard for everything, and one for nothing
abbrev pub top_or_bottom : List ℕ → List ℕ → List ℕ → Option Surely
top_or_bottom top bottom iri = cond (same_text iri top) (Some everything) (cond (same_text iri bottom) (Some nothing) None)

-- a datatype that is built in has a value, and rdfs:Literal has all
abbrev pub datatype : List ℕ → Option Surely
datatype iri = cond (is_reserved iri) (Some (cond (same_text iri (rdfs ++ codes "Literal")) everything inhabited)) None

-- What is sure of a built-in name, and None for a name that isn't built in. No individual is built in.
abbrev pub builtin : EntityKind → List ℕ → Option Surely
builtin kinds.Class iri = top_or_bottom (owl ++ codes "Thing") (owl ++ codes "Nothing") iri
builtin kinds.Datatype iri = datatype iri
builtin kinds.ObjectProperty iri = top_or_bottom (owl ++ codes "topObjectProperty") (owl ++ codes "bottomObjectProperty") iri
builtin kinds.DataProperty iri = top_or_bottom (owl ++ codes "topDataProperty") (owl ++ codes "bottomDataProperty") iri
builtin kinds.AnnotationProperty iri = cond (is_reserved iri) (Some neither) None
builtin kinds.NamedIndividual iri = None
