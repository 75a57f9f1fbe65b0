-- The module of any seed holds whole atoms.
use Rattle.std.proofs.Common.{◌≡◌, inl, inr, ℕ, Bool, List, Option, None, Some, if◌then◌else◌, IsTrue, get_or, sym, ◌∙◌, ap, refl}
use Rattle.std.specs.List.{Contains, filter, position}
use Rattle.std.proofs.lemmas.List.Quantifiers.{position-Some}
use Rattle.ad_base.specs.declared.limits.Side.TheVariants as sides
use Rattle.ad_theory.proofs.Members.{either}
use Rattle.ad_theory.proofs.ListedLemmas.{contains_filter}
use Rattle.ad_theory.proofs.GenuineLemmas.{listed_nested}
use Rattle.ad_decomposition.specs.Atoms.{atom_of, firsts, same_module}
use Rattle.ad_decomposition.proofs.Depends.{depends_members, same_down, same_up}
use Rattle.ad_syntax_laws.specs.OntologyLogic.{axiom_logic}
use Rattle.ad_syntax_laws.specs.OntologyModule.{logical}
use Rattle.ad_ontology_atoms.specs.OntologyAtoms.{ModulesHoldWholeAtoms}

module _ {A : Type 0} (G : A → A → Bool) (order : List A) where
  -- an axiom of an atom is in its own genuine module, which is that of the atom's first axiom
  record InAtom (a first : A) : Type 0 where
    own : IsTrue (G a a)
    same : IsTrue (same_module G order a first)

  abbrev atom_if : A → Bool → Option ℕ
  atom_if a b = if b then position (same_module G order a) (firsts G order) else None

  some_none : (atom : ℕ) → None ≡ Some atom → ⊥
  some_none atom e = cc

  in_atom : (d a : A) (atom : ℕ) → atom_of G order a ≡ Some atom → InAtom a (get_or (firsts G order) atom d)
  in_atom d a atom e = elim (either (G a a)) [
    | inl t ↦ record { own = t; same = (position-Some (same_module G order a) (firsts G order) atom d (sym (ap (atom_if a) t) ∙ e)).1 }
    | inr f ↦ absurd (some_none atom (sym (ap (atom_if a) f) ∙ e))
  ]

  -- two axioms of an atom are in the genuine modules of each other
  pub each_other : (a b : A) (atom : ℕ) → Contains order b → atom_of G order a ≡ Some atom → atom_of G order b ≡ Some atom → IsTrue (G a b)
  each_other a b atom o e f =
      let first = get_or (firsts G order) atom a in
      let x = in_atom a a atom e in
      let y = in_atom a b atom f in
      depends_members G order a first (same_down G order a first x.same) b o (depends_members G order first b (same_up G order b first y.same) b o y.own)

pub hold_atoms : ModulesHoldWholeAtoms
hold_atoms kind seed ontology M G a b atom genuine is among also e f m =
    listed_nested (axiom_logic sides.Bottom) (axiom_logic sides.Top) (λ c entity. refl) kind seed (logical ontology) a M (filter (G a) (logical ontology)) is m
    (genuine.genuine a among) b (contains_filter (G a) (logical ontology) b also (each_other G (logical ontology) a b atom also e f))
