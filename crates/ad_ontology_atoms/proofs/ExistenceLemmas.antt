-- Each ontology has its genuine modules.
use Rattle.std.proofs.Common.{◌≡◌, Bool, List, sym, subst, refl, ◌∙◌}
use Rattle.std.specs.List.{filter, list_any}
use Rattle.ad_base.specs.declared.limits.Kind.{Kind}
use Rattle.ad_base.specs.declared.limits.Kind.TheVariants as kinds
use Rattle.ad_base.specs.declared.limits.Side.TheVariants as sides
use Rattle.ad_entity.specs.declared.entities.Entity.{Entity}
use Rattle.ad_locality.specs.Signature.{in_signature}
use Rattle.ad_ontology_atoms.specs.OntologyAtoms.{AreGenuineModules, IsShapeOf}
use Rattle.ad_shapes.specs.Shapes.{Shape, shape_of}
use Rattle.ad_syntax_laws.specs.OntologyLogic.{axiom_logic}
use Rattle.ad_syntax_laws.specs.OntologyModule.{IsModuleOf, logical}
use Rattle.ad_syntax_laws.proofs.LocalityLemmas.{antitone}
use Rattle.ad_theory.proofs.ListedLemmas.{some_listed}
use Rattle.ad_theory.proofs.Members.{Has, any_same, same_any, filter_same, has_filter, filter_has}
use Rattle.ad_theory.proofs.StarLemmas.{some_listed_star}
use Rattle.ad_tree.proofs.Equality.{noted_eq-is}
use Rattle.ad_tree.specs.Same.{same_axiom}
use Rattle.ad_tree.specs.declared.axioms.Noted.{Noted}

some_module : (kind : Kind) (seed : Entity → Bool) (ontology : List Noted) → (M : List Noted) × IsModuleOf kind seed ontology M
some_module kinds.Bottom seed ontology = some_listed (axiom_logic sides.Bottom) seed (antitone sides.Bottom) same_axiom noted_eq-is (logical ontology)
some_module kinds.Top seed ontology = some_listed (axiom_logic sides.Top) seed (antitone sides.Top) same_axiom noted_eq-is (logical ontology)
some_module kinds.Star seed ontology =
    some_listed_star (axiom_logic sides.Bottom) (axiom_logic sides.Top) same_axiom noted_eq-is seed (antitone sides.Bottom) (antitone sides.Top) (logical ontology)

-- a module is what some test keeps
kept : (kind : Kind) (seed : Entity → Bool) (ontology M : List Noted) → IsModuleOf kind seed ontology M → (test : Noted → Bool) × (M ≡ filter test (logical ontology))
kept kinds.Bottom seed ontology M m = (m.test, m.listed)
kept kinds.Top seed ontology M m = (m.test, m.listed)
kept kinds.Star seed ontology M m = (m.test, m.listed)

-- the axioms of a list that stand in what a test keeps of it are what it keeps
filter_listed : (test : Noted → Bool) (axioms M : List Noted) → M ≡ filter test axioms → filter (λ b. list_any (same_axiom b) M) axioms ≡ M
filter_listed test axioms M e =
    filter_same (λ b. list_any (same_axiom b) M) test axioms
    (λ b h t. (filter_has test axioms b (subst (λ l. Has l b) e (any_same same_axiom noted_eq-is M b t))).1)
    (λ b h t. same_any same_axiom noted_eq-is M b (subst (λ l. Has l b) (sym e) (has_filter test axioms b h t)))
    ∙ sym e

module _ (kind : Kind) (ontology : List Noted) where
  module_of : (a : Noted) → (M : List Noted) × IsModuleOf kind (in_signature a.axiom) ontology M
  module_of a = some_module kind (in_signature a.axiom) ontology

  abbrev in_module_of : Noted → Noted → Bool
  in_module_of a b = list_any (same_axiom b) (module_of a).0

  modules_genuine : AreGenuineModules kind ontology in_module_of
  modules_genuine = record {
    genuine = λ a o.
        let m = module_of a in
        let k = kept kind (in_signature a.axiom) ontology m.0 m.1 in
        subst (λ M. IsModuleOf kind (in_signature a.axiom) ontology M) (sym (filter_listed k.0 (logical ontology) m.0 k.1)) m.1;
  }

  pub some_shape : (shape : Shape) × IsShapeOf kind ontology shape
  some_shape = (shape_of in_module_of (logical ontology), (in_module_of, modules_genuine, refl))
