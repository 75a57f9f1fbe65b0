-- What is seen of an ontology's atoms: the rows over slots show it, and there is one.
use Rattle.std.proofs.Common.{◌≡◌, ℕ, Bool, List, Option, sym, ap, ◌∙◌, subst}
use Rattle.std.specs.Cmp.{both_ways}
use Rattle.std.specs.List.{Contains, IsDistinct, filter}
use Rattle.std.proofs.lemmas.List.{map-id}
use Rattle.ad_base.specs.declared.limits.Kind.{Kind}
use Rattle.ad_base.specs.declared.limits.Kind.TheVariants as kinds
use Rattle.ad_base.specs.declared.limits.Side.TheVariants as sides
use Rattle.ad_decomposition.specs.Tables.{AreGenuine, is_in_row_of}
use Rattle.ad_entity.specs.declared.entities.Entity.{Entity}
use Rattle.ad_flat.specs.Trees.{ArePlaced}
use Rattle.ad_locality.specs.Signature.{in_signature}
use Rattle.ad_ontology_atoms.specs.OntologyAtoms.{AreGenuineModules, IsShapeOf}
use Rattle.ad_ontology_atoms.proofs.GenuineLemmas.{in_slots, slot_of, in_row, slots_are, axioms_are, slot_is, rows_genuine}
use Rattle.ad_shapes.proofs.Alike.{mapped_shape, same_shapes}
use Rattle.ad_shapes.specs.Shapes.{Shape, shape_of}
use Rattle.ad_slots.specs.Held.{Held}
use Rattle.ad_slots.specs.Places.{is_held, held_symbols, is_held_local}
use Rattle.ad_syntax_laws.specs.OntologyLogic.{axiom_logic}
use Rattle.ad_syntax_laws.specs.OntologyModule.{IsModuleOf, logical}
use Rattle.ad_tables.specs.Rows.{Tables}
use Rattle.ad_theory.proofs.ListedLemmas.{listed_one}
use Rattle.ad_theory.proofs.Members.{Has, has_of_contains, contains_of_has, has_filter, filter_has}
use Rattle.ad_theory.proofs.StarLemmas.{listed_star_one}
use Rattle.ad_tree.specs.Same.{same_axiom}
use Rattle.ad_tree.specs.declared.axioms.Noted.{Noted}

module _ (number : Entity → Option ℕ) (slots : List (Option Held)) (places : List ℕ) (ontology : List Noted) (placed : ArePlaced number slots places (logical ontology))
    (distinct : IsDistinct same_axiom (logical ontology)) (tables : Tables) (kind : Kind) where
  -- slots are in rows of slots as their axioms are
  rows_agree : (p q : ℕ × Noted) → Contains (in_slots places ontology) p → Contains (in_slots places ontology) q → is_in_row_of tables kind p.0 q.0 ≡ in_row places ontology tables kind p.1 q.1
  rows_agree p q o m =
      let first = slot_is number slots places ontology placed distinct p.0 p.1 (has_of_contains (in_slots places ontology) p o) in
      let second = slot_is number slots places ontology placed distinct q.0 q.1 (has_of_contains (in_slots places ontology) q m) in
      ap (λ s. is_in_row_of tables kind s q.0) (sym first) ∙ ap (λ s. is_in_row_of tables kind (slot_of places ontology p.1) s) (sym second)

  pub slots_shape : (n : ℕ) → AreGenuine (held_symbols slots) (is_held_local slots) (is_held slots) n tables → IsShapeOf kind ontology (shape_of (is_in_row_of tables kind) places)
  slots_shape n genuine = (
    in_row places ontology tables kind,
    rows_genuine number slots places ontology placed distinct tables kind n genuine,
    ap (shape_of (is_in_row_of tables kind)) (sym (slots_are number slots places ontology placed))
        ∙ same_shapes (is_in_row_of tables kind) (in_row places ontology tables kind) (in_slots places ontology) rows_agree
        ∙ ap (shape_of (in_row places ontology tables kind)) (axioms_are number slots places ontology placed),
  )

-- an ontology has one module of a kind for a seed
one_module : (kind : Kind) (seed : Entity → Bool) (ontology M N : List Noted) → IsModuleOf kind seed ontology M → IsModuleOf kind seed ontology N → M ≡ N
one_module kinds.Bottom seed ontology M N m n = listed_one (axiom_logic sides.Bottom) seed (logical ontology) M N m n
one_module kinds.Top seed ontology M N m n = listed_one (axiom_logic sides.Top) seed (logical ontology) M N m n
one_module kinds.Star seed ontology M N m n = listed_star_one (axiom_logic sides.Bottom) (axiom_logic sides.Top) seed (logical ontology) M N m n

module _ (kind : Kind) (ontology : List Noted) (G H : Noted → Noted → Bool) (one : AreGenuineModules kind ontology G) (other : AreGenuineModules kind ontology H) where
  one_genuine : (a : Noted) → Has (logical ontology) a → filter (G a) (logical ontology) ≡ filter (H a) (logical ontology)
  one_genuine a h =
      let o : Contains (logical ontology) a = contains_of_has (logical ontology) a h in
      one_module kind (in_signature a.axiom) ontology (filter (G a) (logical ontology)) (filter (H a) (logical ontology)) (one.genuine a o) (other.genuine a o)

  one_member : (a b : Noted) → Has (logical ontology) a → Has (logical ontology) b → G a b ≡ H a b
  one_member a b h k = both_ways (G a b) (H a b)
      (λ t. (filter_has (H a) (logical ontology) b (subst (λ M. Has M b) (one_genuine a h) (has_filter (G a) (logical ontology) b k t))).1)
      (λ t. (filter_has (G a) (logical ontology) b (subst (λ M. Has M b) (sym (one_genuine a h)) (has_filter (H a) (logical ontology) b k t))).1)

  same_shape : shape_of G (logical ontology) ≡ shape_of H (logical ontology)
  same_shape = ap (shape_of G) (sym (map-id (logical ontology))) ∙ mapped_shape (λ a. a) G H (logical ontology) one_member

pub shapes_are_one : (kind : Kind) (ontology : List Noted) (one other : Shape) → IsShapeOf kind ontology one → IsShapeOf kind ontology other → one ≡ other
shapes_are_one kind ontology one other m n = m.2 ∙ same_shape kind ontology m.0 n.0 m.1 n.1 ∙ sym n.2
