-- Modules over slots are modules over the axioms that they hold.
use Rattle.std.proofs.Common.{◌≡◌, ℕ, Bool, List, Option, ◌||◌, IsTrue, sym}
use Rattle.std.specs.List.{Contains}
use Rattle.ad_base.specs.declared.limits.Kind.{Kind}
use Rattle.ad_base.specs.declared.limits.Kind.TheVariants.{Bottom, Top, Star}
use Rattle.ad_base.specs.declared.limits.Side.{Side}
use Rattle.ad_base.specs.declared.limits.Side.TheVariants as sides
use Rattle.ad_entity.specs.declared.entities.Entity.{Entity}
use Rattle.ad_tree.specs.declared.axioms.Noted.{Noted}
use Rattle.ad_theory.specs.Kinds.{IsListedOfKind}
use Rattle.ad_theory.specs.Listed.{IsListedModule}
use Rattle.ad_theory.specs.Module.{IsModule, Logic}
use Rattle.ad_theory.specs.Numbers.{logic_of, IsNumberedModule}
use Rattle.ad_syntax_laws.specs.OntologyLogic.{axiom_logic}
use Rattle.ad_codes.specs.Laws.{CodesAreTrees}
use Rattle.ad_slots.specs.Held.{Held}
use Rattle.ad_slots.specs.Places.{is_held, held_symbols, is_held_local}
use Rattle.ad_flat.specs.Trees.{ArePlaced, IsSameSeed, axioms_where}
use Rattle.ad_flat.proofs.CarryLemmas.{IsAlong, IsNaming, carry_up, module_whole, carry_star, star_whole}
use Rattle.ad_flat.proofs.TreeLemmas.{names, means, up, down, to, fro, ups, downs, tos, fros, one_entity, along, kept, kept_back, covered, named, listed}

module _ (number : Entity → Option ℕ) (slots : List (Option Held)) (places : List ℕ) (axioms : List Noted) (p : ArePlaced number slots places axioms)
    (trees : CodesAreTrees) (wanted : Entity → Bool) (seed : ℕ → Bool) (same : IsSameSeed number axioms wanted seed) where
  abbrev slot_logic : Side → Logic ℕ ℕ
  slot_logic side = logic_of (held_symbols slots) (is_held_local slots side)

  same_number : (n : ℕ) (e : Entity) → means number slots places axioms p n e → seed n ≡ wanted e
  same_number n e h = sym (same e n h.0 h.1)

  slots_named : IsNaming (names number slots places axioms p) (means number slots places axioms p)
      (up number slots places axioms p) (down number slots places axioms p) (to number slots places axioms p) (fro number slots places axioms p)
      seed wanted (λ i. IsTrue (is_held slots i)) (Contains axioms)
  slots_named = record {
    ups = ups number slots places axioms p;
    downs = downs number slots places axioms p;
    tos = tos number slots places axioms p;
    fros = fros number slots places axioms p;
    one_meaning = one_entity number slots places axioms p;
    same = same_number;
    keeps = kept number slots places axioms p;
    keeps_back = kept_back number slots places axioms p;
    covers = covered number slots places axioms p;
    named = named number slots places axioms p;
  }

  agree : (side : Side) → IsAlong (slot_logic side) (axiom_logic side) (names number slots places axioms p) (means number slots places axioms p)
  agree side = along number slots places axioms p trees side

  side_of_trees : (side : Side) (M S : ℕ → Bool) → IsModule (slot_logic side) seed (λ i. IsTrue (is_held slots i)) M S → IsListedModule (axiom_logic side) wanted axioms (axioms_where M places axioms)
  side_of_trees side M S m = record {
    test = up number slots places axioms p M;
    closure = λ e. wanted e || to number slots places axioms p S e;
    is_module = carry_up slots_named (slot_logic side) (axiom_logic side) (agree side) M S m;
    listed = listed number slots places axioms p M (module_whole slots_named (slot_logic side) (axiom_logic side) (agree side) M S m);
  }

  pub kind_of_trees : (kind : Kind) (M S : ℕ → Bool) → IsNumberedModule kind (held_symbols slots) (is_held_local slots) seed (λ i. IsTrue (is_held slots i)) M S
      → IsListedOfKind kind (axiom_logic sides.Bottom) (axiom_logic sides.Top) wanted axioms (axioms_where M places axioms)
  kind_of_trees Bottom M S m = side_of_trees sides.Bottom M S m
  kind_of_trees Top M S m = side_of_trees sides.Top M S m
  kind_of_trees Star M S m = record {
    test = up number slots places axioms p M;
    is_star = carry_star slots_named (agree sides.Bottom) (agree sides.Top) M m.0;
    listed = listed number slots places axioms p M (star_whole slots_named (agree sides.Bottom) (agree sides.Top) M m.0);
  }
