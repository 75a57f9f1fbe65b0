-- The module of an OWL ontology: this is the definition that all crates cite. It is the syntactic locality module
-- of Cuenca Grau, Horrocks, Kazakov and Sattler (Modular Reuse of Ontologies: Theory and Practice, JAIR 31, 2008)
-- on the bottom or the top side: the least set of the ontology's logical axioms such that each other logical axiom
-- is local for the seed and the module's own names. The star module is that of Sattler, Schneider and Zakharyaschev
-- (DL 2009): the greatest set of logical axioms that is its own bottom and its own top module. Modules are listed in
-- the ontology's order.
use Rattle.std.specs.Prelude.{◌≡◌, Bool, List, map}
use Rattle.std.specs.Arc.{arc_value}
use Rattle.std.specs.declared.sync.Arc.{Arc}
use Rattle.std.specs.List.{AllByRecursion, filter}
use Rattle.ad_base.specs.declared.limits.Kind.{Kind}
use Rattle.ad_base.specs.declared.limits.Side.TheVariants as sides
use Rattle.ad_tree.specs.Logical.{is_logical}
use Rattle.ad_tree.specs.declared.axioms.Noted.{Noted}
use Rattle.ad_tree.specs.declared.edits.Op.{Op}
use Rattle.ad_tree.specs.declared.edits.Sign.TheVariants as signs
use Rattle.ad_entity.specs.declared.entities.Entity.{Entity}
use Rattle.ad_theory.specs.Kinds.{IsListedOfKind}
use Rattle.ad_syntax_laws.specs.OntologyLogic.{axiom_logic}

-- each operation is an addition
abbrev pub AreAdditions : List Op → Type 0
AreAdditions ops = AllByRecursion (λ op. op.sign ≡ signs.Add) ops

-- the axioms of additions, in order
abbrev pub axioms_of : List Op → List Noted
axioms_of ops = map (λ op. op.noted) ops

-- the axioms of an ontology that is kept by their owners
abbrev pub values : {Z : Type 0} → List (Arc Noted Z) → List Noted
values {Z} arcs = map (λ (a : Arc Noted Z). arc_value a) arcs

-- whether an axiom with its annotations is a logical one
abbrev pub is_logical_axiom : Noted → Bool
is_logical_axiom a = is_logical a.axiom

-- the logical axioms of an ontology, in order
abbrev pub logical : List Noted → List Noted
logical axioms = filter is_logical_axiom axioms

-- M lists the module of this kind of the ontology O for the seed, a test on entities
abbrev pub IsModuleOf : Kind → (Entity → Bool) → List Noted → List Noted → Type 0
IsModuleOf kind seed O M = IsListedOfKind kind (axiom_logic sides.Bottom) (axiom_logic sides.Top) seed (logical O) M
