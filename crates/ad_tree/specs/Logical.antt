-- The logical axioms. The carried ones are declarations and those on annotations: they are stored and written,
-- and no module is asked of them.
use Rattle.std.specs.Prelude.{Bool, true, false}
use Rattle.ad_tree.specs.declared.axioms.Axiom.{Axiom}
use Rattle.ad_tree.specs.declared.axioms.Axiom.TheVariants as axioms

abbrev pub is_logical : Axiom → Bool
is_logical (axioms.Declaration declared) = false
is_logical (axioms.AnnotationAssertion property subject value) = false
is_logical (axioms.SubAnnotationPropertyOf sub super) = false
is_logical (axioms.AnnotationPropertyDomain property domain) = false
is_logical (axioms.AnnotationPropertyRange property range) = false
is_logical _ = true
