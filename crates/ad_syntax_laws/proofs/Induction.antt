-- Inductions over the recursive types of the trees; they stand beside the types.
pub use Rattle.ad_tree.proofs.Induction.{RangeCases, range_induction, ClassCases, class_induction, AnnotationCases, annotation_induction}
