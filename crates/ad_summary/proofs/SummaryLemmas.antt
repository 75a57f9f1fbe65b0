-- The counts of an edition are those of its ontology, and the lines are the summary that tells them.
use Rattle.std.proofs.Common.{◌≡◌, ℕ, List, [], ◌∷◌, ◌++◌, append_assoc, refl}
use Rattle.std.specs.List.{sum_by}
use Rattle.ad_base.specs.declared.limits.Kind.{Kind}
use Rattle.ad_base.specs.declared.limits.Kind.TheVariants as kinds
use Rattle.ad_bits.specs.Rows.{member_count}
use Rattle.ad_decompose.specs.Decomposed.{atomic_of, genuine_of}
use Rattle.ad_edition.specs.Edition.{IsEdition, Whole}
use Rattle.ad_numbered.specs.Numbered.{order_of}
use Rattle.ad_reply.specs.Atoms.{shape_in}
use Rattle.ad_reply.proofs.AtomLemmas.{ShapesOfSlots, edition_shape}
use Rattle.ad_summary.specs.Summary.{cover_count, IsSummaryOf, summary_in}
use Rattle.ad_summary.proofs.CoverLemmas.{covers_counted}

-- a word, and two words with numbers behind them
pub two_counts : (word b c m n : List ℕ) → ((word ++ (b ++ m)) ++ (c ++ n)) ++ (10 ∷ []) ≡ word ++ (b ++ (m ++ (c ++ (n ++ (10 ∷ [])))))
two_counts word b c m n = simp append_assoc

pub tautologies_counted : (edition : Whole) → IsEdition edition → (atomic_of edition.found kinds.Bottom).atoms.tautologies ≡ (shape_in kinds.Bottom edition).tautologies
tautologies_counted edition is = (is.decomposed.atomic kinds.Bottom).atoms_are.tautologies_are

pub edition_covers : (kind : Kind) (edition : Whole) → IsEdition edition → sum_by member_count (atomic_of edition.found kind).covers.rows ≡ cover_count (shape_in kind edition)
edition_covers kind edition is =
    covers_counted (genuine_of edition.found kind) (order_of edition.numbered) (atomic_of edition.found kind).covers.rows (is.decomposed.atomic kind).covers_are

-- the text is the summary of the edition's ontology
pub summary_is : (edition : Whole) → IsEdition edition → ShapesOfSlots → IsSummaryOf edition.shown.axioms (summary_in edition)
summary_is edition is law = record {
  shape = λ kind. shape_in kind edition;
  are = λ kind. edition_shape kind edition is law;
  told = refl;
}
