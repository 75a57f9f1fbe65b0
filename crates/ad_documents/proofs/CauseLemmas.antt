-- The causes for which documents are refused.
use Rattle.std.proofs.Common.{◌≡◌, ℕ, List, [], sym, ◌∙◌, ap}
use Rattle.std.specs.Prelude.{Option, Some, None}
use Rattle.ad_base.specs.declared.limits.Which.{Which}
use Rattle.ad_apply.specs.Apply.{applied}
use Rattle.ad_edition.specs.Limit.{Passed, passed}
use Rattle.ad_grammar.specs.Faults.{document}
use Rattle.ad_read.specs.Laws.{SpellsOnce, IsNotRefused, IsRefusedOnce}
use Rattle.ad_read.specs.Texts.{SpellsAdditions}
use Rattle.ad_read.proofs.Outcomes.{documents, text_once, text_refused}
use Rattle.ad_reply.specs.declared.refusal.Refusal.TheVariants as refusals
use Rattle.ad_tree.specs.declared.edits.Op.{Op}
use Rattle.ad_documents.specs.Causes.{IsUnfitFor, HasOneCause, IsOntologyOrUnfit}
use Rattle.ad_base.specs.Limits.{standard}

some_same : (p q : Passed) → Some p ≡ Some q → p ≡ q
some_same p q e = cc

not_passed : (o : Option Passed) (p : Passed) → o ≡ None → o ≡ Some p → ⊥
not_passed o p none some = cc

-- what is proved of the readings of documents
module _ (once : SpellsOnce document SpellsAdditions) (is_read : IsNotRefused document SpellsAdditions) where
  -- a text that has an ontology within the limits has no cause to be refused
  pub ontology_or_unfit : IsOntologyOrUnfit
  ontology_or_unfit text ontology refusals.Request found h = h
  ontology_or_unfit text ontology refusals.Memory found h = h
  ontology_or_unfit text ontology refusals.Shut found h = h
  ontology_or_unfit text ontology (refusals.Atom edition count) found h = h
  ontology_or_unfit text ontology (refusals.Moved edition) found h = h
  ontology_or_unfit text ontology (refusals.Text cause) found h = h.0 (is_read standard.depth text found.ops cause found.spelled h.1)
  ontology_or_unfit text ontology (refusals.Limit edition which count) found h =
      let same : h.1 ≡ found.ops = once standard.depth text h.1 found.ops h.2 found.spelled in
      let none : passed standard 0 (applied [] h.1) ≡ None = ap (λ ops. passed standard 0 (applied [] ops)) same ∙ ap (passed standard 0) (sym found.applied_are) ∙ found.within in
      not_passed (passed standard 0 (applied [] h.1)) (record { which = which; count = count }) none h.3

  two_limits : (text : List ℕ) (edition edition' : ℕ) (which which' : Which) (count count' : ℕ)
      → IsUnfitFor text (refusals.Limit edition which count) → IsUnfitFor text (refusals.Limit edition' which' count') → refusals.Limit edition which count ≡ refusals.Limit edition' which' count'
  two_limits text edition edition' which which' count count' x y =
      let same : x.1 ≡ y.1 = once standard.depth text x.1 y.1 x.2 y.2 in
      let limits = some_same _ _ (sym x.3 ∙ ap (λ ops. passed standard 0 (applied [] ops)) same ∙ y.3) in
      λ i. refusals.Limit ((x.0 ∙ sym y.0) i) (limits i).which (limits i).count

  -- and any text has one at most
  pub one_cause : IsRefusedOnce → HasOneCause
  one_cause refused_once text refusals.Request b x y = absurd x
  one_cause refused_once text refusals.Memory b x y = absurd x
  one_cause refused_once text refusals.Shut b x y = absurd x
  one_cause refused_once text (refusals.Atom edition count) b x y = absurd x
  one_cause refused_once text (refusals.Moved edition) b x y = absurd x
  one_cause refused_once text (refusals.Text c) refusals.Request x y = absurd y
  one_cause refused_once text (refusals.Text c) refusals.Memory x y = absurd y
  one_cause refused_once text (refusals.Text c) refusals.Shut x y = absurd y
  one_cause refused_once text (refusals.Text c) (refusals.Atom edition count) x y = absurd y
  one_cause refused_once text (refusals.Text c) (refusals.Moved edition) x y = absurd y
  one_cause refused_once text (refusals.Text c) (refusals.Text d) x y = ap refusals.Text (refused_once document standard.depth text c d x.0 y.0 x.1 y.1)
  one_cause refused_once text (refusals.Text c) (refusals.Limit e w n) x y = absurd (x.0 (is_read standard.depth text y.1 c y.2 x.1))
  one_cause refused_once text (refusals.Limit e w n) refusals.Request x y = absurd y
  one_cause refused_once text (refusals.Limit e w n) refusals.Memory x y = absurd y
  one_cause refused_once text (refusals.Limit e w n) refusals.Shut x y = absurd y
  one_cause refused_once text (refusals.Limit e w n) (refusals.Atom edition count) x y = absurd y
  one_cause refused_once text (refusals.Limit e w n) (refusals.Moved edition) x y = absurd y
  one_cause refused_once text (refusals.Limit e w n) (refusals.Text d) x y = absurd (y.0 (is_read standard.depth text x.1 d x.2 y.1))
  one_cause refused_once text (refusals.Limit e w n) (refusals.Limit e' w' n') x y = two_limits text e e' w w' n n' x y

-- so it is of every text
pub apart : IsOntologyOrUnfit
apart = ontology_or_unfit (text_once _ (List Op) SpellsAdditions documents) (λ limit text x refused h. text_refused _ (List Op) SpellsAdditions documents limit text x h refused)
