-- The first limit that is passed, from the counts that are above a limit or within it; and what else hinders an edit.
use Rattle.std.proofs.Common.{◌≡◌, ℕ, ◌+◌, ◌<◌, ◌≤◌, true, false, cond, List, length, nat_lt, Option, None, Some, refl, ap, sym, ◌∙◌, arith, subst}
use Rattle.std.proofs.lemmas.Bool.{false≢true}
use Rattle.ad_base.specs.declared.limits.Which.{Which}
use Rattle.ad_base.specs.declared.limits.Which.TheVariants as which
use Rattle.ad_base.specs.declared.limits.Limits.{Limits}
use Rattle.ad_tree.specs.declared.axioms.Noted.{Noted}
use Rattle.ad_syntax_laws.specs.OntologyModule.{logical}
use Rattle.ad_numbered.specs.Numbered.{entities_of}
use Rattle.ad_edition.specs.declared.receipts.Refused.{Refused}
use Rattle.ad_edition.specs.declared.receipts.Refused.TheVariants as refusals
use Rattle.ad_edition.specs.Limit.{Passed, first_of, passed, passed_by_size, document_count, IsRefusedBy, IsHinderedBy, HasManyEntities}

above : (limit count : ℕ) → limit < count → nat_lt limit count ≡ true
above limit count l = grind arith

not_above : (limit count : ℕ) → count ≤ limit → nat_lt limit count ≡ false
not_above limit count l = grind arith

-- a count above its limit passes it
pub over : (w : Which) (limit count : ℕ) (later : Option Passed) → limit < count → first_of w limit count later ≡ Some (record { which = w; count = count })
over w limit count later l = ap (λ b. cond b (Some (record { which = w; count = count })) later) (above limit count l)

-- a count within its limit leaves it to what comes later
pub under : (w : Which) (limit count : ℕ) (later : Option Passed) → count ≤ limit → first_of w limit count later ≡ later
under w limit count later l = ap (λ b. cond b (Some (record { which = w; count = count })) later) (not_above limit count l)

module _ (l : Limits) (number : ℕ) (axioms : List Noted) where
  abbrev after_axioms : Option Passed
  after_axioms = first_of which.Entities l.entities (length (entities_of (logical axioms))) (passed_by_size l number (document_count axioms))

  pub by_axioms : (count : ℕ) (cause : Refused) → count ≡ length (logical axioms) → l.axioms < count → cause ≡ refusals.Limit number which.Axioms count → IsRefusedBy (passed l number axioms) number cause
  by_axioms count cause is high named = subst (IsRefusedBy (passed l number axioms) number) (sym named)
      (refl, ap (λ n. first_of which.Axioms l.axioms n after_axioms) (sym is) ∙ over which.Axioms l.axioms count after_axioms high)

  module _ (few : length (logical axioms) ≤ l.axioms) where
    pub by_entities : (cause : Refused) → HasManyEntities l number axioms cause → IsRefusedBy (passed l number axioms) number cause
    by_entities (refusals.Limit edition w count) many = (
      many.0,
      under which.Axioms l.axioms (length (logical axioms)) after_axioms few
          ∙ ap (λ n. first_of which.Entities l.entities n (passed_by_size l number (document_count axioms))) (sym many.3)
          ∙ over which.Entities l.entities count (passed_by_size l number (document_count axioms)) many.2
          ∙ ap (λ x. Some (record { which = x; count = count })) (sym many.1),
    )
    by_entities (refusals.Moved edition) many = absurd many
    by_entities refusals.Memory many = tt

    module _ (named : length (entities_of (logical axioms)) ≤ l.entities) where
      -- the first limits aren't passed, so it is left to the document and the number
      pub by_rest : passed l number axioms ≡ passed_by_size l number (document_count axioms)
      by_rest = under which.Axioms l.axioms (length (logical axioms)) after_axioms few
          ∙ under which.Entities l.entities (length (entities_of (logical axioms))) (passed_by_size l number (document_count axioms)) named

pub within_size : (l : Limits) (number bytes : ℕ) → bytes ≤ l.bytes → number + 1 ≤ l.editions → passed_by_size l number bytes ≡ None
within_size l number bytes small early =
    under which.Bytes l.bytes bytes (first_of which.Editions l.editions (number + 1) None) small ∙ under which.Editions l.editions (number + 1) None early

pub bytes_refused : (l : Limits) (number bytes : ℕ) (cause : Refused) → l.bytes < bytes → cause ≡ refusals.Limit number which.Bytes bytes → IsRefusedBy (passed_by_size l number bytes) number cause
bytes_refused l number bytes cause high named = subst (IsRefusedBy (passed_by_size l number bytes) number) (sym named)
    (refl, over which.Bytes l.bytes bytes (first_of which.Editions l.editions (number + 1) None) high)

pub editions_refused : (l : Limits) (number bytes next : ℕ) (cause : Refused) → bytes ≤ l.bytes → next ≡ number + 1 → l.editions < next → cause ≡ refusals.Limit number which.Editions next → IsRefusedBy (passed_by_size l number bytes) number cause
editions_refused l number bytes next cause small is high named = subst (IsRefusedBy (passed_by_size l number bytes) number) (sym named) (
  refl,
  under which.Bytes l.bytes bytes (first_of which.Editions l.editions (number + 1) None) small
      ∙ ap (λ n. first_of which.Editions l.editions n None) (sym is) ∙ over which.Editions l.editions next None high,
)

-- where no edition is expected, what hinders an edit is what refuses it
pub unhindered : (first : Option Passed) (number : ℕ) (cause : Refused) → IsHinderedBy None first number cause → IsRefusedBy first number cause
unhindered first number (refusals.Limit edition which count) hindered = hindered.1
unhindered first number (refusals.Moved edition) hindered = absurd (false≢true hindered.1)
unhindered first number refusals.Memory hindered = tt
