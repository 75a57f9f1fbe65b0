-- The new module, of which one axiom is known.
use Rattle.std.proofs.Common.{◌≡◌, ◌∙◌, ℕ, IsTrue, inl, inr, sym, subst, ap, length}
use Rattle.std.specs.Arc.{arc_value}
use Rattle.std.proofs.lemmas.Bool.{cases_eq}
use Rattle.ad_base.specs.declared.limits.Side.TheVariants.{Bottom, Top}
use Rattle.ad_bits.specs.Rows.{has}
use Rattle.ad_theory.specs.Module.{IsStar, IsClosure}
use Rattle.ad_theory.specs.Numbers.{among, logic_of}
use Rattle.ad_theory.proofs.Members.{not_both}
use Rattle.ad_joined.proofs.KnownRows.{known_anew}
use Rattle.ad_joined.proofs.known.Known.learn.Goals as goal

pub returns : goal.returns
returns c symbols local live slots count found known =
    let slot = c.args.slot in
    let same : arc_value c.args.row.now ≡ arc_value c.in_ok-copy.copy = sym c.in_ok-copy.ensures in
    let size : length (arc_value c.args.row.now) ≡ slots = sym c.requires.row ∙ known.row_size in
    known_anew symbols local live slots count slot _ _ _
    (sym (ap length same) ∙ size)
    (ap length c.copy_from.ensures ∙ sym c.requires.closure ∙ known.closure_size)
    (c.set.ensures.size ∙ c.clear.ensures.size ∙ known.same_size)
    (subst (λ r. IsTrue (has r slot)) (c.deref.ensures ∙ same) (sym c.has.ensures ∙ c.if-not-has.false))
    (subst (λ r. IsStar (logic_of symbols (local Bottom)) (logic_of symbols (local Top)) (among (symbols slot)) (λ i. IsTrue (live i)) (has r)) same found.0)
    (subst (λ r. IsClosure (logic_of symbols (local Bottom)) (among (symbols slot)) (has r) (has c.copy_from.new.self)) same
    (subst (λ r. IsClosure (logic_of symbols (local Bottom)) (among (symbols slot)) (has (arc_value c.args.row.now)) (has r)) (sym c.copy_from.ensures) found.1))
    (λ i t. elim (cases_eq i slot) [ inl e ↦ e | inr ne ↦ absurd (not_both (sym (c.set.ensures.others i ne) ∙ t) (c.clear.ensures.empty i)) ])
