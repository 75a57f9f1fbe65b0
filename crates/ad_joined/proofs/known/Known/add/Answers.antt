-- One more axiom has the module.
use Rattle.std.proofs.Common.{◌≡◌, ◌∙◌, IsTrue, inl, inr, sym, subst}
use Rattle.std.proofs.lemmas.Bool.{cases_eq}
use Rattle.ad_bits.specs.Rows.{has}
use Rattle.ad_joined.proofs.KnownRows.{known_more}
use Rattle.ad_joined.proofs.known.Known.add.Goals as goal

pub returns-then-has-clause-known : goal.returns-then-has-clause-known
returns-then-has-clause-known c symbols local live slots count star known =
    known_more symbols local live slots count c.args.slot _ _ _ _ known
    (subst (λ r. IsTrue (has r c.args.slot)) c.deref.ensures (sym c.has.ensures ∙ c.if-has.true)) star c.set.ensures.size
    (λ i t. elim (cases_eq i c.args.slot) [ inl e ↦ inr e | inr ne ↦ inl (sym (c.set.ensures.others i ne) ∙ t) ])
