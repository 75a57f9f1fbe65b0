use Rattle.std.proofs.Common.{length, false, set, inl, inr, ap, sym, ◌∙◌, arith}
use Rattle.std.specs.Vec.{with_items}
use Rattle.std.proofs.lemmas.Bool.{cases_eq}
use Rattle.std.proofs.lemmas.List.{length-set, with_items_is}
use Rattle.ad_bits.specs.Rows.{has}
use Rattle.ad_bits.specs.Words.{bit_in}
use Rattle.ad_bits.proofs.Rows.{has-set_same, has-set_other}
use Rattle.ad_bits.proofs.Views.{shown, closed}
use Rattle.ad_bits.proofs.row.Row.unset.Goals as goal

pub unset_bit-requires : goal.unset_bit-requires
unset_bit-requires c =
    let view = shown c.self.inside.size c.self.inside.words.items c.deref_mut.result.now c.args.self.now c.self.invariant c.self.view_is c.deref_mut.ensures.value in
    omega (arith, view.size_is, view.room)

pub invariant_of-self : goal.invariant_of-self
invariant_of-self c =
    let view = shown c.self.inside.size c.self.inside.words.items c.deref_mut.result.now c.args.self.now c.self.invariant c.self.view_is c.deref_mut.ensures.value in
    let old = c.args.self.now in
    let i = c.args.i in
    let row = set old i false in
    let written = closed c.self.inside.size (with_items c.self.inside.words c.unset_bit.new.words).items c.unset_bit.new.words row
    (with_items_is c.self.inside.words c.unset_bit.new.words (c.unset_bit.auto.words ∙ c.deref_mut.ensures.len))
    (record {
      fits = view.fits;
      size_is = length-set old i false ∙ view.size_is;
      room = c.unset_bit.auto.words ∙ view.room;
      bits = λ k.
          elim (cases_eq k i) [
            | inl same ↦ ap (has row) same ∙ has-set_same old i false c.requires ∙ sym (ap (bit_in c.unset_bit.new.words) same ∙ c.unset_bit.ensures.unset)
            | inr other ↦ has-set_other old i k false other ∙ view.bits k ∙ sym (c.unset_bit.ensures.others k other)
          ];
    }) in
    written.0

pub returns : goal.returns
returns c =
    let view = shown c.self.inside.size c.self.inside.words.items c.deref_mut.result.now c.args.self.now c.self.invariant c.self.view_is c.deref_mut.ensures.value in
    let old = c.args.self.now in
    let i = c.args.i in
    let row = set old i false in
    let written = closed c.self.inside.size (with_items c.self.inside.words c.unset_bit.new.words).items c.unset_bit.new.words row
    (with_items_is c.self.inside.words c.unset_bit.new.words (c.unset_bit.auto.words ∙ c.deref_mut.ensures.len))
    (record {
      fits = view.fits;
      size_is = length-set old i false ∙ view.size_is;
      room = c.unset_bit.auto.words ∙ view.room;
      bits = λ k.
          elim (cases_eq k i) [
            | inl same ↦ ap (has row) same ∙ has-set_same old i false c.requires ∙ sym (ap (bit_in c.unset_bit.new.words) same ∙ c.unset_bit.ensures.unset)
            | inr other ↦ has-set_other old i k false other ∙ view.bits k ∙ sym (c.unset_bit.ensures.others k other)
          ];
    }) in
    record {
      row = written.1;
      size = ap length written.1 ∙ length-set old i false;
      no_member = ap (λ r. has r i) written.1 ∙ has-set_same old i false c.requires;
      others = λ k other. ap (λ r. has r k) written.1 ∙ has-set_other old i k false other;
    }
