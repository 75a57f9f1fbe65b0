use Rattle.std.proofs.Common.{◌≡◌, ◌≤◌, None, Some, length, vec_len, sym, ap, ◌∙◌, subst, arith}
use Rattle.ad_slots.specs.Places.{slot_at, is_held}
use Rattle.ad_flat.specs.Keys.{key_at, IsReplacedKey}
use Rattle.ad_flat.proofs.KeyLemmas.{length_by, vacant_key, put_here, put_others, put_keys}
use Rattle.ad_flat.proofs.entries.Entries.hold.Goals as goal

free : (c : goal.After-write_key) → key_at c.self.inside.keys.items c.args.i ≡ None
free c = vacant_key c.self.inside.axioms c.self.inside.keys.items c.args.i c.self.invariant (ap (λ slots. is_held slots c.args.i) c.self.view_is ∙ c.requires.vacant)

written : (c : goal.After-write_key) → IsReplacedKey c.args.i (Some c.in_ok-key.key) c.self.inside.keys.items c.write_key.new.keys.items
written c = subst (λ keys. IsReplacedKey c.args.i (Some c.in_ok-key.key) keys c.write_key.new.keys.items) c.in_ok-reserve.ensures.items c.write_key.ensures.replaced

pub invariant_of-self-2 : goal.invariant_of-self-2
invariant_of-self-2 c = put_keys c.self.inside.axioms c.insert.new.self c.self.inside.keys.items c.write_key.new.keys.items c.args.i c.in_ok-key.key c.args.entry
    c.in_ok-key.ensures.was_vacant c.in_ok-key.ensures.updates (written c) (free c) c.self.invariant

pub returns-clause-replaced : goal.returns-clause-replaced
returns-clause-replaced c = record {
  here = put_here c.self.inside.axioms c.insert.new.self c.self.inside.keys.items c.write_key.new.keys.items c.args.i c.in_ok-key.key c.args.entry
      c.in_ok-key.ensures.was_vacant c.in_ok-key.ensures.updates (written c) (free c) c.self.invariant;
  others = λ j other.
      put_others c.self.inside.axioms c.insert.new.self c.self.inside.keys.items c.write_key.new.keys.items c.args.i c.in_ok-key.key c.args.entry
      c.in_ok-key.ensures.was_vacant c.in_ok-key.ensures.updates (written c) (free c) c.self.invariant j other
      ∙ ap (λ slots. slot_at slots j) c.self.view_is;
}

pub returns-clause-len : goal.returns-clause-len
returns-clause-len c = λ most below within.
    let before : length c.args.self.now ≡ length c.self.inside.keys.items = ap length (sym c.self.view_is) ∙ length_by c.self.inside.axioms c.self.inside.keys.items in
    let few : vec_len c.reserve.new.self ≤ most = omega (arith, c.in_ok-reserve.ensures.len, c.self.inside.keys.ok) in
    let after : vec_len c.write_key.new.keys ≤ most = c.write_key.ensures.len most below few in
    let same = length_by c.insert.new.self c.write_key.new.keys.items in
    omega (arith, c.write_key.new.keys.ok)
