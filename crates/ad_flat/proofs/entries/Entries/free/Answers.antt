use Rattle.std.proofs.Common.{◌≡◌, None, Some, set, sym, ap, ◌∙◌, subst}
use Rattle.ad_slots.specs.Places.{slot_at, is_held}
use Rattle.ad_flat.specs.Keys.{key_at, IsReplacedKey}
use Rattle.ad_flat.proofs.KeyLemmas.{found_key, key_within, written_key, freed_here, freed_others, freed_keys}
use Rattle.ad_flat.proofs.entries.Entries.free.Goals as goal

has : (c : goal.After-drop-remove) → key_at c.self.inside.keys.items c.args.i ≡ Some c.in-Some.key
has c = found_key c.self.inside.axioms c.self.inside.keys.items c.args.i c.index_mut.result.now (ap (λ slots. is_held slots c.args.i) c.self.view_is ∙ c.requires) c.index_mut.ensures.value ∙ sym c.in-Some.ensures.value

written : (c : goal.After-drop-remove) → IsReplacedKey c.args.i None c.self.inside.keys.items (set c.self.inside.keys.items c.args.i c.take.new.self)
written c = subst (λ key. IsReplacedKey c.args.i None c.self.inside.keys.items (set c.self.inside.keys.items c.args.i key)) (sym c.take.ensures.after)
    (written_key c.self.inside.keys.items c.args.i None (key_within c.self.inside.keys.items c.args.i c.in-Some.key (has c)))

pub invariant_of-self : goal.invariant_of-self
invariant_of-self c = freed_keys c.self.inside.axioms c.remove.new.self c.self.inside.keys.items _ c.args.i c.in-Some.key (has c) c.remove.ensures.updates (written c) c.self.invariant

pub returns-in-Some-clause-freed : goal.returns-in-Some-clause-freed
returns-in-Some-clause-freed c = record {
  here = freed_here c.self.inside.axioms c.remove.new.self c.self.inside.keys.items _ c.args.i c.in-Some.key (has c) c.remove.ensures.updates (written c) c.self.invariant;
  others = λ j other.
      freed_others c.self.inside.axioms c.remove.new.self c.self.inside.keys.items _ c.args.i c.in-Some.key (has c) c.remove.ensures.updates (written c) c.self.invariant j other
      ∙ ap (λ slots. slot_at slots j) c.self.view_is;
}
