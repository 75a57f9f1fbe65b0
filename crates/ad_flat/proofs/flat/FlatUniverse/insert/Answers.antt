use Rattle.std.proofs.Common.{◌≤◌, length, sym, ap, ◌∙◌, arith}
use Rattle.ad_locality.specs.Signature.{occurrences}
use Rattle.ad_slots.specs.Places.{is_held, least_free}
use Rattle.ad_slots.proofs.PlaceLemmas.{least_is_free, least_within}
use Rattle.ad_flat.proofs.NumberLemmas.{entity_of}
use Rattle.ad_flat.proofs.flat.FlatUniverse.insert.Goals as goal

pub put-requires-clause-vacant : goal.put-requires-clause-vacant
put-requires-clause-vacant g c = ap (is_held c.args.self.now.slots.entries) c.next-i.ensures ∙ least_is_free c.args.self.now.slots.entries

pub put-requires-clause-next : goal.put-requires-clause-next
put-requires-clause-next g c =
    let l : least_free c.args.self.now.slots.entries ≤ length c.args.self.now.slots.entries = least_within c.args.self.now.slots.entries in
    omega (arith, c.next-i.ensures)

pub put-requires-clause-below : goal.put-requires-clause-below
put-requires-clause-below g c = λ s t.
    let e = entity_of (g.N.Naming.number_of c.args.names.now) (occurrences c.args.noted.now.axiom) s (sym (c.in_ok-slot.ensures.symbols s) ∙ t) in
    c.requires.named e.0 s e.1 e.2
