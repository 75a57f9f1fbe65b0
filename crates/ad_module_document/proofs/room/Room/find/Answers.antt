use Rattle.std.proofs.Common.{List, Option, IsTrue, subst}
use Rattle.ad_bits.specs.Rows.{has}
use Rattle.ad_slots.specs.Held.{Held}
use Rattle.ad_slots.specs.Places.{is_held, held_symbols, is_held_local}
use Rattle.ad_theory.specs.Numbers.{IsNumberedModule}
use Rattle.ad_module_document.proofs.room.Room.find.Goals as goal

pub returns-clause-found : goal.returns-clause-found
returns-clause-found g c = record {
  numbers = has c.mark_seed.new.row;
  numbered = c.mark_seed.ensures.numbers;
  is = subst (λ (held : List (Option Held)). IsNumberedModule c.args.kind (held_symbols held) (is_held_local held) (has c.mark_seed.new.row) (λ i. IsTrue (is_held held i)) (has c.module.new.out) (has c.module.new.closure))
      c.universe.ensures.held c.module.ensures.found;
}
