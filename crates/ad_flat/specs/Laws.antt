-- What holds of the slots: bounds that a universe owes.
use Rattle.std.specs.Prelude.{◌<◌, ◌≤◌, ℕ, IsTrue, length, vec_len}
use Rattle.std.proofs.Common.{arith}
use Rattle.ad_theory.specs.Numbers.{among}
use Rattle.ad_slots.specs.Places.{is_held, held_symbols}
use Rattle.ad_slots.proofs.PlaceLemmas.{held_within}
use Rattle.ad_flat.specs.declared.slots.Slots.{Slots}

pub live_below : (slots : Slots) (i : ℕ) → IsTrue (is_held slots.entries i) → i < slots.most
live_below slots i live = let below : i < length slots.entries = held_within slots.entries i live in let within : length slots.entries ≤ slots.most = slots.within in omega arith

pub symbols_below : (slots : Slots) (i s : ℕ) → IsTrue (among (held_symbols slots.entries i) s) → s < slots.symbols
symbols_below slots i s t = let below : s < vec_len slots.occurrences = slots.below i s t in let within : vec_len slots.occurrences ≤ slots.symbols = slots.lists_within in omega arith
