use Rattle.std.proofs.Common.{◌≤◌, length, [], ◌∷◌, ◌+◌, ◌-◌, ◌*◌, drop}
use Rattle.ad_lex.specs.Lexemes.{lexemes}
use Rattle.ad_check.specs.Reads.{Leads}
use Rattle.ad_check.specs.declared.items.Symbol.TheVariants as it
use Rattle.ad_check.proofs.check.+check.Given as goal

abbrev pub decreases-check : goal.decreases-check
decreases-check l = 5 * (length l.tokens.now - l.from)

abbrev pub decreases-check_tail : goal.decreases-check_tail
decreases-check_tail l = 5 * (length l.tokens.now - l.from) + 1

abbrev pub decreases-check_filler : goal.decreases-check_filler
decreases-check_filler l = 5 * (length l.tokens.now - l.from) + 1

abbrev pub decreases-check_maybe : goal.decreases-check_maybe
decreases-check_maybe l = 5 * (length l.tokens.now - l.from) + 1

abbrev pub decreases-check_star : goal.decreases-check_star
decreases-check_star l = 5 * (length l.tokens.now - l.from) + 1

abbrev pub decreases-check_until : goal.decreases-check_until
decreases-check_until l = 5 * (length l.tokens.now - l.from) + 1

abbrev pub decreases-check_body : goal.decreases-check_body
decreases-check_body l = 5 * (length l.tokens.now - l.from) + 2

abbrev pub decreases-check_item : goal.decreases-check_item
decreases-check_item l = 5 * (length l.tokens.now - l.from) + 3

abbrev pub decreases-check_items : goal.decreases-check_items
decreases-check_items l = 5 * (length l.tokens.now - l.from) + 4

abbrev pub invariant-check_items-loop-item : goal.invariant-check_items-loop-item
invariant-check_items-loop-item l = record {
  order : l.from ≤ l.at;
  within : l.at ≤ length l.tokens;
  leads : Leads (lexemes l.text l.tokens) (drop l.item-index l.items) l.at l.items l.from;
}

abbrev pub invariant-check_star-loop-token : goal.invariant-check_star-loop-token
invariant-check_star-loop-token l = record {
  order : l.from ≤ l.at;
  within : l.at ≤ length l.tokens;
  leads : Leads (lexemes l.text l.tokens) (it.Star l.kind ∷ []) l.at (it.Star l.kind ∷ []) l.from;
}

abbrev pub decreases-check_star-loop-token : goal.decreases-check_star-loop-token
decreases-check_star-loop-token l = length l.tokens - l.at

abbrev pub invariant-check_until-loop-token : goal.invariant-check_until-loop-token
invariant-check_until-loop-token l = record {
  order : l.from ≤ l.at;
  within : l.at ≤ length l.tokens;
  leads : Leads (lexemes l.text l.tokens) (it.Until l.kind ∷ []) l.at (it.Until l.kind ∷ []) l.from;
}

abbrev pub decreases-check_until-loop-token : goal.decreases-check_until-loop-token
decreases-check_until-loop-token l = length l.tokens - l.at
