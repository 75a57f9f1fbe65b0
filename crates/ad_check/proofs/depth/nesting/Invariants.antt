use Rattle.std.proofs.Common.{◌≡◌, ℕ, ◌≤◌, ◌+◌, List, length, drop}
use Rattle.ad_lex.specs.Lexemes.{lexemes}
use Rattle.ad_grammar.specs.Nesting as depth
use Rattle.ad_check.proofs.depth.nesting.Given as goal

abbrev pub invariant-loop-at : goal.invariant-loop-at
invariant-loop-at l = record {
  within : l.at ≤ length l.list;
  few : l.depth + l.at ≤ length l.list;
  counted : (text : List ℕ) → l.depth ≡ depth.nesting (drop l.at (lexemes text l.list));
}

abbrev pub decreases-loop-at : goal.decreases-loop-at
decreases-loop-at l = l.at
