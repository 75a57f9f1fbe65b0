-- By what the search for the two bytes answers.
use Rattle.std.proofs.Common.{◌≡◌, ℕ, List, ◌∷◌, [], ◌++◌, ◌<◌, length, take, drop, Option, None, Some, IfSome, IfNone}
use Rattle.memchr.specs.Find.{IsFirstByte, is_byte2}
use Rattle.ad_write.specs.Canonical.{escaped}
use Rattle.ad_write.proofs.Escapes as escapes
use Rattle.ad_write.proofs.literals.first_escaped.Goals as goal

found : (text : List ℕ) (place : Option ℕ) → IsFirstByte (is_byte2 34 92) text place → IfSome place (λ at. (at < length text) × (escaped text ≡ ((take at text ++ 92 ∷ []) ++ take 1 (drop at text)) ++ escaped (drop 1 (drop at text))))
found text None h = tt
found text (Some at) h = (h.0.high, escapes.first_escaped text at h.0.high h.0.before h.1)

none : (text : List ℕ) (place : Option ℕ) → IsFirstByte (is_byte2 34 92) text place → IfNone place (escaped text ≡ text)
none text None h = escapes.none_escaped text h
none text (Some at) h = tt

pub returns-clause-found : goal.returns-clause-found
returns-clause-found c = found c.args.text.now c.memchr2.result c.memchr2.ensures

pub returns-clause-none : goal.returns-clause-none
returns-clause-none c = none c.args.text.now c.memchr2.result c.memchr2.ensures
