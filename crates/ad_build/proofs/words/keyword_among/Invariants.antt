use Rattle.std.proofs.Common.{◌≡◌, drop, map}
use Rattle.ad_build.specs.Words.{keyword_among}
use Rattle.ad_build.proofs.words.keyword_among.Given as goal

abbrev pub invariant-loop-keyword : goal.invariant-loop-keyword
invariant-loop-keyword l = keyword_among (map (λ k. (k.0.now, k.1)) (drop l.keyword-index l.keywords)) l.word ≡ keyword_among (map (λ k. (k.0.now, k.1)) l.keywords) l.word
