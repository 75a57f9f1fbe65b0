use Rattle.std.proofs.Common.{IsTrue}
use Rattle.ad_theory.proofs.GenuineLemmas.{side_nested, star_nested, listed_nested}
use Rattle.ad_theory.proofs.laws.nested.Goals as goal

pub returns-clause-side : goal.returns-clause-side
returns-clause-side g c L O M N seed S R a m t n b h = side_nested {L = L} {b = a} (λ e s. s) m t n b h

pub returns-clause-star : goal.returns-clause-star
returns-clause-star g c B T O M N seed a same m t n b h = star_nested B T same seed (λ d. IsTrue (O d)) a M N m t n b h

pub returns-clause-listed : goal.returns-clause-listed
returns-clause-listed g c kind B T O M N seed a same m o n b h = listed_nested B T same kind seed O a M N m o n b h
