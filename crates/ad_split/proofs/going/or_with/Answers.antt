use Rattle.std.proofs.Common.{◌<◌, ◌||◌, ℕ, Option, IfSome, sym, subst}
use Rattle.ad_split.specs.Going.{Tells}
use Rattle.ad_split.specs.Slots.{is_number_in}
use Rattle.ad_split.proofs.GoingLemmas.{or_none}
use Rattle.ad_split.proofs.going.or_with.Goals as goal

pub returns-in-Some : goal.returns-in-Some
returns-in-Some c numbers test =
    let P : Option ℕ → Type 0 = λ o. IfSome o (λ n. n < numbers) → Tells numbers test c.args.going → Tells numbers (λ closure. test closure || is_number_in closure o) c.or_number.result in
    subst P (sym c.in-Some.is) (c.or_number.ensures numbers test)

pub returns-in-None : goal.returns-in-None
returns-in-None c numbers test =
    let P : Option ℕ → Type 0 = λ o. IfSome o (λ n. n < numbers) → Tells numbers test c.args.going → Tells numbers (λ closure. test closure || is_number_in closure o) c.args.going in
    subst P (sym c.in-None.is) (λ below tells. or_none numbers test c.args.going tells)
