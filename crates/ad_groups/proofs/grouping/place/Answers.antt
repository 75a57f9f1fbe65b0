-- One slot more is grouped: it is not wanted, or its key is known, or it is new.
use Rattle.std.proofs.Common.{◌+◌, List, [], ◌∷◌, ◌++◌, Some, ℕ, inl, inr, sym, subst, IsTrue, rules}
use Rattle.ad_bits.specs.Rows.{has}
use Rattle.ad_groups.specs.Keys.{IsKeyOf, value_at}
use Rattle.ad_groups.specs.Groups.{AreGroups, AreKnown}
use Rattle.ad_groups.proofs.GroupLemmas.{unwanted_placed, old_placed, new_placed, known_again, known_same, unknown_none, known_new}
use Rattle.ad_groups.proofs.grouping.place.Goals as goal

pub returns-then-not-has : goal.returns-then-not-has
returns-then-not-has g c = λ groups are known. (unwanted_placed _ _ c.args.slot groups c.args.firsts.now.items are (search rules), known)

pub returns : goal.returns
returns g c = λ groups are known.
    let symbols = g.U.Universe.symbols_of c.args.universe.now in
    let wanted = has c.args.wanted.now in
    let n = c.args.slot in
    let firsts = c.args.firsts.now.items in
    let after = c.group_of.new.firsts.items in
    let old = value_at c.args.known.now in
    let new = value_at c.group_of.new.known in
    let key = c.in_ok-key.key.items in
    let group = c.in_ok-group.group in
    let is_key = subst (λ l. IsKeyOf l key) c.signature.ensures c.in_ok-key.ensures in
    let updates = c.in_ok-group.ensures.known in
    let is_wanted : IsTrue (wanted n) = search rules in
    let Placed : ℕ → List ℕ → Type 0 = λ k l. AreGroups symbols wanted (n + 1) (groups ++ Some k ∷ []) l × AreKnown symbols new l in
    elim c.in_ok-group.ensures.group [
      | inl h ↦ (
          let like = known_same symbols old new firsts key group n is_key updates known h.0 in
          subst (λ l. Placed group l) (sym h.1) (
            old_placed symbols wanted n groups firsts are is_wanted group like.0 like.1,
            known_again symbols old new firsts key group n is_key updates known h.0,
          ))
      | inr h ↦ subst (λ l. Placed group l) (sym h.2) (
        subst (λ k. AreGroups symbols wanted (n + 1) (groups ++ Some k ∷ []) (firsts ++ n ∷ [])) (sym h.1)
            (new_placed symbols wanted n groups firsts are is_wanted (unknown_none symbols old new firsts key group n is_key updates known h.0)),
        known_new symbols old new firsts key group n is_key updates known h.0 h.1,
      )
    ]
