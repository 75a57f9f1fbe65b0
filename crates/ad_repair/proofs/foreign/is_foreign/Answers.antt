-- What is foreign to the rest of a row, by the symbols that matter.
use Rattle.std.proofs.Common.{◌≡◌, ◌<◌, ◌∙◌, ℕ, false, refl, IsTrue, IsFalse, inl, inr, length, sym, subst, ap, rules}
use Rattle.ad_bits.specs.Rows.{has}
use Rattle.ad_theory.specs.Numbers.{among}
use Rattle.ad_theory.proofs.Members.{either, not_both}
use Rattle.ad_repair.specs.Changes.{theory_of, change_of}
use Rattle.ad_repair.proofs.ForeignLemmas.{foreign, none_foreign, held_rest, rest_held}
use Rattle.ad_repair.proofs.TouchLemmas.{held_near}
use Rattle.ad_repair.proofs.foreign.is_foreign.Goals as goal

pub returns-then-not-calm-clause-answer : goal.returns-then-not-calm-clause-answer
returns-then-not-calm-clause-answer g c = λ before removed added slots size is stay live.
    let u = c.args.new.now in
    let change = change_of before (theory_of (g.U.Universe.symbols_of u) (g.U.Universe.is_local u) (g.U.Universe.is_live u)) removed added slots in
    let below : (k : ℕ) → IsTrue (change.added k) → k < slots = (λ k t. subst (λ n. k < n) (sym size) (g.met.U.Universe.live_below u k (c.requires.live k (is.added k ∙ t)))) in
    let other : IsFalse c.args.calm = search rules in
    let o = c.requires.other other in
    sym (foreign change c.args.touched.now is below c.args.slot stay c.args.row.now (c.requires.row ∙ sym size) live c.args.side (g.met.U.Universe.antitone u c.args.side)
    (λ _. false) (λ a s new h v. absurd (not_both v refl)) o.0 (sym (is.added o.0) ∙ o.1) o.2)

pub returns-then-not-is_held-clause-answer : goal.returns-then-not-is_held-clause-answer
returns-then-not-is_held-clause-answer g c = λ before removed added slots size is stay live.
    let u = c.args.new.now in
    let change = change_of before (theory_of (g.U.Universe.symbols_of u) (g.U.Universe.is_local u) (g.U.Universe.is_live u)) removed added slots in
    let below : (k : ℕ) → IsTrue (change.added k) → k < slots = (λ k t. subst (λ n. k < n) (sym size) (g.met.U.Universe.live_below u k (c.requires.live k (is.added k ∙ t)))) in
    let calm : IsTrue c.args.calm = search rules in
    let none : IsFalse c.is_held.result = search rules in
    let long : length c.args.row.now ≡ slots = c.requires.row ∙ sym size in
    sym (none_foreign change c.args.touched.now is below c.args.slot stay c.args.row.now long live c.args.side (g.met.U.Universe.antitone u c.args.side) (λ _. false)
    (λ a s new h r.
    let q = rest_held change c.args.touched.now is below c.args.slot stay c.args.row.now long live a s new h r in
    absurd (not_both (c.is_held.ensures.1 (held_near c.args.touched.now (length c.args.touched.now.symbols.items) is.near q.0 c.args.slot c.args.row.now q.1 q.3)) none))
    (λ a new. c.requires.calm calm a (is.added a ∙ new)))

pub returns-clause-answer : goal.returns-clause-answer
returns-clause-answer g c = λ before removed added slots size is stay live.
    let u = c.args.new.now in
    let change = change_of before (theory_of (g.U.Universe.symbols_of u) (g.U.Universe.is_local u) (g.U.Universe.is_live u)) removed added slots in
    let below : (k : ℕ) → IsTrue (change.added k) → k < slots = (λ k t. subst (λ n. k < n) (sym size) (g.met.U.Universe.live_below u k (c.requires.live k (is.added k ∙ t)))) in
    let long : length c.args.row.now ≡ slots = c.requires.row ∙ sym size in
    let seen = c.see.new.seen in
    let looked = c.see.ensures.seen in
    let listed : (k : ℕ) → among c.deref.result.now k ≡ change.added k = (λ k. ap (λ l. among l k) c.deref.ensures.value ∙ is.added k) in
    elim (either c.finds_foreign.result) [
      | inl t ↦ (
          let o = c.finds_foreign.ensures.some t in
          t ∙ sym (foreign change c.args.touched.now is below c.args.slot stay c.args.row.now long live c.args.side (g.met.U.Universe.antitone u c.args.side) (has seen)
          (λ a s new h v. let q = looked.only s v in held_rest change c.args.touched.now is below c.args.slot stay c.args.row.now long live s q.0 q.1 q.2 q.3)
          o.0 (sym (listed o.0) ∙ o.1) o.2))
      | inr f ↦ (
          let all = c.finds_foreign.ensures.none f in
          f ∙ sym (none_foreign change c.args.touched.now is below c.args.slot stay c.args.row.now long live c.args.side (g.met.U.Universe.antitone u c.args.side) (has seen)
          (λ a s new h r.
          let q = rest_held change c.args.touched.now is below c.args.slot stay c.args.row.now long live a s new h r in
          subst (λ z. IsTrue (has seen z)) q.2 (looked.held q.0 q.1 q.3))
          (λ a new. all a (listed a ∙ new))))
    ]
