-- One more symbol has its row.
use Rattle.std.proofs.Common.{◌≡◌, ◌<◌, ◌++◌, ◌&&◌, not, Bool, ℕ, List, [], ◌∷◌, length, get_or, sym, subst, ap, ◌∙◌, length-append, rules, arith}
use Rattle.ad_bits.specs.Rows.{has}
use Rattle.ad_theory.specs.Numbers.{among}
use Rattle.ad_repair.proofs.ListLemmas.{among_at, each_more}
use Rattle.ad_repair.proofs.touched.holders_of_each.Goals as goal

pub holders_of-requires-clause-symbol : goal.holders_of-requires-clause-symbol
holders_of-requires-clause-symbol g c = c.requires.symbols _ (among_at c.args.symbols.now c.loop-symbol.symbol-index c.loop-symbol-test.true)

pub loop-symbol-preserved : goal.loop-symbol-preserved
loop-symbol-preserved g c =
    let rows = c.loop-symbol.rows.items in
    let row = c.in_ok-row.row in
    let v = c.loop-symbol.invariant in
    let holder : ℕ → ℕ → Bool = λ t i. among (g.U.Universe.slots_of c.args.universe.now (get_or c.args.symbols.now t 0)) i && not (has c.args.removed.now i) in
    let pushed : c.push.new.self.items ≡ rows ++ row ∷ [] = search rules in
    let here : (i : ℕ) → has row i ≡ holder (length rows) i = (λ i. c.in_ok-row.ensures.members i ∙ ap (λ t. holder t i) (sym v.long)) in
    record {
      long = ap length pushed ∙ omega (arith, length-append rows (row ∷ []), v.long);
      sizes = subst (λ (l : List (List Bool)). (t : ℕ) → t < length l → length (get_or l t []) ≡ g.U.Universe.slot_count c.args.universe.now) (sym pushed)
          (each_more (λ t r. length r ≡ g.U.Universe.slot_count c.args.universe.now) rows row [] v.sizes c.in_ok-row.ensures.size);
      members = subst (λ (l : List (List Bool)). (t i : ℕ) → t < length l → has (get_or l t []) i ≡ holder t i) (sym pushed)
          (λ t i l. each_more (λ k r. (j : ℕ) → has r j ≡ holder k j) rows row [] (λ k s j. v.members k j s) here t l i);
    }
