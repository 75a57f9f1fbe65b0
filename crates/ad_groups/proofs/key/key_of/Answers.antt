-- Sorting and taking out what stands twice keeps the members.
use Rattle.std.proofs.Common.{eqb, subst, sym}
use Rattle.std.specs.List.Sorted.{IsPermutation}
use Rattle.std.specs.Cmp.{unsigned_ties, nat_cmp_total}
use Rattle.std.proofs.lemmas.List.Filters.{dedup_is}
use Rattle.std.proofs.lemmas.List.Kept.{IsStrictlySortedBy-dedup, Contains-dedup_nat, Contains-from_dedup}
use Rattle.std.proofs.lemmas.List.Sorted.{Contains-permutation, IsPermutation-sym}
use Rattle.ad_groups.specs.Keys.{IsKeyOf}
use Rattle.ad_groups.proofs.key.key_of.Goals as goal

pub returns : goal.returns
returns c =
    let xs = c.args.symbols.now in
    let copy = c.in_ok-key.ensures.items_if_clones_equal (λ x y e. e) in
    let sorted = c.sort_unstable.new.self.items in
    let moves = subst (λ l. IsPermutation l sorted) copy c.sort_unstable.ensures.permutation in
    let kept = dedup_is eqb sorted c.dedup.new.self.items c.dedup.ensures.filtered in
    subst (λ l. IsKeyOf xs l) (sym kept) (record {
      rises = IsStrictlySortedBy-dedup nat_cmp_total unsigned_ties sorted c.sort_unstable.ensures.sorted;
      members = λ s. (
        (λ h. Contains-dedup_nat sorted s (Contains-permutation xs sorted s moves h)),
        (λ h. Contains-permutation sorted xs s (IsPermutation-sym xs sorted moves) (Contains-from_dedup eqb sorted s h)),
      );
    })
