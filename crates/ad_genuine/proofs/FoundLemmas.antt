-- What was found in parts, put together.
use Rattle.std.proofs.Common.{◌≡◌, ◌+◌, ◌++◌, ℕ, ◌*◌, ◌<◌, ◌≤◌, ◌^◌, Bool, List, [], ◌∷◌, length, refl, sym, subst, ap, ◌∙◌, append-nil, length-append, arith, inl, inr}
use Rattle.std.specs.List.{AllZip, flat_map, sum_by}
use Rattle.std.proofs.lemmas.Grind.{flat_map-append}
use Rattle.std.proofs.lemmas.List.Sums.{sum_by-append, sum_by-cons}
use Rattle.rayon.proofs.ListFacts.{AllZip-append}
use Rattle.ad_base.specs.declared.limits.Kind.{Kind}
use Rattle.ad_base.specs.declared.limits.Kind.TheVariants.{Bottom, Top, Star}
use Rattle.ad_base.specs.declared.limits.Side.TheVariants as sides
use Rattle.ad_joined.specs.Searched.{IsSideRow}
use Rattle.ad_theory.specs.Numbers.{logic_of}
use Rattle.ad_base.specs.declared.limits.Side.{Side}
use Rattle.ad_theory.specs.Tally.{IsRaisedBy}
use Rattle.ad_genuine.specs.declared.found.Found.{Found}
use Rattle.ad_genuine.specs.Found.{AreFound, rows_of_kind, runs_of}
use Rattle.ad_groups.specs.GenuineRows.{IsGenuineRow}

-- two lists that are zipped by a fact are so by one that follows from it
zip_map : {X Y : Type 0} {R S : X → Y → Type 0} → ((x : X) (y : Y) → R x y → S x y) → (xs : List X) (ys : List Y) → AllZip R xs ys → AllZip S xs ys
zip_map f [] [] h = tt
zip_map f [] (y ∷ ys) h = absurd h
zip_map f (x ∷ xs) [] h = absurd h
zip_map f (x ∷ xs) (y ∷ ys) h = (f x y h.0, zip_map f xs ys h.1)

module _ (symbols : ℕ → List ℕ) (local : Side → (ℕ → Bool) → ℕ → Bool) (live : ℕ → Bool) (slots : ℕ) where
  -- the rows of the two sides and of star modules are those of genuine modules
  pub found_rows : (of : List ℕ) (found : Found)
      → AllZip (IsSideRow (logic_of symbols (local sides.Bottom)) live slots) of (rows_of_kind found Bottom)
      → AllZip (IsSideRow (logic_of symbols (local sides.Top)) live slots) of (rows_of_kind found Top)
      → AllZip (IsGenuineRow symbols local live slots Star) of (rows_of_kind found Star)
      → (kind : Kind) → AllZip (IsGenuineRow symbols local live slots kind) of (rows_of_kind found kind)
  found_rows of found bottom top star Bottom = zip_map (λ slot row s. record { size = s.size; genuine = s.found }) of (rows_of_kind found Bottom) bottom
  found_rows of found bottom top star Top = zip_map (λ slot row s. record { size = s.size; genuine = s.found }) of (rows_of_kind found Top) top
  found_rows of found bottom top star Star = star

  parts_rows : (kind : Kind) (chunks : List (List ℕ)) (parts : List Found) → AllZip (AreFound symbols local live slots) chunks parts
      → AllZip (IsGenuineRow symbols local live slots kind) (flat_map (λ chunk. chunk) chunks) (flat_map (λ part. rows_of_kind part kind) parts)
  parts_rows kind [] [] h = tt
  parts_rows kind [] (part ∷ parts) h = absurd h
  parts_rows kind (chunk ∷ chunks) [] h = absurd h
  parts_rows kind (chunk ∷ chunks) (part ∷ parts) h =
      AllZip-append (IsGenuineRow symbols local live slots kind) chunk (flat_map (λ l. l) chunks) (rows_of_kind part kind) (flat_map (λ p. rows_of_kind p kind) parts) (h.0.rows kind) (parts_rows kind chunks parts h.1)

  parts_runs : (chunks : List (List ℕ)) (parts : List Found) → AllZip (AreFound symbols local live slots) chunks parts → sum_by runs_of parts ≡ 3 * length (flat_map (λ chunk. chunk) chunks)
  parts_runs [] [] h = refl
  parts_runs [] (part ∷ parts) h = absurd h
  parts_runs (chunk ∷ chunks) [] h = absurd h
  parts_runs (chunk ∷ chunks) (part ∷ parts) h =
      let here = h.0.runs in
      let rest = parts_runs chunks parts h.1 in
      let sum = sum_by-cons runs_of part parts in
      let long = length-append chunk (flat_map (λ l. l) chunks) in
      omega (arith, here, rest, sum, long)

  -- what is put together from parts whose slots are these
  pub joined_found : (of : List ℕ) (chunks : List (List ℕ)) (parts : List Found) (found : Found) → flat_map (λ chunk. chunk) chunks ≡ of → length of ≤ 65536
      → AllZip (AreFound symbols local live slots) chunks parts
      → ((kind : Kind) → rows_of_kind found kind ≡ flat_map (λ part. rows_of_kind part kind) parts)
      → (sum_by runs_of parts < 2 ^ 64 → runs_of found ≡ sum_by runs_of parts)
      → AreFound symbols local live slots of found
  joined_found of chunks parts found whole few each rows runs =
      let count : sum_by runs_of parts ≡ 3 * length of = parts_runs chunks parts each ∙ ap (λ l. 3 * length l) whole in
      record {
        rows = λ kind. subst (λ l. AllZip (IsGenuineRow symbols local live slots kind) l (rows_of_kind found kind)) whole
            (subst (λ l. AllZip (IsGenuineRow symbols local live slots kind) (flat_map (λ l. l) chunks) l) (sym (rows kind)) (parts_rows kind chunks parts each));
        runs = runs (omega (arith, count, few)) ∙ count;
      }

-- ---- one part more, at the end

pub rows-push : (kind : Kind) (parts : List Found) (part : Found) → flat_map (λ p. rows_of_kind p kind) (parts ++ part ∷ []) ≡ flat_map (λ p. rows_of_kind p kind) parts ++ rows_of_kind part kind
rows-push kind parts part =
    let rows = λ (p : Found). rows_of_kind p kind in
    flat_map-append rows parts (part ∷ []) ∙ ap (λ l. flat_map rows parts ++ l) (append-nil (rows part))

pub runs-push : (parts : List Found) (part : Found) → sum_by runs_of (parts ++ part ∷ []) ≡ sum_by runs_of parts + runs_of part
runs-push parts part =
    let all = sum_by-append runs_of parts (part ∷ []) in
    let one = sum_by-cons runs_of part [] in
    omega (arith, all, one)

-- a count that was raised is not less
pub raised-le : (n before after : ℕ) → IsRaisedBy n before after → before ≤ after
raised-le n before after (inl e) = omega (arith, e)
raised-le n before after (inr s) = s.1
