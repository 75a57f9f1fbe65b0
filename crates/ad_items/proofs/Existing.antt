-- Input is split in some way: what it begins with is found, and then what the rest begins with.
use Rattle.std.proofs.Common.{◌≡◌, ◌≢◌, ◌⊎◌, inl, inr, ℕ, zero, suc, ◌+◌, ◌<◌, ◌≤◌, List, [], ◌∷◌, ◌++◌, Option, None, Some, length, take, drop, refl, sym, ◌∙◌, ap, subst, arith, append_assoc, length-append}
use Rattle.std.specs.Prelude.{flat_map}
use Rattle.std.proofs.lemmas.Bool.{cases_eq, cases_lt}
use Rattle.std.proofs.lemmas.List.{append-nil, length-take, take-append-drop, take-append-le}
use Rattle.ad_request.specs.declared.request.Request.{Request}
use Rattle.ad_request.specs.declared.request.Request.TheVariants.{Load, Edit, Module, Genuine, Atoms, Atom, Export, Stat, Quit}
use Rattle.ad_request.specs.Requests.{Asks, payload_size, request_line}
use Rattle.ad_request.proofs.Asking.{asking}
use Rattle.ad_items.specs.Items.{Bounds, Item, item, item_bytes, IsUnbroken, IsShort, IsItem, Ending, quit, closed, cut, too_long, spent, Closes, InTime, Items, Split, split, SplitsAlways}

-- the first line, or none
record ALine (bytes : List ℕ) : Type 0 where
  line : List ℕ
  rest : List ℕ
  unbroken : IsUnbroken line
  whole : bytes ≡ line ++ 10 ∷ rest

first_line : (bytes : List ℕ) → ALine bytes ⊎ IsUnbroken bytes
first_line [] = inr tt
first_line (b ∷ bytes) = elim (cases_eq b 10) [
  | inl e ↦ inl (record { line = []; rest = bytes; unbroken = tt; whole = ap (λ x. x ∷ bytes) e })
  | inr other ↦ elim (first_line bytes) [
    | inl l ↦ inl (record { line = b ∷ l.line; rest = l.rest; unbroken = (other, l.unbroken); whole = ap (λ t. b ∷ t) l.whole })
    | inr u ↦ inr (other, u)
  ]
]

unbroken_front : (n : ℕ) (bytes : List ℕ) → IsUnbroken bytes → IsUnbroken (take n bytes)
unbroken_front zero bytes u = tt
unbroken_front (suc n) [] u = tt
unbroken_front (suc n) (b ∷ bytes) u = (u.0, unbroken_front n bytes u.1)

-- input begins with an end, or with an item
record AnEnd (bounds : Bounds) (n : ℕ) (bytes : List ℕ) : Type 0 where
  ending : Ending
  taken : List ℕ
  left : List ℕ
  closes : Closes bounds ending taken (Some left)
  in_time : InTime bounds ending n
  whole : bytes ≡ taken ++ left

record AnItem (bounds : Bounds) (bytes : List ℕ) : Type 0 where
  first : Item
  rest : List ℕ
  is : IsItem bounds first
  whole : bytes ≡ item_bytes first ++ rest

long_line : (bounds : Bounds) (n : ℕ) (bytes : List ℕ) → n < bounds.requests → IsUnbroken (take 257 bytes) → 256 < length bytes → AnEnd bounds n bytes
long_line bounds n bytes more unbroken long = record {
  ending = too_long;
  taken = take 257 bytes;
  left = drop 257 bytes;
  closes = inl (record { unbroken = unbroken; long = omega (arith, length-take 257 bytes, long) });
  in_time = more;
  whole = sym (take-append-drop 257 bytes);
}

-- without a line feed
no_line : (bounds : Bounds) (n : ℕ) (bytes : List ℕ) → n < bounds.requests → IsUnbroken bytes → length bytes ≤ 256 → AnEnd bounds n bytes
no_line bounds n [] more unbroken short = record { ending = closed; taken = []; left = []; closes = (refl, refl); in_time = more; whole = refl }
no_line bounds n (b ∷ bytes) more unbroken short = record {
  ending = cut;
  taken = b ∷ bytes;
  left = [];
  closes = (refl, inl (record { unbroken = unbroken; short = short }, λ e. let count : suc (length bytes) ≡ 0 = ap length e in omega (arith, count)));
  in_time = more;
  whole = sym (append-nil (b ∷ bytes));
}

quits_or_not : (r : Request) → (r ≡ Quit) ⊎ (Some r ≢ Some Quit)
quits_or_not (Load n) = inr (λ e. cc)
quits_or_not (Edit n i) = inr (λ e. cc)
quits_or_not (Module k n) = inr (λ e. cc)
quits_or_not (Genuine k n) = inr (λ e. cc)
quits_or_not (Atoms k) = inr (λ e. cc)
quits_or_not (Atom k n) = inr (λ e. cc)
quits_or_not Export = inr (λ e. cc)
quits_or_not Stat = inr (λ e. cc)
quits_or_not Quit = inl refl

module _ (bounds : Bounds) (n : ℕ) (bytes line rest : List ℕ) (more : n < bounds.requests) (short : IsShort line) (whole : bytes ≡ line ++ 10 ∷ rest) where
  apart : bytes ≡ (line ++ 10 ∷ []) ++ rest
  apart = whole ∙ sym (append_assoc line (10 ∷ []) rest)

  -- a line that asks for nothing
  unasked : Asks line None → AnItem bounds bytes
  unasked asks = record {
    first = item line None [];
    rest = rest;
    is = record { short = short; asks = asks; goes_on = λ e. cc; within = omega arith; whole = refl };
    whole = apart;
  }

  quitting : line ≡ request_line Quit → AnEnd bounds n bytes
  quitting e = record { ending = quit; taken = line ++ 10 ∷ []; left = rest; closes = ap (λ t. t ++ 10 ∷ []) e; in_time = more; whole = apart }

  above : (r : Request) → Asks line (Some r) → bounds.payload < payload_size r → AnEnd bounds n bytes
  above r asks over = record {
    ending = too_long;
    taken = line ++ 10 ∷ [];
    left = rest;
    closes = inr (record { line = line; request = r; short = short; asks = asks; above = over; whole = refl });
    in_time = more;
    whole = apart;
  }

  missing : (r : Request) → Asks line (Some r) → payload_size r ≤ bounds.payload → length rest < payload_size r → AnEnd bounds n bytes
  missing r asks within less = record {
    ending = cut;
    taken = line ++ 10 ∷ rest;
    left = [];
    closes = (refl, inr (record { line = line; request = r; part = rest; short = short; asks = asks; within = within; missing = less; whole = refl }));
    in_time = more;
    whole = whole ∙ sym (append-nil (line ++ 10 ∷ rest));
  }

  enough : (r : Request) → Some r ≢ Some Quit → Asks line (Some r) → payload_size r ≤ bounds.payload → payload_size r ≤ length rest → AnItem bounds bytes
  enough r goes_on asks within all = record {
    first = item line (Some r) (take (payload_size r) rest);
    rest = drop (payload_size r) rest;
    is = record { short = short; asks = asks; goes_on = goes_on; within = within; whole = omega (arith, length-take (payload_size r) rest, all) };
    whole =
        whole ∙ ap (λ t. line ++ 10 ∷ t) (sym (take-append-drop (payload_size r) rest)) ∙ sym (append_assoc line (10 ∷ take (payload_size r) rest) (drop (payload_size r) rest));
  }

  asked_for : (r : Request) → Asks line (Some r) → AnEnd bounds n bytes ⊎ AnItem bounds bytes
  asked_for r asks = elim (quits_or_not r) [
    | inl e ↦ inl (quitting (asks.1 ∙ ap request_line e))
    | inr goes_on ↦ elim (cases_lt bounds.payload (payload_size r)) [
      | inl over ↦ inl (above r asks over)
      | inr within ↦ elim (cases_lt (length rest) (payload_size r)) [ inl less ↦ inl (missing r asks within less) | inr all ↦ inr (enough r goes_on asks within all) ]
    ]
  ]

  by_line : (asked : Option Request) → Asks line asked → AnEnd bounds n bytes ⊎ AnItem bounds bytes
  by_line None asks = inr (unasked asks)
  by_line (Some r) asks = asked_for r asks

begins : (bounds : Bounds) (n : ℕ) (bytes : List ℕ) → n < bounds.requests → AnEnd bounds n bytes ⊎ AnItem bounds bytes
begins bounds n bytes more = elim (first_line bytes) [
  | inl l ↦ elim (cases_lt 256 (length l.line)) [
    | inl long ↦ (
        let front : take 257 l.line ≡ take 257 bytes = sym (take-append-le 257 l.line (10 ∷ l.rest) (omega (arith, long))) ∙ ap (take 257) (sym l.whole) in
        inl (long_line bounds n bytes more (subst IsUnbroken front (unbroken_front 257 l.line l.unbroken)) (omega (arith, long, ap length l.whole, length-append l.line (10 ∷ l.rest)))))
    | inr short ↦ (
        let a = asking l.line in
        by_line bounds n bytes l.line l.rest more (record { unbroken = l.unbroken; short = short }) l.whole a.asked a.asks)
  ]
  | inr u ↦ elim (cases_lt 256 (length bytes)) [
    | inl long ↦ inl (long_line bounds n bytes more (unbroken_front 257 bytes u) long)
    | inr short ↦ inl (no_line bounds n bytes more u short)
  ]
]

-- a split of the whole input
record Splits (bounds : Bounds) (n : ℕ) (bytes : List ℕ) : Type 0 where
  split_as : Split
  is : Items bounds n bytes split_as.items split_as.ending split_as.taken split_as.left

ends_here : (bounds : Bounds) (n : ℕ) (bytes : List ℕ) → AnEnd bounds n bytes → Splits bounds n bytes
ends_here bounds n bytes e = record {
  split_as = split [] e.ending e.taken e.left;
  is = record {
    items_are = record { each = tt; room = inl refl };
    closes = e.closes;
    in_time = let k : n ≡ n + 0 = omega arith in subst (λ m. InTime bounds e.ending m) k e.in_time;
    whole = e.whole;
  };
}

goes_on_with : (bounds : Bounds) (n : ℕ) (bytes : List ℕ) → n < bounds.requests → (first : AnItem bounds bytes) → Splits bounds (n + 1) first.rest → Splits bounds n bytes
goes_on_with bounds n bytes more first rest =
    let s = rest.split_as in
    record {
      split_as = split (first.first ∷ s.items) s.ending s.taken s.left;
      is = record {
        items_are = record {
          each = (first.is, rest.is.items_are.each);
          room = elim rest.is.items_are.room [
            | inl none ↦ inr (let count : length s.items ≡ 0 = ap length none in omega (arith, count, more))
            | inr few ↦ inr (omega (arith, few))
          ];
        };
        closes = rest.is.closes;
        in_time = let k : (n + 1) + length s.items ≡ n + suc (length s.items) = omega arith in subst (λ m. InTime bounds s.ending m) k rest.is.in_time;
        whole = first.whole ∙ ap (λ t. item_bytes first.first ++ t) rest.is.whole ∙ sym (append_assoc (item_bytes first.first) (flat_map item_bytes s.items) (s.taken ++ s.left));
      };
    }

-- the rest is shorter
rest_shorter : (bounds : Bounds) (bytes : List ℕ) (first : AnItem bounds bytes) → length first.rest < length bytes
rest_shorter bounds bytes first =
    omega (arith, ap length first.whole, length-append (item_bytes first.first) first.rest, length-append first.first.line (10 ∷ first.first.payload))

spends : (bounds : Bounds) (n : ℕ) (bytes : List ℕ) → bounds.requests ≤ n → Splits bounds n bytes
spends bounds n bytes all = ends_here bounds n bytes (record { ending = spent; taken = []; left = bytes; closes = refl; in_time = all; whole = refl })

splits_within : (fuel : ℕ) (bounds : Bounds) (n : ℕ) (bytes : List ℕ) → length bytes < fuel → Splits bounds n bytes
splits_within zero bounds n bytes few = absurd (omega arith)
splits_within (suc fuel) bounds n bytes few = elim (cases_lt n bounds.requests) [
  | inr all ↦ spends bounds n bytes all
  | inl more ↦ elim (begins bounds n bytes more) [
    | inl e ↦ ends_here bounds n bytes e
    | inr first ↦ goes_on_with bounds n bytes more first (splits_within fuel bounds (n + 1) first.rest (omega (arith, rest_shorter bounds bytes first)))
  ]
]

pub splits_always : SplitsAlways
splits_always bounds n bytes = let s = splits_within (suc (length bytes)) bounds n bytes (omega arith) in (s.split_as, s.is)
