-- How input begins says what its first item, or its end, is. So it is split in one way only.
use Rattle.std.proofs.Common.{◌≡◌, ◌≢◌, inl, inr, ℕ, zero, suc, ◌+◌, ◌<◌, ◌≤◌, Bool, true, false, cond, List, [], ◌∷◌, ◌++◌, Option, None, Some, length, take, drop, refl, sym, ◌∙◌, ap, subst, arith, length-append, append_assoc}
use Rattle.std.specs.Prelude.{nat_lt, flat_map}
use Rattle.std.proofs.lemmas.List.{append-nil}
use Rattle.std.proofs.Math.Seq.{take-append_seam, drop-append_seam}
use Rattle.std.proofs.lemmas.Bool.{lt-ltb, le-ltb}
use Rattle.ad_request.specs.declared.request.Request.{Request}
use Rattle.ad_request.specs.declared.request.Request.TheVariants.{Load, Edit, Module, Genuine, Atoms, Atom, Export, Stat, Quit}
use Rattle.ad_request.specs.Requests.{Asks, payload_size, request_line}
use Rattle.ad_request.proofs.LineLemmas.{asks_once}
use Rattle.ad_items.specs.Items.{Bounds, Item, item, item_bytes, size_of, IsUnbroken, IsShort, IsItem, Ending, quit, closed, cut, too_long, spent, IsCutPayload, IsAboveBound, IsLongLine, Closes, InTime, AreItems, Items, Split, split, SplitsOnce}

-- how input begins, where n items were answered before
data Face : Type 0 where
  full : (bytes : List ℕ) → Face
  lined : (line : List ℕ) (asked : Option Request) (rest : List ℕ) → Face
  unlined : (bytes : List ℕ) → Face
  long : (bytes : List ℕ) → Face

abbrev IsFace : Bounds → ℕ → List ℕ → Face → Type 0
IsFace bounds n bytes (full same) = (bounds.requests ≤ n) × (bytes ≡ same)
IsFace bounds n bytes (lined line asked rest) = (n < bounds.requests) × IsShort line × Asks line asked × (bytes ≡ line ++ 10 ∷ rest)
IsFace bounds n bytes (unlined same) = (n < bounds.requests) × IsShort bytes × (bytes ≡ same)
IsFace bounds n bytes (long same) = (n < bounds.requests) × IsUnbroken (take 257 bytes) × (257 ≤ length bytes) × (bytes ≡ same)

-- a line feed ends a line
lines_once : (a b r s : List ℕ) → IsUnbroken a → IsUnbroken b → a ++ 10 ∷ r ≡ b ++ 10 ∷ s → (a ≡ b) × (r ≡ s)
lines_once [] [] r s u v e = (refl, cc)
lines_once [] (y ∷ b) r s u v e = absurd (v.0 (cc))
lines_once (x ∷ a) [] r s u v e = absurd (u.0 (cc))
lines_once (x ∷ a) (y ∷ b) r s u v e =
    let tails : a ++ 10 ∷ r ≡ b ++ 10 ∷ s = cc in
    let more = lines_once a b r s u.1 v.1 tails in
    (let heads : x ≡ y = cc in let m : a ≡ b = more.0 in cc, more.1)

-- what has no line feed among its first bytes has no shorter line
no_line : (n : ℕ) (a r bytes : List ℕ) → IsUnbroken (take n bytes) → length a < n → bytes ≡ a ++ 10 ∷ r → ⊥
no_line zero a r bytes u l e = omega arith
no_line (suc n) [] r [] u l e = cc
no_line (suc n) [] r (y ∷ bytes) u l e = u.0 (cc)
no_line (suc n) (x ∷ a) r [] u l e = cc
no_line (suc n) (x ∷ a) r (y ∷ bytes) u l e = no_line n a r bytes u.1 (omega arith) (cc)

unbroken_line : (a r bytes : List ℕ) → IsUnbroken bytes → bytes ≡ a ++ 10 ∷ r → ⊥
unbroken_line [] r [] u e = cc
unbroken_line [] r (y ∷ bytes) u e = u.0 (cc)
unbroken_line (x ∷ a) r [] u e = cc
unbroken_line (x ∷ a) r (y ∷ bytes) u e = unbroken_line a r bytes u.1 (cc)

face_once : (bounds : Bounds) (n : ℕ) (bytes : List ℕ) (one other : Face) → IsFace bounds n bytes one → IsFace bounds n bytes other → one ≡ other
face_once bounds n bytes (full same) (full same') a b = ap full (sym a.1 ∙ b.1)
face_once bounds n bytes (full here) (lined line asked rest) a b = absurd (omega (arith, a.0, b.0))
face_once bounds n bytes (full here) (unlined same) a b = absurd (omega (arith, a.0, b.0))
face_once bounds n bytes (full here) (long same) a b = absurd (omega (arith, a.0, b.0))
face_once bounds n bytes (lined line asked rest) (full here) a b = absurd (omega (arith, a.0, b.0))
face_once bounds n bytes (lined line asked rest) (lined line' asked' rest') a b =
    let same = lines_once line line' rest rest' a.1.unbroken b.1.unbroken (sym a.3 ∙ b.3) in
    let l : line ≡ line' = same.0 in
    let r : rest ≡ rest' = same.1 in
    let q : asked ≡ asked' = asks_once line' asked asked' (subst (λ x. Asks x asked) l a.2) b.2 in
    cc
face_once bounds n bytes (lined line asked rest) (unlined same) a b = absurd (unbroken_line line rest bytes b.1.unbroken a.3)
face_once bounds n bytes (lined line asked rest) (long same) a b = absurd (no_line 257 line rest bytes b.1 (omega (arith, a.1.short)) a.3)
face_once bounds n bytes (unlined same) (full here) a b = absurd (omega (arith, a.0, b.0))
face_once bounds n bytes (unlined same) (lined line asked rest) a b = absurd (unbroken_line line rest bytes a.1.unbroken b.3)
face_once bounds n bytes (unlined same) (unlined same') a b = ap unlined (sym a.2 ∙ b.2)
face_once bounds n bytes (unlined same) (long same') a b = absurd (omega (arith, a.1.short, b.2))
face_once bounds n bytes (long same) (full here) a b = absurd (omega (arith, a.0, b.0))
face_once bounds n bytes (long same) (lined line asked rest) a b = absurd (no_line 257 line rest bytes a.1 (omega (arith, b.1.short)) b.3)
face_once bounds n bytes (long same) (unlined same') a b = absurd (omega (arith, b.1.short, a.2))
face_once bounds n bytes (long same) (long same') a b = ap long (sym a.3 ∙ b.3)

-- what comes first: an item with what is behind it, or an end with what is left
data First : Type 0 where
  an_item : (i : Item) (rest : List ℕ) → First
  an_end : (ending : Ending) (taken left : List ℕ) → First

abbrev is_quit : Option Request → Bool
is_quit None = false
is_quit (Some (Load n)) = false
is_quit (Some (Edit n i)) = false
is_quit (Some (Module k n)) = false
is_quit (Some (Genuine k n)) = false
is_quit (Some (Atoms k)) = false
is_quit (Some (Atom k n)) = false
is_quit (Some Export) = false
is_quit (Some Stat) = false
is_quit (Some Quit) = true

no_quit : (asked : Option Request) → asked ≢ Some Quit → is_quit asked ≡ false
no_quit None h = refl
no_quit (Some (Load n)) h = refl
no_quit (Some (Edit n i)) h = refl
no_quit (Some (Module k n)) h = refl
no_quit (Some (Genuine k n)) h = refl
no_quit (Some (Atoms k)) h = refl
no_quit (Some (Atom k n)) h = refl
no_quit (Some Export) h = refl
no_quit (Some Stat) h = refl
no_quit (Some Quit) h = absurd (h refl)

-- behind a line with a payload of this size
first_behind : Bounds → List ℕ → Option Request → ℕ → List ℕ → First
first_behind bounds line asked size rest = cond (nat_lt bounds.payload size) (an_end too_long (line ++ 10 ∷ []) rest) (cond (nat_lt (length rest) size) (an_end cut (line ++ 10 ∷ rest) []) (an_item (item line asked (take size rest)) (drop size rest)))

abbrev first_of : Bounds → Face → First
first_of bounds (full bytes) = an_end spent [] bytes
first_of bounds (lined line asked rest) = cond (is_quit asked) (an_end quit (line ++ 10 ∷ []) rest) (first_behind bounds line asked (size_of asked) rest)
first_of bounds (unlined []) = an_end closed [] []
first_of bounds (unlined (b ∷ bytes)) = an_end cut (b ∷ bytes) []
first_of bounds (long bytes) = an_end too_long (take 257 bytes) (drop 257 bytes)

-- a face of input that begins with what is said
record Faces (bounds : Bounds) (n : ℕ) (bytes : List ℕ) (first : First) : Type 0 where
  face : Face
  is : IsFace bounds n bytes face
  gives : first_of bounds face ≡ first

firsts_once : (bounds : Bounds) (n : ℕ) (bytes : List ℕ) (one other : First) → Faces bounds n bytes one → Faces bounds n bytes other → one ≡ other
firsts_once bounds n bytes one other a b = sym a.gives ∙ ap (first_of bounds) (face_once bounds n bytes a.face b.face a.is b.is) ∙ b.gives

take_front : (size : ℕ) (xs ys : List ℕ) → length xs ≡ size → take size (xs ++ ys) ≡ xs
take_front size xs ys e = ap (λ n. take n (xs ++ ys)) (sym e) ∙ take-append_seam xs ys

drop_front : (size : ℕ) (xs ys : List ℕ) → length xs ≡ size → drop size (xs ++ ys) ≡ ys
drop_front size xs ys e = ap (λ n. drop n (xs ++ ys)) (sym e) ∙ drop-append_seam xs ys

item_behind : (bounds : Bounds) (line : List ℕ) (asked : Option Request) (size : ℕ) (payload rest : List ℕ) → size ≤ bounds.payload → length payload ≡ size → first_behind bounds line asked size (payload ++ rest) ≡ an_item (item line asked payload) rest
unfolding first_behind
item_behind bounds line asked size payload rest within whole =
    let a : nat_lt bounds.payload size ≡ false = le-ltb bounds.payload size within in
    let b : nat_lt (length (payload ++ rest)) size ≡ false = le-ltb (length (payload ++ rest)) size (omega (arith, length-append payload rest)) in
    let c : take size (payload ++ rest) ≡ payload = take_front size payload rest whole in
    let d : drop size (payload ++ rest) ≡ rest = drop_front size payload rest whole in
    rw (a, b, c, d)

from_item : (bounds : Bounds) (n : ℕ) (i : Item) (rest bytes : List ℕ) → IsItem bounds i → n < bounds.requests → bytes ≡ item_bytes i ++ rest → Faces bounds n bytes (an_item i rest)
from_item bounds n i rest bytes is more whole = record {
  face = lined i.line i.asked (i.payload ++ rest);
  is = (more, is.short, is.asks, whole ∙ append_assoc i.line (10 ∷ i.payload) rest);
  gives =
      let q : is_quit i.asked ≡ false = no_quit i.asked is.goes_on in
      ap (λ b. cond b (an_end quit (i.line ++ 10 ∷ []) (i.payload ++ rest)) (first_behind bounds i.line i.asked (size_of i.asked) (i.payload ++ rest))) q ∙ item_behind bounds i.line i.asked (size_of i.asked) i.payload rest is.within is.whole;
}

sized_no_quit : (asked : Option Request) → 0 < size_of asked → is_quit asked ≡ false
sized_no_quit asked more = no_quit asked (λ e. let P : ℕ → Type 0 = λ n. 0 < n in absurd (omega (arith, subst P (ap size_of e) more)))

cut_behind : (bounds : Bounds) (line : List ℕ) (asked : Option Request) (size : ℕ) (part : List ℕ) → size ≤ bounds.payload → length part < size → first_behind bounds line asked size part ≡ an_end cut (line ++ 10 ∷ part) []
unfolding first_behind
cut_behind bounds line asked size part within missing =
    let a : nat_lt bounds.payload size ≡ false = le-ltb bounds.payload size within in
    let b : nat_lt (length part) size ≡ true = lt-ltb (length part) size missing in
    rw (a, b)

above_behind : (bounds : Bounds) (line : List ℕ) (asked : Option Request) (size : ℕ) (rest : List ℕ) → bounds.payload < size → first_behind bounds line asked size rest ≡ an_end too_long (line ++ 10 ∷ []) rest
unfolding first_behind
above_behind bounds line asked size rest above =
    let a : nat_lt bounds.payload size ≡ true = lt-ltb bounds.payload size above in
    rw a

quit_short : IsShort (request_line Quit)
quit_short = record { unbroken = (λ e. cc, (λ e. cc, (λ e. cc, (λ e. cc, tt)))); short = omega arith }

from_quit : (bounds : Bounds) (n : ℕ) (bytes taken left : List ℕ) → n < bounds.requests → taken ≡ request_line Quit ++ 10 ∷ [] → bytes ≡ taken ++ left → Faces bounds n bytes (an_end quit taken left)
from_quit bounds n bytes taken left more closes whole = record {
  face = lined (request_line Quit) (Some Quit) left;
  is = (more, quit_short, (tt, refl), whole ∙ ap (λ t. t ++ left) closes);
  gives = ap (λ t. an_end quit t left) (sym closes);
}

from_closed : (bounds : Bounds) (n : ℕ) (bytes taken left : List ℕ) → n < bounds.requests → taken ≡ [] → left ≡ [] → bytes ≡ taken ++ left → Faces bounds n bytes (an_end closed taken left)
from_closed bounds n bytes taken left more none end whole = record {
  face = unlined [];
  is = let empty : bytes ≡ [] = whole ∙ ap (λ t. t ++ left) none ∙ end in (more, subst IsShort (sym empty) (record { unbroken = tt; short = omega arith }), empty);
  gives = let a : taken ≡ [] = none in let b : left ≡ [] = end in cc;
}

from_part : (bounds : Bounds) (n : ℕ) (bytes taken left : List ℕ) → n < bounds.requests → IsShort taken → taken ≢ [] → left ≡ [] → bytes ≡ taken ++ left → Faces bounds n bytes (an_end cut taken left)
from_part bounds n bytes [] left more short some end whole = absurd (some refl)
from_part bounds n bytes (b ∷ taken) left more short some end whole = record {
  face = unlined (b ∷ taken);
  is = let all : bytes ≡ b ∷ taken = whole ∙ ap (λ t. (b ∷ taken) ++ t) end ∙ append-nil (b ∷ taken) in (more, subst IsShort (sym all) short, all);
  gives = ap (an_end cut (b ∷ taken)) (sym end);
}

from_cut_payload : (bounds : Bounds) (n : ℕ) (bytes taken left : List ℕ) → n < bounds.requests → IsCutPayload bounds taken → left ≡ [] → bytes ≡ taken ++ left → Faces bounds n bytes (an_end cut taken left)
from_cut_payload bounds n bytes taken left more p end whole = record {
  face = lined p.line (Some p.request) p.part;
  is = (more, p.short, p.asks, whole ∙ ap (λ t. taken ++ t) end ∙ append-nil taken ∙ p.whole);
  gives =
      let q : is_quit (Some p.request) ≡ false = sized_no_quit (Some p.request) (let m : length p.part < payload_size p.request = p.missing in omega arith) in
      ap (λ b. cond b (an_end quit (p.line ++ 10 ∷ []) p.part) (first_behind bounds p.line (Some p.request) (payload_size p.request) p.part)) q
      ∙ cut_behind bounds p.line (Some p.request) (payload_size p.request) p.part p.within p.missing
      ∙ (let a : p.line ++ 10 ∷ p.part ≡ taken = sym p.whole in let b : [] ≡ left = sym end in cc);
}

from_long : (bounds : Bounds) (n : ℕ) (bytes taken left : List ℕ) → n < bounds.requests → IsLongLine taken → bytes ≡ taken ++ left → Faces bounds n bytes (an_end too_long taken left)
from_long bounds n bytes taken left more is whole =
    let front : take 257 bytes ≡ taken = ap (take 257) whole ∙ take_front 257 taken left is.long in
    let behind : drop 257 bytes ≡ left = ap (drop 257) whole ∙ drop_front 257 taken left is.long in
    record {
      face = long bytes;
      is = (more, subst IsUnbroken (sym front) is.unbroken, (let l : length taken ≡ 257 = is.long in omega (arith, ap length whole, length-append taken left)), refl);
      gives = ap (λ t. an_end too_long t (drop 257 bytes)) front ∙ ap (an_end too_long taken) behind;
    }

from_above : (bounds : Bounds) (n : ℕ) (bytes taken left : List ℕ) → n < bounds.requests → IsAboveBound bounds taken → bytes ≡ taken ++ left → Faces bounds n bytes (an_end too_long taken left)
from_above bounds n bytes taken left more p whole = record {
  face = lined p.line (Some p.request) left;
  is = (more, p.short, p.asks, whole ∙ ap (λ t. t ++ left) p.whole ∙ append_assoc p.line (10 ∷ []) left);
  gives =
      let q : is_quit (Some p.request) ≡ false = sized_no_quit (Some p.request) (let m : bounds.payload < payload_size p.request = p.above in omega arith) in
      ap (λ b. cond b (an_end quit (p.line ++ 10 ∷ []) left) (first_behind bounds p.line (Some p.request) (payload_size p.request) left)) q
      ∙ above_behind bounds p.line (Some p.request) (payload_size p.request) left p.above
      ∙ ap (λ t. an_end too_long t left) (sym p.whole);
}

from_end : (bounds : Bounds) (n : ℕ) (bytes : List ℕ) (ending : Ending) (taken left : List ℕ) → Closes bounds ending taken (Some left) → InTime bounds ending n → bytes ≡ taken ++ left → Faces bounds n bytes (an_end ending taken left)
from_end bounds n bytes quit taken left closes more whole = from_quit bounds n bytes taken left more closes whole
from_end bounds n bytes closed taken left closes more whole = from_closed bounds n bytes taken left more closes.0 closes.1 whole
from_end bounds n bytes cut taken left closes more whole = elim closes.1 [ inl h ↦ from_part bounds n bytes taken left more h.0 h.1 closes.0 whole | inr p ↦ from_cut_payload bounds n bytes taken left more p closes.0 whole ]
from_end bounds n bytes too_long taken left closes more whole = elim closes [ inl h ↦ from_long bounds n bytes taken left more h whole | inr p ↦ from_above bounds n bytes taken left more p whole ]
from_end bounds n bytes spent taken left closes in_time whole = record {
  face = full left;
  is = (in_time, whole ∙ ap (λ t. t ++ left) closes);
  gives = ap (λ t. an_end spent t left) (sym closes);
}

more_answered : (bounds : Bounds) (n : ℕ) (x : Item) (xs : List Item) → AreItems bounds n (x ∷ xs) → n + suc (length xs) ≤ bounds.requests
more_answered bounds n x xs are = elim are.room [ inl h ↦ absurd (cc) | inr h ↦ h ]

tail_items : (bounds : Bounds) (n : ℕ) (x : Item) (xs : List Item) → AreItems bounds n (x ∷ xs) → AreItems bounds (n + 1) xs
tail_items bounds n x xs are = record {
  each = are.each.1;
  room = inr (let m : n + suc (length xs) ≤ bounds.requests = more_answered bounds n x xs are in omega arith);
}

tail : (bounds : Bounds) (n : ℕ) (bytes : List ℕ) (x : Item) (xs : List Item) (e : Ending) (t l : List ℕ) → Items bounds n bytes (x ∷ xs) e t l → Items bounds (n + 1) (flat_map item_bytes xs ++ (t ++ l)) xs e t l
tail bounds n bytes x xs e t l a = record {
  items_are = tail_items bounds n x xs a.items_are;
  closes = a.closes;
  in_time = let k : n + suc (length xs) ≡ (n + 1) + length xs = omega arith in subst (λ m. InTime bounds e m) k a.in_time;
  whole = refl;
}

item_first : (bounds : Bounds) (n : ℕ) (bytes : List ℕ) (x : Item) (xs : List Item) (e : Ending) (t l : List ℕ) → Items bounds n bytes (x ∷ xs) e t l → Faces bounds n bytes (an_item x (flat_map item_bytes xs ++ (t ++ l)))
item_first bounds n bytes x xs e t l a =
    from_item bounds n x (flat_map item_bytes xs ++ (t ++ l)) bytes a.items_are.each.0 (let m : n + suc (length xs) ≤ bounds.requests = more_answered bounds n x xs a.items_are in omega arith) (a.whole ∙ append_assoc (item_bytes x) (flat_map item_bytes xs) (t ++ l))

end_first : (bounds : Bounds) (n : ℕ) (bytes : List ℕ) (e : Ending) (t l : List ℕ) → Items bounds n bytes [] e t l → Faces bounds n bytes (an_end e t l)
end_first bounds n bytes e t l a = from_end bounds n bytes e t l a.closes (let k : n + 0 ≡ n = omega arith in subst (λ m. InTime bounds e m) k a.in_time) a.whole

once : (bounds : Bounds) (n : ℕ) (bytes : List ℕ) (xs : List Item) (e : Ending) (t l : List ℕ) (ys : List Item) (f : Ending) (u m : List ℕ) → Items bounds n bytes xs e t l → Items bounds n bytes ys f u m → split xs e t l ≡ split ys f u m
once bounds n bytes [] e t l [] f u m a b =
    let same : an_end e t l ≡ an_end f u m = firsts_once bounds n bytes _ _ (end_first bounds n bytes e t l a) (end_first bounds n bytes f u m b) in
    let p : e ≡ f = cc in let q : t ≡ u = cc in let r : l ≡ m = cc in rw (p, q, r)
once bounds n bytes [] e t l (y ∷ ys) f u m a b =
    let same = firsts_once bounds n bytes _ _ (end_first bounds n bytes e t l a) (item_first bounds n bytes y ys f u m b) in absurd (cc)
once bounds n bytes (x ∷ xs) e t l [] f u m a b =
    let same = firsts_once bounds n bytes _ _ (item_first bounds n bytes x xs e t l a) (end_first bounds n bytes f u m b) in absurd (cc)
once bounds n bytes (x ∷ xs) e t l (y ∷ ys) f u m a b =
    let same : an_item x (flat_map item_bytes xs ++ (t ++ l)) ≡ an_item y (flat_map item_bytes ys ++ (u ++ m)) = firsts_once bounds n bytes _ _ (item_first bounds n bytes x xs e t l a) (item_first bounds n bytes y ys f u m b) in
    let i : x ≡ y = cc in
    let r : flat_map item_bytes ys ++ (u ++ m) ≡ flat_map item_bytes xs ++ (t ++ l) = cc in
    let more = once bounds (n + 1) _ xs e t l ys f u m (tail bounds n bytes x xs e t l a) (subst (λ bs. Items bounds (n + 1) bs ys f u m) r (tail bounds n bytes y ys f u m b)) in
    let p : xs ≡ ys = ap (λ (s : Split). s.items) more in
    rw i (ap (λ (s : Split). split (y ∷ s.items) s.ending s.taken s.left) more)

pub splits_once : SplitsOnce
splits_once bounds n bytes one other a b = once bounds n bytes one.items one.ending one.taken one.left other.items other.ending other.taken other.left a b
