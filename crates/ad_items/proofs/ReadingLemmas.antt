-- Bytes that are read one part after another.
use Rattle.std.proofs.Common.{◌≡◌, ◌≢◌, ℕ, ◌+◌, ◌<◌, ◌≤◌, List, [], ◌∷◌, ◌++◌, Option, Some, length, take, refl, sym, ◌∙◌, subst, arith, length-append, append_assoc}
use Rattle.std.proofs.lemmas.List.{append-nil, length-take-le}
use Rattle.ad_io.specs.Flow.{Loses, LosesExactly}
use Rattle.ad_io.proofs.FlowLemmas.{loses_nothing, loses_on}
use Rattle.ad_request.specs.declared.request.Request.{Request}
use Rattle.ad_request.specs.Requests.{Asks, payload_size}
use Rattle.ad_items.specs.Items.{Bounds, IsUnbroken, IsShort, IsLongLine, IsCutPayload}
use Rattle.ad_items.specs.Reading.{LosesFewer}

pub unbroken_more : (line : List ℕ) (b : ℕ) → IsUnbroken line → b ≢ 10 → IsUnbroken (line ++ b ∷ [])
unbroken_more [] b u other = (other, tt)
unbroken_more (x ∷ line) b u other = (u.0, unbroken_more line b u.1 other)

-- a call that takes nothing more
pub loses_no_more : (old mid new : Option (List ℕ)) (a : List ℕ) → Loses old mid a → Loses mid new [] → Loses old new a
loses_no_more old mid new a first none = let e : a ++ [] ≡ a = append-nil a in subst (λ bs. Loses old new bs) e (loses_on old mid new a [] first none)

-- what was read of a line before its n-th byte
pub record IsBegun (old now : Option (List ℕ)) (line : List ℕ) (n : ℕ) : Type 0 where
  pub unbroken : IsUnbroken line
  pub count : length line ≡ n
  pub lost : Loses old now line

pub begun_none : (now : Option (List ℕ)) (line : List ℕ) → line ≡ [] → IsBegun now now line 0
begun_none now line e = subst (λ l. IsBegun now now l 0) (sym e) (record { unbroken = tt; count = refl; lost = loses_nothing now })

pub begun_more : (old mid new : Option (List ℕ)) (line after : List ℕ) (n b : ℕ) → IsBegun old mid line n → Loses mid new (b ∷ []) → b ≢ 10 → after ≡ line ++ b ∷ [] → IsBegun old new after (n + 1)
begun_more old mid new line after n b begun one other e = subst (λ l. IsBegun old new l (n + 1)) (sym e) (record {
  unbroken = unbroken_more line b begun.unbroken other;
  count = let k : length line ≡ n = begun.count in omega (arith, length-append line (b ∷ []));
  lost = loses_on old mid new line (b ∷ []) begun.lost one;
})

pub begun_short : (old now : Option (List ℕ)) (line : List ℕ) (n : ℕ) → IsBegun old now line n → n < 257 → IsShort line
begun_short old now line n begun few = record { unbroken = begun.unbroken; short = let k : length line ≡ n = begun.count in omega arith }

pub begun_long : (old now : Option (List ℕ)) (line : List ℕ) (n : ℕ) → IsBegun old now line n → n ≡ 257 → IsLongLine line
begun_long old now line n begun all = record { unbroken = begun.unbroken; long = begun.count ∙ all }

-- fewer bytes than a buffer has were read
pub fewer_read : (old mid new : Option (List ℕ)) (buffer : List ℕ) (filled : ℕ) → filled < length buffer → Loses old mid (take filled buffer) → Loses mid new [] → LosesFewer old new (length buffer)
fewer_read old mid new buffer filled few first none = record {
  bytes = take filled buffer;
  fewer = let k : length (take filled buffer) ≡ filled = length-take-le filled buffer (omega arith) in omega arith;
  lost = loses_no_more old mid new (take filled buffer) first none;
}

-- so many bytes, and then more
pub loses_exactly_on : (old mid new : Option (List ℕ)) (m n : ℕ) → LosesExactly old mid m → LosesExactly mid new n → LosesExactly old new (m + n)
loses_exactly_on old mid new m n first more = record {
  bytes = first.bytes ++ more.bytes;
  counted = let a : length first.bytes ≡ m = first.counted in let b : length more.bytes ≡ n = more.counted in omega (arith, length-append first.bytes more.bytes);
  lost = loses_on old mid new first.bytes more.bytes first.lost more.lost;
}

pub loses_exactly_nothing : (now : Option (List ℕ)) → LosesExactly now now 0
loses_exactly_nothing now = record { bytes = []; counted = refl; lost = loses_nothing now }

pub loses_exactly_fewer : (old mid new : Option (List ℕ)) (m size : ℕ) → LosesExactly old mid m → m < size → Loses mid new [] → LosesFewer old new size
loses_exactly_fewer old mid new m size first few none = record {
  bytes = first.bytes;
  fewer = let a : length first.bytes ≡ m = first.counted in omega arith;
  lost = loses_no_more old mid new first.bytes first.lost none;
}

-- a line and what was read behind it
pub line_and_more : (old mid new : Option (List ℕ)) (line more : List ℕ) → Loses old mid (line ++ 10 ∷ []) → Loses mid new more → Loses old new (line ++ 10 ∷ more)
line_and_more old mid new line more first then_ = subst (λ bs. Loses old new bs) (append_assoc line (10 ∷ []) more) (loses_on old mid new (line ++ 10 ∷ []) more first then_)

-- a line whose payload misses bytes
pub cut_payload : (bounds : Bounds) (line : List ℕ) (request : Request) (part : List ℕ) → IsShort line → Asks line (Some request) → payload_size request ≤ bounds.payload → length part < payload_size request → IsCutPayload bounds (line ++ 10 ∷ part)
cut_payload bounds line request part short asks within missing = record { line = line; request = request; part = part; short = short; asks = asks; within = within; missing = missing; whole = refl }
