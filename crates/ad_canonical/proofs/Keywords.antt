-- Words of letters and digits, as keywords and numbers are.
use Rattle.std.proofs.Common.{◌≡◌, ℕ, ◌<◌, Bool, true, false, ◌&&◌, nat_eq, List, [], ◌∷◌, ◌++◌, length, take, IsUtf8, ap, arith}
use Rattle.std.specs.Char.{is_ascii_alphanumeric}
use Rattle.std.specs.List.{AllPass, AllByRecursion, starts_with}
use Rattle.std.specs.Cmp.Lexicographic.{pointwise}
use Rattle.std.proofs.lemmas.Bool.{and_parts, ne_eqb, cond-false}
use Rattle.std.proofs.lemmas.List.Elements.{All-from_recursion, All-weaker}
use Rattle.std.proofs.lemmas.Str.{IsUtf8-from_ascii}
use Rattle.std.proofs.lemmas.Str.Ascii.{IsAscii-from_all}
use Rattle.ad_lex.specs.Lexed.{start}

-- letters and digits
abbrev pub letters : List ℕ → Bool
letters [] = true
letters (c ∷ w) = is_ascii_alphanumeric c && letters w

-- one or more
abbrev pub is_word : List ℕ → Bool
is_word [] = false
is_word (c ∷ w) = is_ascii_alphanumeric c && letters w

each_letter : (w : List ℕ) → letters w ≡ true → AllByRecursion (λ c. is_ascii_alphanumeric c ≡ true) w
each_letter [] h = tt
each_letter (c ∷ w) h = let parts = and_parts _ _ h in (parts.0, each_letter w parts.1)

small : (c : ℕ) → is_ascii_alphanumeric c ≡ true → c < 128
small c h = grind arith

-- the text begins with no byte order mark
pub start_ascii : (c : ℕ) (xs : List ℕ) → c < 128 → start (c ∷ xs) ≡ 0
start_ascii c xs low =
    let other : nat_eq 239 c ≡ false = ne_eqb 239 c (λ e. omega arith) in
    cond-false (starts_with nat_eq (c ∷ xs) (239 ∷ 187 ∷ 191 ∷ [])) 3 0 (ap (λ b. b && pointwise nat_eq (187 ∷ 191 ∷ []) (take 2 xs)) other)

pub record IsWord (w : List ℕ) : Type 0 where
  pub some : 0 < length w
  pub each : AllPass is_ascii_alphanumeric w
  pub utf8 : IsUtf8 w
  pub starts : (rest : List ℕ) → start (w ++ rest) ≡ 0

pub word_from : (w : List ℕ) → is_word w ≡ true → IsWord w
word_from [] h = cc
word_from (c ∷ w) h =
    let all : AllPass is_ascii_alphanumeric (c ∷ w) = All-from_recursion (λ x. is_ascii_alphanumeric x ≡ true) (c ∷ w) (each_letter (c ∷ w) h) in
    record {
      some = omega arith;
      each = all;
      utf8 = IsUtf8-from_ascii (c ∷ w) (IsAscii-from_all (c ∷ w) (All-weaker (λ x. is_ascii_alphanumeric x ≡ true) (λ x. x < 128) small (c ∷ w) all));
      starts = λ rest. start_ascii c (w ++ rest) (small c (and_parts _ _ h).0);
    }

-- one ASCII byte
pub byte_utf8 : (c : ℕ) → c < 128 → IsUtf8 (c ∷ [])
byte_utf8 c low = IsUtf8-from_ascii (c ∷ []) (IsAscii-from_all (c ∷ []) (All-from_recursion (λ x. x < 128) (c ∷ []) (low, tt)))
