-- Where the first byte that needs a backslash stands, the text splits; where there is none, it stays as it is.
use Rattle.std.proofs.Common.{◌≡◌, ℕ, zero, suc, ◌+◌, ◌<◌, ◌≤◌, Bool, true, false, ◌||◌, ◌==◌, if◌then◌else◌, List, [], ◌∷◌, ◌++◌, length, take, drop, get_or, refl, ap, ◌∙◌, append_assoc, arith}
use Rattle.memchr.specs.Find.{is_byte2, Passes, Nowhere}
use Rattle.ad_write.specs.Canonical.{escape, escaped}

abbrev is_special : ℕ → Bool
is_special = is_byte2 34 92

not_true : (b : Bool) → (b ≡ true → ⊥) → b ≡ false
not_true true h = absurd (h refl)
not_true false h = refl

escape_plain : (byte : ℕ) → is_special byte ≡ false → escape byte ≡ byte ∷ []
escape_plain byte h = ap (λ b. if b then 92 ∷ byte ∷ [] else byte ∷ []) h

escape_special : (byte : ℕ) → is_special byte ≡ true → escape byte ≡ 92 ∷ byte ∷ []
escape_special byte h = ap (λ b. if b then 92 ∷ byte ∷ [] else byte ∷ []) h

pub none_escaped : (text : List ℕ) → Nowhere (Passes is_special text) 0 (length text) → escaped text ≡ text
none_escaped [] h = refl
none_escaped (x ∷ xs) h =
    let plain : is_special x ≡ false = not_true (is_special x) (h 0 (omega arith) (omega arith)) in
    ap (λ t. t ++ escaped xs) (escape_plain x plain) ∙ ap (λ t. x ∷ t) (none_escaped xs (λ k low high. h (suc k) (omega arith) (omega arith)))

pub first_escaped : (text : List ℕ) (at : ℕ) → at < length text → Nowhere (Passes is_special text) 0 at → Passes is_special text at → escaped text ≡ ((take at text ++ 92 ∷ []) ++ take 1 (drop at text)) ++ escaped (drop 1 (drop at text))
first_escaped [] at below h is = absurd (omega arith)
first_escaped (x ∷ xs) zero below h is = ap (λ t. t ++ escaped xs) (escape_special x is)
first_escaped (x ∷ xs) (suc at) below h is =
    let plain : is_special x ≡ false = not_true (is_special x) (h 0 (omega arith) (omega arith)) in
    ap (λ t. t ++ escaped xs) (escape_plain x plain)
    ∙ ap (λ t. x ∷ t) (first_escaped xs at (omega arith) (λ k low high. h (suc k) (omega arith) (omega arith)) is)

-- a run, a backslash and the byte behind it are written
pub run_done : (text done rest run behind byte later : List ℕ) (at : ℕ) → escaped text ≡ done ++ escaped rest → escaped rest ≡ ((take at rest ++ 92 ∷ []) ++ take 1 (drop at rest)) ++ escaped (drop 1 (drop at rest)) → run ≡ take at rest → behind ≡ drop at rest → byte ≡ take 1 behind → later ≡ drop 1 behind → escaped text ≡ (((done ++ run) ++ 92 ∷ []) ++ byte) ++ escaped later
run_done text done rest run behind byte later at so_far splits is_run is_behind is_byte is_later =
    let split : escaped rest ≡ ((run ++ 92 ∷ []) ++ byte) ++ escaped later = (rw (is_later, is_byte, is_behind, is_run) splits) in
    so_far ∙ ap (λ t. done ++ t) split ∙ regroup done run (92 ∷ []) byte (escaped later)
  where
    regroup : (a b c d e : List ℕ) → a ++ (((b ++ c) ++ d) ++ e) ≡ (((a ++ b) ++ c) ++ d) ++ e
    regroup a b c d e = simp append_assoc
