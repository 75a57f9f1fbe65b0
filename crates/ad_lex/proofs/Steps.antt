-- One step of the loop over a text.
use Rattle.std.proofs.Common.{◌≡◌, ℕ, ◌+◌, ◌<◌, ◌≤◌, List, [], ◌∷◌, ◌++◌, length, drop, sym, subst, arith, length-drop, append_assoc, append-nil}
use Rattle.std.proofs.lemmas.List.{drop-drop}
use Rattle.ad_lex.specs.declared.token.Mark.{Mark}
use Rattle.ad_lex.specs.declared.token.Token.{Token}
use Rattle.ad_lex.specs.declared.token.LexFault.{LexFault}
use Rattle.ad_lex.specs.declared.front.Front.TheVariants.{Over, Skips, Takes}
use Rattle.ad_lex.specs.Fronts.{front}
use Rattle.ad_lex.specs.Lexed.{token_at, Lexes, over, skips, takes, Faults, after_skip, after_token}
use Rattle.ad_lex.proofs.Pieces.{IsPiece, skipped, taken}

-- a step goes on, and stays in the text
pub record GoesOn (text : List ℕ) (at n : ℕ) : Type 0 where
  pub some : 0 < n
  pub within : at + n ≤ length text

goes_on_from : (text : List ℕ) (at n : ℕ) → at ≤ length text → IsPiece (drop at text) n → GoesOn text at n
goes_on_from text at n within piece = record {
  some = piece.some;
  within = omega (arith, piece.within, length-drop at text);
}

pub skip_goes_on : (text : List ℕ) (at n : ℕ) → at ≤ length text → front (drop at text) ≡ Skips n → GoesOn text at n
skip_goes_on text at n within is = goes_on_from text at n within (skipped (drop at text) n is)

pub take_goes_on : (text : List ℕ) (at n : ℕ) (m : Mark) → at ≤ length text → front (drop at text) ≡ Takes m n → GoesOn text at n
take_goes_on text at n m within is = goes_on_from text at n within (taken (drop at text) m n is).0

-- what the rest is completes what was read
abbrev pub Completes : List ℕ → ℕ → ℕ → List Token → Type 0
Completes text from at read = (ts : List Token) → Lexes at (drop at text) ts → Lexes from (drop from text) (read ++ ts)

abbrev pub FaultsToo : List ℕ → ℕ → ℕ → Type 0
FaultsToo text from at = (f : LexFault) → Faults at (drop at text) f → Faults from (drop from text) f

pub completes_skip : (text : List ℕ) (from at n : ℕ) (read : List Token) → front (drop at text) ≡ Skips n → Completes text from at read → Completes text from (at + n) read
completes_skip text from at n read is known ts rest =
    known ts (skips at n (drop at text) ts is (subst (λ xs. Lexes (at + n) xs ts) (sym (drop-drop n at text)) rest))

pub completes_take : (text : List ℕ) (from at n : ℕ) (m : Mark) (read : List Token) → front (drop at text) ≡ Takes m n → Completes text from at read → Completes text from (at + n) (read ++ token_at at n m ∷ [])
completes_take text from at n m read is known ts rest =
    subst (Lexes from (drop from text)) (sym (append_assoc read (token_at at n m ∷ []) ts))
    (known (token_at at n m ∷ ts) (takes at n m (drop at text) ts is (subst (λ xs. Lexes (at + n) xs ts) (sym (drop-drop n at text)) rest)))

pub completes_over : (text : List ℕ) (from at : ℕ) (read : List Token) → front (drop at text) ≡ Over → Completes text from at read → Lexes from (drop from text) read
completes_over text from at read is known =
    subst (Lexes from (drop from text)) (append-nil read) (known [] (over at (drop at text) is))

pub faults_skip : (text : List ℕ) (from at n : ℕ) → front (drop at text) ≡ Skips n → FaultsToo text from at → FaultsToo text from (at + n)
faults_skip text from at n is known f rest =
    known f (after_skip at n (drop at text) f is (subst (λ xs. Faults (at + n) xs f) (sym (drop-drop n at text)) rest))

pub faults_take : (text : List ℕ) (from at n : ℕ) (m : Mark) → front (drop at text) ≡ Takes m n → FaultsToo text from at → FaultsToo text from (at + n)
faults_take text from at n m is known f rest =
    known f (after_token at n m (drop at text) f is (subst (λ xs. Faults (at + n) xs f) (sym (drop-drop n at text)) rest))
