-- A text has one list of tokens or one first fault, and never both.
use Rattle.std.proofs.Common.{◌≡◌, ℕ, ◌+◌, List, ◌∷◌, drop, refl, sym, ◌∙◌, subst, ⊎_elim}
use Rattle.std.specs.Prelude.{Result, Ok, Err, IfOk}
use Rattle.ad_lex.specs.declared.token.Mark.{Mark}
use Rattle.ad_lex.specs.declared.token.Token.{Token}
use Rattle.ad_lex.specs.declared.token.LexFault.{LexFault}
use Rattle.ad_lex.specs.declared.token.LexRefused.{LexRefused}
use Rattle.ad_lex.specs.declared.token.LexRefused.TheVariants.{Fault, Memory}
use Rattle.ad_lex.specs.declared.front.Front.{Front}
use Rattle.ad_lex.specs.declared.front.Front.TheVariants.{Skips, Takes}
use Rattle.ad_lex.specs.Fronts.{front}
use Rattle.ad_lex.specs.Lexed.{token_at, Lexes, over, skips, takes, Faults, no_token, open_string, open_iri, after_skip, after_token, IsLexed, IsFault, IfFault, AreTokensOrMemory, IsFaultOrMemory}

same_skip : (x : Front) (m n : ℕ) → x ≡ Skips m → x ≡ Skips n → m ≡ n
same_skip x m n e f = cc

same_take : (x : Front) (p q : Mark) (m n : ℕ) → x ≡ Takes p m → x ≡ Takes q n → (p ≡ q) × (m ≡ n)
same_take x p q m n e f = (cc, cc)

pub lexes_once : {at : ℕ} {rest : List ℕ} {ts us : List Token} → Lexes at rest ts → Lexes at rest us → ts ≡ us
lexes_once (over at rest e) (over _ _ f) = refl
lexes_once (over at rest e) (skips _ n _ us f r) = cc
lexes_once (over at rest e) (takes _ n m _ us f r) = cc
lexes_once (skips at n rest ts e r) (over _ _ f) = cc
lexes_once (skips at n rest ts e r) (skips _ k _ us f s) =
    lexes_once r (subst (λ i. Lexes (at + i) (drop i rest) us) (same_skip (front rest) k n f e) s)
lexes_once (skips at n rest ts e r) (takes _ k m _ us f s) = cc
lexes_once (takes at n m rest ts e r) (over _ _ f) = cc
lexes_once (takes at n m rest ts e r) (skips _ k _ us f s) = cc
lexes_once (takes at n m rest ts e r) (takes _ k p _ us f s) =
    let same = same_take (front rest) m p n k e f in
    let all : ts ≡ us = lexes_once r (subst (λ i. Lexes (at + i) (drop i rest) us) (sym same.1) s) in
    λ i. token_at at (same.1 i) (same.0 i) ∷ all i

pub lexes_or_faults : {at : ℕ} {rest : List ℕ} {ts : List Token} {f : LexFault} → Lexes at rest ts → Faults at rest f → ⊥
lexes_or_faults (over at rest e) (no_token _ _ h) = cc
lexes_or_faults (over at rest e) (open_string _ _ h) = cc
lexes_or_faults (over at rest e) (open_iri _ _ h) = cc
lexes_or_faults (over at rest e) (after_skip _ n _ f h s) = cc
lexes_or_faults (over at rest e) (after_token _ n m _ f h s) = cc
lexes_or_faults (skips at n rest ts e r) (no_token _ _ h) = cc
lexes_or_faults (skips at n rest ts e r) (open_string _ _ h) = cc
lexes_or_faults (skips at n rest ts e r) (open_iri _ _ h) = cc
lexes_or_faults (skips at n rest ts e r) (after_skip _ k _ f h s) =
    lexes_or_faults r (subst (λ i. Faults (at + i) (drop i rest) f) (same_skip (front rest) k n h e) s)
lexes_or_faults (skips at n rest ts e r) (after_token _ k m _ f h s) = cc
lexes_or_faults (takes at n m rest ts e r) (no_token _ _ h) = cc
lexes_or_faults (takes at n m rest ts e r) (open_string _ _ h) = cc
lexes_or_faults (takes at n m rest ts e r) (open_iri _ _ h) = cc
lexes_or_faults (takes at n m rest ts e r) (after_skip _ k _ f h s) = cc
lexes_or_faults (takes at n m rest ts e r) (after_token _ k p _ f h s) =
    lexes_or_faults r (subst (λ i. Faults (at + i) (drop i rest) f) (same_take (front rest) p m k n h e).1 s)

pub faults_once : {at : ℕ} {rest : List ℕ} {f g : LexFault} → Faults at rest f → Faults at rest g → f ≡ g
faults_once (no_token at rest e) (no_token _ _ h) = refl
faults_once (no_token at rest e) (open_string _ _ h) = cc
faults_once (no_token at rest e) (open_iri _ _ h) = cc
faults_once (no_token at rest e) (after_skip _ n _ f h s) = cc
faults_once (no_token at rest e) (after_token _ n m _ f h s) = cc
faults_once (open_string at rest e) (no_token _ _ h) = cc
faults_once (open_string at rest e) (open_string _ _ h) = refl
faults_once (open_string at rest e) (open_iri _ _ h) = cc
faults_once (open_string at rest e) (after_skip _ n _ f h s) = cc
faults_once (open_string at rest e) (after_token _ n m _ f h s) = cc
faults_once (open_iri at rest e) (no_token _ _ h) = cc
faults_once (open_iri at rest e) (open_string _ _ h) = cc
faults_once (open_iri at rest e) (open_iri _ _ h) = refl
faults_once (open_iri at rest e) (after_skip _ n _ f h s) = cc
faults_once (open_iri at rest e) (after_token _ n m _ f h s) = cc
faults_once (after_skip at n rest g e r) (no_token _ _ h) = cc
faults_once (after_skip at n rest g e r) (open_string _ _ h) = cc
faults_once (after_skip at n rest g e r) (open_iri _ _ h) = cc
faults_once (after_skip at n rest g e r) (after_skip _ k _ f h s) =
    faults_once r (subst (λ i. Faults (at + i) (drop i rest) f) (same_skip (front rest) k n h e) s)
faults_once (after_skip at n rest g e r) (after_token _ k m _ f h s) = cc
faults_once (after_token at n m rest g e r) (no_token _ _ h) = cc
faults_once (after_token at n m rest g e r) (open_string _ _ h) = cc
faults_once (after_token at n m rest g e r) (open_iri _ _ h) = cc
faults_once (after_token at n m rest g e r) (after_skip _ k _ f h s) = cc
faults_once (after_token at n m rest g e r) (after_token _ k p _ f h s) =
    faults_once r (subst (λ i. Faults (at + i) (drop i rest) f) (same_take (front rest) p m k n h e).1 s)

-- one list of tokens at most, and one fault at most, and not both
pub lexed_once : (text : List ℕ) (ts us : List Token) → IsLexed text ts → IsLexed text us → ts ≡ us
lexed_once text ts us a b = lexes_once a.1 b.1

pub lexed_or_fault : (text : List ℕ) (ts : List Token) (f : LexFault) → IsLexed text ts → IsFault text f → ⊥
lexed_or_fault text ts f a b = ⊎_elim (λ bad. bad.0 a.0) (λ good. lexes_or_faults a.1 good.1) b

pub fault_once : (text : List ℕ) (f g : LexFault) → IsFault text f → IsFault text g → f ≡ g
fault_once text f g a b =
    ⊎_elim
    (λ bad. ⊎_elim (λ other. bad.1 ∙ sym other.1) (λ good. absurd (bad.0 good.0)) b)
    (λ good. ⊎_elim (λ bad. absurd (bad.0 good.0)) (λ other. faults_once good.1 other.1) b)
    a

-- an answer that is right is the only one
pub one_answer : (text : List ℕ) (r : Result (List Token) LexRefused) → IfOk r (IsLexed text) → IfFault r (IsFault text) → (ts : List Token) → IsLexed text ts → AreTokensOrMemory r ts
one_answer text (Ok found) ok fault ts lexed = lexed_once text found ts ok lexed
one_answer text (Err (Fault f)) ok fault ts lexed = absurd (lexed_or_fault text ts f lexed fault)
one_answer text (Err Memory) ok fault ts lexed = refl

pub one_fault : (text : List ℕ) (r : Result (List Token) LexRefused) → IfOk r (IsLexed text) → IfFault r (IsFault text) → (f : LexFault) → IsFault text f → IsFaultOrMemory r f
one_fault text (Ok found) ok fault f is = lexed_or_fault text found f ok is
one_fault text (Err (Fault g)) ok fault f is = fault_once text g f fault is
one_fault text (Err Memory) ok fault f is = tt
