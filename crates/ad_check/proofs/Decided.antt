-- The laws: what is spelled is of its form, a fault excludes it, there is one first fault, and the nesting.
use Rattle.std.proofs.Common.{◌≡◌, ◌⊎◌, inl, inr, ℕ, zero, suc, ◌+◌, ◌<◌, ◌≤◌, false, List, [], ◌∷◌, ◌++◌, length, map, take, drop, refl, sym, ◌∙◌, ap, subst, arith, append_assoc}
use Rattle.std.proofs.Math.Nat.{eq-or-lt_of_le}
use Rattle.std.proofs.lemmas.Bool.{cases_lt}
use Rattle.std.proofs.lemmas.List.{take-append-drop}
use Rattle.std.proofs.Math.Seq.{take-take}
use Rattle.ad_lex.specs.Lexemes.{Lexeme}
use Rattle.ad_lex.specs.Lexemes as says
use Rattle.ad_tree.specs.declared.edits.Op.{Op}
use Rattle.ad_tree.specs.declared.edits.Sign.{Sign}
use Rattle.ad_tree.specs.declared.axioms.Noted.{Noted}
use Rattle.ad_grammar.specs.Shapes.{Text, Many0}
use Rattle.ad_grammar.specs.Names.{Words}
use Rattle.ad_grammar.specs.Axioms.{SpellsNoted}
use Rattle.ad_grammar.specs.Texts.{Declared, in_force, SpellsOp, SpellsDocument}
use Rattle.ad_grammar.specs.Faults.{Statement, stated, SpellsStatement, SpellsSigned, Form, document, IsOf, Begins, IsFirstFault}
use Rattle.ad_grammar.specs.Nesting.{lefts, rights, nesting}
use Rattle.ad_check.specs.Laws.{SpelledIsOf, FaultIsInNone, OneFirstFault, NestingIs}

many_stated : (words : Words) (axioms : List Noted) (ts : Text) → Many0 (SpellsNoted false words) axioms ts → Many0 (SpellsStatement false words) (map stated axioms) ts
many_stated words [] ts e = e
many_stated words (x ∷ xs) ts (a, b, e, h, rest) = (a, b, e, h, many_stated words xs b rest)

signed_of : Op → Sign × Statement
signed_of op = (op.sign, stated op.noted)

many_signed : (words : Words) (ops : List Op) (ts : Text) → Many0 (SpellsOp words) ops ts → Many0 (SpellsSigned false words) (map signed_of ops) ts
unfolding signed_of
many_signed words [] ts e = e
many_signed words (x ∷ xs) ts (a, b, e, h, rest) = (a, b, e, h, many_signed words xs b rest)

pub spelled : SpelledIsOf
spelled = record {
  documents = λ declared axioms ts h. document_is declared axioms ts h;
  edits = λ declared ops ts h. (in_force declared, declared, map signed_of ops, (h.0, h.1, h.2, h.3, many_signed (in_force declared) ops h.1 h.4));
  seeds = λ declared entities ts h. (in_force declared, declared, entities, h);
  singles = λ declared noted ts h. (in_force declared, declared, stated noted, h.0, h.1);
}
  where
    document_is : (declared : List Declared) (axioms : List Noted) (ts : Text) → SpellsDocument declared axioms ts → IsOf false document ts
    document_is declared axioms ts (n, q, e, d, (inner, e', (h1, r1, e1, head, (i, r2, e2, imports, (nt, st, e3, notes, h))))) = (in_force declared, declared, map stated axioms, (n, q, e, d, (inner, e', (h1, r1, e1, head, (i, r2, e2, imports, (nt, st, e3, notes, many_stated (in_force declared) axioms st h))))))

pub in_none : FaultIsInNone
in_none form ts at f is = by_place (eq-or-lt_of_le f.within)
  where
    by_place : (at ≡ length ts) ⊎ (at < length ts) → ⊥
    by_place (inl last) = f.end last is
    by_place (inr below) = f.token below (drop (at + 1) ts, subst (IsOf false form) (sym (take-append-drop (at + 1) ts)) is)

pub begins_shorter : (form : Form) (ts : Text) (n m : ℕ) → n ≤ m → Begins false form (take m ts) → Begins false form (take n ts)
begins_shorter form ts n m before (more, is) =
    let front : take n ts ++ drop n (take m ts) ≡ take m ts = ap (λ us. us ++ drop n (take m ts)) (sym (take-take n m ts before)) ∙ take-append-drop n (take m ts) in
    (drop n (take m ts) ++ more, subst (IsOf false form) (sym (sym (append_assoc (take n ts) (drop n (take m ts)) more) ∙ ap (λ us. us ++ more) front)) is)

not_before : (form : Form) (ts : Text) (at other : ℕ) → IsFirstFault form ts at → IsFirstFault form ts other → at < other → ⊥
not_before form ts at other f g before = f.token (omega (arith, before, g.within)) (begins_shorter form ts (at + 1) other (omega (arith, before)) g.before)

pub one_fault : OneFirstFault
one_fault form ts at other f g = by_order (cases_lt at other) (cases_lt other at)
  where
    by_order : (at < other) ⊎ (other ≤ at) → (other < at) ⊎ (at ≤ other) → at ≡ other
    by_order (inl before) q = absurd (not_before form ts at other f g before)
    by_order (inr after) (inl before) = absurd (not_before form ts other at g f before)
    by_order (inr after) (inr before) = omega (arith, after, before)

most : (ts : Text) (n : ℕ) → lefts (take n ts) ≤ nesting ts + rights (take n ts)
most ts zero = omega arith
most [] (suc n) = omega arith
most (says.Left ∷ ts) (suc n) = omega (arith, most ts n)
most (says.Right ∷ ts) (suc n) = omega (arith, most ts n)
most (says.Equals ∷ ts) (suc n) = most ts n
most (says.Carets ∷ ts) (suc n) = most ts n
most (says.Plus ∷ ts) (suc n) = most ts n
most (says.Minus ∷ ts) (suc n) = most ts n
most ((says.Iri name) ∷ ts) (suc n) = most ts n
most ((says.Text value) ∷ ts) (suc n) = most ts n
most ((says.Plain word) ∷ ts) (suc n) = most ts n
most ((says.Short prefix local) ∷ ts) (suc n) = most ts n
most ((says.Node label) ∷ ts) (suc n) = most ts n
most ((says.Lang tag) ∷ ts) (suc n) = most ts n

reached : (ts : Text) → (n : ℕ) × (lefts (take n ts) ≡ nesting ts + rights (take n ts))
reached [] = (0, refl)
reached (says.Left ∷ ts) = let q = reached ts in (suc q.0, omega (arith, q.1))
reached (says.Right ∷ ts) = by_depth (reached ts) (cases_lt 0 (nesting ts))
  where
    by_depth : ((n : ℕ) × (lefts (take n ts) ≡ nesting ts + rights (take n ts))) → (0 < nesting ts) ⊎ (nesting ts ≤ 0) → (n : ℕ) × (lefts (take n (says.Right ∷ ts)) ≡ nesting (says.Right ∷ ts) + rights (take n (says.Right ∷ ts)))
    by_depth q (inl deep) = (suc q.0, omega (arith, q.1, deep))
    by_depth q (inr flat) = (0, omega (arith, flat))
reached (says.Equals ∷ ts) = let q = reached ts in (suc q.0, q.1)
reached (says.Carets ∷ ts) = let q = reached ts in (suc q.0, q.1)
reached (says.Plus ∷ ts) = let q = reached ts in (suc q.0, q.1)
reached (says.Minus ∷ ts) = let q = reached ts in (suc q.0, q.1)
reached ((says.Iri name) ∷ ts) = let q = reached ts in (suc q.0, q.1)
reached ((says.Text value) ∷ ts) = let q = reached ts in (suc q.0, q.1)
reached ((says.Plain word) ∷ ts) = let q = reached ts in (suc q.0, q.1)
reached ((says.Short prefix local) ∷ ts) = let q = reached ts in (suc q.0, q.1)
reached ((says.Node label) ∷ ts) = let q = reached ts in (suc q.0, q.1)
reached ((says.Lang tag) ∷ ts) = let q = reached ts in (suc q.0, q.1)

pub nesting_is : NestingIs
nesting_is ts = record { most = λ n. omega (arith, most ts n); reached = let q = reached ts in (q.0, omega (arith, q.1)) }
