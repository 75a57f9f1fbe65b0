-- The meaning of the prefixes doesn't matter for the form of a whole text behind its declarations.
use Rattle.std.proofs.Common.{◌≡◌, ℕ, ◌≤◌, false, List, [], ◌∷◌, ◌++◌, length, suc, refl, sym, ap, subst}
use Rattle.ad_lex.specs.Lexemes as says
use Rattle.ad_write.specs.Keywords as kw
use Rattle.ad_tree.specs.declared.axioms.Noted.{Noted}
use Rattle.ad_entity.specs.declared.entities.Entity.{Entity}
use Rattle.ad_tree.specs.declared.edits.Op.{Op}
use Rattle.ad_tree.specs.declared.edits.Sign.{Sign}
use Rattle.ad_tree.specs.declared.edits.Sign.TheVariants as signs
use Rattle.ad_grammar.specs.Shapes.{Text, Then, Many0}
use Rattle.ad_grammar.specs.Names.{Words, IsName, SpellsEntity}
use Rattle.ad_grammar.specs.Phrases.{SpellsAnnotation}
use Rattle.ad_grammar.specs.Axioms.{SpellsNoted}
use Rattle.ad_grammar.specs.Texts.{Imports, IsHead, AreNotes, Ontology, SpellsOp, sign_of}
use Rattle.ad_grammar_laws.specs.Known.{IsKnown, AreKnown}
use Rattle.ad_grammar_laws.proofs.Words.{Family, Moves, m_all0, m_name, m_entity, m_annotation, noted_moves, known_both, known_first, known_second}

abbrev noted : Family Noted
noted words = SpellsNoted false words

m_stated : (x : Noted) → Moves noted x
m_stated x = record {
  moved = λ words words' ts h.
      let d = noted_moves words words' x ts h in
      (d.0, λ known. let u = d.1 known in (u.0, u.2));
}

sign_known : (words : Words) (sign : Sign) → IsKnown words (sign_of sign)
sign_known words signs.Add = tt
sign_known words signs.Remove = tt

m_operation : (x : Op) → Moves SpellsOp x
m_operation x = record { moved = λ words words' ts h. signed_moves words words' ts h }
  where
    op_of : Sign → Noted → Op
    op_of sign stated = record { sign = sign; noted = stated }

    signed_moves : (words words' : Words) (ts : Text) → SpellsOp words x ts → AreKnown words ts × (AreKnown words' ts → (y : Op) × SpellsOp words' y ts)
    signed_moves words words' ts (rest, e, s) =
        let d = (m_stated x.noted).moved words words' rest s in (
          subst (AreKnown words) (sym e) (sign_known words x.sign, d.0),
          λ known.
              let k : AreKnown words' (sign_of x.sign ∷ rest) = subst (AreKnown words') e known in
              let u = d.1 k.1 in
              (op_of x.sign u.0, (rest, e, u.1)),
        )

-- as many names as before
abbrev Named : Words → Words → ℕ → Text → Type 0
Named words words' n ts = AreKnown words ts × (AreKnown words' ts → (names : List (List ℕ)) × (length names ≡ n) × Many0 (IsName words') names ts)

names_move : (words words' : Words) (names : List (List ℕ)) (ts : Text) → Many0 (IsName words) names ts → Named words words' (length names) ts
names_move words words' [] ts e = (subst (AreKnown words) (sym e) tt, λ known. ([], refl, e))
names_move words words' (name ∷ names) ts (a, b, e, s, ss) =
    let d = (m_name name).moved words words' a s in
    let r = names_move words words' names b ss in (
      subst (AreKnown words) (sym e) (known_both words a b d.0 r.0),
      λ known.
          let k : AreKnown words' (a ++ b) = subst (AreKnown words') e known in
          let u = d.1 (known_first words' a b k) in
          let v = r.1 (known_second words' a b k) in
          (u.0 ∷ v.0, ap suc v.1, (a, b, e, u.1, v.2)),
    )

-- the same of texts that aren't told apart
record Reread (P Q : Words → Text → Type 0) : Type 0 where
  moved : (words words' : Words) (ts : Text) → P words ts → AreKnown words ts × (AreKnown words' ts → Q words' ts)

r_then : (P P' Q Q' : Words → Text → Type 0) → Reread P P' → Reread Q Q' → Reread (λ words. Then (P words) (Q words)) (λ words. Then (P' words) (Q' words))
r_then P P' Q Q' f g = record { moved = λ words words' ts h. moves_then words words' ts h }
  where
    moves_then : (words words' : Words) (ts : Text) → Then (P words) (Q words) ts → AreKnown words ts × (AreKnown words' ts → Then (P' words') (Q' words') ts)
    moves_then words words' ts (a, b, e, s, t) =
        let d = f.moved words words' a s in
        let g' = g.moved words words' b t in (
          subst (AreKnown words) (sym e) (known_both words a b d.0 g'.0),
          λ known.
              let k : AreKnown words' (a ++ b) = subst (AreKnown words') e known in
              (a, b, e, d.1 (known_first words' a b k), g'.1 (known_second words' a b k)),
        )

head_moves : Reread IsHead IsHead
head_moves = record {
  moved = λ words words' ts h.
      let d = names_move words words' h.0 ts h.2 in
      (d.0, λ known. let u = d.1 known in (u.0, subst (λ n. n ≤ 2) (sym u.1) h.1, u.2));
}

imports_move : Reread (Imports false) (Imports false)
imports_move = record { moved = λ words words' ts h. (subst (AreKnown words) (sym h) tt, λ known. h) }

notes_move : Reread AreNotes AreNotes
notes_move = record { moved = λ words words' ts h. (m_all0 SpellsAnnotation m_annotation h.0).moved words words' ts h.1 }

abbrev Stated : Words → Text → Type 0
Stated words ts = (axioms : List Noted) × Many0 (SpellsNoted false words) axioms ts

stated_move : Reread Stated Stated
stated_move = record { moved = λ words words' ts h. (m_all0 noted m_stated h.0).moved words words' ts h.1 }

abbrev Inside : Words → Text → Type 0
Inside words = Then (IsHead words) (Then (Imports false words) (Then (AreNotes words) (Stated words)))

inside_moves : Reread Inside Inside
inside_moves = r_then IsHead IsHead (λ words. Then (Imports false words) (Then (AreNotes words) (Stated words))) (λ words. Then (Imports false words) (Then (AreNotes words) (Stated words))) head_moves
    (r_then (Imports false) (Imports false) (λ words. Then (AreNotes words) (Stated words)) (λ words. Then (AreNotes words) (Stated words)) imports_move (r_then AreNotes AreNotes Stated Stated notes_move stated_move))

pub ontology_moves : (words words' : Words) (axioms : List Noted) (ts : Text) → Ontology false words (Many0 (SpellsNoted false words) axioms) ts → AreKnown words ts × (AreKnown words' ts → (ys : List Noted) × Ontology false words' (Many0 (SpellsNoted false words') ys) ts)
ontology_moves words words' axioms ts (inner, e, (h, r1, e1, hp, (i, r2, e2, ip, (n, s, e3, np, sp)))) =
    let d = inside_moves.moved words words' inner (h, r1, e1, hp, (i, r2, e2, ip, (n, s, e3, np, (axioms, sp)))) in (
      subst (AreKnown words) (sym e) (tt, (tt, known_both words inner (says.Right ∷ []) d.0 (tt, tt))),
      λ known.
          let k : AreKnown words' (says.Plain kw.Ontology ∷ says.Left ∷ (inner ++ says.Right ∷ [])) = subst (AreKnown words') e known in
          again (d.1 (known_first words' inner (says.Right ∷ []) k.1.1)),
    )
  where
    again : Inside words' inner → (ys : List Noted) × Ontology false words' (Many0 (SpellsNoted false words') ys) ts
    again (h', r1', e1', hp', (i', r2', e2', ip', (n', s', e3', np', (ys, sp')))) = (ys, (inner, e, (h', r1', e1', hp', (i', r2', e2', ip', (n', s', e3', np', sp')))))

pub operations_move : (words words' : Words) (ops : List Op) (ts : Text) → Many0 (SpellsOp words) ops ts → AreKnown words ts × (AreKnown words' ts → (ys : List Op) × Many0 (SpellsOp words') ys ts)
operations_move words words' ops ts h = (m_all0 SpellsOp m_operation ops).moved words words' ts h

pub entities_move : (words words' : Words) (entities : List Entity) (ts : Text) → Many0 (SpellsEntity words) entities ts → AreKnown words ts × (AreKnown words' ts → (ys : List Entity) × Many0 (SpellsEntity words') ys ts)
entities_move words words' entities ts h = (m_all0 SpellsEntity m_entity entities).moved words words' ts h
