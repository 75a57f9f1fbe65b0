-- The text of an edition's counts.
use Rattle.std.proofs.Common.{◌≡◌, ℕ, ◌+◌, ◌-◌, ◌^◌, ◌<◌, ◌≤◌, List, [], ◌∷◌, ◌++◌, length, min, codes, decimal, ap, ◌∙◌, arith, append_assoc, length-append}
use Rattle.std.proofs.lemmas.Fmt.{length-decimal-le}
use Rattle.ad_base.specs.declared.limits.Kind.TheVariants as kinds
use Rattle.ad_decompose.specs.Decomposed.{atomic_of}
use Rattle.ad_edition.specs.Edition.{Whole, IsEdition}
use Rattle.ad_reply.specs.Atoms.{shape_in}
use Rattle.ad_reply.specs.Bodies.{IsStatBody, stat_text}
use Rattle.ad_reply.specs.Stats.{atoms_line, axioms_line, stat_in, stat_lines, tautologies_line}
use Rattle.ad_reply.specs.declared.stat.Stat.{Stat}
use Rattle.ad_reply.proofs.AtomLemmas.{ShapesOfSlots, atoms_counted, edition_shape}

-- words with numbers behind them, one after the other
pub four_counts : (a b c d l m n o : List ℕ) → ((((a ++ l) ++ (b ++ m)) ++ (c ++ n)) ++ (d ++ o)) ++ (10 ∷ []) ≡ a ++ (l ++ (b ++ (m ++ (c ++ (n ++ (d ++ (o ++ (10 ∷ []))))))))
four_counts a b c d l m n o = simp append_assoc

pub three_counts : (a b c l m n : List ℕ) → (((a ++ l) ++ (b ++ m)) ++ (c ++ n)) ++ (10 ∷ []) ≡ a ++ (l ++ (b ++ (m ++ (c ++ (n ++ (10 ∷ []))))))
three_counts a b c l m n = simp append_assoc

-- the counts fit their types
pub record FitsTypes (s : Stat) : Type 0 where
  pub axioms : s.axioms < 2 ^ 64
  pub carried : s.carried < 2 ^ 64
  pub entities : s.entities < 2 ^ 64
  pub bytes : s.bytes < 2 ^ 64
  pub tautologies : s.tautologies < 2 ^ 64
  pub bottom : s.bottom < 2 ^ 64
  pub top : s.top < 2 ^ 64
  pub star : s.star < 2 ^ 64

digits : (n : ℕ) → n < 2 ^ 64 → length (decimal n) ≤ 20
digits n small = length-decimal-le 20 n (omega arith) (omega (arith, small)) small

-- a word and a number, and what stands behind them
pair_long : (word rest : List ℕ) (n : ℕ) → n < 2 ^ 64 → length (32 ∷ word ++ (32 ∷ decimal n ++ rest)) ≤ length word + (22 + length rest)
pair_long word rest n small = omega (arith, digits n small, length-append word (32 ∷ decimal n ++ rest), length-append (decimal n) rest)

axioms_long : (s : Stat) → FitsTypes s → length (axioms_line s) ≤ 200
axioms_long s fits =
    let end : List ℕ = 10 ∷ [] in
    let bytes : List ℕ = 32 ∷ codes "bytes" ++ (32 ∷ decimal s.bytes ++ end) in
    let entities : List ℕ = 32 ∷ codes "entities" ++ (32 ∷ decimal s.entities ++ bytes) in
    let carried : List ℕ = 32 ∷ codes "carried" ++ (32 ∷ decimal s.carried ++ entities) in
    omega (
      arith,
      pair_long (codes "bytes") end s.bytes fits.bytes,
      pair_long (codes "entities") bytes s.entities fits.entities,
      pair_long (codes "carried") entities s.carried fits.carried,
      digits s.axioms fits.axioms,
      length-append (decimal s.axioms) carried,
    )

tautologies_long : (s : Stat) → FitsTypes s → length (tautologies_line s) ≤ 200
tautologies_long s fits = omega (arith, digits s.tautologies fits.tautologies, length-append (decimal s.tautologies) (10 ∷ []))

atoms_long : (s : Stat) → FitsTypes s → length (atoms_line s) ≤ 200
atoms_long s fits =
    let end : List ℕ = 10 ∷ [] in
    let star : List ℕ = 32 ∷ codes "star" ++ (32 ∷ decimal s.star ++ end) in
    let top : List ℕ = 32 ∷ codes "top" ++ (32 ∷ decimal s.top ++ star) in
    omega (
      arith,
      pair_long (codes "star") end s.star fits.star,
      pair_long (codes "top") star s.top fits.top,
      digits s.bottom fits.bottom,
      length-append (decimal s.bottom) top,
    )

-- their text isn't long
pub stat_long : (s : Stat) → FitsTypes s → length (stat_lines s) ≤ 600
stat_long s fits =
    omega (
      arith,
      axioms_long s fits,
      tautologies_long s fits,
      atoms_long s fits,
      length-append (axioms_line s ++ tautologies_line s) (atoms_line s),
      length-append (axioms_line s) (tautologies_line s),
    )

-- the text is the body that tells the counts
pub stat_is : (edition : Whole) → IsEdition edition → ShapesOfSlots → IsStatBody edition.shown.axioms (stat_lines (stat_in edition))
stat_is edition is law =
    let o = edition.shown.axioms in
    let bottom = atomic_of edition.found kinds.Bottom in
    let top = atomic_of edition.found kinds.Top in
    let star = atomic_of edition.found kinds.Star in
    let loose : bottom.atoms.tautologies ≡ (shape_in kinds.Bottom edition).tautologies = (is.decomposed.atomic kinds.Bottom).atoms_are.tautologies_are in
    record {
      shape = λ kind. shape_in kind edition;
      are = λ kind. edition_shape kind edition is law;
      text = ap (λ n. stat_text o n (length bottom.atoms.firsts) (length top.atoms.firsts) (length star.atoms.firsts)) loose
          ∙ ap (λ n. stat_text o (shape_in kinds.Bottom edition).tautologies n (length top.atoms.firsts) (length star.atoms.firsts)) (atoms_counted kinds.Bottom edition is)
          ∙ ap (λ n. stat_text o (shape_in kinds.Bottom edition).tautologies (length (shape_in kinds.Bottom edition).sizes) n (length star.atoms.firsts)) (atoms_counted kinds.Top edition is)
          ∙ ap (λ n. stat_text o (shape_in kinds.Bottom edition).tautologies (length (shape_in kinds.Bottom edition).sizes) (length (shape_in kinds.Top edition).sizes) n) (atoms_counted kinds.Star edition is);
    }

-- a length that isn't great isn't capped
pub short_min : (n : ℕ) → n ≤ 600 → min n (2 ^ 64 - 1) ≡ n
short_min n few = omega (arith, few)
