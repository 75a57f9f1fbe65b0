-- Words of letters and digits, labels and tags have the shape of their mark.
use Rattle.std.proofs.Common.{◌≡◌, ◌≢◌, ℕ, ◌+◌, ◌<◌, true, false, not, cond, ◌==◌, List, [], ◌∷◌, length, get_or, refl, ◌∙◌, ap, arith}
use Rattle.std.specs.Prelude.{None, Some, nat_lt}
use Rattle.std.specs.Char.{is_ascii_alphanumeric}
use Rattle.std.specs.List.{AllPass, position_or_len}
use Rattle.std.proofs.lemmas.Bool.{ne_eqb, cond-false, le-ltb, or_from}
use Rattle.std.proofs.lemmas.List.Elements.{All-cons, All-head, All-tail, All-weaker}
use Rattle.ad_lex.specs.declared.token.Mark.TheVariants as mark
use Rattle.ad_lex.specs.declared.kind.CharKind.TheVariants.{Blank, Hash, Left, Right, Equals, Caret, Less, Greater, Quote, At, Plus, Minus, Other}
use Rattle.ad_lex.specs.Characters.{kind_of, is_blank, is_word, is_word_kind, is_colon}
use Rattle.ad_lex.specs.Shapes.{HasShape}

-- the bytes of letters and digits lie apart from those of signs
record IsPlainByte (c : ℕ) : Type 0 where
  low : 47 < c
  not_colon : c ≢ 58
  not_less : c ≢ 60
  not_equals : c ≢ 61
  not_greater : c ≢ 62
  not_at : c ≢ 64
  not_caret : c ≢ 94

plain_byte : (c : ℕ) → is_ascii_alphanumeric c ≡ true → IsPlainByte c
plain_byte c h = record { low = grind arith; not_colon = λ e. grind arith; not_less = λ e. grind arith; not_equals = λ e. grind arith; not_greater = λ e. grind arith; not_at = λ e. grind arith; not_caret = λ e. grind arith }

not_blank : (c : ℕ) → 47 < c → is_blank c ≡ false
not_blank c low = or_from _ _ (or_from _ _ (or_from _ _ (ne_eqb c 32 (λ e. omega arith)) (ne_eqb c 9 (λ e. omega arith))) (ne_eqb c 13 (λ e. omega arith))) (ne_eqb c 10 (λ e. omega arith))

plain_kind : (c : ℕ) → IsPlainByte c → kind_of c ≡ Other
unfolding kind_of
plain_kind c h =
    let low = h.low in
    cond-false (is_blank c) Blank _ (not_blank c low)
    ∙ cond-false (c == 35) Hash _ (ne_eqb c 35 (λ e. omega arith))
    ∙ cond-false (c == 40) Left _ (ne_eqb c 40 (λ e. omega arith))
    ∙ cond-false (c == 41) Right _ (ne_eqb c 41 (λ e. omega arith))
    ∙ cond-false (c == 61) Equals _ (ne_eqb c 61 h.not_equals)
    ∙ cond-false (c == 94) Caret _ (ne_eqb c 94 h.not_caret)
    ∙ cond-false (c == 60) Less _ (ne_eqb c 60 h.not_less)
    ∙ cond-false (c == 62) Greater _ (ne_eqb c 62 h.not_greater)
    ∙ cond-false (c == 34) Quote _ (ne_eqb c 34 (λ e. omega arith))
    ∙ cond-false (c == 64) At _ (ne_eqb c 64 h.not_at)
    ∙ cond-false (c == 43) Plus _ (ne_eqb c 43 (λ e. omega arith))
    ∙ cond-false (c == 45) Minus _ (ne_eqb c 45 (λ e. omega arith))

plain_word : (c : ℕ) → is_ascii_alphanumeric c ≡ true → is_word c ≡ true
plain_word c h = ap is_word_kind (plain_kind c (plain_byte c h))

no_colon : (w : List ℕ) → AllPass is_ascii_alphanumeric w → position_or_len is_colon w ≡ length w
no_colon [] all = refl
no_colon (c ∷ w) all =
    let first : is_ascii_alphanumeric c ≡ true = All-head (λ x. is_ascii_alphanumeric x ≡ true) c w all in
    let more : position_or_len is_colon w ≡ length w = no_colon w (All-tail (λ x. is_ascii_alphanumeric x ≡ true) c w all) in
    ap (λ b. cond (not b) (1 + position_or_len is_colon w) 0) (ne_eqb c 58 (plain_byte c first).not_colon) ∙ omega arith

-- a word of letters and digits, as keywords and numbers are
pub plain_shape : (w : List ℕ) → 0 < length w → AllPass is_ascii_alphanumeric w → HasShape mark.Plain w
plain_shape w some all = record {
  is_word = record {
    some = some;
    each = All-weaker (λ x. is_ascii_alphanumeric x ≡ true) (λ x. is_word x ≡ true) plain_word w all;
    first = plain_kind (get_or w 0 0) (plain_byte (get_or w 0 0) (all 0 0 some));
  };
  whole =
      ap (λ k. cond (nat_lt k (length w)) (Some k) None) (no_colon w all)
      ∙ cond-false (nat_lt (length w) (length w)) (Some (length w)) None (le-ltb (length w) (length w) (omega arith));
}

label_other : kind_of 95 ≡ Other
unfolding kind_of
label_other = refl

colon_word : is_word 58 ≡ true
unfolding kind_of
colon_word = refl

-- a label behind _:
pub node_shape : (label : List ℕ) → AllPass is_word label → HasShape mark.Node (95 ∷ 58 ∷ label)
node_shape label all =
    let P : ℕ → Type 0 = λ c. is_word c ≡ true in
    record {
      is_word = record {
        some = omega arith;
        each = All-cons P 95 (58 ∷ label) (ap is_word_kind label_other) (All-cons P 58 label colon_word all);
        first = label_other;
      };
      spelled = refl;
    }

-- a tag behind @
pub lang_shape : (tag : List ℕ) → 0 < length tag → AllPass is_word tag → HasShape mark.Lang (64 ∷ tag)
lang_shape tag some all = record { spelled = refl; some = some; each = all }
