-- What the kind of a byte tells of the byte.
use Rattle.std.proofs.Common.{◌≡◌, ℕ, ◌<◌, Bool, true, false, cond, refl, arith}
use Rattle.std.proofs.lemmas.Bool.{eqb-true}
use Rattle.ad_lex.specs.declared.kind.CharKind.{CharKind}
use Rattle.ad_lex.specs.declared.kind.CharKind.TheVariants.{Blank, Hash, Left, Right, Equals, Caret, Less, Greater, Quote, At, Plus, Minus, Other}
use Rattle.ad_lex.specs.Characters.{is_blank, kind_of, is_word, is_word_kind, goes_on}

abbrev pub IsOfKind : CharKind → ℕ → Type 0
IsOfKind Blank c = is_blank c ≡ true
IsOfKind Hash c = c ≡ 35
IsOfKind Left c = c ≡ 40
IsOfKind Right c = c ≡ 41
IsOfKind Equals c = c ≡ 61
IsOfKind Caret c = c ≡ 94
IsOfKind Less c = c ≡ 60
IsOfKind Greater c = c ≡ 62
IsOfKind Quote c = c ≡ 34
IsOfKind At c = c ≡ 64
IsOfKind Plus c = c ≡ 43
IsOfKind Minus c = c ≡ 45
IsOfKind Other c = Unit {0}

chosen : (c : ℕ) (b : Bool) (k l : CharKind) → (b ≡ true → IsOfKind k c) → IsOfKind l c → IsOfKind (cond b k l) c
chosen c true k l h t = h refl
chosen c false k l h t = t

pub kind_tells : (c : ℕ) → IsOfKind (kind_of c) c
unfolding kind_of
kind_tells c =
    chosen c _ Blank _ (λ h. h)
    (chosen c _ Hash _ (eqb-true c 35)
    (chosen c _ Left _ (eqb-true c 40)
    (chosen c _ Right _ (eqb-true c 41)
    (chosen c _ Equals _ (eqb-true c 61)
    (chosen c _ Caret _ (eqb-true c 94)
    (chosen c _ Less _ (eqb-true c 60)
    (chosen c _ Greater _ (eqb-true c 62)
    (chosen c _ Quote _ (eqb-true c 34)
    (chosen c _ At _ (eqb-true c 64)
    (chosen c _ Plus _ (eqb-true c 43)
    (chosen c _ Minus _ (eqb-true c 45) tt)))))))))))

pub blank_ascii : (c : ℕ) → is_blank c ≡ true → c < 128
blank_ascii c h = grind arith

ascii_by : (k : CharKind) (c : ℕ) → IsOfKind k c → is_word_kind k ≡ false → c < 128
ascii_by Blank c h e = blank_ascii c h
ascii_by Hash c h e = omega arith
ascii_by Left c h e = omega arith
ascii_by Right c h e = omega arith
ascii_by Equals c h e = omega arith
ascii_by Caret c h e = omega arith
ascii_by Less c h e = omega arith
ascii_by Greater c h e = omega arith
ascii_by Quote c h e = omega arith
ascii_by At c h e = omega arith
ascii_by Plus c h e = cc
ascii_by Minus c h e = cc
ascii_by Other c h e = cc

-- what is no word character is ASCII
pub word_ends_ascii : (c : ℕ) → is_word c ≡ false → c < 128
word_ends_ascii c h = ascii_by (kind_of c) c (kind_tells c) h

-- a comment ends before an ASCII character
pub comment_ends_ascii : (c : ℕ) → goes_on c ≡ false → c < 128
comment_ends_ascii c h = grind arith
