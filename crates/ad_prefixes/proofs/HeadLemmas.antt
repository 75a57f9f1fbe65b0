-- The prefix declarations in front of a text, read one after the other.
use Rattle.std.proofs.Common.{◌≡◌, ◌≢◌, ℕ, ◌<◌, ◌≤◌, length, get_or, drop, map, arith, Bool, true, false, ◌&&◌, cond, List, [], ◌∷◌, ◌++◌, Option, None, Some, codes, refl, sym, ◌∙◌, ap, append_assoc, subst, zero, suc, ◌+◌, ◌*◌, is_some, slice_get, length-append, length-drop, not, if◌then◌else◌, add-zero, get_or-drop}
use Rattle.std.specs.Str.{bytes_eq}
use Rattle.std.specs.Cmp.Lexicographic.{nat_list_eq_equiv}
use Rattle.std.proofs.lemmas.List.{append-nil, map-append, drop-drop}
use Rattle.std.proofs.lemmas.List.Quantifiers.{all_pairs_push}
use Rattle.std.proofs.lemmas.Slice.Eq.{bytes_eq-Decides}
use Rattle.ad_lex.specs.declared.token.Mark.{Mark}
use Rattle.ad_lex.specs.declared.token.Mark.TheVariants as mark
use Rattle.ad_lex.specs.declared.token.Token.{Token}
use Rattle.ad_lex.specs.Lexemes.{Lexeme, lexeme_of, lexemes}
use Rattle.ad_lex.specs.Lexemes as says
use Rattle.ad_grammar.specs.Shapes.{Text, Many0}
use Rattle.ad_grammar.specs.Texts.{Declared, SpellsDeclared, AreDistinct, iri_of}
use Rattle.ad_prefixes.specs.Heads.{taking, behind, declaration, begun, heads}
use Rattle.ad_prefixes.specs.Declarations.{declared, declarations}
use Rattle.ad_prefixes.specs.Phrased.{IsDeclaredAt, IsTwiceAt}

-- one declaration in front
pub declared_first : (d : Declared) (a rest : Text) → SpellsDeclared d a → heads (a ++ rest) ≡ taking d (heads rest)
declared_first d a rest e = ap (λ t. heads (t ++ rest)) e

-- all declarations, before a text that doesn't begin with one
pub heads_all : (ds : List Declared) (a rest : Text) → Many0 SpellsDeclared ds a → heads rest ≡ ([], rest) → heads (a ++ rest) ≡ (ds, rest)
heads_all [] a rest e none = ap (λ t. heads (t ++ rest)) e ∙ none
heads_all (d ∷ ds) a rest (x, y, e, s, ss) none =
    ap (λ t. heads (t ++ rest)) e ∙ ap heads (append_assoc x y rest) ∙ declared_first d x (y ++ rest) s ∙ ap (taking d) (heads_all ds y rest ss none)

-- another keyword begins no declaration
other_word : (word : List ℕ) (b c d e f : Lexeme) → bytes_eq word (codes "Prefix") ≡ false → declaration (says.Plain word) b c d e f ≡ None
other_word word says.Left (says.Short prefix local) says.Equals (says.Iri iri) says.Right h = ap (λ t. cond (t && bytes_eq local []) (Some (record { prefix = prefix; iri = iri })) None) h
other_word word b c d e f h = refl

pub none_before : (word : List ℕ) (ts : Text) → bytes_eq word (codes "Prefix") ≡ false → heads (says.Plain word ∷ ts) ≡ ([], says.Plain word ∷ ts)
none_before word (b ∷ c ∷ d ∷ e ∷ f ∷ ts) h = ap (λ o. begun o (heads ts) (says.Plain word ∷ b ∷ c ∷ d ∷ e ∷ f ∷ ts)) (other_word word b c d e f h)
none_before word ts h = refl

-- tokens of other marks are no declaration
pub not_plain : (m : Mark) (bytes : List ℕ) (b c d e f : Lexeme) → m ≢ mark.Plain → declaration (lexeme_of m bytes) b c d e f ≡ None
not_plain mark.Plain bytes b c d e f h = absurd (h refl)
not_plain m bytes b c d e f h = refl

pub not_left : (m : Mark) (bytes : List ℕ) (a c d e f : Lexeme) → m ≢ mark.Left → declaration a (lexeme_of m bytes) c d e f ≡ None
not_left mark.Left bytes a c d e f h = absurd (h refl)
not_left m bytes (says.Plain word) c d e f h = refl
not_left m bytes a c d e f h = refl

pub not_short : (m : Mark) (bytes : List ℕ) (a b d e f : Lexeme) → m ≢ mark.Short → declaration a b (lexeme_of m bytes) d e f ≡ None
not_short mark.Short bytes a b d e f h = absurd (h refl)
not_short m bytes (says.Plain word) says.Left d e f h = refl
not_short m bytes a b d e f h = refl

pub not_equals : (m : Mark) (bytes : List ℕ) (a b c e f : Lexeme) → m ≢ mark.Equals → declaration a b c (lexeme_of m bytes) e f ≡ None
not_equals mark.Equals bytes a b c e f h = absurd (h refl)
not_equals m bytes (says.Plain word) says.Left (says.Short prefix local) e f h = refl
not_equals m bytes a b c e f h = refl

pub not_iri : (m : Mark) (bytes : List ℕ) (a b c d f : Lexeme) → m ≢ mark.Iri → declaration a b c d (lexeme_of m bytes) f ≡ None
not_iri mark.Iri bytes a b c d f h = absurd (h refl)
not_iri m bytes (says.Plain word) says.Left (says.Short prefix local) says.Equals f h = refl
not_iri m bytes a b c d f h = refl

pub not_right : (m : Mark) (bytes : List ℕ) (a b c d e : Lexeme) → m ≢ mark.Right → declaration a b c d e (lexeme_of m bytes) ≡ None
not_right mark.Right bytes a b c d e h = absurd (h refl)
not_right m bytes (says.Plain word) says.Left (says.Short prefix local) says.Equals (says.Iri iri) h = refl
not_right m bytes a b c d e h = refl

-- six tokens at the front of a list
six_list : (f : Token → Lexeme) (xs : List Token) (z : Token) → 6 ≤ length xs
    → heads (map f xs) ≡ begun (declaration (f (get_or xs 0 z)) (f (get_or xs 1 z)) (f (get_or xs 2 z)) (f (get_or xs 3 z)) (f (get_or xs 4 z)) (f (get_or xs 5 z))) (heads (map f (drop 6 xs))) (map f xs)
six_list f (a ∷ b ∷ c ∷ d ∷ e ∷ g ∷ xs) z h = refl
six_list f [] z h = absurd (omega arith)
six_list f (a ∷ []) z h = absurd (omega arith)
six_list f (a ∷ b ∷ []) z h = absurd (omega arith)
six_list f (a ∷ b ∷ c ∷ []) z h = absurd (omega arith)
six_list f (a ∷ b ∷ c ∷ d ∷ []) z h = absurd (omega arith)
six_list f (a ∷ b ∷ c ∷ d ∷ e ∷ []) z h = absurd (omega arith)

pub few_none : (f : Token → Lexeme) (xs : List Token) → length xs < 6 → heads (map f xs) ≡ ([], map f xs)
few_none f (a ∷ b ∷ c ∷ d ∷ e ∷ g ∷ xs) h = absurd (omega arith)
few_none f [] h = refl
few_none f (a ∷ []) h = refl
few_none f (a ∷ b ∷ []) h = refl
few_none f (a ∷ b ∷ c ∷ []) h = refl
few_none f (a ∷ b ∷ c ∷ d ∷ []) h = refl
few_none f (a ∷ b ∷ c ∷ d ∷ e ∷ []) h = refl

bytes_same : (xs : List ℕ) → bytes_eq xs xs ≡ true
bytes_same xs = nat_list_eq_equiv.refl xs

later : (b : Bool) (x : List ℕ) (o : Option (List ℕ)) → cond b (Some x) o ≡ None → o ≡ None
later true x o h = cc
later false x o h = h

-- a prefix that isn't declared differs from each that is
pub differs : (ds : List Declared) (prefix : List ℕ) → iri_of ds prefix ≡ None → (k : ℕ) (z : Declared) → k < length ds → (get_or ds k z).prefix ≢ prefix
differs [] prefix none k z h = absurd (omega arith)
differs (d ∷ ds) prefix none zero z h = λ same.
    let here : bytes_eq d.prefix prefix ≡ true = ap (λ p. bytes_eq p prefix) same ∙ bytes_same prefix in
    let found : Some d.iri ≡ None = sym (ap (λ b. cond b (Some d.iri) (iri_of ds prefix)) here) ∙ none in cc
differs (d ∷ ds) prefix none (suc k) z h = differs ds prefix (later (bytes_eq d.prefix prefix) d.iri (iri_of ds prefix) none) k z (omega arith)

-- what was declared so far
pub record Taken (text : List ℕ) (tokens : List Token) (ds : List Declared) (at : ℕ) : Type 0 where
  pub within : at ≤ length tokens
  pub place : at ≡ 6 * length ds
  pub all : heads (lexemes text tokens) ≡ behind ds (heads (lexemes text (drop at tokens)))
  pub distinct : AreDistinct ds

pub begins : (text : List ℕ) (tokens : List Token) → Taken text tokens [] 0
begins text tokens = record { within = omega arith; place = refl; all = refl; distinct = λ i j d h k. absurd (omega arith) }

pub goes_on : (text : List ℕ) (tokens : List Token) (ds : List Declared) (at : ℕ) (short : Token) (prefix iri : List ℕ)
    → Taken text tokens ds at → IsDeclaredAt text tokens at short prefix iri → iri_of ds prefix ≡ None → Taken text tokens (ds ++ declared (prefix, iri) ∷ []) (at + 6)
goes_on text tokens ds at short prefix iri t h none = record {
  within = h.within;
  place = omega (arith, t.place, length-append ds (declared (prefix, iri) ∷ []));
  all = t.all ∙ ap (behind ds) h.goes
      ∙ ap (λ found. let taken : List Declared × Text = (found, (heads (lexemes text (drop (at + 6) tokens))).1) in taken) (sym (append_assoc ds (declared (prefix, iri) ∷ []) (heads (lexemes text (drop (at + 6) tokens))).0));
  distinct = all_pairs_push (λ d e. d.prefix ≢ e.prefix) ds (declared (prefix, iri)) t.distinct (differs ds prefix none);
}

pub ends : (text : List ℕ) (tokens : List Token) (ds : List Declared) (at : ℕ) → Taken text tokens ds at → heads (lexemes text (drop at tokens)) ≡ ([], lexemes text (drop at tokens))
    → heads (lexemes text tokens) ≡ (ds, lexemes text (drop at tokens))
ends text tokens ds at t none = t.all ∙ ap (behind ds) none ∙ ap (λ found. let taken : List Declared × Text = (found, lexemes text (drop at tokens)) in taken) (append-nil ds)

pub twice_at : (text : List ℕ) (tokens : List Token) (ds : List Declared) (at : ℕ) (short : Token) (prefix iri : List ℕ)
    → Taken text tokens ds at → IsDeclaredAt text tokens at short prefix iri → is_some (iri_of ds prefix) ≡ true → IsTwiceAt text tokens short.from
twice_at text tokens ds at short prefix iri t h twice = (
  ds,
  (heads (lexemes text (drop (at + 6) tokens))).0,
  declared (prefix, iri),
  short,
  record {
    all = ap (λ g. g.0) (t.all ∙ ap (behind ds) h.goes);
    distinct = t.distinct;
    twice = twice;
    third = (let P : ℕ → Type 0 = λ n. slice_get tokens (n + 2) ≡ Some short in subst P t.place h.third);
    here = refl;
  },
)

-- one declaration more in the list of them
pub one_more : (old : List (List ℕ × List ℕ)) (entry : List ℕ × List ℕ) → declarations (old ++ entry ∷ []) ≡ declarations old ++ declared entry ∷ []
one_more old entry = map-append declared old (entry ∷ [])

-- six tokens from a place on
pub six_at : (f : Token → Lexeme) (tokens : List Token) (at : ℕ) (z : Token) (o : Option Declared) → at + 6 ≤ length tokens
    → o ≡ declaration (f (get_or tokens at z)) (f (get_or tokens (at + 1) z)) (f (get_or tokens (at + 2) z)) (f (get_or tokens (at + 3) z)) (f (get_or tokens (at + 4) z)) (f (get_or tokens (at + 5) z))
    → heads (map f (drop at tokens)) ≡ begun o (heads (map f (drop (at + 6) tokens))) (map f (drop at tokens))
six_at f tokens at z o long e =
    let e0 : get_or (drop at tokens) 0 z ≡ get_or tokens at z = get_or-drop at tokens 0 z ∙ ap (λ i. get_or tokens i z) (add-zero at) in
    let e1 : get_or (drop at tokens) 1 z ≡ get_or tokens (at + 1) z = get_or-drop at tokens 1 z in
    let e2 : get_or (drop at tokens) 2 z ≡ get_or tokens (at + 2) z = get_or-drop at tokens 2 z in
    let e3 : get_or (drop at tokens) 3 z ≡ get_or tokens (at + 3) z = get_or-drop at tokens 3 z in
    let e4 : get_or (drop at tokens) 4 z ≡ get_or tokens (at + 4) z = get_or-drop at tokens 4 z in
    let e5 : get_or (drop at tokens) 5 z ≡ get_or tokens (at + 5) z = get_or-drop at tokens 5 z in
    let same : declaration (f (get_or (drop at tokens) 0 z)) (f (get_or (drop at tokens) 1 z)) (f (get_or (drop at tokens) 2 z)) (f (get_or (drop at tokens) 3 z)) (f (get_or (drop at tokens) 4 z)) (f (get_or (drop at tokens) 5 z)) ≡ o = cc in
    six_list f (drop at tokens) z (simp length-drop (omega arith))
    ∙ ap (λ found. begun found (heads (map f (drop 6 (drop at tokens)))) (map f (drop at tokens))) same
    ∙ ap (λ rest. begun o (heads (map f rest)) (map f (drop at tokens))) (drop-drop 6 at tokens)

not_none : (b : Bool) → true ≡ not b → b ≡ false
not_none true h = cc
not_none false h = refl

pub none_if : {X : Type 0} (o : Option X) → is_some o ≡ false → o ≡ None
none_if None h = refl
none_if (Some x) h = cc

pub taken_more : (text : List ℕ) (tokens : List Token) (old new : List (List ℕ × List ℕ)) (at : ℕ) (short : Token) (prefix iri owned : List ℕ) (fresh : Bool)
    → Taken text tokens (declarations old) at → IsDeclaredAt text tokens at short prefix iri → owned ≡ iri
    → fresh ≡ not (is_some (iri_of (declarations old) prefix)) → new ≡ (if fresh then old ++ (prefix, owned) ∷ [] else old) → not fresh ≡ false → Taken text tokens (declarations new) (at + 6)
taken_more text tokens old new at short prefix iri owned false t h same is e sure = cc
taken_more text tokens old new at short prefix iri owned true t h same is e sure =
    let all : declarations new ≡ declarations old ++ declared (prefix, iri) ∷ [] = ap declarations e ∙ one_more old (prefix, owned) ∙ ap (λ i. declarations old ++ declared (prefix, i) ∷ []) same in
    let P : List Declared → Type 0 = λ ds. Taken text tokens ds (at + 6) in
    subst P (sym all) (goes_on text tokens (declarations old) at short prefix iri t h (none_if (iri_of (declarations old) prefix) (not_none (is_some (iri_of (declarations old) prefix)) is)))

pub third : (tokens : List Token) (at : ℕ) (z : Token) → at < length tokens → slice_get tokens at ≡ Some (get_or tokens at z)
third (t ∷ tokens) zero z h = refl
third (t ∷ tokens) (suc at) z h = third tokens at z (omega arith)
third [] at z h = absurd (omega arith)

-- a token that isn't the word begins no declaration
pub none_other : (l : Lexeme) (ts : Text) → ((word : List ℕ) → l ≡ says.Plain word → bytes_eq word (codes "Prefix") ≡ false) → heads (l ∷ ts) ≡ ([], l ∷ ts)
none_other (says.Plain word) ts h = none_before word ts (h word refl)
none_other l (b ∷ c ∷ d ∷ e ∷ f ∷ ts) h = refl
none_other l ts h = refl

cond_some : {X : Type 0} (b : Bool) (x y : X) → cond b (Some x) None ≡ Some y → (b ≡ true) × (x ≡ y)
cond_some true x y h = (refl, cc)
cond_some false x y h = cc

both_true : (b c : Bool) → (b && c) ≡ true → (b ≡ true) × (c ≡ true)
both_true true c h = (refl, h)
both_true false c h = cc

six_spelled : (a b c d e f : Lexeme) (x : Declared) → declaration a b c d e f ≡ Some x → SpellsDeclared x (a ∷ b ∷ c ∷ d ∷ e ∷ f ∷ [])
six_spelled (says.Plain word) says.Left (says.Short prefix local) says.Equals (says.Iri iri) says.Right x h =
    let found = cond_some (bytes_eq word (codes "Prefix") && bytes_eq local []) (declared (prefix, iri)) x h in
    let tests = both_true (bytes_eq word (codes "Prefix")) (bytes_eq local []) found.0 in
    let spelled : word ≡ codes "Prefix" = (bytes_eq-Decides word (codes "Prefix")).0 tests.0 in
    let bare : local ≡ [] = (bytes_eq-Decides local []).0 tests.1 in
    let same : prefix ≡ x.prefix = ap (λ (y : Declared). y.prefix) found.1 in
    let same' : iri ≡ x.iri = ap (λ (y : Declared). y.iri) found.1 in
    cc
six_spelled a b c d e f x h = cc

-- the tokens in front spell what is declared, and the rest stands behind them
abbrev pub Front : List Declared × Text → Text → Type 0
Front found ts = (a : Text) × Many0 SpellsDeclared found.0 a × (ts ≡ a ++ found.1)

front_after : (a b c d e f : Lexeme) (ts : Text) (o : Option Declared) → declaration a b c d e f ≡ o → Front (heads ts) ts → Front (begun o (heads ts) (a ∷ b ∷ c ∷ d ∷ e ∷ f ∷ ts)) (a ∷ b ∷ c ∷ d ∷ e ∷ f ∷ ts)
front_after a b c d e f ts None is rest = ([], refl, refl)
front_after a b c d e f ts (Some x) is rest =
    (a ∷ b ∷ c ∷ d ∷ e ∷ f ∷ rest.0, (a ∷ b ∷ c ∷ d ∷ e ∷ f ∷ [], rest.0, refl, six_spelled a b c d e f x is, rest.1), ap (λ t. a ∷ b ∷ c ∷ d ∷ e ∷ f ∷ t) rest.2)

pub front_spelled : (ts : Text) → Front (heads ts) ts
front_spelled (a ∷ b ∷ c ∷ d ∷ e ∷ f ∷ ts) = front_after a b c d e f ts (declaration a b c d e f) refl (front_spelled ts)
front_spelled ts = ([], refl, refl)
