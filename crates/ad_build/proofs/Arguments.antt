-- The arguments of a keyword, read by the shape that it asks for.
use Rattle.std.proofs.Common.{◌≡◌, ℕ, ◌<◌, ◌≤◌, Bool, true, false, cond, ◌&&◌, List, [], ◌∷◌, ◌++◌, length, map, nat_le, Option, None, Some, IfSome, refl, sym, ◌∙◌, ap, subst, arith, append_assoc}
use Rattle.std.specs.Option.{option_map, option_zip}
use Rattle.std.specs.List.{AllByRecursion}
use Rattle.std.specs.Str.Parse.{IsNumeral, digits_value}
use Rattle.ad_lex.specs.Lexemes.{Lexeme}
use Rattle.ad_lex.specs.Lexemes as says
use Rattle.ad_grammar.specs.Names.{Words, IsName, IsNumber}
use Rattle.ad_grammar.specs.Shapes.{Text, Then, Many0, Many1, Optional}
use Rattle.ad_tree.specs.declared.notes.Annotation.{Annotation}
use Rattle.ad_terms.specs.declared.item.StackItem.{StackItem}
use Rattle.ad_terms.specs.declared.item.StackItem.TheVariants as i
use Rattle.ad_terms.specs.Items.{as_number}
use Rattle.ad_terms.specs.Shapes.{one, two, three, optional, counted, each, first_and_each}
use Rattle.ad_terms.specs.Stacks.{leading_notes, taking}
use Rattle.ad_build.specs.Reads.{reads, number_of, unless_broken}
use Rattle.ad_build.proofs.Tops.{begins, begins_tail, no_tail, number_before}
use Rattle.ad_build.proofs.Numbers.{by_test, number_known}
use Rattle.ad_build.proofs.Readings.{Reads, ReadsAs, ReadsEach, Gathers, Is, is_note, nothing, single, joined, many, more-some}

-- these tokens stand for arguments that are read as this, and don't begin with an annotation
pub record Arguments (words : Words) {A : Type 0} (take : List StackItem → Option A) (x : A) (ts : Text) : Type 0 where
  pub items : List StackItem
  pub is : take items ≡ Some x
  pub bare : leading_notes items ≡ ([], items)
  pub gathers : Gathers words items ts

pub bare_first : (item : StackItem) (items : List StackItem) → is_note item ≡ false → leading_notes (item ∷ items) ≡ ([], item ∷ items)
bare_first (i.Note note) items h = cc
bare_first item items h = refl

both-some : {A B : Type 0} (a : Option A) (b : Option B) (x : A) (y : B) → a ≡ Some x → b ≡ Some y → option_zip a b ≡ Some (x, y)
both-some a b x y e f = ap (λ o. option_zip o b) e ∙ ap (λ o. option_zip (Some x) o) f

pub three-some : {A B C : Type 0} (a : Option A) (b : Option B) (c : Option C) (x : A) (y : B) (z : C) → a ≡ Some x → b ≡ Some y → c ≡ Some z → option_zip a (option_zip b c) ≡ Some (x, (y, z))
three-some a b c x y z e f g = both-some a (option_zip b c) x (y, z) e (both-some b c y z f g)

at : (words : Words) (items : List StackItem) (ts us : Text) → ts ≡ us → Gathers words items us → Gathers words items ts
at words items ts us e g = let P : Text → Type 0 = λ t. Gathers words items t in subst P (sym e) g

pub one_argument : (words : Words) {A : Type 0} (f : StackItem → Option A) (x : A) (ts : Text) → ReadsAs words f x ts → Arguments words (one f) x ts
one_argument words f x ts r = record { items = r.item ∷ []; is = r.is; bare = bare_first r.item [] r.other; gathers = single words r.item ts r.phrase }

pub two_arguments : (words : Words) {A B : Type 0} (f : StackItem → Option A) (g : StackItem → Option B) (x : A) (y : B) (ts a b : Text) → ts ≡ a ++ b
    → ReadsAs words f x a → ReadsAs words g y b → Arguments words (two f g) (x, y) ts
two_arguments words f g x y ts a b e r s = record {
  items = r.item ∷ s.item ∷ [];
  is = both-some _ _ x y r.is s.is;
  bare = bare_first r.item _ r.other;
  gathers = at words _ ts (a ++ b) e (joined words (r.item ∷ []) (s.item ∷ []) a b (single words r.item a r.phrase) (single words s.item b s.phrase));
}

pub three_arguments : (words : Words) {A B C : Type 0} (f : StackItem → Option A) (g : StackItem → Option B) (h : StackItem → Option C) (x : A) (y : B) (z : C) (ts a bc b c : Text)
    → ts ≡ a ++ bc → bc ≡ b ++ c → ReadsAs words f x a → ReadsAs words g y b → ReadsAs words h z c → Arguments words (three f g h) (x, (y, z)) ts
three_arguments words f g h x y z ts a bc b c e e' r s t =
    let behind : Gathers words (s.item ∷ t.item ∷ []) bc = at words _ bc (b ++ c) e' (joined words (s.item ∷ []) (t.item ∷ []) b c (single words s.item b s.phrase) (single words t.item c t.phrase)) in
    record {
      items = r.item ∷ s.item ∷ t.item ∷ [];
      is = three-some _ _ _ x y z r.is s.is t.is;
      bare = bare_first r.item _ r.other;
      gathers = at words _ ts (a ++ bc) e (joined words (r.item ∷ []) (s.item ∷ t.item ∷ []) a bc (single words r.item a r.phrase) behind);
    }

pub each_argument : (words : Words) {X : Type 0} (spells : X → Text → Type 0) (f : StackItem → Option X) (xs : List X) → AllByRecursion (Is words spells f) xs
    → (ts : Text) → Many1 spells xs ts → Arguments words (each f) xs ts
each_argument words spells f [] all ts h = absurd h
each_argument words spells f (x ∷ xs) all ts (a, b, e, s, ss) =
    let first = all.0 a s in
    let rest = many words spells f xs all.1 b ss in
    record {
      items = first.item ∷ rest.items;
      is = more-some _ _ _ _ first.is rest.are;
      bare = bare_first first.item rest.items first.other;
      gathers = at words _ ts (a ++ b) e (joined words (first.item ∷ []) rest.items a b (single words first.item a first.phrase) rest.gathers);
    }

pub first_and_each_argument : (words : Words) {A X : Type 0} (f : StackItem → Option A) (spells : X → Text → Type 0) (g : StackItem → Option X) (x : A) (xs : List X) → AllByRecursion (Is words spells g) xs
    → (ts a b : Text) → ts ≡ a ++ b → ReadsAs words f x a → Many1 spells xs b → Arguments words (first_and_each f g) (x, xs) ts
first_and_each_argument words f spells g x xs all ts a b e r ss =
    let rest = each_argument words spells g xs all b ss in
    record {
      items = r.item ∷ rest.items;
      is = both-some _ _ x xs r.is rest.is;
      bare = bare_first r.item rest.items r.other;
      gathers = at words _ ts (a ++ b) e (joined words (r.item ∷ []) rest.items a b (single words r.item a r.phrase) rest.gathers);
    }

-- what may be absent
record Maybe (words : Words) {X : Type 0} (f : StackItem → Option X) (x : Option X) (ts : Text) : Type 0 where
  items : List StackItem
  is : optional f items ≡ Some x
  gathers : Gathers words items ts

maybe : (words : Words) {X : Type 0} (spells : X → Text → Type 0) (f : StackItem → Option X) (x : Option X) → IfSome x (Is words spells f) → (ts : Text) → Optional spells x ts → Maybe words f x ts
maybe words spells f None all ts e = record { items = []; is = refl; gathers = at words [] ts [] e (nothing words) }
maybe words spells f (Some x) all ts s =
    let r = all ts s in record { items = r.item ∷ []; is = ap (option_map Some) r.is; gathers = single words r.item ts r.phrase }

number_is : (digits : List ℕ) (n : ℕ) → IsNumeral 10 digits → digits_value 10 digits ≡ n → n ≤ 4294967295 → number_of digits ≡ Some n
number_is digits n h e small = number_known digits h.0 (by_test.from digits h.1) (omega arith) ∙ ap Some e

-- a number before a phrase
numbered : (words : Words) (n : ℕ) (items : List StackItem) (a b : Text) → IsNumber n a → Gathers words items b → ((rest : Text) → begins (b ++ rest) ≡ true) → Gathers words (i.Number n ∷ items) (a ++ b)
numbered words n items a b (digits, e, numeral, value, small) g starts = record {
  balanced = λ rest depth. ap (taking (i.Number n)) (g.balanced rest depth);
  begins = λ rest h. ap (λ t. begins_tail ((t ++ b) ++ rest)) e;
  reads = λ rest h.
      ap (λ t. reads words ((t ++ b) ++ rest)) e
      ∙ number_before words digits (b ++ rest) (starts rest)
      ∙ ap (λ o. unless_broken i.Number o ∷ reads words (b ++ rest)) (number_is digits n numeral value small)
      ∙ ap (λ found. i.Number n ∷ found) (g.reads rest h);
}

pub counted_arguments : (words : Words) {P X : Type 0} (f : StackItem → Option P) (spells : X → Text → Type 0) (g : StackItem → Option X) (n : ℕ) (p : P) (x : Option X) → IfSome x (Is words spells g)
    → (ts a bc b c : Text) → ts ≡ a ++ bc → IsNumber n a → bc ≡ b ++ c → ReadsAs words f p b → Optional spells x c → Arguments words (counted as_number f g) (n, (p, x)) ts
counted_arguments words f spells g n p x all ts a bc b c e number e' r s =
    let last = maybe words spells g x all c s in
    let behind : Gathers words (r.item ∷ last.items) bc = at words _ bc (b ++ c) e' (joined words (r.item ∷ []) last.items b c (single words r.item b r.phrase) last.gathers) in
    record {
      items = i.Number n ∷ r.item ∷ last.items;
      is = three-some _ _ _ n p x refl r.is last.is;
      bare = refl;
      gathers = at words _ ts (a ++ bc) e (numbered words n (r.item ∷ last.items) a bc number behind
          (λ rest. ap (λ t. begins (t ++ rest)) e' ∙ ap begins (append_assoc b c rest) ∙ r.phrase.begins (c ++ rest)));
    }

-- annotations, and the arguments behind them
pub notes_off : (notes : List Annotation) (items : List StackItem) → leading_notes items ≡ ([], items) → leading_notes (map i.Note notes ++ items) ≡ (notes, items)
notes_off [] items h = h
notes_off (note ∷ notes) items h = ap (taking note) (notes_off notes items h)
