-- Phrases whose tokens stand for one item wherever they stand, and lists of them.
use Rattle.std.proofs.Common.{◌≡◌, ℕ, zero, suc, Bool, true, false, List, [], ◌∷◌, ◌++◌, Option, None, Some, refl, sym, ◌∙◌, ap, subst, append_assoc}
use Rattle.std.proofs.lemmas.List.{append-nil}
use Rattle.std.specs.List.{AllByRecursion}
use Rattle.ad_lex.specs.Lexemes.{Lexeme}
use Rattle.ad_lex.specs.Lexemes as says
use Rattle.ad_grammar.specs.Names.{Words, names, IsName}
use Rattle.ad_grammar.specs.Shapes.{Text, Compound, Group, Then, Many0, Many1}
use Rattle.ad_terms.specs.declared.item.StackItem.{StackItem}
use Rattle.ad_terms.specs.declared.item.StackItem.TheVariants as i
use Rattle.ad_terms.specs.Shapes.{more, each}
use Rattle.ad_terms.specs.Stacks.{gather, taking, behind}
use Rattle.ad_build.specs.Reads.{reads, built, unless_broken}
use Rattle.ad_build.proofs.Tops.{begins, begins_tail, no_tail}

-- no parenthesis
abbrev pub is_whole : StackItem → Bool
is_whole i.Open = false
is_whole i.Close = false
is_whole _ = true

abbrev pub is_note : StackItem → Bool
is_note (i.Note note) = true
is_note _ = false

-- these tokens stand for this item, whatever phrase stands behind them
pub record Reads (words : Words) (item : StackItem) (ts : Text) : Type 0 where
  pub whole : is_whole item ≡ true
  pub begins : (rest : Text) → begins (ts ++ rest) ≡ true
  pub reads : (rest : Text) → begins_tail rest ≡ false → reads words (ts ++ rest) ≡ item ∷ reads words rest

-- and for an item that can be read as this tree, and is no annotation
pub record ReadsAs (words : Words) {X : Type 0} (as_item : StackItem → Option X) (x : X) (ts : Text) : Type 0 where
  pub item : StackItem
  pub is : as_item item ≡ Some x
  pub other : is_note item ≡ false
  pub phrase : Reads words item ts

-- these tokens stand for these items, whatever phrase stands behind them
pub record Gathers (words : Words) (items : List StackItem) (ts : Text) : Type 0 where
  pub balanced : (rest : List StackItem) (depth : ℕ) → gather (items ++ rest) depth ≡ behind items (gather rest depth)
  pub begins : (rest : Text) → begins_tail rest ≡ false → begins_tail (ts ++ rest) ≡ false
  pub reads : (rest : Text) → begins_tail rest ≡ false → reads words (ts ++ rest) ≡ items ++ reads words rest

gather_whole : (item : StackItem) (items : List StackItem) (depth : ℕ) → is_whole item ≡ true → gather (item ∷ items) depth ≡ taking item (gather items depth)
gather_whole i.Open items depth h = cc
gather_whole i.Close items depth h = cc
gather_whole item items depth h = refl

pub nothing : (words : Words) → Gathers words [] []
nothing words = record { balanced = λ rest depth. refl; begins = λ rest h. h; reads = λ rest h. refl }

pub single : (words : Words) (item : StackItem) (ts : Text) → Reads words item ts → Gathers words (item ∷ []) ts
single words item ts r = record {
  balanced = λ rest depth. gather_whole item rest depth r.whole;
  begins = λ rest h. no_tail (ts ++ rest) (r.begins rest);
  reads = λ rest h. r.reads rest h;
}

pub joined : (words : Words) (as' bs : List StackItem) (a b : Text) → Gathers words as' a → Gathers words bs b → Gathers words (as' ++ bs) (a ++ b)
joined words as' bs a b f g = record {
  balanced = λ rest depth.
      ap (λ items. gather items depth) (append_assoc as' bs rest)
      ∙ f.balanced (bs ++ rest) depth
      ∙ ap (behind as') (g.balanced rest depth)
      ∙ ap (λ items. let taken : List StackItem × List StackItem = (items, (gather rest depth).1) in taken) (sym (append_assoc as' bs (gather rest depth).0));
  begins = λ rest h.
      ap begins_tail (append_assoc a b rest) ∙ f.begins (b ++ rest) (g.begins rest h);
  reads = λ rest h.
      ap (reads words) (append_assoc a b rest)
      ∙ f.reads (b ++ rest) (g.begins rest h)
      ∙ ap (λ items. as' ++ items) (g.reads rest h)
      ∙ sym (append_assoc as' bs (reads words rest));
}

gather_closed : (words : Words) (items : List StackItem) (inner : Text) (rest : Text) → Gathers words items inner
    → gather (reads words ((inner ++ says.Right ∷ []) ++ rest)) 0 ≡ (items, reads words rest)
gather_closed words items inner rest g =
    ap (λ ts. gather (reads words ts) 0) (append_assoc inner (says.Right ∷ []) rest)
    ∙ ap (λ found. gather found 0) (g.reads (says.Right ∷ rest) refl)
    ∙ g.balanced (i.Close ∷ reads words rest) 0
    ∙ ap (λ found. let taken : List StackItem × List StackItem = (found, reads words rest) in taken) (append-nil items)

-- a keyword with its arguments stands for what they make
pub compound : (words : Words) (word : List ℕ) (items : List StackItem) (inner ts rest : Text)
    → Gathers words items inner → ts ≡ says.Plain word ∷ says.Left ∷ (inner ++ says.Right ∷ [])
    → reads words (ts ++ rest) ≡ built word items ∷ reads words rest
compound words word items inner ts rest g e =
    ap (λ t. reads words (t ++ rest)) e
    ∙ ap (λ taken. built word taken.0 ∷ taken.1) (gather_closed words items inner rest g)

pub made : (words : Words) (word : List ℕ) (items : List StackItem) (item : StackItem) (inner ts : Text)
    → Gathers words items inner → ts ≡ says.Plain word ∷ says.Left ∷ (inner ++ says.Right ∷ [])
    → built word items ≡ item → is_whole item ≡ true → Reads words item ts
made words word items item inner ts g e is whole = record {
  whole = whole;
  begins = λ rest. ap (λ t. begins (t ++ rest)) e;
  reads = λ rest h. compound words word items inner ts rest g e ∙ ap (λ it. it ∷ reads words rest) is;
}

-- a list between parentheses
pub grouped : (words : Words) (items : List StackItem) (inner ts : Text) → Gathers words items inner → ts ≡ says.Left ∷ (inner ++ says.Right ∷ [])
    → Gathers words (i.Open ∷ (items ++ i.Close ∷ [])) ts
grouped words items inner ts g e = record {
  balanced = λ rest depth.
      ap (λ found. taking i.Open (gather found (suc depth))) (append_assoc items (i.Close ∷ []) rest)
      ∙ ap (taking i.Open) (g.balanced (i.Close ∷ rest) (suc depth))
      ∙ ap (λ found. let taken : List StackItem × List StackItem = (i.Open ∷ found, (gather rest depth).1) in taken) (sym (append_assoc items (i.Close ∷ []) (gather rest depth).0));
  begins = λ rest h. ap (λ t. begins_tail (t ++ rest)) e;
  reads = λ rest h.
      ap (λ t. reads words (t ++ rest)) e
      ∙ ap (λ t. i.Open ∷ reads words t) (append_assoc inner (says.Right ∷ []) rest)
      ∙ ap (λ found. i.Open ∷ found) (g.reads (says.Right ∷ rest) refl)
      ∙ ap (λ found. i.Open ∷ found) (sym (append_assoc items (i.Close ∷ []) (reads words rest)));
}

-- a name, whatever its kind
pub name_reads : (words : Words) (name : List ℕ) (ts : Text) → IsName words name ts → Reads words (i.Name name) ts
name_reads words name ts (says.Iri full, e, n) =
    let same : full ≡ name = cc in
    record {
      whole = refl;
      begins = λ rest. ap (λ t. begins (t ++ rest)) e;
      reads = λ rest h. ap (λ t. reads words (t ++ rest)) e ∙ ap (λ m. i.Name m ∷ reads words rest) same;
    }
name_reads words name ts (says.Short prefix local, e, n) = record {
  whole = refl;
  begins = λ rest. ap (λ t. begins (t ++ rest)) e;
  reads = λ rest h. ap (λ t. reads words (t ++ rest)) e ∙ ap (λ o. unless_broken i.Name o ∷ reads words rest) n;
}
name_reads words name ts (l, e, n) = cc

-- phrases one after the other
pub more-some : {A : Type 0} (a : Option A) (as' : Option (List A)) (x : A) (xs : List A) → a ≡ Some x → as' ≡ Some xs → more a as' ≡ Some (x ∷ xs)
more-some a as' x xs e f = ap (λ o. more o as') e ∙ ap (λ o. more (Some x) o) f

-- these tokens stand for items that can be read as these trees
pub record ReadsEach (words : Words) {X : Type 0} (as_item : StackItem → Option X) (xs : List X) (ts : Text) : Type 0 where
  pub items : List StackItem
  pub are : each as_item items ≡ Some xs
  pub gathers : Gathers words items ts

-- each phrase of a kind is read as its tree
abbrev pub Is : (words : Words) {X : Type 0} (spells : X → Text → Type 0) (as_item : StackItem → Option X) → X → Type 0
Is words spells as_item x = (ts : Text) → spells x ts → ReadsAs words as_item x ts

pub many : (words : Words) {X : Type 0} (spells : X → Text → Type 0) (as_item : StackItem → Option X) (xs : List X) → AllByRecursion (Is words spells as_item) xs
    → (ts : Text) → Many0 spells xs ts → ReadsEach words as_item xs ts
many words spells as_item [] all ts e = record { items = []; are = refl; gathers = (let P : Text → Type 0 = λ t. Gathers words [] t in subst P (sym e) (nothing words)) }
many words spells as_item (x ∷ xs) all ts (a, b, e, s, ss) =
    let first = all.0 a s in
    let rest = many words spells as_item xs all.1 b ss in
    record {
      items = first.item ∷ rest.items;
      are = more-some _ _ _ _ first.is rest.are;
      gathers = (let P : Text → Type 0 = λ t. Gathers words (first.item ∷ rest.items) t in
          subst P (sym e) (joined words (first.item ∷ []) rest.items a b (single words first.item a first.phrase) rest.gathers));
    }

pub for_all : {X : Type 0} (P : X → Type 0) → ((x : X) → P x) → (xs : List X) → AllByRecursion P xs
for_all P h [] = tt
for_all P h (x ∷ xs) = (h x, for_all P h xs)
