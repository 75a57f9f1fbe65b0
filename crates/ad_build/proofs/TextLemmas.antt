-- Whole texts are read as the lists that they spell.
use Rattle.std.proofs.Common.{◌≡◌, ℕ, zero, suc, ◌+◌, ◌≤◌, ◌<◌, false, List, [], ◌∷◌, ◌++◌, length, map, drop, Option, None, Some, refl, sym, ◌∙◌, ap, subst, append_assoc, arith, ◌^◌, ◌-◌, length-drop}
use Rattle.std.proofs.lemmas.List.{append-nil, drop-drop, drop-map, length-map}
use Rattle.ad_lex.specs.declared.token.Token.{Token}
use Rattle.ad_lex.specs.Lexemes.{Lexeme, lexeme, lexemes}
use Rattle.ad_lex.specs.Lexemes as says
use Rattle.ad_write.specs.Keywords as kw
use Rattle.ad_grammar.specs.Names.{Words, IsName, SpellsEntity}
use Rattle.ad_grammar.specs.Shapes.{Text, Then, Compound, Many0}
use Rattle.ad_grammar.specs.Phrases.{SpellsAnnotation}
use Rattle.ad_grammar.specs.Axioms.{SpellsNoted}
use Rattle.ad_grammar.specs.Texts.{Ontology, SpellsOp, sign_of}
use Rattle.ad_tree.specs.declared.notes.Annotation.{Annotation}
use Rattle.ad_tree.specs.declared.axioms.Noted.{Noted}
use Rattle.ad_entity.specs.declared.entities.Entity.{Entity}
use Rattle.ad_tree.specs.declared.edits.Op.{Op}
use Rattle.ad_tree.specs.declared.edits.Sign.{Sign}
use Rattle.ad_tree.specs.declared.edits.Sign.TheVariants as signs
use Rattle.ad_terms.specs.declared.item.StackItem.{StackItem}
use Rattle.ad_terms.specs.declared.item.StackItem.TheVariants as i
use Rattle.ad_terms.specs.Shapes.{more, each}
use Rattle.ad_terms.specs.Items.{as_entity}
use Rattle.ad_terms.specs.Stacks.{gather, leading_notes, behind_names}
use Rattle.ad_build.specs.Reads.{reads, put, put_word, put_text}
use Rattle.ad_build.specs.Lists.{addition, operations, additions}
use Rattle.ad_build.proofs.Readings.{Reads, Gathers, nothing, single, joined, many, for_all, name_reads}
use Rattle.ad_build.proofs.Arguments.{notes_off}
use Rattle.ad_build.proofs.AxiomPhrases.{axioms_read, notes_read, entities_read}

-- each token gives one item at most
gather_few : (items : List StackItem) (depth : ℕ) → length (gather items depth).1 ≤ length items
gather_few [] depth = omega arith
gather_few (i.Close ∷ items) zero = omega arith
gather_few (i.Close ∷ items) (suc depth) = omega (arith, gather_few items depth)
gather_few (i.Open ∷ items) depth = omega (arith, gather_few items (suc depth))
gather_few (item ∷ items) depth = omega (arith, gather_few items depth)

put_word_few : (word : List ℕ) (items : List StackItem) → length (put_word word items) ≤ suc (length items)
put_word_few word [] = omega arith
put_word_few word (i.Open ∷ items) = omega (arith, gather_few items 0)
put_word_few word (item ∷ items) = omega arith

put_text_few : (text : List ℕ) (items : List StackItem) → length (put_text text items) ≤ suc (length items)
put_text_few text (i.Carets ∷ i.Name datatype ∷ items) = omega arith
put_text_few text items = omega arith

put_few : (words : Words) (l : Lexeme) (items : List StackItem) → length (put words l items) ≤ suc (length items)
put_few words (says.Text text) items = put_text_few text items
put_few words (says.Plain word) items = put_word_few word items
put_few words l items = omega arith

pub reads_few : (words : Words) (ts : Text) → length (reads words ts) ≤ length ts
reads_few words [] = omega arith
reads_few words (l ∷ ls) = omega (arith, put_few words l (reads words ls), reads_few words ls)

module _ (words : Words) where
  -- a whole text stands for its items
  pub whole : (items : List StackItem) (ts : Text) → Gathers words items ts → reads words ts ≡ items
  whole items ts g = ap (reads words) (sym (append-nil ts)) ∙ g.reads [] refl ∙ append-nil items

  along_text : (items : List StackItem) (ts us : Text) → ts ≡ us → Gathers words items us → Gathers words items ts
  along_text items ts us e g = let P : Text → Type 0 = λ t. Gathers words items t in subst P (sym e) g

  sign_gathers : (sign : Sign) → Gathers words (i.Signed sign ∷ []) (sign_of sign ∷ [])
  sign_gathers signs.Add = record { balanced = λ rest depth. refl; begins = λ rest h. refl; reads = λ rest h. refl }
  sign_gathers signs.Remove = record { balanced = λ rest depth. refl; begins = λ rest h. refl; reads = λ rest h. refl }

  record Operations (ops : List Op) (ts : Text) : Type 0 where
    items : List StackItem
    are : operations items ≡ Some ops
    gathers : Gathers words items ts

  ops_gather : (ops : List Op) (ts : Text) → Many0 (SpellsOp words) ops ts → Operations ops ts
  ops_gather [] ts e = record { items = []; are = refl; gathers = along_text [] ts [] e (nothing words) }
  ops_gather (op ∷ ops) ts (a, b, e, (rest, e', s), ss) =
      let others = ops_gather ops b ss in
      let stated : Gathers words (i.Axiom op.noted ∷ []) rest = single words (i.Axiom op.noted) rest (axioms_read words op.noted.notes op.noted.«axiom» rest s) in
      let signed : Gathers words (i.Signed op.sign ∷ i.Axiom op.noted ∷ []) (sign_of op.sign ∷ rest) = joined words (i.Signed op.sign ∷ []) (i.Axiom op.noted ∷ []) (sign_of op.sign ∷ []) rest (sign_gathers op.sign) stated in
      record {
        items = i.Signed op.sign ∷ i.Axiom op.noted ∷ others.items;
        are = ap (more (Some op)) others.are;
        gathers = along_text (i.Signed op.sign ∷ i.Axiom op.noted ∷ others.items) ts (a ++ b) e
            (joined words (i.Signed op.sign ∷ i.Axiom op.noted ∷ []) others.items a b (along_text (i.Signed op.sign ∷ i.Axiom op.noted ∷ []) a (sign_of op.sign ∷ rest) e' signed) others.gathers);
      }

  pub operations_read : (ops : List Op) (ts : Text) → Many0 (SpellsOp words) ops ts → operations (reads words ts) ≡ Some ops
  operations_read ops ts s = let found = ops_gather ops ts s in ap operations (whole found.items ts found.gathers) ∙ found.are

  names_gather : (names : List (List ℕ)) (ts : Text) → Many0 (IsName words) names ts → Gathers words (map i.Name names) ts
  names_gather [] ts e = along_text [] ts [] e (nothing words)
  names_gather (name ∷ names) ts (a, b, e, s, ss) =
      along_text (i.Name name ∷ map i.Name names) ts (a ++ b) e (joined words (i.Name name ∷ []) (map i.Name names) a b (single words (i.Name name) a (name_reads words name a s)) (names_gather names b ss))

  axioms_gather : (all : List Noted) (ts : Text) → Many0 (SpellsNoted false words) all ts → Gathers words (map i.Axiom all) ts
  axioms_gather [] ts e = along_text [] ts [] e (nothing words)
  axioms_gather (x ∷ all) ts (a, b, e, s, ss) =
      along_text (i.Axiom x ∷ map i.Axiom all) ts (a ++ b) e (joined words (i.Axiom x ∷ []) (map i.Axiom all) a b (single words (i.Axiom x) a (axioms_read words x.notes x.«axiom» a s)) (axioms_gather all b ss))

names_off : (names : List (List ℕ)) (items : List StackItem) → behind_names (map i.Name names ++ items) ≡ behind_names items
names_off [] items = refl
names_off (name ∷ names) items = names_off names items

-- the axioms, and the parenthesis behind them
abbrev closing : List Noted → List StackItem
closing all = map i.Axiom all ++ i.Close ∷ []

no_names : (notes : List Annotation) (all : List Noted) → behind_names (map i.Note notes ++ closing all) ≡ map i.Note notes ++ closing all
no_names [] [] = refl
no_names [] (x ∷ all) = refl
no_names (note ∷ notes) all = refl

no_notes : (all : List Noted) → leading_notes (closing all) ≡ ([], closing all)
no_notes [] = refl
no_notes (x ∷ all) = refl

axioms_off : (all : List Noted) → additions (closing all) ≡ Some (map addition all)
axioms_off [] = refl
axioms_off (x ∷ all) = ap (more (Some (addition x))) (axioms_off all)

abbrev pub of_body : List StackItem → Option (List Op)
of_body items = additions (leading_notes (behind_names items)).1

body_off : (names : List (List ℕ)) (notes : List Annotation) (all : List Noted) → of_body ((map i.Name names ++ (map i.Note notes ++ map i.Axiom all)) ++ i.Close ∷ []) ≡ Some (map addition all)
body_off names notes all =
    ap of_body (append_assoc (map i.Name names) (map i.Note notes ++ map i.Axiom all) (i.Close ∷ []) ∙ ap (λ items. map i.Name names ++ items) (append_assoc (map i.Note notes) (map i.Axiom all) (i.Close ∷ [])))
    ∙ ap (λ items. additions (leading_notes items).1) (names_off names (map i.Note notes ++ closing all) ∙ no_names notes all)
    ∙ ap (λ (taken : List Annotation × List StackItem). additions taken.1) (notes_off notes (closing all) (no_notes all))
    ∙ axioms_off all

-- the body of an ontology
pub stated_read : (words : Words) (all : List Noted) (ts : Text) → Ontology false words (Many0 (SpellsNoted false words) all) ts → of_body (reads words (drop 2 ts)) ≡ Some (map addition all)
stated_read words all ts (inner, e, (h, r1, e1, (names, short, ns), (im, r2, e2, nil, (nt, st, e3, (notes, nn), ss)))) =
    let behind : Gathers words (map i.Note notes ++ map i.Axiom all) r1 = along_text words (map i.Note notes ++ map i.Axiom all) r1 (nt ++ st) (e2 ∙ ap (λ t. t ++ r2) nil ∙ e3)
    (joined words (map i.Note notes) (map i.Axiom all) nt st (notes_read words notes nt nn) (axioms_gather words all st ss)) in
    let body : Gathers words (map i.Name names ++ (map i.Note notes ++ map i.Axiom all)) inner = along_text words (map i.Name names ++ (map i.Note notes ++ map i.Axiom all)) inner (h ++ r1) e1
    (joined words (map i.Name names) (map i.Note notes ++ map i.Axiom all) h r1 (names_gather words names h ns) behind) in
    ap (λ t. of_body (reads words (drop 2 t))) e ∙ ap of_body (body.reads (says.Right ∷ []) refl) ∙ body_off names notes all

pub ontology_long : (words : Words) (inside : Text → Type 0) (ts : Text) → Ontology false words inside ts → length ts < 2 → ⊥
ontology_long words inside ts (inner, e, s) short = let n : length ts ≡ length (says.Plain kw.Ontology ∷ says.Left ∷ (inner ++ says.Right ∷ [])) = ap length e in omega arith

pub few_items : (words : Words) (text : List ℕ) (tokens : List Token) (from : ℕ) (items : List StackItem) → items ≡ reads words (lexemes text (drop from tokens)) → length tokens < 2 ^ 32 → length items < 2 ^ 32
few_items words text tokens from items e few =
    let n : length items ≡ length (reads words (lexemes text (drop from tokens))) = ap length e in
    let m : length (lexemes text (drop from tokens)) ≤ length tokens = simp (length-map, length-drop) (omega arith) in
    omega (arith, reads_few words (lexemes text (drop from tokens)))

pub behind_two : (text : List ℕ) (tokens : List Token) (from : ℕ) → lexemes text (drop (from + 2) tokens) ≡ drop 2 (lexemes text (drop from tokens))
behind_two text tokens from = ap (lexemes text) (sym (drop-drop 2 from tokens)) ∙ sym (drop-map (lexeme text) 2 (drop from tokens))

pub length_left : (text : List ℕ) (tokens : List Token) (from : ℕ) → length (lexemes text (drop from tokens)) ≡ length tokens - from
length_left text tokens from = simp (length-map, length-drop)

pub entities_of : (words : Words) (all : List Entity) (ts : Text) → Many0 (SpellsEntity words) all ts → each as_entity (reads words ts) ≡ Some all
entities_of words all ts s =
    let found = many words (SpellsEntity words) as_entity all (for_all _ (entities_read words) all) ts s in
    ap (each as_entity) (whole words found.items ts found.gathers) ∙ found.are

names_fewer : (items : List StackItem) → length (behind_names items) ≤ length items
names_fewer (i.Name name ∷ items) = omega (arith, names_fewer items)
names_fewer [] = omega arith
names_fewer (item ∷ items) = omega arith

notes_fewer : (items : List StackItem) → length (leading_notes items).1 ≤ length items
notes_fewer (i.Note note ∷ items) = omega (arith, notes_fewer items)
notes_fewer [] = omega arith
notes_fewer (item ∷ items) = omega arith

pub fewer : (items middle last : List StackItem) → middle ≡ behind_names items → last ≡ (leading_notes middle).1 → length items < 2 ^ 32 → length last < 2 ^ 32
fewer items middle last e f few =
    let m : length middle ≡ length (behind_names items) = ap length e in
    let n : length last ≡ length (leading_notes middle).1 = ap length f in
    omega (arith, names_fewer items, notes_fewer middle)
