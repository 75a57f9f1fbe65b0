-- How deep whole texts nest, and that a canonical document nests no deeper than what it was read from.
use Rattle.std.proofs.Common.{◌≡◌, ℕ, ◌+◌, ◌-◌, ◌≤◌, ◌↔◌, max, false, List, [], ◌∷◌, ◌++◌, refl, sym, ◌∙◌, ap, append_assoc, arith}
use Rattle.std.specs.List.{AllByRecursion}
use Rattle.std.proofs.lemmas.List.{append-nil}
use Rattle.ad_lex.specs.declared.token.Token.{Token}
use Rattle.ad_lex.specs.Lexed.{IsLexed}
use Rattle.ad_lex.specs.Lexemes.{lexemes}
use Rattle.ad_lex.specs.Lexemes as says
use Rattle.ad_lex.proofs.Once.{lexed_once}
use Rattle.ad_write.specs.Canonical.{canon_document}
use Rattle.ad_tree.specs.declared.axioms.Noted.{Noted}
use Rattle.ad_tree.specs.declared.edits.Op.{Op}
use Rattle.ad_grammar.specs.Nesting.{nesting, document_nesting}
use Rattle.ad_grammar.specs.Shapes.{Text, Many0}
use Rattle.ad_grammar.specs.Names.{Words, IsName}
use Rattle.ad_grammar.specs.Phrases.{SpellsAnnotation}
use Rattle.ad_grammar.specs.Axioms.{SpellsNoted}
use Rattle.ad_grammar.specs.Texts.{Declared, SpellsDeclared, in_force, sign_of, Ontology, SpellsOp, SpellsDocument, SpellsEdit, SpellsSingle}
use Rattle.ad_tree.specs.declared.edits.Sign.{Sign}
use Rattle.ad_tree.specs.declared.edits.Sign.TheVariants as signs
use Rattle.ad_canonical.specs.Spellable.{IsSpellable}
use Rattle.ad_canonical.specs.Depths.{NestsWithin}
use Rattle.ad_canonical.proofs.Depths.{HasDepth, Deep, two, empty, name}
use Rattle.ad_canonical.proofs.DepthTrees.{noted, note}
use Rattle.ad_canonical.proofs.Readings.{Lines, lines, document_tokens, document_reading}

-- the nesting of tokens alone
alone : (d : ℕ) (ts : Text) → HasDepth d ts → nesting ts ≡ d
alone d ts h = let whole : nesting (ts ++ []) ≡ max d 0 = h [] in ap nesting (sym (append-nil ts)) ∙ whole ∙ omega arith

pub alike : (a : Noted) (words others : Words) (ts us : Text) → SpellsNoted false words a ts → SpellsNoted false others a us → nesting ts ≡ nesting us
alike a words others ts us s t = let d = noted a in alone d.depth ts (d.each words ts s) ∙ sym (alone d.depth us (d.each others us t))

within_depth : (a : Noted) (n : ℕ) → (noted a).depth ≤ n → NestsWithin n a
within_depth a n h words ts s = let e : nesting ts ≡ (noted a).depth = alone (noted a).depth ts ((noted a).each words ts s) in omega (arith, h)

-- the depth of axioms one after the other
abbrev list : (all : List Noted) → Deep (λ words. Many0 (SpellsNoted false words) all)
list [] = empty
list (a ∷ all) = two (noted a) (list all)

each_within : (all : List Noted) (n : ℕ) → (list all).depth ≤ n → AllByRecursion (NestsWithin n) all
each_within [] n h = tt
each_within (a ∷ all) n h = (within_depth a n (omega arith), each_within all n (omega arith))

list_within : (words : Words) (all : List Noted) (ts : Text) (n : ℕ) → Many0 (SpellsNoted false words) all ts → AllByRecursion (NestsWithin n) all → (list all).depth ≤ n
list_within words [] ts n s h = omega arith
list_within words (a ∷ all) ts n s h =
    let e : nesting s.0 ≡ (noted a).depth = alone (noted a).depth s.0 ((noted a).each words s.0 s.3) in
    let first : nesting s.0 ≤ n = h.0 words s.0 s.3 in
    let others : (list all).depth ≤ n = list_within words all s.1 n s.4 h.1 in
    omega arith

-- the canonical document
tokens_depth : (all : List Noted) (u : Lines all) → document_nesting (document_tokens u) ≡ (list all).depth
unfolding document_tokens
tokens_depth all u =
    let inner : nesting (u.tokens ++ says.Right ∷ []) ≡ max (list all).depth 0 = (list all).each (in_force []) u.tokens (u.spelled (in_force [])) (says.Right ∷ []) in
    omega arith

pub document_within : (all : List Noted) (ts : List Token) (n : ℕ) → AllByRecursion IsSpellable all → IsLexed (canon_document all) ts → (document_nesting (lexemes (canon_document all) ts) ≤ n) ↔ AllByRecursion (NestsWithin n) all
document_within all ts n h lexed =
    let u = lines all h in
    let r = document_reading all u in
    let same : lexemes (canon_document all) ts ≡ document_tokens u = ap (lexemes (canon_document all)) (lexed_once (canon_document all) ts r.0 lexed r.1) ∙ r.2 in
    let depth : document_nesting (lexemes (canon_document all) ts) ≡ (list all).depth = ap document_nesting same ∙ tokens_depth all u in (
      λ le. each_within all n (omega (arith, le, depth)),
      λ each. let low = list_within (in_force []) all u.tokens n (u.spelled (in_force [])) each in omega (arith, low, depth),
    )

-- what stands in front makes a text nest no less
abbrev Grows : Text → Type 0
Grows ts = (more : Text) → nesting more ≤ nesting (ts ++ more)

deep_grows : (d : ℕ) (ts : Text) → HasDepth d ts → Grows ts
deep_grows d ts h more = omega (arith, h more)

both_grow : (a b : Text) → Grows a → Grows b → Grows (a ++ b)
both_grow a b f g more = let e = ap nesting (append_assoc a b more) in omega (arith, e, f (b ++ more), g more)

declared_grow : (declared : List Declared) (ts : Text) → Many0 SpellsDeclared declared ts → Grows ts
declared_grow [] ts e more = let same = ap (λ t. nesting (t ++ more)) e in omega (arith, same)
declared_grow (d ∷ declared) ts (a, b, e, s, ss) more =
    let same : nesting (ts ++ more) ≡ nesting (a ++ (b ++ more)) = ap (λ t. nesting (t ++ more)) e ∙ ap nesting (append_assoc a b more) in
    let first : nesting (a ++ (b ++ more)) ≡ nesting (b ++ more) - 1 + 1 = ap (λ t. nesting (t ++ (b ++ more))) s in
    omega (arith, same, first, declared_grow declared b ss more)

members_grow : {X : Type 0} (S : X → Text → Type 0) → ((x : X) (ts : Text) → S x ts → Grows ts) → (xs : List X) (ts : Text) → Many0 S xs ts → Grows ts
members_grow S each [] ts e more = let same = ap (λ t. nesting (t ++ more)) e in omega (arith, same)
members_grow S each (x ∷ xs) ts (a, b, e, s, ss) more =
    let same : nesting (ts ++ more) ≡ nesting (a ++ (b ++ more)) = ap (λ t. nesting (t ++ more)) e ∙ ap nesting (append_assoc a b more) in
    omega (arith, same, each x a s (b ++ more), members_grow S each xs b ss more)

ontology_depth : (words : Words) (all : List Noted) (ts : Text) → Ontology false words (Many0 (SpellsNoted false words) all) ts → (list all).depth + 1 ≤ nesting ts
ontology_depth words all ts (inner, e, (h, r1, e1, (ns, short, hs), (im, r2, e2, nil, (nt, st, e3, (notes, nn), ss)))) =
    let R : Text = says.Right ∷ [] in
    let whole : nesting ts ≡ nesting (inner ++ R) + 1 = ap nesting e in
    let s1 : nesting (inner ++ R) ≡ nesting (h ++ (r1 ++ R)) = ap (λ t. nesting (t ++ R)) e1 ∙ ap nesting (append_assoc h r1 R) in
    let g1 : nesting (r1 ++ R) ≤ nesting (h ++ (r1 ++ R)) = members_grow (IsName words) (λ n us s. deep_grows (name n).depth us ((name n).each words us s)) ns h hs (r1 ++ R) in
    let s2 : nesting (r1 ++ R) ≡ nesting (r2 ++ R) = ap (λ t. nesting (t ++ R)) (e2 ∙ ap (λ t. t ++ r2) nil) in
    let s3 : nesting (r2 ++ R) ≡ nesting (nt ++ (st ++ R)) = ap (λ t. nesting (t ++ R)) e3 ∙ ap nesting (append_assoc nt st R) in
    let g3 : nesting (st ++ R) ≤ nesting (nt ++ (st ++ R)) = members_grow (SpellsAnnotation words) (λ x us s. deep_grows (note x).depth us ((note x).each words us s)) notes nt nn (st ++ R) in
    let last : nesting (st ++ R) ≡ max (list all).depth 0 = (list all).each words st ss R in
    omega arith

pub document_each : (ts : Text) (declared : List Declared) (all : List Noted) (n : ℕ) → SpellsDocument declared all ts → document_nesting ts ≤ n → AllByRecursion (NestsWithin n) all
document_each ts declared all n (a, b, e, d, h) le =
    let whole = ap nesting e in
    let front : nesting b ≤ nesting (a ++ b) = declared_grow declared a d b in
    let body : (list all).depth + 1 ≤ nesting b = ontology_depth (in_force declared) all b h in
    each_within all n (omega arith)

-- an edit, and one axiom
operations_each : (words : Words) (ops : List Op) (ts : Text) (n : ℕ) → Many0 (SpellsOp words) ops ts → nesting ts ≤ n → AllByRecursion (λ op. NestsWithin n op.noted) ops
operations_each words [] ts n s le = tt
operations_each words (op ∷ ops) ts n (a, b, e, (rest, f, s), ss) le =
    let d = noted op.noted in
    let behind : nesting (rest ++ b) ≡ max d.depth (nesting b) = d.each words rest s b in
    let whole : nesting ts ≡ nesting (rest ++ b) = ap nesting e ∙ ap (λ t. nesting (t ++ b)) f ∙ signed op.sign (rest ++ b) in
    (within_depth op.noted n (omega arith), operations_each words ops b n ss (omega arith))
  where
    signed : (sign : Sign) (more : Text) → nesting (sign_of sign ∷ more) ≡ nesting more
    signed signs.Add more = refl
    signed signs.Remove more = refl

pub edit_each : (ts : Text) (declared : List Declared) (ops : List Op) (n : ℕ) → SpellsEdit declared ops ts → nesting ts ≤ n → AllByRecursion (λ op. NestsWithin n op.noted) ops
edit_each ts declared ops n (a, b, e, d, h) le =
    let whole = ap nesting e in
    let front : nesting b ≤ nesting (a ++ b) = declared_grow declared a d b in
    operations_each (in_force declared) ops b n h (omega arith)

pub single_each : (ts : Text) (declared : List Declared) (a : Noted) (n : ℕ) → SpellsSingle declared a ts → nesting ts ≤ n → NestsWithin n a
single_each ts declared a n (logical, (x, b, e, d, h)) le =
    let whole = ap nesting e in
    let front : nesting b ≤ nesting (x ++ b) = declared_grow declared x d b in
    let is : nesting b ≡ (noted a).depth = alone (noted a).depth b ((noted a).each (in_force declared) b h) in
    within_depth a n (omega arith)
