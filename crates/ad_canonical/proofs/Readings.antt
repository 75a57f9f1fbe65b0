-- What is written is read back, and as nothing else.
use Rattle.std.proofs.Common.{◌≡◌, ℕ, false, List, [], ◌∷◌, ◌++◌, map, Option, None, Some, drop, flat_map, IsUtf8, refl, sym, ◌∙◌, ap, subst, append_assoc, arith}
use Rattle.std.specs.Prelude.{IsTrue}
use Rattle.std.specs.List.{AllByRecursion}
use Rattle.std.proofs.lemmas.List.{append-nil, append_cancel_left}
use Rattle.std.proofs.lemmas.Str.{IsUtf8-append, IsUtf8-nil}
use Rattle.ad_lex.specs.declared.token.Mark.TheVariants as mark
use Rattle.ad_lex.specs.declared.token.Token.{Token}
use Rattle.ad_lex.specs.Lexed.{IsLexed, start}
use Rattle.ad_lex.specs.Lexemes.{Lexeme, lexemes}
use Rattle.ad_lex.specs.Lexemes as says
use Rattle.ad_lex.specs.Says.{Says}
use Rattle.ad_lex.proofs.Keywords.{plain_shape}
use Rattle.ad_lex.proofs.Once.{lexed_once}
use Rattle.ad_lex.proofs.Sayings.{says_lexed}
use Rattle.ad_lex.proofs.Writing.{end_says}
use Rattle.ad_write.specs.Keywords as kw
use Rattle.ad_write.specs.Canonical.{canon, canon_line, canon_document, document_head, document_foot}
use Rattle.ad_tree.specs.Logical.{is_logical}
use Rattle.ad_tree.specs.declared.axioms.Noted.{Noted}
use Rattle.ad_tree.specs.declared.edits.Op.{Op}
use Rattle.ad_grammar.specs.Shapes.{Text, Many0}
use Rattle.ad_grammar.specs.Names.{Words}
use Rattle.ad_grammar.specs.Axioms.{SpellsNoted}
use Rattle.ad_grammar.specs.Texts.{Declared, in_force, Ontology, Behind, SpellsDocument, SpellsSingle}
use Rattle.ad_terms.specs.Items.{as_axiom}
use Rattle.ad_build.specs.Lists.{addition}
use Rattle.ad_build.proofs.Uniqueness.{once, noteds_read}
use Rattle.ad_build.proofs.TextLemmas.{stated_read}
use Rattle.ad_canonical.specs.Spellable.{IsSpellable}
use Rattle.ad_canonical.proofs.Keywords.{IsWord, word_from, byte_utf8}
use Rattle.ad_canonical.proofs.Parentheses.{behind}
use Rattle.ad_canonical.proofs.Spans.{Spans, done, joined, spans_says, rest_says, token, left, right, line}
use Rattle.ad_canonical.proofs.Written.{Phrase, Closed, no_word_left}
use Rattle.ad_canonical.proofs.Axioms.{noted}

-- a text that has tokens, and they are this phrase whatever prefixes are in force
abbrev pub IsRead : List ℕ → Phrase → Type 0
IsRead text P = (ts : List Token) × IsLexed text ts × ((words : Words) → P words (lexemes text ts))

reading : (text : List ℕ) (tokens : Text) → IsUtf8 text → start text ≡ 0 → Spans text tokens [] → (ts : List Token) × IsLexed text ts × (lexemes text ts ≡ tokens)
reading text tokens utf8 first spans =
    let said : Says text tokens = subst (Says text) (append-nil tokens) (spans_says [] spans end_says) in
    says_lexed text tokens utf8 (subst (λ n. Says (drop n text) tokens) (sym first) said)

read : (text : List ℕ) (tokens : Text) (P : Phrase) → IsUtf8 text → start text ≡ 0 → Spans text tokens [] → ((words : Words) → P words tokens) → IsRead text P
read text tokens P utf8 first spans spelled =
    let r = reading text tokens utf8 first spans in
    (r.0, r.1, λ words. subst (P words) (sym r.2) (spelled words))

-- an axiom, alone or with its line's end
pub axiom_read : (a : Noted) → IsSpellable a → IsRead (canon a) (λ words. SpellsNoted false words a)
axiom_read a h =
    let t = noted a h in
    let all : canon a ++ [] ≡ canon a = append-nil (canon a) in
    read (canon a) t.written.tokens (λ words. SpellsNoted false words a) t.written.utf8
    (subst (λ text. start text ≡ 0) all (t.starts []))
    (subst (λ text. Spans text t.written.tokens []) all (t.ends []))
    t.written.spelled

pub line_read : (a : Noted) → IsSpellable a → IsRead (canon_line a) (λ words. SpellsNoted false words a)
line_read a h =
    let t = noted a h in
    read (canon_line a) t.written.tokens (λ words. SpellsNoted false words a)
    (IsUtf8-append (canon a) (10 ∷ []) t.written.utf8 (byte_utf8 10 (omega arith)))
    (t.starts (10 ∷ []))
    (subst (λ tokens. Spans (canon_line a) tokens []) (append-nil t.written.tokens) (joined (t.ends (10 ∷ [])) (line (done []))))
    t.written.spelled

one_axiom : (words : Words) (a b : Noted) (ts : Text) → SpellsNoted false words a ts → SpellsNoted false words b ts → a ≡ b
one_axiom words = once words (SpellsNoted false words) as_axiom (noteds_read words)

-- and no other axiom
only_of : (text : List ℕ) (a b : Noted) → IsRead text (λ words. SpellsNoted false words a) → (words : Words) (ts : List Token) → IsLexed text ts → SpellsNoted false words b (lexemes text ts) → b ≡ a
only_of text a b r words ts lexed s =
    let same : r.0 ≡ ts = lexed_once text r.0 ts r.1 lexed in
    one_axiom words b a (lexemes text ts) s (subst (λ us. SpellsNoted false words a (lexemes text us)) same (r.2 words))

pub axiom_only : (a b : Noted) (words : Words) (ts : List Token) → IsSpellable a → IsLexed (canon a) ts → SpellsNoted false words b (lexemes (canon a) ts) → b ≡ a
axiom_only a b words ts h = only_of (canon a) a b (axiom_read a h) words ts

pub line_only : (a b : Noted) (words : Words) (ts : List Token) → IsSpellable a → IsLexed (canon_line a) ts → SpellsNoted false words b (lexemes (canon_line a) ts) → b ≡ a
line_only a b words ts h = only_of (canon_line a) a b (line_read a h) words ts

-- a logical axiom is a text of one axiom
pub axiom_single : (a : Noted) (ts : List Token) → IsSpellable a → IsTrue (is_logical a.«axiom») → IsLexed (canon a) ts → SpellsSingle [] a (lexemes (canon a) ts)
axiom_single a ts h logical lexed =
    let r = axiom_read a h in
    let same : r.0 ≡ ts = lexed_once (canon a) r.0 ts r.1 lexed in
    (logical, ([], lexemes (canon a) ts, refl, refl, subst (λ us. SpellsNoted false (in_force []) a (lexemes (canon a) us)) same (r.2 (in_force []))))

-- no text of an axiom goes on as that of another
no_prefix : Words
no_prefix prefix = None

closed_says : {text : List ℕ} {P : Phrase} (t : Closed text P) → Says text t.written.tokens
closed_says {text} t =
    subst (λ xs. Says xs t.written.tokens) (append-nil text)
    (subst (Says (text ++ [])) (append-nil t.written.tokens) (spans_says [] (t.ends []) end_says))

same_axiom : (a b : Noted) (more : List ℕ) → IsSpellable a → IsSpellable b → canon b ≡ canon a ++ more → b ≡ a
same_axiom a b more h g e =
    let t = noted a h in
    let u = noted b g in
    let known = rest_says (t.ends more) (subst (λ text. Says text u.written.tokens) e (closed_says u)) in
    let ended : Some known.0 ≡ Some [] = sym (t.whole known.0) ∙ ap behind (sym known.1) ∙ ap behind (sym (append-nil u.written.tokens)) ∙ u.whole [] in
    let none : known.0 ≡ [] = cc in
    let same : u.written.tokens ≡ t.written.tokens = known.1 ∙ ap (λ ms. t.written.tokens ++ ms) none ∙ append-nil t.written.tokens in
    one_axiom no_prefix b a t.written.tokens (subst (λ ts. SpellsNoted false no_prefix b ts) same (u.written.spelled no_prefix)) (t.written.spelled no_prefix)

pub no_front : (a b : Noted) (more : List ℕ) → IsSpellable a → IsSpellable b → canon b ≡ canon a ++ more → more ≡ []
no_front a b more h g e =
    let same : canon b ≡ canon a = ap canon (same_axiom a b more h g e) in
    append_cancel_left (canon a) more [] (sym e ∙ same ∙ sym (append-nil (canon a)))

pub one_text : (a b : Noted) → IsSpellable a → IsSpellable b → canon a ≡ canon b → a ≡ b
one_text a b h g e = sym (same_axiom a b [] h g (sym e ∙ sym (append-nil (canon a))))

-- the lines of a document
pub record Lines (all : List Noted) : Type 0 where
  pub tokens : Text
  pub utf8 : IsUtf8 (flat_map canon_line all)
  pub spans : (rest : List ℕ) → Spans (flat_map canon_line all ++ rest) tokens rest
  pub spelled : (words : Words) → Many0 (SpellsNoted false words) all tokens

pub lines : (all : List Noted) → AllByRecursion IsSpellable all → Lines all
lines [] h = record { tokens = []; utf8 = IsUtf8-nil; spans = λ rest. done rest; spelled = λ words. refl }
lines (a ∷ all) h =
    let t = noted a h.0 in
    let u = lines all h.1 in
    let others : List ℕ = flat_map canon_line all in
    record {
      tokens = t.written.tokens ++ u.tokens;
      utf8 = IsUtf8-append (canon_line a) others (IsUtf8-append (canon a) (10 ∷ []) t.written.utf8 (byte_utf8 10 (omega arith))) u.utf8;
      spans = λ rest.
          subst (λ text. Spans text (t.written.tokens ++ u.tokens) rest) (sym (append_assoc (canon_line a) others rest ∙ append_assoc (canon a) (10 ∷ []) (others ++ rest)))
          (joined (t.ends (10 ∷ (others ++ rest))) (line (u.spans rest)));
      spelled = λ words. (t.written.tokens, u.tokens, refl, t.written.spelled words, u.spelled words);
    }

head_word : IsWord kw.Ontology
head_word = word_from kw.Ontology refl

unfoldable pub document_tokens : {all : List Noted} → Lines all → Text
document_tokens u = says.Plain kw.Ontology ∷ says.Left ∷ (u.tokens ++ says.Right ∷ [])

document_spans : (all : List Noted) (u : Lines all) → Spans (canon_document all) (document_tokens u) []
unfolding document_tokens
document_spans all u =
    let body : List ℕ = 10 ∷ (flat_map canon_line all ++ 41 ∷ 10 ∷ []) in
    joined (token mark.Plain kw.Ontology (40 ∷ body) (plain_shape kw.Ontology head_word.some head_word.each) (no_word_left body))
    (left (line (joined (u.spans (41 ∷ 10 ∷ [])) (joined (right (10 ∷ [])) (line (done []))))))

document_utf8 : (all : List Noted) → Lines all → IsUtf8 (canon_document all)
document_utf8 all u =
    let others : List ℕ = flat_map canon_line all in
    let foot : IsUtf8 document_foot = IsUtf8-append (41 ∷ []) (10 ∷ []) (byte_utf8 41 (omega arith)) (byte_utf8 10 (omega arith)) in
    let opens : IsUtf8 (40 ∷ 10 ∷ []) = IsUtf8-append (40 ∷ []) (10 ∷ []) (byte_utf8 40 (omega arith)) (byte_utf8 10 (omega arith)) in
    IsUtf8-append document_head (others ++ document_foot) (IsUtf8-append kw.Ontology (40 ∷ 10 ∷ []) head_word.utf8 opens) (IsUtf8-append others document_foot u.utf8 foot)

document_spelled : (all : List Noted) (u : Lines all) (words : Words) → Ontology false words (Many0 (SpellsNoted false words) all) (document_tokens u)
unfolding document_tokens
document_spelled all u words = (u.tokens, refl, ([], u.tokens, refl, ([], omega arith, refl), ([], u.tokens, refl, refl, ([], u.tokens, refl, ([], refl), u.spelled words))))

pub document_reading : (all : List Noted) (u : Lines all) → (ts : List Token) × IsLexed (canon_document all) ts × (lexemes (canon_document all) ts ≡ document_tokens u)
document_reading all u = reading (canon_document all) (document_tokens u) (document_utf8 all u) (head_word.starts (40 ∷ 10 ∷ (flat_map canon_line all ++ 41 ∷ 10 ∷ []))) (document_spans all u)

-- a document
pub document_read : (all : List Noted) → AllByRecursion IsSpellable all → (ts : List Token) × IsLexed (canon_document all) ts × SpellsDocument [] all (lexemes (canon_document all) ts)
document_read all h =
    let u = lines all h in
    let r = document_reading all u in
    (r.0, r.1, subst (λ ts. SpellsDocument [] all ts) (sym r.2) ([], document_tokens u, refl, refl, document_spelled all u (in_force [])))

-- and no other document
first : Text → Option Lexeme
first [] = None
first (l ∷ ls) = Some l

declares_first : (d : Declared) (ds : List Declared) (body : Text → Type 0) (ts : Text) → Behind (d ∷ ds) body ts → first ts ≡ Some (says.Plain kw.Prefix)
unfolding first
declares_first d ds body ts (a, b, e, (x, y, f, s, ss), h) = ap first e ∙ ap (λ t. first (t ++ b)) f ∙ ap (λ t. first ((t ++ y) ++ b)) s

other_word : Some (says.Plain kw.Ontology) ≡ Some (says.Plain kw.Prefix) → ⊥
other_word e = cc

document_first : {all : List Noted} (u : Lines all) → first (document_tokens u) ≡ Some (says.Plain kw.Ontology)
unfolding first document_tokens
document_first u = refl

same_additions : (xs ys : List Noted) → map addition xs ≡ map addition ys → xs ≡ ys
same_additions [] [] e = refl
same_additions [] (y ∷ ys) e = cc
same_additions (x ∷ xs) [] e = cc
same_additions (x ∷ xs) (y ∷ ys) e =
    let head : addition x ≡ addition y = cc in
    let tail : map addition xs ≡ map addition ys = cc in
    let same : x ≡ y = ap (λ (o : Op). o.noted) head in
    let others = same_additions xs ys tail in
    λ i. same i ∷ others i

one_ontology : (words : Words) (xs ys : List Noted) (ts : Text) → Ontology false words (Many0 (SpellsNoted false words) xs) ts → Ontology false words (Many0 (SpellsNoted false words) ys) ts → xs ≡ ys
one_ontology words xs ys ts s t =
    let same : Some (map addition xs) ≡ Some (map addition ys) = sym (stated_read words xs ts s) ∙ stated_read words ys ts t in
    same_additions xs ys (cc)

tokens_only : (all others : List Noted) (u : Lines all) (declared : List Declared) → SpellsDocument declared others (document_tokens u) → (declared ≡ []) × (others ≡ all)
tokens_only all others u [] (a, b, e, f, h) =
    let whole : document_tokens u ≡ b = e ∙ ap (λ t. t ++ b) f in
    (refl, one_ontology (in_force []) others all b h (subst (Ontology false (in_force []) (Many0 (SpellsNoted false (in_force [])) all)) whole (document_spelled all u (in_force []))))
tokens_only all others u (d ∷ ds) s = absurd (other_word (sym (document_first u) ∙ declares_first d ds _ (document_tokens u) s))

pub document_only : (all others : List Noted) (declared : List Declared) (ts : List Token) → AllByRecursion IsSpellable all → IsLexed (canon_document all) ts → SpellsDocument declared others (lexemes (canon_document all) ts) → (declared ≡ []) × (others ≡ all)
document_only all others declared ts h lexed s =
    let u = lines all h in
    let r = document_reading all u in
    let same : ts ≡ r.0 = lexed_once (canon_document all) ts r.0 lexed r.1 in
    tokens_only all others u declared (subst (λ us. SpellsDocument declared others us) (ap (lexemes (canon_document all)) same ∙ r.2) s)
