-- The declarations in front of a text, and what stands behind them.
use Rattle.std.proofs.Common.{◌≡◌, ◌≢◌, ℕ, suc, ◌*◌, ◌<◌, Bool, true, false, List, [], ◌∷◌, ◌++◌, length, get_or, drop, None, Some, refl, sym, ◌∙◌, ap, subst, arith, length-append}
use Rattle.std.specs.Prelude.{codes}
use Rattle.std.specs.Option.{is_some}
use Rattle.std.specs.Str.{bytes_eq}
use Rattle.std.proofs.Math.ListN.{get_or-append}
use Rattle.std.proofs.Math.Seq.{get_or-append_seam}
use Rattle.std.proofs.lemmas.List.Quantifiers.{all_pairs_push}
use Rattle.std.proofs.lemmas.Bool.{true≢false}
use Rattle.ad_lex.proofs.Pieces.{bytes_same}
use Rattle.ad_lex.specs.Lexemes.{Lexeme}
use Rattle.ad_lex.specs.Lexemes as says
use Rattle.ad_grammar.specs.Shapes.{Text, Many0}
use Rattle.ad_grammar.specs.Texts.{Declared, SpellsDeclared, AreDistinct, iri_of}
use Rattle.ad_read.specs.Prefixed.{IsOver}
use Rattle.ad_prefixes.specs.Heads.{heads}
use Rattle.ad_prefixes.proofs.HeadLemmas.{heads_all, none_other, differs}
use Rattle.ad_read.specs.Opened.{text_of}

pub text_is : (ds : List Declared) (front : Text) → Many0 SpellsDeclared ds front → front ≡ text_of ds
text_is [] front e = e
text_is (d ∷ ds) front (a, b, e, p, ss) = e ∙ ap (λ us. us ++ b) p ∙ ap (λ us. says.Plain (codes "Prefix") ∷ says.Left ∷ says.Short d.prefix [] ∷ says.Equals ∷ says.Iri d.iri ∷ says.Right ∷ us) (text_is ds b ss)

pub is_text : (ds : List Declared) → Many0 SpellsDeclared ds (text_of ds)
is_text [] = refl
is_text (d ∷ ds) = (says.Plain (codes "Prefix") ∷ says.Left ∷ says.Short d.prefix [] ∷ says.Equals ∷ says.Iri d.iri ∷ says.Right ∷ [], text_of ds, refl, refl, is_text ds)

abbrev pub prefix_in : Text → List ℕ
prefix_in (a ∷ b ∷ says.Short prefix local ∷ ts) = prefix
prefix_in ts = []

abbrev pub iri_in : Text → List ℕ
iri_in (a ∷ b ∷ c ∷ d ∷ says.Iri iri ∷ ts) = iri
iri_in ts = []

abbrev pub declared_as : List ℕ → List ℕ → Declared
declared_as prefix iri = record { prefix = prefix; iri = iri }

none_not_some : {X : Type 0} (x : X) → None ≡ Some x → ⊥
none_not_some x h = absurd (true≢false (sym (ap is_some h)))

-- what is declared, and what stands behind, is told by the tokens
pub split_once : (ds es : List Declared) (a b : Text) → IsOver a → IsOver b → text_of ds ++ a ≡ text_of es ++ b → (ds ≡ es) × (a ≡ b)
split_once [] [] a b f g e = (refl, e)
split_once [] (d ∷ es) a b f g e = absurd (f _ e)
split_once (d ∷ ds) [] a b f g e = absurd (g _ (sym e))
split_once (d ∷ ds) (d' ∷ es) a b f g e =
    let r = split_once ds es a b f g (ap (drop 6) e) in
    let p : d.prefix ≡ d'.prefix = ap prefix_in e in
    let i : d.iri ≡ d'.iri = ap iri_in e in
    (ap (λ q. declared_as q d.iri ∷ ds) p ∙ ap (λ q. declared_as d'.prefix q ∷ ds) i ∙ ap (λ q. d' ∷ q) r.0, r.1)

-- a declaration that stands behind others is one of those in front of the text
pub within : (ds before : List Declared) (a rest : Text) (prefix : List ℕ) → IsOver a → text_of ds ++ a ≡ text_of before ++ says.Plain (codes "Prefix") ∷ says.Left ∷ says.Short prefix [] ∷ rest → (own : Declared) × (after : List Declared) × (ds ≡ before ++ own ∷ after) × (own.prefix ≡ prefix)
within [] [] a rest prefix f e = absurd (f _ e)
within [] (b ∷ before) a rest prefix f e = absurd (f _ e)
within (d ∷ ds) [] a rest prefix f e = (d, ds, refl, ap prefix_in e)
within (d ∷ ds) (b ∷ before) a rest prefix f e =
    let r = within ds before a rest prefix f (ap (drop 6) e) in
    let p : d.prefix ≡ b.prefix = ap prefix_in e in
    let i : d.iri ≡ b.iri = ap iri_in e in
    (r.0, r.1, ap (λ q. declared_as q d.iri ∷ ds) p ∙ ap (λ q. declared_as b.prefix q ∷ ds) i ∙ ap (λ q. b ∷ q) r.2, r.3)

-- a prefix that isn't declared yet may be declared
not_yet : (ds : List Declared) (prefix : List ℕ) → iri_of ds prefix ≡ None → (k : ℕ) (d : Declared) → k < length ds → (get_or ds k d).prefix ≢ prefix
not_yet = differs

pub distinct_more : (ds : List Declared) (d : Declared) → AreDistinct ds → iri_of ds d.prefix ≡ None → AreDistinct (ds ++ d ∷ [])
distinct_more ds d h e = all_pairs_push (λ x y. x.prefix ≢ y.prefix) ds d h (λ k other below. not_yet ds d.prefix e k other below)

-- and one that is declared may not
declared_at : (ds : List Declared) (prefix iri : List ℕ) → iri_of ds prefix ≡ Some iri → (k : ℕ) × (k < length ds) × ((d : Declared) → (get_or ds k d).prefix ≡ prefix)
declared_at [] prefix iri h = absurd (none_not_some iri h)
declared_at (x ∷ ds) prefix iri h = by_same (bytes_eq x.prefix prefix) refl (declared_at ds prefix iri)
  where
    by_same : (b : Bool) → bytes_eq x.prefix prefix ≡ b → (iri_of ds prefix ≡ Some iri → (k : ℕ) × (k < length ds) × ((d : Declared) → (get_or ds k d).prefix ≡ prefix)) → (k : ℕ) × (k < length (x ∷ ds)) × ((d : Declared) → (get_or (x ∷ ds) k d).prefix ≡ prefix)
    by_same true e later = (0, omega arith, λ d. bytes_same x.prefix prefix e)
    by_same false e later = let r = later (sym (rw e refl) ∙ h) in (suc r.0, omega (arith, r.1), λ d. r.2 d)

pub not_distinct : (before : List Declared) (own : Declared) (after : List Declared) (iri : List ℕ) → iri_of before own.prefix ≡ Some iri → AreDistinct (before ++ own ∷ after) → ⊥
not_distinct before own after iri h distinct =
    let r = declared_at before own.prefix iri h in
    let below : length before < length (before ++ own ∷ after) = rw (length-append before (own ∷ after)) (omega arith) in
    distinct r.0 (length before) own r.1 below
    (ap (λ d. d.prefix) (get_or-append before (own ∷ after) own r.0 r.1) ∙ r.2 own ∙ ap (λ d. d.prefix) (sym (get_or-append_seam before own after own)))

-- what is read in front is all that is declared
bytes_other : (word : List ℕ) (ts : Text) → IsOver (says.Plain word ∷ ts) → (b : Bool) → bytes_eq word (codes "Prefix") ≡ b → b ≡ false
bytes_other word ts over false e = refl
bytes_other word ts over true e = absurd (over ts (ap (λ us. says.Plain us ∷ ts) (bytes_same word (codes "Prefix") e)))

over_heads : (ts : Text) → IsOver ts → heads ts ≡ ([], ts)
over_heads [] over = refl
over_heads (l ∷ ts) over = none_other l ts (λ word e. bytes_other word ts (subst (λ t. IsOver (t ∷ ts)) e over) (bytes_eq word (codes "Prefix")) refl)

pub heads_are : (ds : List Declared) (body : Text) → IsOver body → heads (text_of ds ++ body) ≡ (ds, body)
heads_are ds body over = heads_all ds (text_of ds) body (is_text ds) (over_heads body over)

pub text_of_both : (ds es : List Declared) → text_of (ds ++ es) ≡ text_of ds ++ text_of es
text_of_both [] es = refl
text_of_both (d ∷ ds) es = ap (λ us. says.Plain (codes "Prefix") ∷ says.Left ∷ says.Short d.prefix [] ∷ says.Equals ∷ says.Iri d.iri ∷ says.Right ∷ us) (text_of_both ds es)

pub length_text : (ds : List Declared) → length (text_of ds) ≡ 6 * length ds
length_text [] = refl
length_text (d ∷ ds) = omega (arith, length_text ds)
