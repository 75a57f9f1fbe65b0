-- One tree is built from a token on, or one name is refused.
use Rattle.std.proofs.Common.{◌≡◌, ℕ, ◌-◌, ◌≤◌, List, [], ◌∷◌, ◌++◌, take, drop, refl, sym, ◌∙◌, ap, subst, arith}
use Rattle.std.specs.Prelude.{Result, Ok, Err, IfOk, IfErr}
use Rattle.std.proofs.lemmas.List.{map-append}
use Rattle.ad_lex.specs.Lexemes.{lexeme, lexemes}
use Rattle.ad_lex.specs.declared.token.Token.{Token}
use Rattle.ad_grammar.specs.Shapes.{Text}
use Rattle.ad_grammar.specs.Names.{Words}
use Rattle.ad_grammar.specs.Faults.{Form}
use Rattle.ad_grammar_laws.specs.Known.{IsKnown, AreKnown}
use Rattle.ad_grammar_laws.proofs.Words.{known_second}
use Rattle.ad_check.proofs.Longest.{one_end}
use Rattle.ad_phrases.specs.Readings.{Reading}
use Rattle.ad_phrases.specs.Phrases.{IsBuilt, IsBuiltOrMemory, IsUnknownIn, IsPrefixOrMemory, RefusesPhrase}
use Rattle.ad_phrases.specs.Laws.{IsBuiltOnce, IsNotRefused, IsRefusedOnce}
use Rattle.ad_phrases.specs.declared.phrases.BuildRefused.{BuildRefused}
use Rattle.ad_phrases.specs.declared.phrases.BuildRefused.TheVariants as refused_by
use Rattle.ad_phrases.proofs.Trees.{front_says}

-- the first token whose prefix isn't known
unknown_not_known : (words : Words) (text : List ℕ) (ts before behind : List Token) (token : Token) → ts ≡ before ++ token ∷ behind → AreKnown words (lexemes text ts) → IsKnown words (lexeme text token)
unknown_not_known words text ts before behind token e known =
    (known_second words (lexemes text before) (lexeme text token ∷ lexemes text behind) (subst (AreKnown words) (ap (lexemes text) e ∙ map-append (lexeme text) before (token ∷ behind)) known)).0

first_once : (words : Words) (text : List ℕ) (before before' behind behind' : List Token) (t u : Token) → AreKnown words (lexemes text before) → AreKnown words (lexemes text before') → (IsKnown words (lexeme text t) → ⊥) → (IsKnown words (lexeme text u) → ⊥) → before ++ t ∷ behind ≡ before' ++ u ∷ behind' → t ≡ u
first_once words text [] [] behind behind' t u k k' not not' e = cc
first_once words text [] (b ∷ before') behind behind' t u k k' not not' e = let same : b ≡ t = cc in absurd (not (subst (λ x. IsKnown words (lexeme text x)) same k'.0))
first_once words text (a ∷ before) [] behind behind' t u k k' not not' e = let same : a ≡ u = cc in absurd (not' (subst (λ x. IsKnown words (lexeme text x)) same k.0))
first_once words text (a ∷ before) (b ∷ before') behind behind' t u k k' not not' e = let rest : before ++ t ∷ behind ≡ before' ++ u ∷ behind' = cc in first_once words text before before' behind behind' t u k.1 k'.1 not not' rest

unknown_once : (form : Form) (words : Words) (text : List ℕ) (tokens : List Token) (from : ℕ) (t u : Token) → IsUnknownIn form words text tokens from t → IsUnknownIn form words text tokens from u → t ≡ u
unknown_once form words text tokens from t u h h' =
    let size : h.size ≡ h'.size = one_end form (drop from (lexemes text tokens)) h.size h'.size h.longest h'.longest in
    first_once words text h.first.before h'.first.before h.first.behind h'.first.behind t u h.first.known h'.first.known h.first.unknown h'.first.unknown (sym h.first.is ∙ ap (λ n. take n (drop from tokens)) size ∙ h'.first.is)

same_end : (from to other : ℕ) → from ≤ to → from ≤ other → to - from ≡ other - from → to ≡ other
same_end from to other a b e = omega (arith, a, b, e)

module _ {form : Form} {X : Type 0} {spells : Words → X → Text → Type 0} (r : Reading form X spells) where
  pub built_once : IsBuiltOnce form spells
  built_once words ts from x y to other h h' =
      let size : to - from ≡ other - from = one_end form (drop from ts) (to - from) (other - from) h.longest h'.longest in
      (r.one words x y (take (to - from) (drop from ts)) h.spelled (subst (λ n. spells words y (take n (drop from ts))) (sym size) h'.spelled), same_end from to other h.after h'.after size)

  not_unknown : (words : Words) (text : List ℕ) (tokens : List Token) (from : ℕ) (x : X) (to : ℕ) (token : Token) → IsBuilt form (spells words) (lexemes text tokens) from x to → IsUnknownIn form words text tokens from token → ⊥
  not_unknown words text tokens from x to token h u =
      let ts : Text = drop from (lexemes text tokens) in
      let size : to - from ≡ u.size = one_end form ts (to - from) u.size h.longest u.longest in
      let known : AreKnown words (take (to - from) ts) = (r.moves words words x (take (to - from) ts) h.spelled).0 in
      u.first.unknown (unknown_not_known words text (take u.size (drop from tokens)) u.first.before u.first.behind token u.first.is (subst (AreKnown words) (ap (λ n. take n ts) size ∙ sym (front_says text tokens from u.size)) known))

  pub not_refused : IsNotRefused form spells
  not_refused words text tokens from x to (refused_by.Prefix at) h (token, u, e) = absurd (not_unknown words text tokens from x to token h u)
  not_refused words text tokens from x to refused_by.Memory h u = refl

  module _ (words : Words) (text : List ℕ) (tokens : List Token) (from : ℕ) where
    -- what an answer says makes it the only one, want of memory aside
    pub all_built : (result : Result (X × ℕ) BuildRefused) → IfOk result (λ built. IsBuilt form (spells words) (lexemes text tokens) from built.0 built.1) → IfErr result (RefusesPhrase form words text tokens from) → (x : X) (to : ℕ) → IsBuilt form (spells words) (lexemes text tokens) from x to → IsBuiltOrMemory result x to
    all_built (Ok built) ok err x to h = built_once words (lexemes text tokens) from built.0 x built.1 to ok h
    all_built (Err refused) ok err x to h = not_refused words text tokens from x to refused h err

    pub all_refused : (result : Result (X × ℕ) BuildRefused) → IfOk result (λ built. IsBuilt form (spells words) (lexemes text tokens) from built.0 built.1) → IfErr result (RefusesPhrase form words text tokens from) → (token : Token) → IsUnknownIn form words text tokens from token → IsPrefixOrMemory result token.from
    all_refused (Ok built) ok err token u = absurd (not_unknown words text tokens from built.0 built.1 token ok u)
    all_refused (Err (refused_by.Prefix at)) ok (other, u', e) token u = e ∙ ap (λ t. t.from) (unknown_once form words text tokens from other token u' u)
    all_refused (Err refused_by.Memory) ok err token u = tt

pub refused_once : IsRefusedOnce
refused_once form words text tokens from (refused_by.Prefix at) (refused_by.Prefix other) some some' (t, h, e) (u, h', e') = ap refused_by.Prefix (e ∙ ap (λ x. x.from) (unknown_once form words text tokens from t u h h') ∙ sym e')
refused_once form words text tokens from (refused_by.Prefix at) refused_by.Memory some some' h h' = absurd (some' refl)
refused_once form words text tokens from refused_by.Memory b some some' h h' = absurd (some refl)
