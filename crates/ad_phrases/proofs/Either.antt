-- From each token at which a phrase begins a tree is built, or there is a cause to refuse it.
use Rattle.std.proofs.Common.{◌≡◌, ◌≢◌, ℕ, ◌+◌, ◌-◌, ◌⊎◌, inl, inr, Bool, true, false, List, take, drop, find, Option, None, Some, refl, sym, ◌∙◌, ap, subst, arith}
use Rattle.std.proofs.lemmas.Bool.{true≢false}
use Rattle.ad_lex.specs.Lexemes.{lexeme, lexemes}
use Rattle.ad_lex.specs.declared.token.Token.{Token}
use Rattle.ad_grammar.specs.Shapes.{Text}
use Rattle.ad_grammar.specs.Names.{Words}
use Rattle.ad_grammar.specs.Faults.{Form, IsLongest}
use Rattle.ad_grammar_laws.specs.Known.{AreKnown}
use Rattle.ad_prefixes.specs.Unknown.{is_unknown}
use Rattle.ad_phrases.specs.Readings.{Reading}
use Rattle.ad_phrases.specs.Phrases.{IsBuilt, RefusesPhrase}
use Rattle.ad_phrases.specs.Laws.{IsBuiltOrRefused}
use Rattle.ad_phrases.specs.declared.phrases.BuildRefused.{BuildRefused}
use Rattle.ad_phrases.specs.declared.phrases.BuildRefused.TheVariants as refused_by
use Rattle.ad_phrases.proofs.Trees.{first_found, none_found, front_says}

abbrev is_cause : BuildRefused → Bool
is_cause refused_by.Memory = false
is_cause refused = true

a_cause : (refused : BuildRefused) → is_cause refused ≡ true → refused ≢ refused_by.Memory
a_cause refused h e = true≢false (sym h ∙ ap is_cause e)

size_is : (from size : ℕ) → from + size - from ≡ size
size_is from size = omega arith

module _ {form : Form} {X : Type 0} {spells : Words → X → Text → Type 0} (r : Reading form X spells) (words : Words) (text : List ℕ) (tokens : List Token) (from size : ℕ) (longest : IsLongest form (drop from (lexemes text tokens)) size) where
  abbrev phrase : Text
  phrase = take size (drop from (lexemes text tokens))

  known_tree : AreKnown words phrase → (x : X) × (to : ℕ) × IsBuilt form (spells words) (lexemes text tokens) from x to
  known_tree known =
      let own = r.spelled phrase longest.phrase in
      let moved = (r.moves own.0 words own.1 phrase own.2).1 known in (
        moved.0,
        from + size,
        record {
          after = omega arith;
          longest = subst (IsLongest form (drop from (lexemes text tokens))) (sym (size_is from size)) longest;
          spelled = subst (λ n. spells words moved.0 (take n (drop from (lexemes text tokens)))) (sym (size_is from size)) moved.1;
        },
      )

  built_or_refused : ((x : X) × (to : ℕ) × IsBuilt form (spells words) (lexemes text tokens) from x to) ⊎ ((refused : BuildRefused) × (refused ≢ refused_by.Memory) × RefusesPhrase form words text tokens from refused)
  built_or_refused = by_find (find (λ t. is_unknown words (lexeme text t)) (take size (drop from tokens))) refl
    where
      by_find : (o : Option Token) → find (λ t. is_unknown words (lexeme text t)) (take size (drop from tokens)) ≡ o
          → ((x : X) × (to : ℕ) × IsBuilt form (spells words) (lexemes text tokens) from x to) ⊎ ((refused : BuildRefused) × (refused ≢ refused_by.Memory) × RefusesPhrase form words text tokens from refused)
      by_find None e = inl (known_tree (subst (AreKnown words) (front_says text tokens from size) (none_found words text (take size (drop from tokens)) e)))
      by_find (Some t) e = inr (refused_by.Prefix t.from, a_cause (refused_by.Prefix t.from) refl, (t, record { size = size; longest = longest; first = first_found words text (take size (drop from tokens)) t e }, refl))

pub built_either : {form : Form} {X : Type 0} {spells : Words → X → Text → Type 0} → Reading form X spells → IsBuiltOrRefused form spells
built_either r words text tokens from (size, longest) = built_or_refused r words text tokens from size longest
