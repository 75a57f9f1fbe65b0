-- Under one meaning of the prefixes, a list of lexemes spells at most one tree.
use Rattle.std.proofs.Common.{◌≡◌, ℕ, false, List, [], ◌∷◌, ◌++◌, Option, None, Some, refl, sym, ◌∙◌, ap}
use Rattle.std.proofs.lemmas.List.{append-nil}
use Rattle.ad_grammar.specs.Names.{Words}
use Rattle.ad_grammar.specs.Shapes.{Text}
use Rattle.ad_grammar.specs.Axioms.{SpellsNoted}
use Rattle.ad_tree.specs.declared.axioms.Noted.{Noted}
use Rattle.ad_terms.specs.declared.item.StackItem.{StackItem}
use Rattle.ad_terms.specs.declared.item.StackItem.TheVariants as i
use Rattle.ad_terms.specs.Items.{as_axiom}
use Rattle.ad_terms.specs.Shapes.{one}
use Rattle.ad_build.specs.Reads.{reads}
use Rattle.ad_build.proofs.Readings.{Is, ReadsAs}
use Rattle.ad_build.proofs.AxiomPhrases.{axioms_read}

module _ (words : Words) {X : Type 0} (spells : X → Text → Type 0) (f : StackItem → Option X) where
  -- the one item of a whole text is what the text spells
  pub alone : (x : X) → Is words spells f x → (ts : Text) → spells x ts → one f (reads words ts) ≡ Some x
  alone x is ts s =
      let r = is ts s in
      ap (λ t. one f (reads words t)) (sym (append-nil ts)) ∙ ap (one f) (r.phrase.reads [] refl) ∙ r.is

  pub once : ((x : X) → Is words spells f x) → (x y : X) (ts : Text) → spells x ts → spells y ts → x ≡ y
  once is x y ts s s' =
      let same : Some x ≡ Some y = sym (alone x (is x) ts s) ∙ alone y (is y) ts s' in cc

pub noteds_read : (words : Words) (x : Noted) → Is words (SpellsNoted false words) as_axiom x
noteds_read words x ts s = record { item = i.Axiom x; is = refl; other = refl; phrase = axioms_read words x.notes x.«axiom» ts s }
