-- Lists that are read from the front of items, one part after the other.
use Rattle.std.proofs.Common.{◌≡◌, List, [], ◌∷◌, ◌++◌, Option, None, Some, is_some, refl, sym, ◌∙◌, ap, append_assoc}
use Rattle.std.specs.Option.{option_map, option_zip}
use Rattle.std.proofs.lemmas.Bool.{true≢false}
use Rattle.ad_tree.specs.declared.literals.Facet.{Facet}
use Rattle.ad_terms.specs.declared.item.StackItem.{StackItem}
use Rattle.ad_terms.specs.Items.{as_name, as_literal}
use Rattle.ad_terms.specs.Shapes.{behind_top, more, top_two}
use Rattle.ad_terms.specs.Built.{facet, facets}

none_not_some : {A : Type 0} (x : A) → Some x ≡ None → ⊥
none_not_some x h = absurd (true≢false (ap is_some h))

zip_none : {A B : Type 0} (o : Option A) → ◌≡◌ {A = Option (A × B)} (option_zip o None) None
zip_none None = refl
zip_none (Some x) = refl

-- nothing is read from one item where two are asked for
pub no_two : {A B C : Type 0} (f : StackItem → Option A) (g : StackItem → Option B) (make : A × B → C) (item : StackItem) (x : C) → Some x ≡ option_map make (top_two f g (item ∷ [])) → ⊥
no_two f g make item x h = none_not_some x (h ∙ ap (option_map make) (zip_none (f item)))

-- a part more at the end of those that were read
pub one_more : {A : Type 0} (all next : List A) (x : A) (others : Option (List A)) → next ≡ all ++ x ∷ [] → option_map (λ xs. all ++ xs) (more (Some x) others) ≡ option_map (λ xs. next ++ xs) others
one_more all next x None e = refl
one_more all next x (Some others) e = ap Some (sym (append_assoc all (x ∷ []) others) ∙ ap (λ front. front ++ others) (sym e))

pub facets_on : (items rest : List StackItem) (all next : List Facet) (x : Facet) → Some x ≡ facet items → rest ≡ behind_top (behind_top items) → next ≡ all ++ x ∷ []
    → option_map (λ xs. all ++ xs) (facets items) ≡ option_map (λ xs. next ++ xs) (facets rest)
facets_on [] rest all next x h e e' = absurd (none_not_some x h)
facets_on (name ∷ []) rest all next x h e e' = absurd (no_two as_name as_literal (λ p. record { facet = p.0; value = p.1 }) name x h)
facets_on (name ∷ value ∷ items) rest all next x h e e' =
    ap (λ o. option_map (λ xs. all ++ xs) (more o (facets items))) (sym h)
    ∙ one_more all next x (facets items) e'
    ∙ ap (λ us. option_map (λ xs. next ++ xs) (facets us)) (sym e)
