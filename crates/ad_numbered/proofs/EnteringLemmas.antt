-- Lists of first occurrences with one more entity, and the numbers of entities that were entered.
use Rattle.std.proofs.Common.{◌≡◌, ◌||◌, ◌<◌, ◌≤◌, ◌+◌, ℕ, Bool, true, false, cond, not, IsTrue, List, [], ◌∷◌, ◌++◌, length, take, get_or, Option, None, Some, refl, sym, ap, ◌∙◌, subst, arith, append-nil, append_assoc, take-append-drop, drop}
use Rattle.std.specs.Prelude.{is_some}
use Rattle.std.specs.Option.{MatchOption}
use Rattle.std.specs.List.{filter}
use Rattle.std.proofs.lemmas.List.{take_more, length_push}
use Rattle.std.proofs.lemmas.List.Elements.{filter-append}
use Rattle.std.proofs.lemmas.List.Folds.{list_any-append}
use Rattle.ad_entity.specs.Entities.{same_entity, has_entity}
use Rattle.ad_entity.specs.declared.entities.Entity.{Entity}
use Rattle.ad_syntax_laws.proofs.EntityLemmas.{same_entity_is}
use Rattle.ad_signature.specs.Firsts.{firsts, signature_of}
use Rattle.ad_signature.specs.Numbering.{number_in, count}
use Rattle.ad_signature.specs.Refused.{IsRefusedFor}
use Rattle.ad_signature.specs.Entered.{IsGiven, IsEntered}
use Rattle.ad_signature.specs.declared.numbers.EntityNumbers.{EntityNumbers}
use Rattle.ad_signature.specs.declared.refused.SymbolRefused.{SymbolRefused}
use Rattle.ad_signature.specs.declared.refused.SymbolRefused.TheVariants.{Full, Memory}
use Rattle.ad_tree.specs.declared.axioms.Noted.{Noted}
use Rattle.ad_syntax_laws.specs.OntologyModule.{is_logical_axiom, logical}
use Rattle.ad_numbered.specs.Making.{AreEntered, AreTooMany}
use Rattle.ad_numbered.specs.Numbered.{signatures}
use Rattle.ad_numbered.proofs.ListLemmas.{signatures_logical-append}

-- the entities of a list but for one
abbrev but : Entity → List Entity → List Entity
but e es = filter (λ x. not (same_entity e x)) es

firsts_step : (e x : Entity) (es : List Entity) (had : Bool) → firsts (es ++ x ∷ []) ≡ cond had (firsts es) (firsts es ++ x ∷ [])
    → firsts (e ∷ (es ++ x ∷ [])) ≡ cond (same_entity e x || had) (firsts (e ∷ es)) (firsts (e ∷ es) ++ x ∷ [])
firsts_step e x es true rest = elim (same_entity e x) as (λ b. e ∷ but e (firsts (es ++ x ∷ [])) ≡ cond (b || true) (firsts (e ∷ es)) (firsts (e ∷ es) ++ x ∷ [])) [
  | true ↦ ap (λ l. e ∷ but e l) rest
  | false ↦ ap (λ l. e ∷ but e l) rest
]
firsts_step e x es false rest =
    ap (λ l. e ∷ but e l) rest ∙ ap (λ l. e ∷ l) (filter-append (λ z. not (same_entity e z)) (firsts es) (x ∷ []))
    ∙ elim (same_entity e x) as (λ b. e ∷ (but e (firsts es) ++ cond (not b) (x ∷ []) []) ≡ cond (b || false) (e ∷ but e (firsts es)) (e ∷ (but e (firsts es) ++ x ∷ []))) [
      | true ↦ ap (λ l. e ∷ l) (append-nil (but e (firsts es)))
      | false ↦ refl
    ]

-- one more entity comes last, where it didn't occur before
pub firsts_more : (es : List Entity) (x : Entity) → firsts (es ++ x ∷ []) ≡ cond (has_entity es x) (firsts es) (firsts es ++ x ∷ [])
firsts_more [] x = refl
firsts_more (e ∷ es) x = firsts_step e x es (has_entity es x) (firsts_more es x)

no_fewer_one : (es : List Entity) (x : Entity) → length (firsts es) ≤ length (firsts (es ++ x ∷ []))
no_fewer_one es x = subst (λ l. length (firsts es) ≤ length l) (sym (firsts_more es x)) (elim (has_entity es x) as (λ b. length (firsts es) ≤ length (cond b (firsts es) (firsts es ++ x ∷ []))) [
  | true ↦ omega arith
  | false ↦ omega (arith, length_push (firsts es) x)
])

-- with more entities there are no fewer first occurrences
pub no_fewer : (es fs : List Entity) → length (firsts es) ≤ length (firsts (es ++ fs))
no_fewer es [] = subst (λ l. length (firsts es) ≤ length (firsts l)) (sym (append-nil es)) (omega arith)
no_fewer es (x ∷ fs) =
    let here = no_fewer_one es x in
    let rest : length (firsts (es ++ x ∷ [])) ≤ length (firsts (es ++ x ∷ fs)) =
    subst (λ l. length (firsts (es ++ x ∷ [])) ≤ length (firsts l)) (append_assoc es (x ∷ []) fs) (no_fewer (es ++ x ∷ []) fs) in
    omega arith

pub too_many_more : (limit : ℕ) (es fs : List Entity) (why : SymbolRefused) → AreTooMany limit es why → AreTooMany limit (es ++ fs) why
too_many_more limit es fs (Full n) many = omega (arith, no_fewer es fs)
too_many_more limit es fs Memory many = tt

or_same : (a b : Bool) → (IsTrue b → IsTrue a) → a ≡ (a || (b || false))
or_same true b h = refl
or_same false true h = h refl
or_same false false h = refl

some_of_cond : (b : Bool) (n : ℕ) (o : Option ℕ) → is_some (cond b (Some n) o) ≡ (is_some o || (b || false))
some_of_cond true n None = refl
some_of_cond true n (Some m) = refl
some_of_cond false n None = refl
some_of_cond false n (Some m) = refl

has_more : (es : List Entity) (x e : Entity) → has_entity (es ++ x ∷ []) e ≡ (has_entity es e || (same_entity x e || false))
has_more es x e = list_any-append (λ z. same_entity z e) es (x ∷ [])

module _ (limit : ℕ) (es : List Entity) (before : EntityNumbers) (x : Entity) (after : EntityNumbers) (n : ℕ) (entered : AreEntered es before) where
  one_more : (had : Option ℕ) → number_in before x ≡ had → MatchOption had (IsGiven limit before x after n) (λ m. (n ≡ m) × (after ≡ before)) → AreEntered (es ++ x ∷ []) after
  one_more None e g =
      let new : has_entity es x ≡ false = sym (entered.named x) ∙ ap is_some e in
      record {
        named = λ f. ap is_some (g.names f) ∙ some_of_cond (same_entity x f) n (number_in before f) ∙ ap (λ b. b || (same_entity x f || false)) (entered.named f) ∙ sym (has_more es x f);
        counted =
            let long : length (firsts (es ++ x ∷ [])) ≡ length (firsts es) + 1 = ap length (firsts_more es x ∙ ap (λ b. cond b (firsts es) (firsts es ++ x ∷ [])) new) ∙ length_push (firsts es) x in
            g.counted ∙ ap (λ k. k + 1) entered.counted ∙ sym long;
      }
  one_more (Some m) e g =
      let old : has_entity es x ≡ true = sym (entered.named x) ∙ ap is_some e in
      record {
        named = λ f. ap (λ k. is_some (number_in k f)) g.1 ∙ entered.named f
            ∙ or_same (has_entity es f) (same_entity x f) (λ t. subst (λ z. IsTrue (has_entity es z)) (same_entity_is x f t) old) ∙ sym (has_more es x f);
        counted = ap count g.1 ∙ entered.counted ∙ sym (ap length (firsts_more es x ∙ ap (λ b. cond b (firsts es) (firsts es ++ x ∷ [])) old));
      }

  -- one more entity was entered
  pub entered_more : IsEntered limit before x after n → AreEntered (es ++ x ∷ []) after
  entered_more g = one_more (number_in before x) refl g

-- it wasn't, because as many as the limit have numbers
pub refused_one : (limit : ℕ) (es : List Entity) (names : EntityNumbers) (x : Entity) (why : SymbolRefused) → AreEntered es names → IsRefusedFor limit names x why → AreTooMany limit (es ++ x ∷ []) why
refused_one limit es names x (Full n) entered refused =
    let new : has_entity es x ≡ false = sym (entered.named x) ∙ ap is_some refused.0 in
    let long : length (firsts (es ++ x ∷ [])) ≡ length (firsts es) + 1 = ap length (firsts_more es x ∙ ap (λ b. cond b (firsts es) (firsts es ++ x ∷ [])) new) ∙ length_push (firsts es) x in
    let full : length (firsts es) ≡ limit = sym entered.counted ∙ refused.1 in
    omega arith
refused_one limit es names x Memory entered refused = tt

-- one more entity of a list, behind what was entered before
module _ (before es : List Entity) (i : ℕ) (x : Entity) (within : i < length es) (at : x ≡ get_or es i x) where
  front_more : (before ++ take i es) ++ x ∷ [] ≡ before ++ take (i + 1) es
  front_more = append_assoc before (take i es) (x ∷ []) ∙ ap (λ l. before ++ l) (ap (λ z. take i es ++ z ∷ []) at ∙ sym (take_more es i x within))

  front_whole : ((before ++ take i es) ++ x ∷ []) ++ drop (i + 1) es ≡ before ++ es
  front_whole = ap (λ l. l ++ drop (i + 1) es) front_more ∙ append_assoc before (take (i + 1) es) (drop (i + 1) es) ∙ ap (λ l. before ++ l) (take-append-drop (i + 1) es)

  pub entered_next : (limit : ℕ) (names after : EntityNumbers) (n : ℕ) → AreEntered (before ++ take i es) names → IsEntered limit names x after n → AreEntered (before ++ take (i + 1) es) after
  entered_next limit names after n front entered = subst (λ l. AreEntered l after) front_more (entered_more limit (before ++ take i es) names x after n front entered)

  pub refused_next : (limit : ℕ) (names : EntityNumbers) (why : SymbolRefused) → AreEntered (before ++ take i es) names → IsRefusedFor limit names x why → AreTooMany limit (before ++ es) why
  refused_next limit names why front refused = subst (λ l. AreTooMany limit l why) front_whole (
      too_many_more limit ((before ++ take i es) ++ x ∷ []) (drop (i + 1) es) why (refused_one limit (before ++ take i es) names x why front refused))

-- one more axiom
module _ (axioms : List Noted) (i : ℕ) (a : Noted) (more : take (i + 1) axioms ≡ take i axioms ++ a ∷ []) where
  pub signatures_more : signatures (logical (take i axioms)) ++ signatures (logical (a ∷ [])) ≡ signatures (logical (take (i + 1) axioms))
  signatures_more = sym (signatures_logical-append (take i axioms) (a ∷ [])) ∙ ap (λ l. signatures (logical l)) (sym more)

  pub signatures_whole : (signatures (logical (take i axioms)) ++ signatures (logical (a ∷ []))) ++ signatures (logical (drop (i + 1) axioms)) ≡ signatures (logical axioms)
  signatures_whole = ap (λ l. l ++ signatures (logical (drop (i + 1) axioms))) signatures_more
      ∙ sym (signatures_logical-append (take (i + 1) axioms) (drop (i + 1) axioms)) ∙ ap (λ l. signatures (logical l)) (take-append-drop (i + 1) axioms)

  pub too_many_whole : (limit : ℕ) (why : SymbolRefused) → AreTooMany limit (signatures (logical (take i axioms)) ++ signatures (logical (a ∷ []))) why → AreTooMany limit (signatures (logical axioms)) why
  too_many_whole limit why many = subst (λ l. AreTooMany limit l why) signatures_whole (
      too_many_more limit (signatures (logical (take i axioms)) ++ signatures (logical (a ∷ []))) (signatures (logical (drop (i + 1) axioms))) why many)

-- an axiom by itself
pub signatures_one : (a : Noted) → is_logical_axiom a ≡ true → signatures (logical (a ∷ [])) ≡ signature_of a.axiom
signatures_one a is = ap (λ b. signatures (cond b (a ∷ []) [])) is ∙ append-nil (signature_of a.axiom)

pub signatures_none : (a : Noted) → is_logical_axiom a ≡ false → signatures (logical (a ∷ [])) ≡ []
signatures_none a is = ap (λ b. signatures (cond b (a ∷ []) [])) is
