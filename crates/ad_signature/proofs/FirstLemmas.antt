-- Lists of first occurrences.
use Rattle.std.proofs.Common.{◌≡◌, Bool, true, false, cond, not, ◌&&◌, ◌||◌, IsTrue, IsFalse, List, [], ◌∷◌, ◌++◌, append-nil, append_assoc, refl, sym, ap, ◌∙◌}
use Rattle.std.specs.List.{fold, filter}
use Rattle.ad_entity.specs.Entities.{same_entity}
use Rattle.ad_entity.specs.declared.entities.Entity.{Entity}
use Rattle.ad_theory.proofs.Members.{not_both, false_not, filter-filter, filter_all}
use Rattle.ad_syntax_laws.proofs.EntityLemmas.{same_entity_is}
use Rattle.ad_names.specs.Names.{is_member, with_entity}
use Rattle.ad_names.specs.declared.names.Names.{Names}
use Rattle.ad_names.proofs.MemberLemmas.{member-fold}
use Rattle.ad_signature.specs.Firsts.{firsts}
use Rattle.ad_signature.specs.Listed.{with_first}
use Rattle.ad_signature.specs.declared.listing.Listing.{Listing}

-- two filters, one after the other
filter_both : {A : Type 0} (p q r : A → Bool) (xs : List A) → ((a : A) → r a ≡ (q a && p a)) → filter p (filter q xs) ≡ filter r xs
filter_both p q r [] h = refl
filter_both p q r (x ∷ xs) h = elim (q x) as (λ b. q x ≡ b → filter p (filter q (x ∷ xs)) ≡ filter r (x ∷ xs)) [
  | true ↦ λ e. let k : r x ≡ p x = h x ∙ ap (λ b. b && p x) e in rw (e, k) (ap (λ l. cond (p x) (x ∷ l) l) (filter_both p q r xs h))
  | false ↦ λ e. let k : r x ≡ false = h x ∙ ap (λ b. b && p x) e in rw (e, k) (filter_both p q r xs h)
] refl

-- the entities that a set does not have
abbrev new_to : Names → List Entity → List Entity
new_to names es = filter (λ e. not (is_member names e)) es

others : Entity → List Entity → List Entity
others e es = filter (λ x. not (same_entity e x)) es

or_nothing : (b : Bool) → (b || false) ≡ b
or_nothing true = refl
or_nothing false = refl

met_more : (names : Names) (e x : Entity) → is_member (with_entity names e) x ≡ (same_entity e x || is_member names x)
met_more names e x = member-fold names (e ∷ []) x ∙ ap (λ b. b || is_member names x) (or_nothing (same_entity e x))

not_or : (a b : Bool) → not (a || b) ≡ (not a && not b)
not_or true b = refl
not_or false b = refl

-- an entity that was not met is not one that was
other : (names : Names) (e x : Entity) → is_member names e ≡ true → IsTrue (not (is_member names x)) → IsTrue (not (same_entity e x))
other names e x met n = elim (same_entity e x) as (λ b. same_entity e x ≡ b → IsTrue (not b)) [
  | true ↦ λ s. let m : is_member names x ≡ true = sym (ap (is_member names) (same_entity_is e x s)) ∙ met in absurd (not_both n (ap not m))
  | false ↦ λ s. refl
] refl

-- where it was met before, it adds nothing
new_to-old : (names : Names) (e : Entity) (es : List Entity) → is_member names e ≡ true → new_to names (firsts (e ∷ es)) ≡ new_to names (firsts es)
unfolding others
new_to-old names e es met =
    ap (λ b. cond (not b) (e ∷ new_to names (others e (firsts es))) (new_to names (others e (firsts es)))) met
    ∙ filter-filter (λ x. not (is_member names x)) (λ x. not (same_entity e x)) (firsts es) (λ x n. other names e x met n)

-- and else it comes first
new_to-new : (names : Names) (e : Entity) (es : List Entity) → is_member names e ≡ false → new_to names (firsts (e ∷ es)) ≡ e ∷ new_to (with_entity names e) (firsts es)
unfolding others
new_to-new names e es met =
    ap (λ b. cond (not b) (e ∷ new_to names (others e (firsts es))) (new_to names (others e (firsts es)))) met
    ∙ ap (λ l. e ∷ l) (filter_both (λ x. not (is_member names x)) (λ x. not (same_entity e x)) (λ x. not (is_member (with_entity names e) x)) (firsts es)
    (λ x. ap not (met_more names e x) ∙ not_or (same_entity e x) (is_member names x)))

-- after some entities, those that are new stand at the end
listed : (l : Listing) (es : List Entity) → (fold with_first l es).list ≡ l.list ++ new_to l.met (firsts es)
listed l [] = sym (append-nil l.list)
listed l (e ∷ es) = elim (is_member l.met e) as (λ b. is_member l.met e ≡ b → (fold with_first l (e ∷ es)).list ≡ l.list ++ new_to l.met (firsts (e ∷ es))) [
  | true ↦ λ met. ap (λ b. (fold with_first (cond b l (record l { met = with_entity l.met e; list = l.list ++ e ∷ [] })) es).list) met
      ∙ listed l es ∙ ap (λ k. l.list ++ k) (sym (new_to-old l.met e es met))
  | false ↦ λ met. ap (λ b. (fold with_first (cond b l (record l { met = with_entity l.met e; list = l.list ++ e ∷ [] })) es).list) met
      ∙ listed (record l { met = with_entity l.met e; list = l.list ++ e ∷ [] }) es
      ∙ append_assoc l.list (e ∷ []) (new_to (with_entity l.met e) (firsts es))
      ∙ ap (λ k. l.list ++ k) (sym (new_to-new l.met e es met))
] refl

-- from nothing on, the first occurrences are listed
pub listed_all : (l m : Listing) (es : List Entity) → ((e : Entity) → IsFalse (is_member l.met e)) → l.list ≡ [] → m ≡ fold with_first l es → m.list ≡ firsts es
listed_all l m es none empty taken =
    ap (λ k. k.list) taken
    ∙ listed l es
    ∙ ap (λ k. k ++ new_to l.met (firsts es)) empty
    ∙ filter_all (λ e. not (is_member l.met e)) (firsts es) (λ e h. false_not (is_member l.met e) (none e))
