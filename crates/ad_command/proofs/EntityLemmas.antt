-- The entities that words name.
use Rattle.std.proofs.Common.{◌≡◌, ℕ, ◌+◌, ◌<◌, Bool, true, false, ◌&&◌, List, [], ◌∷◌, ◌++◌, length, take, drop, get_or, map, IsTrue, refl, sym, ◌∙◌, ap, subst, nat_eq, take-append-drop, append_assoc, inl, inr, ◌⊎◌, if◌then◌else◌}
use Rattle.std.specs.Prelude.{Option, Some, None, is_some, ◌≢◌, MatchOption}
use Rattle.std.specs.Option.{unwrap_or}
use Rattle.std.specs.Borrow.{Bor}
use Rattle.std.specs.Str.Pattern.{StripsPrefix, FindsTextPrefix}
use Rattle.std.proofs.lemmas.Bool.{cases_Bool}
use Rattle.std.proofs.lemmas.List.{take_more, map-append}
use Rattle.std.proofs.lemmas.List.Folds.{list_all_at}
use Rattle.std.specs.List.{AllByRecursion, list_all, starts_with}
use Rattle.ad_lex.specs.Characters.{is_iri}
use Rattle.ad_lex.proofs.Pieces.{bytes_same}
use Rattle.ad_entity.specs.Entities.{entity, all_kinds}
use Rattle.ad_entity.specs.declared.entities.EntityKind.{EntityKind}
use Rattle.ad_entity.specs.declared.entities.EntityKind.TheVariants as kinds
use Rattle.ad_entity.specs.declared.entities.Entity.{Entity}
use Rattle.ad_write.specs.Canonical.{entity_kind_word}
use Rattle.ad_command.specs.Command.{IsSeedEntity, seed_word}
use Rattle.ad_command.specs.Words.{front_of, is_iri_behind, first_entity_kind, entity_kind_in, is_seed_word, are_seed_words}

pub parts : (a b : Bool) → (a && b) ≡ true → (a ≡ true) × (b ≡ true)
parts true b h = (refl, h)
parts false b h = absurd (let wrong : false ≡ true = h in cc)

pub both : (a b : Bool) → a ≡ true → b ≡ true → (a && b) ≡ true
both a b p q = ap (λ x. x && b) p ∙ q

-- a word with a front and an IRI behind it
pub split_word : (front word : List ℕ) → is_iri_behind front word ≡ true → IsTrue (list_all is_iri (drop (length front) word)) × (word ≡ front ++ drop (length front) word)
split_word front word h =
    let test = parts (starts_with nat_eq word front) (list_all is_iri (drop (length front) word)) h in
    let is : front ≡ take (length front) word = bytes_same front (take (length front) word) test.0 in
    (test.1, sym (take-append-drop (length front) word) ∙ ap (λ xs. xs ++ drop (length front) word) (sym is))

first_is : (b : Bool) (k k' : EntityKind) (later : Option EntityKind) → (if b then Some k else later) ≡ Some k' → ((b ≡ true) × (k ≡ k')) ⊎ (later ≡ Some k')
first_is true k k' later h = inl (refl, let is : Some k ≡ Some k' = h in cc)
first_is false k k' later h = inr h

first_found : (ks : List EntityKind) (word : List ℕ) (k : EntityKind) → first_entity_kind ks word ≡ Some k → is_iri_behind (front_of k) word ≡ true
first_found [] word k h = absurd (let wrong : None ≡ Some k = h in cc)
first_found (k' ∷ ks) word k h = elim (first_is (is_iri_behind (front_of k') word) k' k (first_entity_kind ks word) h) [
  | inl e ↦ subst (λ x. is_iri_behind (front_of x) word ≡ true) e.1 e.0
  | inr e ↦ first_found ks word k e
]

-- the entity that a word names, and the word of an entity
pub word_entity : (word : List ℕ) (k : EntityKind) → entity_kind_in word ≡ Some k
    → IsSeedEntity (entity k (drop (length (front_of k)) word)) × (word ≡ seed_word (entity k (drop (length (front_of k)) word)))
word_entity word k h =
    let found = split_word (front_of k) word (first_found all_kinds word k h) in
    (found.0, found.1 ∙ append_assoc (entity_kind_word k) (61 ∷ []) (drop (length (front_of k)) word))

named : (k : EntityKind) (name : List ℕ) → list_all is_iri name ≡ true → is_seed_word (seed_word (entity k name)) ≡ true
named kinds.Class name h = rw h refl
named kinds.Datatype name h = rw h refl
named kinds.ObjectProperty name h = rw h refl
named kinds.DataProperty name h = rw h refl
named kinds.AnnotationProperty name h = rw h refl
named kinds.NamedIndividual name h = rw h refl

pub is_kind : (o : Option EntityKind) → is_some o ≡ true → (k : EntityKind) × (o ≡ Some k)
is_kind None h = absurd (let wrong : false ≡ true = h in cc)
is_kind (Some k) h = (k, refl)

-- words that name entities
pub entities : (words : List (List ℕ)) → are_seed_words words ≡ true → (seed : List Entity) × AllByRecursion IsSeedEntity seed × (words ≡ map seed_word seed)
entities [] h = ([], tt, refl)
entities (w ∷ ws) h =
    let test = parts (is_seed_word w) (are_seed_words ws) h in
    let kind = is_kind (entity_kind_in w) test.0 in
    let one = word_entity w kind.0 kind.1 in
    let rest = entities ws test.1 in
    (entity kind.0 (drop (length (front_of kind.0)) w) ∷ rest.0, (one.0, rest.1), ap (λ x. x ∷ ws) one.1 ∙ ap (λ xs. seed_word (entity kind.0 (drop (length (front_of kind.0)) w)) ∷ xs) rest.2)

pub tested : (seed : List Entity) → AllByRecursion IsSeedEntity seed → are_seed_words (map seed_word seed) ≡ true
tested [] h = refl
tested (e ∷ es) h = both (is_seed_word (seed_word e)) (are_seed_words (map seed_word es)) (named e.kind e.name h.0) (tested es h.1)

-- one more word was read
each_more : (P : Entity → Type 0) (es : List Entity) (e : Entity) → AllByRecursion P es → P e → AllByRecursion P (es ++ e ∷ [])
each_more P [] e all one = (one, tt)
each_more P (x ∷ es) e all one = (all.0, each_more P es e all.1 one)

tested_at : (words : List (List ℕ)) (i : ℕ) (d : List ℕ) → are_seed_words words ≡ true → i < length words → is_seed_word (get_or words i d) ≡ true
tested_at words i d all within =
    elim (cases_Bool (is_seed_word (get_or words i d))) [ inl t ↦ t | inr f ↦ absurd (let wrong : false ≡ true = sym (list_all_at is_seed_word words i d within f) ∙ all in cc) ]

pub one_more : (words : List (List ℕ)) (seed : List Entity) (i : ℕ) (w d : List ℕ) (e : Entity) → are_seed_words words ≡ true → i < length words → w ≡ get_or words i d
    → (IsTrue (is_seed_word w) → IsSeedEntity e × (w ≡ seed_word e))
    → map seed_word seed ≡ take i words → AllByRecursion IsSeedEntity seed
    → (map seed_word (seed ++ e ∷ []) ≡ take (i + 1) words) × AllByRecursion IsSeedEntity (seed ++ e ∷ [])
one_more words seed i w d e all within is read so_far each =
    let test : is_seed_word w ≡ true = ap is_seed_word is ∙ tested_at words i d all within in
    let known = read test in (
      map-append seed_word seed (e ∷ []) ∙ ap (λ xs. xs ++ seed_word e ∷ []) so_far ∙ ap (λ x. take i words ++ x ∷ []) (sym known.1 ∙ is) ∙ sym (take_more words i d within),
      each_more IsSeedEntity seed e each known.0,
    )

-- what is behind the front of a word, where its front is cut off
pub cut_off : (front word : List ℕ) (r : Option (Bor (List ℕ))) (d : Bor (List ℕ))
    → MatchOption r ((rest : List ℕ) → word ≢ front ++ rest) (λ x. StripsPrefix (FindsTextPrefix front) word x.now)
    → is_iri_behind front word ≡ true → (unwrap_or r d).now ≡ drop (length front) word
cut_off front word None d h t = absurd (h (drop (length front) word) (split_word front word t).1)
cut_off front word (Some x) d h t = h.2 ∙ ap (λ n. drop n word) h.1.0

-- the entity that is read from the word
pub read_entity : (word : List ℕ) (k : EntityKind) (name : List ℕ) → k ≡ unwrap_or (entity_kind_in word) kinds.Class
    → (is_iri_behind (front_of k) word ≡ true → name ≡ drop (length (front_of k)) word)
    → is_seed_word word ≡ true → IsSeedEntity (entity k name) × (word ≡ seed_word (entity k name))
read_entity word k name kind read h =
    let some = is_kind (entity_kind_in word) h in
    let is : k ≡ some.0 = kind ∙ ap (λ o. unwrap_or o kinds.Class) some.1 in
    let told : entity_kind_in word ≡ Some k = some.1 ∙ ap Some (sym is) in
    let known = word_entity word k told in
    let name_is : name ≡ drop (length (front_of k)) word = read (first_found all_kinds word k told) in
    subst (λ n. IsSeedEntity (entity k n) × (word ≡ seed_word (entity k n))) (sym name_is) known
