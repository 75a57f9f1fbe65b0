-- The words of a module, of atoms and of a session.
use Rattle.std.proofs.Common.{◌≡◌, ℕ, ◌≤◌, ◌<◌, ◌+◌, ◌*◌, Bool, true, false, List, [], ◌∷◌, length, drop, get_or, map, codes, refl, sym, ◌∙◌, ap, subst, arith, inl, inr, ◌⊎◌, if◌then◌else◌}
use Rattle.std.specs.Prelude.{decimal, Option, Some, None, IfSome}
use Rattle.std.specs.List.{AllByRecursion}
use Rattle.std.proofs.lemmas.Fmt.{decimal_injective}
use Rattle.ad_base.specs.Decimal.{IsNumber}
use Rattle.ad_base.specs.Words.{same_text}
use Rattle.ad_base.specs.Kinds.{kind_word}
use Rattle.ad_base.specs.declared.limits.Kind.{Kind}
use Rattle.ad_base.specs.declared.limits.Kind.TheVariants as modules
use Rattle.ad_lex.proofs.Pieces.{bytes_same}
use Rattle.ad_entity.specs.declared.entities.Entity.{Entity}
use Rattle.ad_command.specs.Command.{IsCommand, IsNoCommand, IsSeedEntity, of_module, of_atoms, of_script, of_split, of_generate, of_summary, most_size, seed_word}
use Rattle.ad_command.specs.Words.{are_seed_words, kind_in, seeded_kind, module_kind, NameWorkers}
use Rattle.ad_command.specs.Asks.{IsModule}
use Rattle.ad_command.proofs.EntityLemmas.{entities, tested}

some_if : {A : Type 0} (b : Bool) (o : Option A) (a : A) → (if b then o else None) ≡ Some a → (b ≡ true) × (o ≡ Some a)
some_if true o a h = (refl, h)
some_if false o a h = absurd (let wrong : None ≡ Some a = h in cc)

first_is : (b : Bool) (k k' : Kind) (later : Option Kind) → (if b then Some k else later) ≡ Some k' → ((b ≡ true) × (k ≡ k')) ⊎ (later ≡ Some k')
first_is true k k' later h = inl (refl, let is : Some k ≡ Some k' = h in cc)
first_is false k k' later h = inr h

-- a word that names a kind is its word, and the word of a kind names it
pub word_of_kind : (word : List ℕ) (kind : Kind) → kind_in word ≡ Some kind → word ≡ kind_word kind
word_of_kind word kind h =
    elim (first_is (same_text word (kind_word modules.Bottom)) modules.Bottom kind (if same_text word (kind_word modules.Top) then Some modules.Top else (if same_text word (kind_word modules.Star) then Some modules.Star else None)) h) [
      | inl e ↦ bytes_same word (kind_word modules.Bottom) e.0 ∙ ap kind_word e.1
      | inr e ↦ elim (first_is (same_text word (kind_word modules.Top)) modules.Top kind (if same_text word (kind_word modules.Star) then Some modules.Star else None) e) [
        | inl f ↦ bytes_same word (kind_word modules.Top) f.0 ∙ ap kind_word f.1
        | inr f ↦ elim (first_is (same_text word (kind_word modules.Star)) modules.Star kind None f) [
          | inl g ↦ bytes_same word (kind_word modules.Star) g.0 ∙ ap kind_word g.1
          | inr g ↦ absurd (let wrong : None ≡ Some kind = g in cc)
        ]
      ]
    ]

pub kind_of_word : (kind : Kind) → kind_in (kind_word kind) ≡ Some kind
kind_of_word modules.Bottom = refl
kind_of_word modules.Top = refl
kind_of_word modules.Star = refl

-- the words behind `module` name a kind and entities
pub seeded : (rest : List (List ℕ)) (kind : Kind) → seeded_kind rest ≡ Some kind → (are_seed_words (drop 1 rest) ≡ true) × (rest ≡ kind_word kind ∷ drop 1 rest)
seeded [] kind h = absurd (let wrong : None ≡ Some kind = h in cc)
seeded (w ∷ ws) kind h =
    let test = some_if (are_seed_words ws) (kind_in w) kind h in
    (test.0, ap (λ x. x ∷ ws) (word_of_kind w kind test.1))

-- the words of a module, from the test
pub module_rest : (words : List (List ℕ)) (kind : Kind) → module_kind words ≡ Some kind → (are_seed_words (drop 2 words) ≡ true) × (words ≡ codes "module" ∷ kind_word kind ∷ drop 2 words)
module_rest [] kind h = absurd (let wrong : None ≡ Some kind = h in cc)
module_rest (w ∷ ws) kind h =
    let test = some_if (same_text w (codes "module")) (seeded_kind ws) kind h in
    let rest = seeded ws kind test.1 in
    let first = bytes_same w (codes "module") test.0 in
    (rest.0, λ i. first i ∷ rest.1 i)

-- the words are those of a module for what they name
pub module_words : (words : List (List ℕ)) (kind : Kind) (seed : List Entity) → module_kind words ≡ Some kind → AllByRecursion IsSeedEntity seed → drop 2 words ≡ map seed_word seed → IsCommand words (of_module kind seed)
module_words words kind seed h each is =
    record { offered = each; spelled = (module_rest words kind h).1 ∙ ap (λ ws. codes "module" ∷ kind_word kind ∷ ws) is }

pub asked_module : (rest : List (List ℕ)) (kind : Kind) → seeded_kind rest ≡ Some kind → IsModule (codes "module" ∷ rest) kind
asked_module rest kind h =
    let is = seeded rest kind h in
    let found = entities (drop 1 rest) is.0 in
    record { seed = found.0; commanded = module_words (codes "module" ∷ rest) kind found.0 h found.1 found.2 }

-- the first two letters of the words, as one number
abbrev pub letters : List (List ℕ) → ℕ
letters words = get_or (get_or words 0 []) 0 0 * 256 + get_or (get_or words 0 []) 1 0

pub module_or_not : (rest : List (List ℕ)) → seeded_kind rest ≡ None → IsNoCommand (codes "module" ∷ rest)
module_or_not rest none (of_module kind seed) is =
    let test : seeded_kind (kind_word kind ∷ map seed_word seed) ≡ kind_in (kind_word kind) = rw (tested seed is.offered) refl in
    let found : None ≡ Some kind = sym none ∙ ap (λ ws. seeded_kind (drop 1 ws)) is.spelled ∙ test ∙ kind_of_word kind in cc
module_or_not rest none (of_atoms kind workers) is = absurd (let first : 28015 ≡ 24948 = ap letters is.spelled in omega (arith, first))
module_or_not rest none (of_script workers) is = absurd (let first : 28015 ≡ 29539 = ap letters is.spelled in omega (arith, first))
module_or_not rest none (of_split kind) is = absurd (let first : 28015 ≡ 29552 = ap letters is.spelled in omega (arith, first))
module_or_not rest none (of_generate size) is = absurd (let first : 28015 ≡ 26469 = ap letters is.spelled in omega (arith, first))
module_or_not rest none (of_summary size workers) is = absurd (let first : 28015 ≡ 29557 = ap letters is.spelled in omega (arith, first))

-- a number of workers that isn't one
pub not_workers : (word : List ℕ) (n : ℕ) → IsNumber word n → (1 ≤ n → n ≤ 16 → ⊥) → (workers : ℕ) → 1 ≤ workers → workers ≤ 16 → word ≡ decimal workers → ⊥
not_workers word n is out workers low high named =
    let same : n ≡ workers = decimal_injective n workers (let small = is.small in omega (arith, small)) (omega (arith, high)) (sym is.spelled ∙ named) in
    out (subst (λ m. 1 ≤ m) (sym same) low) (subst (λ m. m ≤ 16) (sym same) high)

-- a number that is no size
pub not_size : (word : List ℕ) (n : ℕ) → IsNumber word n → (n ≤ most_size → ⊥) → (size : ℕ) → size ≤ most_size → word ≡ decimal size → ⊥
not_size word n is out size high named =
    let same : n ≡ size = decimal_injective n size (let small = is.small in omega (arith, small)) (omega (arith, high)) (sym is.spelled ∙ named) in
    out (subst (λ m. m ≤ most_size) (sym same) high)

-- two words with a number of workers
pub named_workers : (words : List (List ℕ)) (option word d e : List ℕ) (workers : Option ℕ) → 2 ≤ length words → length words < 3 → option ≡ get_or words 0 d → word ≡ get_or words 1 e → option ≡ codes "--workers"
    → IfSome workers (λ n. (1 ≤ n) × (n ≤ 16) × (word ≡ decimal n)) → IfSome workers (NameWorkers words)
named_workers words option word d e None low high first second is h = tt
named_workers [] option word d e (Some n) low high first second is h = absurd (omega (arith, low))
named_workers (w ∷ []) option word d e (Some n) low high first second is h = absurd (omega (arith, low))
named_workers (w ∷ v ∷ []) option word d e (Some n) low high first second is h =
    let one : w ≡ codes "--workers" = sym first ∙ is in
    let two : v ≡ decimal n = sym second ∙ h.2 in
    record { low = h.0; high = h.1; number = Some n; offered = (h.0, h.1); spelled = λ i. one i ∷ two i ∷ []; count = refl }
named_workers (w ∷ v ∷ u ∷ ws) option word d e (Some n) low high first second is h = absurd (omega (arith, high))
