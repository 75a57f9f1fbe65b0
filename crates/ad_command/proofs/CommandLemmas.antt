-- Words spell one command at most.
use Rattle.std.proofs.Common.{◌≡◌, ◌≤◌, ℕ, suc, List, [], ◌∷◌, length, drop, get_or, map, true, refl, sym, ◌∙◌, ap, arith}
use Rattle.std.specs.Prelude.{Option, Some, None, decimal}
use Rattle.std.specs.Option.{option_map}
use Rattle.std.specs.List.{AllByRecursion, list_all}
use Rattle.std.proofs.lemmas.Fmt.{decimal_injective}
use Rattle.ad_base.specs.Kinds.{kind_word}
use Rattle.ad_base.specs.declared.limits.Kind.{Kind}
use Rattle.ad_lex.specs.Characters.{is_iri}
use Rattle.ad_entity.specs.Entities.{entity}
use Rattle.ad_entity.specs.declared.entities.EntityKind.{EntityKind}
use Rattle.ad_entity.specs.declared.entities.EntityKind.TheVariants as kinds
use Rattle.ad_entity.specs.declared.entities.Entity.{Entity}
use Rattle.ad_command.specs.Command.{Command, IsCommand, IsSeedEntity, AreWorkers, reads, of_module, of_atoms, of_script, of_split, of_generate, of_summary, most_size, seed_word, workers_words, SpellsOneCommand}
use Rattle.ad_command.specs.Words.{front_of, entity_kind_in, kind_in}
use Rattle.ad_command.proofs.WordLemmas.{kind_of_word, letters}

-- the entity that a word names
abbrev entity_in : List ℕ → Option Entity
entity_in word = option_map (λ (kind : EntityKind). entity kind (drop (length (front_of kind)) word)) (entity_kind_in word)

read_back : (k : EntityKind) (name : List ℕ) → list_all is_iri name ≡ true → entity_in (seed_word (entity k name)) ≡ Some (entity k name)
read_back kinds.Class name h = rw h refl
read_back kinds.Datatype name h = rw h refl
read_back kinds.ObjectProperty name h = rw h refl
read_back kinds.DataProperty name h = rw h refl
read_back kinds.AnnotationProperty name h = rw h refl
read_back kinds.NamedIndividual name h = rw h refl

one_entity : (a b : Entity) → IsSeedEntity a → IsSeedEntity b → seed_word a ≡ seed_word b → a ≡ b
one_entity a b p q same = let found : Some a ≡ Some b = sym (read_back a.kind a.name p) ∙ ap entity_in same ∙ read_back b.kind b.name q in cc

one_seed : (s t : List Entity) → AllByRecursion IsSeedEntity s → AllByRecursion IsSeedEntity t → map seed_word s ≡ map seed_word t → s ≡ t
one_seed [] [] p q same = refl
one_seed [] (b ∷ t) p q same = absurd (let count : 0 ≡ suc (length (map seed_word t)) = ap length same in omega (arith, count))
one_seed (a ∷ s) [] p q same = absurd (let count : suc (length (map seed_word s)) ≡ 0 = ap length same in omega (arith, count))
one_seed (a ∷ s) (b ∷ t) p q same =
    let first = one_entity a b p.0 q.0 (ap (λ ws. get_or ws 0 []) same) in
    let rest = one_seed s t p.1 q.1 (ap (drop 1) same) in
    λ i. first i ∷ rest i

one_kind : (j k : Kind) → kind_word j ≡ kind_word k → j ≡ k
one_kind j k same = let found : Some j ≡ Some k = sym (kind_of_word j) ∙ ap kind_in same ∙ kind_of_word k in cc

one_number : (v w : Option ℕ) → AreWorkers v → AreWorkers w → workers_words v ≡ workers_words w → v ≡ w
one_number None None p q same = refl
one_number None (Some w) p q same = absurd (let count : 0 ≡ 2 = ap length same in omega (arith, count))
one_number (Some v) None p q same = absurd (let count : 2 ≡ 0 = ap length same in omega (arith, count))
one_number (Some v) (Some w) p q same = ap Some (decimal_injective v w (omega (arith, p.1)) (omega (arith, q.1)) (ap (λ ws. get_or ws 1 []) same))

one_module : (words : List (List ℕ)) (j k : Kind) (s t : List Entity) → IsCommand words (of_module j s) → IsCommand words (of_module k t) → of_module j s ≡ of_module k t
one_module words j k s t a b =
    let same = sym a.spelled ∙ b.spelled in
    let kind = one_kind j k (ap (λ ws. get_or ws 1 []) same) in
    let seed = one_seed s t a.offered b.offered (ap (drop 2) same) in
    λ i. of_module (kind i) (seed i)

one_atoms : (words : List (List ℕ)) (j k : Kind) (v w : Option ℕ) → IsCommand words (of_atoms j v) → IsCommand words (of_atoms k w) → of_atoms j v ≡ of_atoms k w
one_atoms words j k v w a b =
    let same = sym a.spelled ∙ b.spelled in
    let kind = one_kind j k (ap (λ ws. get_or ws 1 []) same) in
    let number = one_number v w a.offered b.offered (ap (drop 2) same) in
    λ i. of_atoms (kind i) (number i)

one_split : (words : List (List ℕ)) (j k : Kind) → IsCommand words (of_split j) → IsCommand words (of_split k) → of_split j ≡ of_split k
one_split words j k a b = ap of_split (one_kind j k (ap (λ ws. get_or ws 1 []) (sym a.spelled ∙ b.spelled)))

one_size : (m n : ℕ) → m ≤ most_size → n ≤ most_size → decimal m ≡ decimal n → m ≡ n
one_size m n p q same = decimal_injective m n (omega (arith, p)) (omega (arith, q)) same

one_generate : (words : List (List ℕ)) (m n : ℕ) → IsCommand words (of_generate m) → IsCommand words (of_generate n) → of_generate m ≡ of_generate n
one_generate words m n a b = ap of_generate (one_size m n a.offered b.offered (ap (λ ws. get_or ws 1 []) (sym a.spelled ∙ b.spelled)))

one_summary : (words : List (List ℕ)) (m n : ℕ) (v w : Option ℕ) → IsCommand words (of_summary m v) → IsCommand words (of_summary n w) → of_summary m v ≡ of_summary n w
one_summary words m n v w a b =
    let same = sym a.spelled ∙ b.spelled in
    let size = one_size m n a.offered.0 b.offered.0 (ap (λ ws. get_or ws 1 []) same) in
    let number = one_number v w a.offered.1 b.offered.1 (ap (drop 2) same) in
    λ i. of_summary (size i) (number i)

pub one_command : SpellsOneCommand
one_command words (of_module j s) (of_module k t) a b = one_module words j k s t a b
one_command words (of_module j s) (of_atoms k w) a b = absurd (let first : 28015 ≡ 24948 = ap letters (sym a.spelled ∙ b.spelled) in omega (arith, first))
one_command words (of_module j s) (of_script w) a b = absurd (let first : 28015 ≡ 29539 = ap letters (sym a.spelled ∙ b.spelled) in omega (arith, first))
one_command words (of_module j s) (of_split k) a b = absurd (let first : 28015 ≡ 29552 = ap letters (sym a.spelled ∙ b.spelled) in omega (arith, first))
one_command words (of_module j s) (of_generate n) a b = absurd (let first : 28015 ≡ 26469 = ap letters (sym a.spelled ∙ b.spelled) in omega (arith, first))
one_command words (of_module j s) (of_summary n w) a b = absurd (let first : 28015 ≡ 29557 = ap letters (sym a.spelled ∙ b.spelled) in omega (arith, first))
one_command words (of_atoms j v) (of_module k t) a b = absurd (let first : 24948 ≡ 28015 = ap letters (sym a.spelled ∙ b.spelled) in omega (arith, first))
one_command words (of_atoms j v) (of_atoms k w) a b = one_atoms words j k v w a b
one_command words (of_atoms j v) (of_script w) a b = absurd (let first : 24948 ≡ 29539 = ap letters (sym a.spelled ∙ b.spelled) in omega (arith, first))
one_command words (of_atoms j v) (of_split k) a b = absurd (let first : 24948 ≡ 29552 = ap letters (sym a.spelled ∙ b.spelled) in omega (arith, first))
one_command words (of_atoms j v) (of_generate n) a b = absurd (let first : 24948 ≡ 26469 = ap letters (sym a.spelled ∙ b.spelled) in omega (arith, first))
one_command words (of_atoms j v) (of_summary n w) a b = absurd (let first : 24948 ≡ 29557 = ap letters (sym a.spelled ∙ b.spelled) in omega (arith, first))
one_command words (of_script v) (of_module k t) a b = absurd (let first : 29539 ≡ 28015 = ap letters (sym a.spelled ∙ b.spelled) in omega (arith, first))
one_command words (of_script v) (of_atoms k w) a b = absurd (let first : 29539 ≡ 24948 = ap letters (sym a.spelled ∙ b.spelled) in omega (arith, first))
one_command words (of_script v) (of_script w) a b = ap of_script (one_number v w a.offered b.offered (ap (drop 1) (sym a.spelled ∙ b.spelled)))
one_command words (of_script v) (of_split k) a b = absurd (let first : 29539 ≡ 29552 = ap letters (sym a.spelled ∙ b.spelled) in omega (arith, first))
one_command words (of_script v) (of_generate n) a b = absurd (let first : 29539 ≡ 26469 = ap letters (sym a.spelled ∙ b.spelled) in omega (arith, first))
one_command words (of_script v) (of_summary n w) a b = absurd (let first : 29539 ≡ 29557 = ap letters (sym a.spelled ∙ b.spelled) in omega (arith, first))
one_command words (of_split j) (of_module k t) a b = absurd (let first : 29552 ≡ 28015 = ap letters (sym a.spelled ∙ b.spelled) in omega (arith, first))
one_command words (of_split j) (of_atoms k w) a b = absurd (let first : 29552 ≡ 24948 = ap letters (sym a.spelled ∙ b.spelled) in omega (arith, first))
one_command words (of_split j) (of_script w) a b = absurd (let first : 29552 ≡ 29539 = ap letters (sym a.spelled ∙ b.spelled) in omega (arith, first))
one_command words (of_split j) (of_split k) a b = one_split words j k a b
one_command words (of_split j) (of_generate n) a b = absurd (let first : 29552 ≡ 26469 = ap letters (sym a.spelled ∙ b.spelled) in omega (arith, first))
one_command words (of_split j) (of_summary n w) a b = absurd (let first : 29552 ≡ 29557 = ap letters (sym a.spelled ∙ b.spelled) in omega (arith, first))
one_command words (of_generate m) (of_module k t) a b = absurd (let first : 26469 ≡ 28015 = ap letters (sym a.spelled ∙ b.spelled) in omega (arith, first))
one_command words (of_generate m) (of_atoms k w) a b = absurd (let first : 26469 ≡ 24948 = ap letters (sym a.spelled ∙ b.spelled) in omega (arith, first))
one_command words (of_generate m) (of_script w) a b = absurd (let first : 26469 ≡ 29539 = ap letters (sym a.spelled ∙ b.spelled) in omega (arith, first))
one_command words (of_generate m) (of_split k) a b = absurd (let first : 26469 ≡ 29552 = ap letters (sym a.spelled ∙ b.spelled) in omega (arith, first))
one_command words (of_generate m) (of_generate n) a b = one_generate words m n a b
one_command words (of_generate m) (of_summary n w) a b = absurd (let first : 26469 ≡ 29557 = ap letters (sym a.spelled ∙ b.spelled) in omega (arith, first))
one_command words (of_summary m v) (of_module k t) a b = absurd (let first : 29557 ≡ 28015 = ap letters (sym a.spelled ∙ b.spelled) in omega (arith, first))
one_command words (of_summary m v) (of_atoms k w) a b = absurd (let first : 29557 ≡ 24948 = ap letters (sym a.spelled ∙ b.spelled) in omega (arith, first))
one_command words (of_summary m v) (of_script w) a b = absurd (let first : 29557 ≡ 29539 = ap letters (sym a.spelled ∙ b.spelled) in omega (arith, first))
one_command words (of_summary m v) (of_split k) a b = absurd (let first : 29557 ≡ 29552 = ap letters (sym a.spelled ∙ b.spelled) in omega (arith, first))
one_command words (of_summary m v) (of_generate n) a b = absurd (let first : 29557 ≡ 26469 = ap letters (sym a.spelled ∙ b.spelled) in omega (arith, first))
one_command words (of_summary m v) (of_summary n w) a b = one_summary words m n v w a b

-- so what they read is one thing
pub one_input : (words : List (List ℕ)) (one other : Command) → IsCommand words one → IsCommand words other → reads one ≡ reads other
one_input words one other a b = ap reads (one_command words one other a b)
