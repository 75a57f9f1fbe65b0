-- Tasks that are appended kind by kind.
use Rattle.std.proofs.Common.{◌≡◌, ℕ, zero, suc, ◌+◌, ◌<◌, ◌≤◌, Bool, false, ◌⊎◌, List, [], ◌∷◌, ◌++◌, Option, Some, None, length, get_or, IsTrue, IsFalse, inl, inr, refl, sym, ◌∙◌, ap, subst, arith, length-append, append_assoc, append-nil}
use Rattle.std.specs.List.{slice_get}
use Rattle.std.specs.Prelude.{slice_index_or}
use Rattle.std.specs.Option.{option_map}
use Rattle.std.proofs.lemmas.List.{length-map}
use Rattle.std.proofs.lemmas.Option.{slice_get_within, slice_get-map, slice_get-get_or}
use Rattle.ad_base.specs.declared.limits.Kind.{Kind}
use Rattle.ad_base.specs.declared.limits.Kind.TheVariants.{Bottom, Top, Star}
use Rattle.ad_theory.specs.declared.task.Task.{Task}
use Rattle.ad_theory.proofs.Members.{either, not_both}
use Rattle.ad_groups.specs.Groups.{AreGroups}
use Rattle.ad_groups.specs.Signatures.{same_members}
use Rattle.ad_repair.proofs.ListLemmas.{some_same}
use Rattle.ad_repair.specs.Plans.{AreTasks, AreOfKind, AreNumbersBelow, HasTask, IsPlanOf, Planned, numbers_of_kind, tasks_for}

some_none : {A B : Type 0} {a : A} → Some a ≡ None → B
some_none e = absurd (cc)

-- ---- places in two lists, one after the other

pub get_left : {A : Type 0} (xs ys : List A) (t : ℕ) (a : A) → slice_get xs t ≡ Some a → slice_get (xs ++ ys) t ≡ Some a
get_left [] ys t a e = some_none (sym e)
get_left (x ∷ xs) ys zero a e = e
get_left (x ∷ xs) ys (suc t) a e = get_left xs ys t a e

pub get_right : {A : Type 0} (xs ys : List A) (t : ℕ) (a : A) → slice_get ys t ≡ Some a → slice_get (xs ++ ys) (length xs + t) ≡ Some a
get_right [] ys t a e = let same : t ≡ 0 + t = omega arith in subst (λ n. slice_get ys n ≡ Some a) same e
get_right (x ∷ xs) ys t a e =
    let same : suc (length xs + t) ≡ suc (length xs) + t = omega arith in
    subst (λ n. slice_get (x ∷ (xs ++ ys)) n ≡ Some a) same (get_right xs ys t a e)

pub get_cases : {A : Type 0} (xs ys : List A) (t : ℕ) (a : A) → slice_get (xs ++ ys) t ≡ Some a
    → (slice_get xs t ≡ Some a) ⊎ ((k : ℕ) × (t ≡ length xs + k) × (slice_get ys k ≡ Some a))
get_cases [] ys t a e = let same : t ≡ 0 + t = omega arith in inr (t, same, e)
get_cases (x ∷ xs) ys zero a e = inl e
get_cases (x ∷ xs) ys (suc t) a e = elim (get_cases xs ys t a e) [ inl h ↦ inl h | inr r ↦ inr (r.0, omega (arith, r.1), r.2) ]

-- ---- the tasks of one kind

task_there : (kind : Kind) (slots : List ℕ) (t : ℕ) → t < length slots → slice_get (tasks_for kind slots) t ≡ Some (record { kind = kind; slot = get_or slots t 0 })
task_there kind slots t l =
    let task : ℕ → Task = λ slot. record { kind = kind; slot = slot } in
    slice_get-map task slots t ∙ ap (option_map task) (slice_get-get_or slots t 0 l)

task_at : (kind : Kind) (slots : List ℕ) (t : ℕ) (task : Task) → slice_get (tasks_for kind slots) t ≡ Some task
    → (t < length slots) × (task ≡ record { kind = kind; slot = get_or slots t 0 })
task_at kind slots t task e =
    let make : ℕ → Task = λ slot. record { kind = kind; slot = slot } in
    let l : t < length slots = subst (λ n. t < n) (length-map slots make) (slice_get_within (tasks_for kind slots) t task e) in
    (l, some_same (sym e ∙ task_there kind slots t l))

module _ (symbols : ℕ → List ℕ) where
  pub grouped_tasks : (wanted : ℕ → Bool) (kind : Kind) (n first : ℕ) (groups numbers : List (Option ℕ)) (firsts : List ℕ) (before after : List Task) → AreGroups symbols wanted n groups firsts
      → ((i : ℕ) → IsTrue (wanted i) → i < n) → first ≡ length before → ((i : ℕ) → slice_index_or numbers i None ≡ option_map (λ g. first + g) (slice_index_or groups i None))
      → after ≡ before ++ tasks_for kind firsts → AreOfKind symbols wanted kind before after numbers
  grouped_tasks wanted kind n first groups numbers firsts before after are below start each appended = record {
    more = tasks_for kind firsts;
    appended = appended;
    each = λ t task e.
        let a = task_at kind firsts t task e in
        (ap (λ (x : Task). x.kind) a.1, subst (λ (x : Task). IsTrue (wanted x.slot)) (sym a.1) (are.wanted_firsts t a.0));
    distinct = λ t u a b e f same.
        let p = task_at kind firsts t a e in
        let q = task_at kind firsts u b f in
        are.distinct t u p.0 q.0 (subst (λ (x : Task). IsTrue (same_members (symbols (get_or firsts t 0)) (symbols x.slot))) q.1
        (subst (λ (x : Task). IsTrue (same_members (symbols x.slot) (symbols b.slot))) p.1 same));
    of_wanted = λ i w.
        let r = are.of_wanted i (below i w) w in
        (r.0, record { kind = kind; slot = get_or firsts r.0 0 }, each i ∙ ap (option_map (λ g. first + g)) r.1 ∙ ap (λ z. Some (z + r.0)) start, task_there kind firsts r.0 r.2, r.3);
    of_others = λ i w. each i ∙ ap (option_map (λ g. first + g)) (are.of_others i w);
  }

  module _ (kind : Kind) (w : ℕ → Bool) (before after : List Task) (numbers : List (Option ℕ)) (of : AreOfKind symbols w kind before after numbers) where
    -- no task before is of this kind
    old_or_new : (wanted : Kind → ℕ → Bool) → AreTasks symbols wanted before → ((i : ℕ) → IsFalse (wanted kind i)) → (t u : ℕ) (a b : Task)
        → slice_get before t ≡ Some a → slice_get of.more u ≡ Some b → a.kind ≡ b.kind → ⊥
    old_or_new wanted tasks free t u a b e f kinds =
        let mine : a.kind ≡ kind = kinds ∙ (of.each u b f).0 in
        not_both (subst (λ k. IsTrue (wanted k a.slot)) mine (tasks.each t a e)) (free a.slot)

    -- the tasks of one kind more
    with_kind : (wanted more : Kind → ℕ → Bool) → AreTasks symbols wanted before
        → ((any : Kind) (i : ℕ) → IsTrue (wanted any i) → IsTrue (more any i)) → ((i : ℕ) → IsTrue (w i) → IsTrue (more kind i))
        → ((any : Kind) (i : ℕ) → IsTrue (more any i) → IsTrue (wanted any i) ⊎ ((any ≡ kind) × IsTrue (w i)))
        → ((i : ℕ) → IsFalse (wanted kind i)) → AreTasks symbols more (before ++ of.more)
    with_kind wanted more tasks keeps adds only free = record {
      each = λ t task e. elim (get_cases before of.more t task e) [
        | inl o ↦ keeps task.kind task.slot (tasks.each t task o)
        | inr n ↦ (let h = of.each n.0 task n.2 in subst (λ k. IsTrue (more k task.slot)) (sym h.0) (adds task.slot h.1))
      ];
      covered = λ any i m. elim (only any i m) [
        | inl o ↦ (let r = tasks.covered any i o in (r.0, r.1, get_left before of.more r.0 r.1 r.2, r.3, r.4))
        | inr n ↦ (let r = of.of_wanted i n.1 in (length before + r.0, r.1, get_right before of.more r.0 r.1 r.3, (of.each r.0 r.1 r.3).0 ∙ sym n.0, r.4))
      ];
      distinct = λ t u a b e f kinds same. elim (get_cases before of.more t a e) [
        | inl o ↦ elim (get_cases before of.more u b f) [
          | inl p ↦ tasks.distinct t u a b o p kinds same
          | inr q ↦ absurd (old_or_new wanted tasks free t q.0 a b o q.2 kinds)
        ]
        | inr n ↦ elim (get_cases before of.more u b f) [
          | inl p ↦ absurd (old_or_new wanted tasks free u n.0 b a p n.2 (sym kinds))
          | inr q ↦ (let same_place = of.distinct n.0 q.0 a b n.2 q.2 same in omega (arith, n.1, q.1, same_place))
        ]
      ];
    }

    -- there are no fewer tasks
    pub longer : length before ≤ length after
    longer = let long : length after ≡ length before + length of.more = ap length of.appended ∙ length-append before of.more in omega (arith, long)

    -- its numbers are those of tasks
    pub numbers_below : (n : ℕ) → length after ≤ n → AreNumbersBelow n numbers
    numbers_below n l i t e = elim (either (w i)) [
      | inl h ↦ (
          let r = of.of_wanted i h in
          let same : length before + r.0 ≡ t = some_same (sym r.2 ∙ e) in
          let within : r.0 < length of.more = slice_get_within of.more r.0 r.1 r.3 in
          let long : length after ≡ length before + length of.more = ap length of.appended ∙ length-append before of.more in
          omega (arith, same, within, long, l))
      | inr f ↦ some_none (sym e ∙ of.of_others i f)
    ]

    -- each wanted slot has a task
    pub has_task : (plan : Planned) (rest : List Task) → numbers_of_kind plan kind ≡ numbers → plan.tasks ≡ after ++ rest → (i : ℕ) → IsTrue (w i) → HasTask symbols plan kind i
    has_task plan rest same tasks i h =
        let r = of.of_wanted i h in
        record {
          number = length before + r.0;
          task = r.1;
          of_slot = ap (λ l. slice_index_or l i None) same ∙ r.2;
          there = subst (λ l. slice_get l (length before + r.0) ≡ Some r.1) (sym tasks)
              (get_left after rest (length before + r.0) r.1 (subst (λ l. slice_get l (length before + r.0) ≡ Some r.1) (sym of.appended) (get_right before of.more r.0 r.1 r.3)));
          kind_is = (of.each r.0 r.1 r.3).0;
          signature = r.4;
        }

  module _ (W : Kind → ℕ → Bool) where
    abbrev none : Kind → ℕ → Bool
    none kind i = false

    abbrev one : Kind → ℕ → Bool
    one Bottom i = W Bottom i
    one Top i = false
    one Star i = false

    abbrev two : Kind → ℕ → Bool
    two Bottom i = W Bottom i
    two Top i = W Top i
    two Star i = false

    no_tasks : AreTasks symbols none []
    no_tasks = record {
      each = λ t task e. some_none (sym e);
      covered = λ kind i h. absurd (not_both h refl);
      distinct = λ t u a b e f k s. some_none (sym e);
    }

    pub all_tasks : (a b c : List Task) (x y z : List (Option ℕ)) → AreOfKind symbols (W Bottom) Bottom [] a x → AreOfKind symbols (W Top) Top a b y → AreOfKind symbols (W Star) Star b c z → AreTasks symbols W c
    all_tasks a b c x y z bottom top star =
        let first : AreTasks symbols one a = subst (AreTasks symbols one) (sym bottom.appended) (with_kind Bottom (W Bottom) [] a x bottom none one no_tasks
        (λ any i h. absurd (not_both h refl)) (λ i h. h) (elim [ Bottom ↦ λ i h. inr (refl, h) | Top ↦ λ i h. inl h | Star ↦ λ i h. inl h ]) (λ i. refl)) in
        let second : AreTasks symbols two b = subst (AreTasks symbols two) (sym top.appended) (with_kind Top (W Top) a b y top one two first
        (elim [ Bottom ↦ λ i h. h | Top ↦ λ i h. absurd (not_both h refl) | Star ↦ λ i h. h ]) (λ i h. h)
        (elim [ Bottom ↦ λ i h. inl h | Top ↦ λ i h. inr (refl, h) | Star ↦ λ i h. inl h ]) (λ i. refl)) in
        subst (AreTasks symbols W) (sym star.appended) (with_kind Star (W Star) b c z star two W second
        (elim [ Bottom ↦ λ i h. h | Top ↦ λ i h. h | Star ↦ λ i h. absurd (not_both h refl) ]) (λ i h. h)
        (elim [ Bottom ↦ λ i h. inl h | Top ↦ λ i h. inl h | Star ↦ λ i h. inr (refl, h) ]) (λ i. refl))

    pub all_planned : (plan : Planned) (a b : List Task) → AreOfKind symbols (W Bottom) Bottom [] a plan.bottom → AreOfKind symbols (W Top) Top a b plan.top → AreOfKind symbols (W Star) Star b plan.tasks plan.star
        → IsPlanOf symbols W plan
    all_planned plan a b bottom top star =
        let from_b : plan.tasks ≡ b ++ star.more = star.appended in
        let from_a : plan.tasks ≡ a ++ (top.more ++ star.more) = star.appended ∙ ap (λ l. l ++ star.more) top.appended ∙ append_assoc a top.more star.more in
        record {
          of_wanted = elim [
            | Bottom ↦ λ i h. has_task Bottom (W Bottom) [] a plan.bottom bottom plan (top.more ++ star.more) refl from_a i h
            | Top ↦ λ i h. has_task Top (W Top) a b plan.top top plan star.more refl from_b i h
            | Star ↦ λ i h. has_task Star (W Star) b plan.tasks plan.star star plan [] refl (sym (append-nil plan.tasks)) i h
          ];
          of_others = elim [ Bottom ↦ bottom.of_others | Top ↦ top.of_others | Star ↦ star.of_others ];
        }
