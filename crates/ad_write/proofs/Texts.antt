-- The texts of compounds, argument by argument.
use Rattle.std.proofs.Common.{◌≡◌, ℕ, ◌+◌, ◌<◌, Bool, true, false, ◌&&◌, List, [], ◌∷◌, ◌++◌, length, map, take, drop, get_or, suc, nat_eq, refl, sym, ap, ◌∙◌, append_assoc, add-one, arith}
use Rattle.std.specs.List.{join_with_byte}
use Rattle.std.proofs.lemmas.List.{append-nil, map-append}
use Rattle.std.proofs.lemmas.Bool.Decides.{nat_tests}
use Rattle.std.proofs.Math.Seq.{take-suc}
use Rattle.ad_write.specs.Canonical.{compound}
use Rattle.ad_write.specs.Arguments.{is_empty, gap, behind, opened}

behind-append : (first : Bool) (xs ys : List (List ℕ)) → behind first (xs ++ ys) ≡ behind first xs ++ behind (first && is_empty xs) ys
behind-append true [] ys = refl
behind-append false [] ys = refl
behind-append true (x ∷ xs) ys = ap (λ t. x ++ t) (behind-append false xs ys) ∙ sym (append_assoc x (behind false xs) (behind false ys))
behind-append false (x ∷ xs) ys = ap (λ t. 32 ∷ (x ++ t)) (behind-append false xs ys) ∙ ap (λ t. 32 ∷ t) (sym (append_assoc x (behind false xs) (behind false ys)))

-- arguments with one space between them
join_is : (xs : List (List ℕ)) → join_with_byte 32 xs ≡ behind true xs
join_is [] = refl
join_is (x ∷ []) = sym (append-nil x)
join_is (x ∷ y ∷ xs) = ap (λ t. x ++ 32 ∷ t) (join_is (y ∷ xs))

pub empty_if : {X : Type 0} (f : X → List ℕ) (xs : List X) → nat_eq (length xs) 0 ≡ is_empty (map f xs)
empty_if f [] = refl
empty_if f (x ∷ xs) = grind (arith, nat_tests)

-- a compound is its opening with some arguments, the other arguments, and the parenthesis
compound_of : (word : List ℕ) (xs ys : List (List ℕ)) → compound word (xs ++ ys) ≡ opened word xs ++ (behind (is_empty xs) ys ++ 41 ∷ [])
compound_of word xs ys =
    ap (λ t. word ++ 40 ∷ (t ++ 41 ∷ [])) (join_is (xs ++ ys) ∙ behind-append true xs ys)
    ∙ ap (λ t. word ++ 40 ∷ t) (append_assoc (behind true xs) (behind (is_empty xs) ys) (41 ∷ []))
    ∙ sym (append_assoc word (40 ∷ behind true xs) (behind (is_empty xs) ys ++ 41 ∷ []))

-- one argument more
empty_map : {X : Type 0} (f : X → List ℕ) (xs : List X) → is_empty (map f xs) ≡ is_empty xs
empty_map f [] = refl
empty_map f (x ∷ xs) = refl

empty_more : {X : Type 0} (first : Bool) (xs : List X) (x : X) → (first && is_empty (xs ++ x ∷ [])) ≡ false
empty_more true [] x = refl
empty_more false [] x = refl
empty_more true (y ∷ xs) x = refl
empty_more false (y ∷ xs) x = refl

one_more : {X : Type 0} (items : List X) (i : ℕ) (x : X) → i < length items → x ≡ get_or items i x → take (i + 1) items ≡ take i items ++ x ∷ []
one_more items i x below is = rw add-one (take-suc items i x below ∙ ap (λ y. take i items ++ y ∷ []) (sym is))

pub behind_more : {X : Type 0} (f : X → List ℕ) (first now : Bool) (items : List X) (i : ℕ) (x : X) → i < length items → x ≡ get_or items i x → now ≡ (first && is_empty (take i items)) → behind first (map f (take i items)) ++ behind now (f x ∷ []) ≡ behind first (map f (take (i + 1) items))
behind_more f first now items i x below is flag =
    let e : take (i + 1) items ≡ take i items ++ x ∷ [] = one_more items i x below is in
    rw (e, map-append, behind-append, empty_map, flag) refl

pub later_more : {X : Type 0} (first : Bool) (items : List X) (i : ℕ) (x : X) → i < length items → x ≡ get_or items i x → false ≡ (first && is_empty (take (i + 1) items))
later_more first items i x below is =
    let e : take (i + 1) items ≡ take i items ++ x ∷ [] = one_more items i x below is in
    rw e (sym (empty_more first (take i items) x))

-- one argument and those behind it are arguments together
grown : (word : List ℕ) (first : Bool) (x : List ℕ) (xs ys : List (List ℕ)) → (word ++ behind first (x ∷ xs)) ++ behind false ys ≡ word ++ behind first (x ∷ (xs ++ ys))
grown word true x xs ys = append_assoc word _ _ ∙ ap (λ t. word ++ t) (sym (behind-append true (x ∷ xs) ys))
grown word false x xs ys = append_assoc word _ _ ∙ ap (λ t. word ++ t) (sym (behind-append false (x ∷ xs) ys))

-- what a compound is, when its arguments are written behind its annotations
pub closed : (word : List ℕ) (notes ys : List (List ℕ)) (first : Bool) → first ≡ is_empty notes → (opened word notes ++ behind first ys) ++ 41 ∷ [] ≡ compound word (notes ++ ys)
closed word notes ys first e = rw e (append_assoc (opened word notes) (behind (is_empty notes) ys) (41 ∷ []) ∙ sym (compound_of word notes ys))

pub closed_two : (word : List ℕ) (notes : List (List ℕ)) (x : List ℕ) (ys : List (List ℕ)) (first : Bool) → first ≡ is_empty notes → ((opened word notes ++ behind first (x ∷ [])) ++ behind false ys) ++ 41 ∷ [] ≡ compound word (notes ++ x ∷ ys)
closed_two word notes x ys first e = ap (λ t. t ++ 41 ∷ []) (grown (opened word notes) first x [] ys) ∙ closed word notes (x ∷ ys) first e

pub closed_three : (word : List ℕ) (notes : List (List ℕ)) (x y : List ℕ) (zs : List (List ℕ)) (first : Bool) → first ≡ is_empty notes → (((opened word notes ++ behind first (x ∷ [])) ++ behind false (y ∷ [])) ++ behind false zs) ++ 41 ∷ [] ≡ compound word (notes ++ x ∷ y ∷ zs)
closed_three word notes x y zs first e =
    ap (λ t. (t ++ behind false zs) ++ 41 ∷ []) (grown (opened word notes) first x [] (y ∷ []))
    ∙ ap (λ t. t ++ 41 ∷ []) (grown (opened word notes) first x (y ∷ []) zs)
    ∙ closed word notes (x ∷ y ∷ zs) first e

pub behind_more_gap : {X : Type 0} (f : X → List ℕ) (first now : Bool) (items : List X) (i : ℕ) (x : X) → i < length items → x ≡ get_or items i x → now ≡ (first && is_empty (take i items)) → (behind first (map f (take i items)) ++ gap now) ++ f x ≡ behind first (map f (take (i + 1) items))
behind_more_gap f first now items i x below is flag =
    append_assoc (behind first (map f (take i items))) (gap now) (f x)
    ∙ ap (λ t. behind first (map f (take i items)) ++ (gap now ++ t)) (sym (append-nil (f x)))
    ∙ behind_more f first now items i x below is flag

-- one argument, written without what stands before arguments
pub closed_one : (word x : List ℕ) → (opened word [] ++ x) ++ 41 ∷ [] ≡ compound word (x ∷ [])
closed_one word x = append_assoc (opened word []) x (41 ∷ []) ∙ append_assoc word (40 ∷ []) (x ++ 41 ∷ [])

-- a last argument behind its space
pub closed_gap : (word : List ℕ) (notes : List (List ℕ)) (x y : List ℕ) (first : Bool) → first ≡ is_empty notes → (((opened word notes ++ behind first (x ∷ [])) ++ 32 ∷ []) ++ y) ++ 41 ∷ [] ≡ compound word (notes ++ x ∷ y ∷ [])
closed_gap word notes x y first e =
    ap (λ t. t ++ 41 ∷ []) (append_assoc (opened word notes ++ behind first (x ∷ [])) (32 ∷ []) y)
    ∙ ap (λ t. ((opened word notes ++ behind first (x ∷ [])) ++ 32 ∷ t) ++ 41 ∷ []) (sym (append-nil y))
    ∙ closed_two word notes x (y ∷ []) first e
