-- The lines of two requests differ.
use Rattle.std.proofs.Common.{◌≡◌, ℕ, ◌^◌, ◌<◌, List, ◌++◌, None, Some, codes, refl, sym, ◌∙◌, ap, subst, arith, IsTrue, not, ◌==◌, get_or}
use Rattle.std.proofs.lemmas.Bool.Decides.{nat_tests}
use Rattle.std.specs.Fmt.{decimal}
use Rattle.std.proofs.lemmas.Fmt.{decimal_injective}
use Rattle.std.proofs.lemmas.List.{append_assoc, append_cancel_left}
use Rattle.ad_base.specs.Kinds.{kind_word}
use Rattle.ad_base.specs.declared.limits.Kind.{Kind}
use Rattle.ad_base.specs.declared.limits.Kind.TheVariants as kinds
use Rattle.ad_request.specs.declared.request.Request.{Request}
use Rattle.ad_request.specs.declared.request.Request.TheVariants.{Load, Edit, Module, Genuine, Atoms, Atom, Export, Stat, Quit}
use Rattle.ad_request.specs.Requests.{HasShortNumbers, request_line, AsksForOneThing}
use Rattle.ad_request.specs.Words.{HasNoSpace}
use Rattle.ad_request.proofs.Cutting.{cut_once, decimal_spaceless, kind_spaceless, space_within}

-- two lists that are the same are so at each place
differ : (i : ℕ) (a b : List ℕ) → a ≡ b → IsTrue (not (get_or a i 0 == get_or b i 0)) → ⊥
differ i a b e h = let same : get_or a i 0 ≡ get_or b i 0 = ap (λ l. get_or l i 0) e in grind (arith, nat_tests, h, same)

same_number : (m n : ℕ) → m < 10 ^ 10 → n < 10 ^ 10 → decimal m ≡ decimal n → m ≡ n
same_number m n small other e = decimal_injective m n (omega arith) (omega arith) e

same_kind : (k l : Kind) → kind_word k ≡ kind_word l → k ≡ l
same_kind kinds.Bottom kinds.Bottom e = refl
same_kind kinds.Top kinds.Top e = refl
same_kind kinds.Star kinds.Star e = refl
same_kind k l e = absurd (differ 0 _ _ e refl)

-- the words and a number
numbers_same : (words : List ℕ) (m n : ℕ) → m < 10 ^ 10 → n < 10 ^ 10 → words ++ decimal m ≡ words ++ decimal n → m ≡ n
numbers_same words m n small other e = same_number m n small other (append_cancel_left words (decimal m) (decimal n) e)

pub in_four : (a b c d : List ℕ) → a ++ b ++ c ++ d ≡ a ++ (b ++ (c ++ d))
in_four a b c d = simp append_assoc

-- the words, a word, and a text that begins with a space
parts_same : (words a a' between b b' : List ℕ) → words ++ a ++ between ++ b ≡ words ++ a' ++ between ++ b' → a ++ (between ++ b) ≡ a' ++ (between ++ b')
parts_same words a a' between b b' e =
    append_cancel_left words (a ++ (between ++ b)) (a' ++ (between ++ b')) (sym (in_four words a between b) ∙ e ∙ in_four words a' between b')

-- the words, a kind's word and a number
kinded_same : (words : List ℕ) (k l : Kind) (m n : ℕ) → m < 10 ^ 10 → n < 10 ^ 10 → words ++ kind_word k ++ codes " " ++ decimal m ≡ words ++ kind_word l ++ codes " " ++ decimal n → (k ≡ l) × (m ≡ n)
kinded_same words k l m n small other e =
    let same = cut_once (kind_word k) (kind_word l) (codes " " ++ decimal m) (codes " " ++ decimal n) (kind_spaceless k) (kind_spaceless l) refl refl
    (parts_same words (kind_word k) (kind_word l) (codes " ") (decimal m) (decimal n) e) in
    (same_kind k l same.0, numbers_same (codes " ") m n small other same.1)

-- the words and two numbers
numbered_same : (words : List ℕ) (m n i j : ℕ) → m < 10 ^ 10 → n < 10 ^ 10 → i < 10 ^ 10 → j < 10 ^ 10 → words ++ decimal m ++ codes " IF " ++ decimal i ≡ words ++ decimal n ++ codes " IF " ++ decimal j → (m ≡ n) × (i ≡ j)
numbered_same words m n i j hm hn hi hj e =
    let same = cut_once (decimal m) (decimal n) (codes " IF " ++ decimal i) (codes " IF " ++ decimal j) (decimal_spaceless m hm) (decimal_spaceless n hn) refl refl
    (parts_same words (decimal m) (decimal n) (codes " IF ") (decimal i) (decimal j) e) in
    (same_number m n hm hn same.0, numbers_same (codes " IF ") i j hi hj same.1)

-- one number and two are never spelled alike
one_or_two : (words : List ℕ) (m n i : ℕ) → m < 10 ^ 10 → words ++ decimal m ≡ words ++ decimal n ++ codes " IF " ++ decimal i → ⊥
one_or_two words m n i small e =
    let P : List ℕ → Type 0 = HasNoSpace in
    space_within (decimal n) (codes " IF " ++ decimal i) refl
    (subst P (append_cancel_left words (decimal m) (decimal n ++ (codes " IF " ++ decimal i)) (e ∙ in_four words (decimal n) (codes " IF ") (decimal i))) (decimal_spaceless m small))

pub same_request : (one other : Request) → HasShortNumbers one → HasShortNumbers other → request_line one ≡ request_line other → one ≡ other
same_request (Load m) (Load n) a b e = ap Load (numbers_same (codes "LOAD ") m n a b e)
same_request (Load m) (Edit n None) a b e = absurd (differ 0 _ _ e refl)
same_request (Load m) (Edit n (Some j)) a b e = absurd (differ 0 _ _ e refl)
same_request (Load m) other a b e = absurd (differ 0 _ _ e refl)
same_request (Edit m None) (Edit n None) a b e = ap (λ k. Edit k None) (numbers_same (codes "EDIT ") m n a b e)
same_request (Edit m None) (Edit n (Some j)) a b e = absurd (one_or_two (codes "EDIT ") m n j a e)
same_request (Edit m None) Export a b e = absurd (differ 1 _ _ e refl)
same_request (Edit m None) other a b e = absurd (differ 0 _ _ e refl)
same_request (Edit m (Some i)) (Edit n None) a b e = absurd (one_or_two (codes "EDIT ") n m i b (sym e))
same_request (Edit m (Some i)) (Edit n (Some j)) a b e = let same = numbered_same (codes "EDIT ") m n i j a.0 b.0 a.1 b.1 e in cc
same_request (Edit m (Some i)) Export a b e = absurd (differ 1 _ _ e refl)
same_request (Edit m (Some i)) other a b e = absurd (differ 0 _ _ e refl)
same_request (Module k m) (Module l n) a b e = let same = kinded_same (codes "MODULE ") k l m n a b e in cc
same_request (Module k m) (Edit n None) a b e = absurd (differ 0 _ _ e refl)
same_request (Module k m) (Edit n (Some j)) a b e = absurd (differ 0 _ _ e refl)
same_request (Module k m) other a b e = absurd (differ 0 _ _ e refl)
same_request (Genuine k m) (Genuine l n) a b e = let same = kinded_same (codes "GENUINE ") k l m n a b e in cc
same_request (Genuine k m) (Edit n None) a b e = absurd (differ 0 _ _ e refl)
same_request (Genuine k m) (Edit n (Some j)) a b e = absurd (differ 0 _ _ e refl)
same_request (Genuine k m) other a b e = absurd (differ 0 _ _ e refl)
same_request (Atoms k) (Atoms l) a b e = ap Atoms (same_kind k l (append_cancel_left (codes "ATOMS ") (kind_word k) (kind_word l) e))
same_request (Atoms k) (Atom l n) a b e = absurd (differ 4 _ _ e refl)
same_request (Atoms k) (Edit n None) a b e = absurd (differ 0 _ _ e refl)
same_request (Atoms k) (Edit n (Some j)) a b e = absurd (differ 0 _ _ e refl)
same_request (Atoms k) other a b e = absurd (differ 0 _ _ e refl)
same_request (Atom k m) (Atom l n) a b e = let same = kinded_same (codes "ATOM ") k l m n a b e in cc
same_request (Atom k m) (Atoms l) a b e = absurd (differ 4 _ _ e refl)
same_request (Atom k m) (Edit n None) a b e = absurd (differ 0 _ _ e refl)
same_request (Atom k m) (Edit n (Some j)) a b e = absurd (differ 0 _ _ e refl)
same_request (Atom k m) other a b e = absurd (differ 0 _ _ e refl)
same_request Export Export a b e = refl
same_request Export (Edit n None) a b e = absurd (differ 1 _ _ e refl)
same_request Export (Edit n (Some j)) a b e = absurd (differ 1 _ _ e refl)
same_request Export other a b e = absurd (differ 0 _ _ e refl)
same_request Stat Stat a b e = refl
same_request Stat (Edit n None) a b e = absurd (differ 0 _ _ e refl)
same_request Stat (Edit n (Some j)) a b e = absurd (differ 0 _ _ e refl)
same_request Stat other a b e = absurd (differ 0 _ _ e refl)
same_request Quit Quit a b e = refl
same_request Quit (Edit n None) a b e = absurd (differ 0 _ _ e refl)
same_request Quit (Edit n (Some j)) a b e = absurd (differ 0 _ _ e refl)
same_request Quit other a b e = absurd (differ 0 _ _ e refl)

pub asks_once : AsksForOneThing
asks_once line None None a b = refl
asks_once line None (Some r) a b = absurd (a r b.0 b.1)
asks_once line (Some r) None a b = absurd (b r a.0 a.1)
asks_once line (Some r) (Some q) a b = ap Some (same_request r q a.0 b.0 (sym a.1 ∙ b.1))
