-- Texts that are written one after the other.
use Rattle.std.proofs.Common.{◌≡◌, ℕ, ◌+◌, ◌<◌, List, [], ◌∷◌, ◌++◌, Option, length, get_or, take, drop, sym, ap, ◌∙◌, subst, append-nil, take-append-drop}
use Rattle.std.specs.List.{flat_map}
use Rattle.std.proofs.lemmas.List.{take_more}
use Rattle.std.proofs.lemmas.List.Concat.{flat_map-append}
use Rattle.ad_io.specs.Flow.{Gains, GainsFront}
use Rattle.ad_io.specs.Sink.{Puts}
use Rattle.ad_io.specs.declared.writes.Wrote.{Wrote}
use Rattle.ad_io.proofs.FlowLemmas.{stops, stops_early}
use Rattle.ad_module_document.proofs.LineLemmas.{joins}
use Rattle.ad_split.specs.Parts.{part_line}

module _ {A : Type 0} (text : A → List ℕ) (xs : List A) where
  -- one more text
  pub pieces_more : (i : ℕ) (d : A) → i < length xs → flat_map text (take (i + 1) xs) ≡ flat_map text (take i xs) ++ text (get_or xs i d)
  pieces_more i d within =
      ap (flat_map text) (take_more xs i d within) ∙ flat_map-append text (take i xs) (get_or xs i d ∷ [])
      ∙ ap (λ t. flat_map text (take i xs) ++ t) (append-nil (text (get_or xs i d)))

  pieces_front : (i : ℕ) → flat_map text xs ≡ flat_map text (take i xs) ++ flat_map text (drop i xs)
  pieces_front i = ap (flat_map text) (sym (take-append-drop i xs)) ∙ flat_map-append text (take i xs) (drop i xs)

  -- one text stops: what came before it, and its front, is a front of all
  pub pieces_stop : (i : ℕ) (d : A) → i < length xs → (old mid new : Option (List ℕ)) → Gains old mid (flat_map text (take i xs)) → GainsFront mid new (text (get_or xs i d)) → GainsFront old new (flat_map text xs)
  pieces_stop i d within old mid new first stop =
      subst (λ l. GainsFront old new l) (sym (pieces_front (i + 1)))
      (stops_early old new (flat_map text (take (i + 1) xs)) (flat_map text (drop (i + 1) xs))
      (subst (λ l. GainsFront old new l) (sym (pieces_more i d within)) (stops old mid new (flat_map text (take i xs)) (text (get_or xs i d)) first stop)))

-- the line of a part was written, and then its document or a front of it
pub part_on : (number axioms count bytes : ℕ) (body : List ℕ) (old mid new : Option (List ℕ)) (w : Wrote) → count ≡ axioms → bytes ≡ length body → Gains old mid (part_line number count bytes)
    → Puts mid new w body → Puts old new w (part_line number axioms (length body) ++ body)
part_on number axioms count bytes body old mid new w counted measured first then_ =
    joins old mid new (part_line number axioms (length body)) body w
    (subst (λ n. Gains old mid (part_line number n (length body))) counted (subst (λ n. Gains old mid (part_line number count n)) measured first)) then_

-- a front of the line was written
pub part_front : (number axioms count bytes : ℕ) (body : List ℕ) (old new : Option (List ℕ)) → count ≡ axioms → bytes ≡ length body → GainsFront old new (part_line number count bytes)
    → GainsFront old new (part_line number axioms (length body) ++ body)
part_front number axioms count bytes body old new counted measured stop =
    stops_early old new (part_line number axioms (length body)) body
    (subst (λ n. GainsFront old new (part_line number n (length body))) counted (subst (λ n. GainsFront old new (part_line number count n)) measured stop))
