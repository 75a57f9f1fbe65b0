-- The lines of a document's axioms, one after the other.
use Rattle.std.proofs.Common.{◌≡◌, ℕ, zero, suc, ◌+◌, ◌<◌, Bool, true, false, cond, List, [], ◌∷◌, ◌++◌, Option, None, length, get_or, take, drop, map, refl, sym, ap, ◌∙◌, subst, arith, append-nil, take-append-drop}
use Rattle.std.specs.Prelude.{min}
use Rattle.std.specs.List.{filter, flat_map, zip}
use Rattle.std.specs.Arc.{arc_value}
use Rattle.std.specs.declared.sync.Arc.{Arc}
use Rattle.std.proofs.lemmas.List.{take_more, take_all, length-append, length-map, get_or-map, map-append}
use Rattle.std.proofs.lemmas.List.Concat.{flat_map-append}
use Rattle.std.proofs.lemmas.List.Elements.{filter-append}
use Rattle.ad_io.specs.Flow.{Gains, GainsFront}
use Rattle.ad_io.specs.Sink.{Puts}
use Rattle.ad_io.specs.declared.writes.Wrote.{Wrote}
use Rattle.ad_io.specs.declared.writes.Wrote.TheVariants as wrote
use Rattle.ad_io.proofs.FlowLemmas.{goes_on, stops, stops_early}
use Rattle.ad_tree.specs.declared.axioms.Noted.{Noted}
use Rattle.ad_write.specs.Canonical.{canon_document, canon_line, document_foot, document_head}
use Rattle.ad_syntax_laws.specs.OntologyModule.{values}
use Rattle.ad_numbered.specs.Numbered.{InSlots}
use Rattle.ad_module_document.specs.Documents.{taken_of}
use Rattle.ad_module_document.specs.Lines.{line_in}

-- the axioms with their slots
abbrev pub entries : InSlots → List (Noted × Option ℕ)
entries ontology = zip ontology.axioms ontology.slots

-- those of these that are in the document
abbrev pub chosen_of : (Noted → Option ℕ → Bool) → List (Noted × Option ℕ) → List Noted
chosen_of takes es = map (λ p. p.0) (filter (λ p. takes p.0 p.1) es)

-- those of the first n axioms that are in the document
abbrev pub front_of : (Noted → Option ℕ → Bool) → InSlots → ℕ → List Noted
front_of takes ontology n = chosen_of takes (take n (entries ontology))

length-zip : {A B : Type 0} (xs : List A) (ys : List B) → length ys ≡ length xs → length (zip xs ys) ≡ length xs
length-zip [] ys e = refl
length-zip (x ∷ xs) [] e = absurd (let z : 0 ≡ suc (length xs) = e in cc)
length-zip (x ∷ xs) (y ∷ ys) e = ap suc (length-zip xs ys (let z : suc (length ys) ≡ suc (length xs) = e in cc))

get_or-zip : {A B : Type 0} (xs : List A) (ys : List B) (i : ℕ) (x : A) (y : B) → i < length xs → i < length ys → get_or (zip xs ys) i (x, y) ≡ (get_or xs i x, get_or ys i y)
get_or-zip [] ys i x y l m = absurd (omega arith)
get_or-zip (z ∷ xs) [] i x y l m = absurd (omega arith)
get_or-zip (z ∷ xs) (w ∷ ys) zero x y l m = refl
get_or-zip (z ∷ xs) (w ∷ ys) (suc i) x y l m = get_or-zip xs ys i x y (omega arith) (omega arith)

chosen-append : (takes : Noted → Option ℕ → Bool) (es fs : List (Noted × Option ℕ)) → chosen_of takes (es ++ fs) ≡ chosen_of takes es ++ chosen_of takes fs
chosen-append takes es fs =
    ap (λ l. map (λ p. p.0) l) (filter-append (λ p. takes p.0 p.1) es fs)
    ∙ map-append (λ p. p.0) (filter (λ p. takes p.0 p.1) es) (filter (λ p. takes p.0 p.1) fs)

lines-append : (xs ys : List Noted) → flat_map canon_line (xs ++ ys) ≡ flat_map canon_line xs ++ flat_map canon_line ys
lines-append xs ys = flat_map-append canon_line xs ys

one_or_none : (b : Bool) (e : Noted × Option ℕ) → flat_map canon_line (map (λ (p : Noted × Option ℕ). p.0) (cond b (e ∷ []) [])) ≡ cond b (canon_line e.0) []
one_or_none true e = append-nil (canon_line e.0)
one_or_none false e = refl

chosen_one : (takes : Noted → Option ℕ → Bool) (noted : Noted) (slot : Option ℕ) → flat_map canon_line (chosen_of takes ((noted, slot) ∷ [])) ≡ line_in takes noted slot
chosen_one takes noted slot = one_or_none (takes noted slot) (noted, slot)

module _ (takes : Noted → Option ℕ → Bool) (ontology : InSlots) (long : length ontology.slots ≡ length ontology.axioms) where
  -- one more axiom
  pub front_more : (i : ℕ) (noted : Noted) (slot : Option ℕ) → i < length ontology.axioms → noted ≡ get_or ontology.axioms i noted → slot ≡ get_or ontology.slots i None
      → front_of takes ontology (i + 1) ≡ front_of takes ontology i ++ chosen_of takes ((noted, slot) ∷ [])
  front_more i noted slot within axiom_at slot_at =
      let here : get_or (entries ontology) i (noted, None) ≡ (noted, slot) =
      get_or-zip ontology.axioms ontology.slots i noted None within (omega arith)
      ∙ ap (λ a. (a, get_or ontology.slots i None)) (sym axiom_at) ∙ ap (λ s. (noted, s)) (sym slot_at) in
      ap (λ l. chosen_of takes l) (take_more (entries ontology) i (noted, None) (omega (arith, length-zip ontology.axioms ontology.slots long)) ∙ ap (λ e. take i (entries ontology) ++ e ∷ []) here)
      ∙ chosen-append takes (take i (entries ontology)) ((noted, slot) ∷ [])

  pub lines_more : (i : ℕ) (noted : Noted) (slot : Option ℕ) → i < length ontology.axioms → noted ≡ get_or ontology.axioms i noted → slot ≡ get_or ontology.slots i None
      → flat_map canon_line (front_of takes ontology (i + 1)) ≡ flat_map canon_line (front_of takes ontology i) ++ line_in takes noted slot
  lines_more i noted slot within axiom_at slot_at =
      ap (λ l. flat_map canon_line l) (front_more i noted slot within axiom_at slot_at)
      ∙ lines-append (front_of takes ontology i) (chosen_of takes ((noted, slot) ∷ []))
      ∙ ap (λ l. flat_map canon_line (front_of takes ontology i) ++ l) (chosen_one takes noted slot)

  -- after the last
  pub front_whole : (n : ℕ) → n ≡ length ontology.axioms → front_of takes ontology n ≡ taken_of takes ontology
  front_whole n e = ap (λ l. chosen_of takes l) (take_all n (entries ontology) (omega (arith, length-zip ontology.axioms ontology.slots long)))

  -- the lines of the first axioms are a front of all lines
  pub lines_front : (i : ℕ) → flat_map canon_line (taken_of takes ontology) ≡ flat_map canon_line (front_of takes ontology i) ++ flat_map canon_line (chosen_of takes (drop i (entries ontology)))
  lines_front i =
      ap (λ l. flat_map canon_line (chosen_of takes l)) (sym (take-append-drop i (entries ontology)))
      ∙ ap (λ l. flat_map canon_line l) (chosen-append takes (take i (entries ontology)) (drop i (entries ontology)))
      ∙ lines-append (front_of takes ontology i) (chosen_of takes (drop i (entries ontology)))

  -- the line of one axiom stops: what came before it, and its front, is a front of all lines
  pub lines_stop : (i : ℕ) (noted : Noted) (slot : Option ℕ) → i < length ontology.axioms → noted ≡ get_or ontology.axioms i noted → slot ≡ get_or ontology.slots i None
      → (old mid new : Option (List ℕ)) → Gains old mid (flat_map canon_line (front_of takes ontology i)) → GainsFront mid new (line_in takes noted slot) → GainsFront old new (flat_map canon_line (taken_of takes ontology))
  lines_stop i noted slot within axiom_at slot_at old mid new first stop =
      subst (λ l. GainsFront old new l) (sym (lines_front (i + 1)))
      (stops_early old new (flat_map canon_line (front_of takes ontology (i + 1))) (flat_map canon_line (chosen_of takes (drop (i + 1) (entries ontology))))
      (subst (λ l. GainsFront old new l) (sym (lines_more i noted slot within axiom_at slot_at)) (stops old mid new (flat_map canon_line (front_of takes ontology i)) (line_in takes noted slot) first stop)))

  document_size : (xs : List Noted) → length (canon_document xs) ≡ length document_head + (length (flat_map canon_line xs) + length document_foot)
  document_size xs = length-append document_head (flat_map canon_line xs ++ document_foot) ∙ ap (λ n. length document_head + n) (length-append (flat_map canon_line xs) document_foot)

  pub size_more : (i : ℕ) (noted : Noted) (slot : Option ℕ) → i < length ontology.axioms → noted ≡ get_or ontology.axioms i noted → slot ≡ get_or ontology.slots i None
      → length (canon_document (front_of takes ontology (i + 1))) ≡ length (canon_document (front_of takes ontology i)) + length (line_in takes noted slot)
  size_more i noted slot within axiom_at slot_at =
      let lines : length (flat_map canon_line (front_of takes ontology (i + 1))) ≡ length (flat_map canon_line (front_of takes ontology i)) + length (line_in takes noted slot) =
      ap (λ l. length l) (lines_more i noted slot within axiom_at slot_at) ∙ length-append (flat_map canon_line (front_of takes ontology i)) (line_in takes noted slot) in
      let before = document_size (front_of takes ontology i) in
      let after = document_size (front_of takes ontology (i + 1)) in
      omega arith

-- a size that stands at its greatest stays there
pub capped_more : (bytes more most : ℕ) → min (min bytes most + more) most ≡ min (bytes + more) most
capped_more bytes more most = omega arith

-- what is written after a piece
pub joins : (old mid new : Option (List ℕ)) (first then_ : List ℕ) (w : Wrote) → Gains old mid first → Puts mid new w then_ → Puts old new w (first ++ then_)
joins old mid new first then_ wrote.All a b = goes_on old mid new first then_ a b
joins old mid new first then_ wrote.Failed a b = stops old mid new first then_ a b

-- the axiom at a place, shared
pub axiom_at : {Z : Type 0} (arcs : List (Arc Noted Z)) (axioms : List Noted) (i : ℕ) (arc : Arc Noted Z) (noted : Noted) → values arcs ≡ axioms → i < length arcs
    → arc ≡ get_or arcs i arc → noted ≡ arc_value arc → (i < length axioms) × (noted ≡ get_or axioms i noted)
axiom_at {Z} arcs axioms i arc noted is within read value =
    let long : length (values arcs) ≡ length arcs = length-map arcs (λ (a : Arc Noted Z). arc_value a) in
    let same_long : length (values arcs) ≡ length axioms = ap (λ l. length l) is in (
      omega arith,
      value ∙ ap (λ (a : Arc Noted Z). arc_value a) read ∙ sym (get_or-map (λ (a : Arc Noted Z). arc_value a) arcs i arc noted within) ∙ ap (λ l. get_or l i noted) is,
    )

pub as_long : {Z : Type 0} (arcs : List (Arc Noted Z)) (axioms : List Noted) → values arcs ≡ axioms → length arcs ≡ length axioms
as_long {Z} arcs axioms is = sym (length-map arcs (λ (a : Arc Noted Z). arc_value a)) ∙ ap (λ l. length l) is
