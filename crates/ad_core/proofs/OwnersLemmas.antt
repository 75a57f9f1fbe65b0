-- The editions of their owners, and what waits for the sessions.
use Rattle.std.proofs.Common.{◌≡◌, ℕ, ◌<◌, List, Option, None, length, get_or, set, ap, sym, ◌∙◌}
use Rattle.std.specs.Option.{option_map}
use Rattle.std.specs.declared.sync.Arc.{Arc}
use Rattle.std.proofs.lemmas.List.{get_or-map, length-map, map-set}
use Rattle.ad_edition.specs.Edition.{Limited, Whole}
use Rattle.ad_core.specs.Kept.{edition_in, editions_in, waiting_in, numbers_of}

pub length-editions_in : {Z : Type 0} (owners : List (Arc Whole Z)) → length (editions_in owners) ≡ length owners
length-editions_in {Z} owners = length-map owners (λ (owner : Arc Whole Z). edition_in owner)

pub length-waiting_in : {Z : Type 0} (waiting : List (Option (Arc Whole Z))) → length (waiting_in waiting) ≡ length waiting
length-waiting_in {Z} waiting = length-map waiting (option_map (λ (owner : Arc Whole Z). edition_in owner))

pub length-numbers_of : {Z : Type 0} (owners : List (Arc Whole Z)) → length (numbers_of (editions_in owners)) ≡ length owners
length-numbers_of {Z} owners = length-map (editions_in owners) (λ (edition : Limited). edition.shown.number) ∙ length-editions_in owners

-- the edition of the owner at a place
pub edition_at : {Z : Type 0} (owners : List (Arc Whole Z)) (at : ℕ) (owner : Arc Whole Z) → at < length owners → owner ≡ get_or owners at owner → (d : Limited) → get_or (editions_in owners) at d ≡ edition_in owner
edition_at {Z} owners at owner within read d =
    get_or-map (λ (o : Arc Whole Z). edition_in o) owners at owner d within ∙ ap (λ (o : Arc Whole Z). edition_in o) (sym read)

-- what waits at a place
pub waiting_at : {Z : Type 0} (waiting : List (Option (Arc Whole Z))) (at : ℕ) (owner : Option (Arc Whole Z)) → at < length waiting → owner ≡ get_or waiting at owner → get_or (waiting_in waiting) at None ≡ option_map (λ (o : Arc Whole Z). edition_in o) owner
waiting_at {Z} waiting at owner within read =
    let value : Option (Arc Whole Z) → Option Limited = option_map (λ (o : Arc Whole Z). edition_in o) in
    get_or-map value waiting at owner None within ∙ ap value (sym read)

pub editions_in-set : {Z : Type 0} (owners : List (Arc Whole Z)) (at : ℕ) (owner : Arc Whole Z) → editions_in (set owners at owner) ≡ set (editions_in owners) at (edition_in owner)
editions_in-set {Z} owners at owner = map-set (λ (o : Arc Whole Z). edition_in o) owners at owner

pub waiting_in-set : {Z : Type 0} (waiting : List (Option (Arc Whole Z))) (at : ℕ) (owner : Option (Arc Whole Z)) → waiting_in (set waiting at owner) ≡ set (waiting_in waiting) at (option_map (λ (o : Arc Whole Z). edition_in o) owner)
waiting_in-set {Z} waiting at owner = map-set (option_map (λ (o : Arc Whole Z). edition_in o)) waiting at owner
