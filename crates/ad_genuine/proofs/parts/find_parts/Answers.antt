-- Each part is found by a call of its own.
use Rattle.std.proofs.Common.{◌≡◌, ℕ, ◌≤◌, List, Ok, Err, Result, Vec, Global, length, map, max, sym, subst, ap, ◌∙◌, arith, IsTrue, Bor}
use Rattle.std.specs.List.{All, AllZip, flat_map}
use Rattle.std.specs.Prelude.{Contains, IfOk}
use Rattle.rayon.specs.Lists.{chunks_of}
use Rattle.rayon.proofs.ToStd.{chunks_of-concat}
use Rattle.ad_base.specs.declared.memory.Memory.{Memory}
use Rattle.ad_genuine.specs.declared.found.Found.{Found}
use Rattle.ad_genuine.specs.Found.{AreFound}
use Rattle.ad_genuine.proofs.PartLemmas.{parts_all, if_ok, zip_oks}
use Rattle.ad_genuine.proofs.parts.find_parts.Goals as goal

pub collect-requires-clause-ready : goal.collect-requires-clause-ready
collect-requires-clause-ready g c _ _ =
    let slots = c.args.slots.now in
    let it = c.map.result.base.base in
    let size = max it.size 1 in
    let slice : it.slice.now ≡ slots = ap (λ m. m.base.slice.now) c.map.ensures.base ∙ ap (λ b. b.slice.now) c.with_min_len.ensures.base ∙ c.par_chunks.ensures.slice in
    let whole : flat_map (λ l. l) (chunks_of size it.slice.now) ≡ slots = chunks_of-concat size it.slice.now (omega arith) ∙ slice in
    let P : ℕ → Type 0 = λ slot. IsTrue (g.U.Universe.is_live c.args.universe.now slot) in
    let inside = parts_all P 65536 (chunks_of size it.slice.now) slots whole c.requires.live c.requires.few in
    λ k d lt x e. rw c.map.ensures.f (
    let h = inside k d lt in
    ((c.requires.limits, c.requires.sizes, subst (All P) (sym e) h.0, subst (λ l. length l ≤ 65536) (sym e) h.1), λ y p. tt))

pub returns : goal.returns
returns g c =
    let slots = c.args.slots.now in
    let it = c.map.result.base.base in
    let size = max it.size 1 in
    let slice : it.slice.now ≡ slots = ap (λ m. m.base.slice.now) c.map.ensures.base ∙ ap (λ b. b.slice.now) c.with_min_len.ensures.base ∙ c.par_chunks.ensures.slice in
    let whole : flat_map (λ l. l) (chunks_of size it.slice.now) ≡ slots = chunks_of-concat size it.slice.now (omega arith) ∙ slice in
    let u = c.args.universe.now in
    let R = AreFound (g.U.Universe.symbols_of u) (g.U.Universe.is_local u) (g.U.Universe.is_live u) (g.U.Universe.slot_count u) in
    let S = λ (z : Bor (List ℕ)) (r : Result Found Memory). IfOk r (R z.now) in
    let done = c.in_ok-collect.ensures in
    let chain = rw c.map.ensures.f at done.1 in
    let zs = chain.0 in
    if_ok (λ (v : Vec Found Global). (ys : List Found) × (done.0 ≡ map Ok ys) × (v.items ≡ ys)) _ (λ e. Contains done.0 (Err e)) c.in_ok-collect.field-0 done.2
    (λ parts h. (
      map (λ z. z.now) zs,
      ap (flat_map (λ l. l)) chain.1 ∙ whole,
      subst (λ l. AllZip R (map (λ z. z.now) zs) l) (sym h.2) (zip_oks (λ z. z.now) R S (λ z y s. s) zs h.0 (subst (λ l. AllZip S zs l) h.1 chain.2)),
    ))
