use Rattle.std.proofs.Common.{ℕ, List, Option, subst}
use Rattle.ad_io.specs.Sink.{Puts}
use Rattle.ad_reply.specs.Replies.{no_atom, reply_bytes}
use Rattle.ad_session.proofs.QueryLemmas.{atom_put, no_atom_put}
use Rattle.ad_session.proofs.queries.put_atom.Goals as goal

pub returns-in-All-clause-written : goal.returns-in-All-clause-written
returns-in-All-clause-written g c = atom_put c.args.kind c.args.atom c.args.edition.now.shown _ _ _ c.in-All.ensures.told

pub returns-in-Failed-clause-written : goal.returns-in-Failed-clause-written
returns-in-Failed-clause-written g c = atom_put c.args.kind c.args.atom c.args.edition.now.shown _ _ _ c.in-Failed.ensures.told

pub returns-in-NoAtom-clause-written : goal.returns-in-NoAtom-clause-written
returns-in-NoAtom-clause-written g c =
    let told = c.in-NoAtom.ensures.told in
    let number = c.args.edition.now.shown.number in
    let count = c.in-NoAtom.count in
    let mid = g.K.Sink.written c.atom_reply.new.sink in
    let new = g.K.Sink.written c.refuse.new.sink in
    no_atom_put c.args.kind c.args.atom count c.args.edition.now.shown _ _ c.refuse.result told.0 told.1
    (subst (λ (w : Option (List ℕ)). Puts w new c.refuse.result (reply_bytes (no_atom number count))) told.2
    (subst (λ (n : ℕ). Puts mid new c.refuse.result (reply_bytes (no_atom n count))) c.number.ensures c.refuse.ensures.bytes))
