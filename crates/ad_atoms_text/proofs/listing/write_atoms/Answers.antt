-- The text of the shape was written.
use Rattle.std.proofs.Common.{subst}
use Rattle.ad_io.specs.Sink.{Puts}
use Rattle.ad_atoms_text.proofs.ShapeLemmas.{listing_is}
use Rattle.ad_atoms_text.proofs.listing.write_atoms.Goals as goal

pub returns-clause-bytes : goal.returns-clause-bytes
returns-clause-bytes g c = λ G order are covers.
    subst (Puts (g.K.Sink.written c.args.sink.now) (g.K.Sink.written c.write_listing.new.sink) c.write_listing.result) (listing_is G order c.args.atoms.now c.args.covers.now c.requires are covers) c.write_listing.ensures.bytes
