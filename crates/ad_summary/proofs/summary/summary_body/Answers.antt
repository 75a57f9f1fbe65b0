-- The atoms of the rows over slots are those of the ontology.
use Rattle.ad_summary.specs.Summary.{summary_in}
use Rattle.ad_summary.proofs.SummaryLemmas.{summary_is}
use Rattle.ad_summary.proofs.summary.summary_body.Goals as goal

pub returns-clause-text : goal.returns-clause-text
returns-clause-text g c =
    let edition = c.args.edition.now in
    record {
      text = summary_in edition;
      is = summary_is edition c.laws.ensures c.shapes_of_slots.ensures;
      puts = c.put_summary.ensures.bytes;
    }
