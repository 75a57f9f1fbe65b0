-- By the lemmas, since a text spells one thing at most, or is refused for one cause.
use Rattle.ad_session.proofs.CompleteLemmas.{TextsOnce, lines_refused, queries_answered, edits_made, edits_limited, moved_refused, texts_refused}
use Rattle.ad_session.proofs.laws.reply_laws.Goals as goal

pub returns : goal.returns
returns c =
    let e = c.one_outcome.ensures in
    let once : TextsOnce = record {
      documents = e.documents;
      edits = e.edits;
      seeds = e.seeds;
      singles = e.singles;
      document_is_read = e.document_is_read;
      edit_is_read = e.edit_is_read;
      seed_is_read = e.seed_is_read;
      single_is_read = e.single_is_read;
      refused = e.refused;
    } in
    record {
      lines = lines_refused;
      queries = queries_answered once;
      edits = edits_made once;
      limits = edits_limited once;
      moved = moved_refused once;
      texts = texts_refused once;
    }
