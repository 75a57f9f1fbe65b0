use Rattle.std.specs.Prelude.{[], ◌∷◌}
use Rattle.ad_write.specs.Canonical.{canon_document}
use Rattle.ad_canonical.proofs.Readings.{document_read}
use Rattle.ad_canonical.proofs.Texts.{document_spellable, edit_spellable, seed_spellable, single_spellable}
use Rattle.ad_canonical.proofs.laws.read_is_spellable.Goals as goal

pub returns : goal.returns
returns c = record {
  document = document_spellable;
  edit = edit_spellable;
  seed = seed_spellable;
  single = single_spellable;
  exactly = λ a. (
    λ h. let r = document_read (a ∷ []) (h, tt) in (canon_document (a ∷ []), r.0, [], r.1, r.2),
    λ t. (document_spellable t.0 t.1 t.2 (a ∷ []) t.3 t.4).0,
  );
}
