-- The note of a refused document: its first words, and then why, as a reply says it.
use Rattle.std.proofs.Common.{◌≡◌, ℕ, ◌++◌, List, ◌∷◌, Option, codes, refl, sym, subst}
use Rattle.ad_io.specs.Flow.{Gains, GainsFront}
use Rattle.ad_io.specs.Sink.{Puts}
use Rattle.ad_io.specs.declared.writes.Wrote.{Wrote}
use Rattle.ad_io.specs.declared.writes.Wrote.TheVariants as wrote
use Rattle.ad_io.proofs.FlowLemmas.{goes_on, stops, stops_early}
use Rattle.ad_lines.specs.Lines.{line_of}
use Rattle.ad_read.specs.declared.texts.ReadRefused.TheVariants as texts
use Rattle.ad_reply.specs.declared.refusal.Refusal.{Refusal}
use Rattle.ad_reply.specs.declared.refusal.Refusal.TheVariants as refusals
use Rattle.ad_reply.specs.Replies.{cause_words, refused}
use Rattle.ad_run.specs.Notes.{note}

-- the note of a document that is refused for this cause
abbrev refused_note : Refusal → List ℕ
refused_note refusal = note (codes "refused" ∷ cause_words (refused refusal))

parts : (refusal : Refusal) → refused_note refusal ≡ codes "owlad: refused " ++ line_of (cause_words (refused refusal))
parts refusals.Request = refl
parts (refusals.Text (texts.Lex fault)) = refl
parts (refusals.Text (texts.Depth nesting)) = refl
parts (refusals.Text (texts.Syntax at)) = refl
parts (refusals.Text (texts.Unsupported at what)) = refl
parts (refusals.Text (texts.Prefix at)) = refl
parts (refusals.Text (texts.PrefixTwice at)) = refl
parts (refusals.Text texts.Memory) = refl
parts (refusals.Limit edition which count) = refl
parts refusals.Memory = refl
parts (refusals.Atom edition count) = refl
parts (refusals.Moved edition) = refl
parts refusals.Shut = refl

joins : (words why : List ℕ) (old mid new : Option (List ℕ)) (w : Wrote) → Gains old mid words → Puts mid new w why → Puts old new w (words ++ why)
joins words why old mid new wrote.All first then_ = goes_on old mid new words why first then_
joins words why old mid new wrote.Failed first then_ = stops old mid new words why first then_

-- the first words were written, and then why, or a front of it
pub refused_on : (refusal : Refusal) (old mid new : Option (List ℕ)) (w : Wrote) → Gains old mid (codes "owlad: refused ") → Puts mid new w (line_of (cause_words (refused refusal))) → Puts old new w (refused_note refusal)
refused_on refusal old mid new w first then_ =
    subst (λ line. Puts old new w line) (sym (parts refusal)) (joins (codes "owlad: refused ") (line_of (cause_words (refused refusal))) old mid new w first then_)

-- a front of the first words was written
pub refused_front : (refusal : Refusal) (old new : Option (List ℕ)) → GainsFront old new (codes "owlad: refused ") → GainsFront old new (refused_note refusal)
refused_front refusal old new stop =
    subst (λ line. GainsFront old new line) (sym (parts refusal)) (stops_early old new (codes "owlad: refused ") (line_of (cause_words (refused refusal))) stop)
