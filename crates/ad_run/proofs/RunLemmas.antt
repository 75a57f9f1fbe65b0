-- How a run ended, by its exit status.
use Rattle.std.proofs.Common.{◌≡◌, ◌⊎◌, inl, inr, ℕ, ◌+◌, ◌≤◌, ◌<◌, List, [], ◌++◌, length, get_or, codes, refl, sym, ◌∙◌, ap, subst, arith, length-append}
use Rattle.std.specs.Prelude.{Option, None, Some, IsSome}
use Rattle.std.proofs.lemmas.List.{append-nil}
use Rattle.ad_io.specs.Flow.{LosesExactly, NotRisen}
use Rattle.ad_session.specs.Flows.{Flow}
use Rattle.ad_tree.specs.declared.axioms.Noted.{Noted}
use Rattle.ad_run.specs.declared.status.Status.{Status}
use Rattle.ad_run.specs.declared.status.Status.TheVariants.{Done, Usage, Refused, Cut, TooLong, Spent, ReadFault, WriteFault, Memory}
use Rattle.ad_run.specs.Statuses.{code_of}
use Rattle.ad_command.specs.Asks.{IsSomeDocument}
use Rattle.ad_command.specs.Command.{Command, IsCommand, reads}
use Rattle.ad_command.proofs.CommandLemmas.{one_input}
use Rattle.ad_documents.specs.Output.{IsOntology, IsNoOntology}
use Rattle.ad_reply.specs.declared.refusal.Refusal.{Refusal}
use Rattle.ad_documents.specs.Causes.{IsUnfitFor}
use Rattle.ad_run.specs.Causes.{IsUnfit}
use Rattle.ad_run.specs.Inputs.{IsRead, payload_limit}
use Rattle.ad_run.specs.Ends.{DocumentEnds, EndsOn, Ran, EndsSo, IsRefused}
use Rattle.ad_run.specs.Runs.{RunCause}
use Rattle.ad_documents.proofs.CauseLemmas.{apart}

-- a source that tells a text and was read to its end had just this text
pub read_whole : (left left' : Option (List ℕ)) (text found : List ℕ) → left ≡ Some text → IsSome left' → IsRead left left' found → found ≡ text
read_whole None left' text found e some read = absurd (let wrong : None ≡ Some text = e in cc)
read_whole (Some xs) None text found e some read = absurd (cc)
read_whole (Some xs) (Some ys) text found e some read =
    let same : xs ≡ text = let known : Some xs ≡ Some text = e in cc in
    let lost : xs ≡ found ++ ys = read.lost in
    let none : ys ≡ [] = read.ended in
    sym (append-nil found) ∙ ap (λ zs. found ++ zs) (sym none) ∙ sym lost ∙ same

-- and one that lost more than the limit had more
pub lost_more : (left left' : Option (List ℕ)) (text : List ℕ) (n : ℕ) → left ≡ Some text → IsSome left' → LosesExactly left left' n → n ≤ length text
lost_more None left' text n e some h = absurd (let wrong : None ≡ Some text = e in cc)
lost_more (Some xs) None text n e some h = absurd (cc)
lost_more (Some xs) (Some ys) text n e some h =
    let same : xs ≡ text = let known : Some xs ≡ Some text = e in cc in
    let lost : xs ≡ h.bytes ++ ys = h.lost in
    let whole : length text ≡ length (h.bytes ++ ys) = ap length (sym same ∙ lost) in
    omega (arith, whole, length-append h.bytes ys, h.counted)

-- words of a command on a document ran one on a document
as_document : (words : List (List ℕ)) (a b : Flow) (command : Command) (s : Status) → IsSomeDocument words → IsCommand words command → EndsOn (reads command) command a b s → DocumentEnds command a b s
as_document words a b command s some is h = subst (λ input. EndsOn input command a b s) (one_input words command some.command is some.commanded ∙ some.document) h

module _ (words : List (List ℕ)) (a b : Flow) (text : List ℕ) (told : a.left ≡ Some text) (tells : IsSome b.left) where
  -- what a command on a document did
  on_document : (s : Status) → IsSomeDocument words → (ran : Ran words a b s) → DocumentEnds ran.command a b s
  on_document s m ran = as_document words a b ran.command s m ran.commanded ran.ran

  -- a document that is refused has no ontology
  unfit_text : (refusal : Refusal) → IsUnfit refusal a b → IsNoOntology text ⊎ (payload_limit < length text)
  unfit_text refusal h = elim h [
    | inl u ↦ inl (λ ontology found. apart text ontology refusal found (subst (λ t. IsUnfitFor t refusal) (read_whole a.left b.left text u.0 told tells u.1) u.2))
    | inr u ↦ inr (let more = lost_more a.left b.left text (payload_limit + 1) told tells u.1 in omega (arith, more))
  ]

  fits : (ontology : List Noted) → length text ≤ payload_limit → IsOntology text ontology → IsNoOntology text ⊎ (payload_limit < length text) → ⊥
  fits ontology short found (inl none) = none ontology found
  fits ontology short found (inr long) = absurd (omega (arith, short, long))

  -- one that is answered has one
  done_text : (command : Command) → DocumentEnds command a b Done → (ontology : List Noted) × IsOntology text ontology × (length text ≤ payload_limit)
  done_text command h =
      let same : h.1.text ≡ text = read_whole a.left b.left text h.1.text told tells h.1.read in
      (h.1.is_output.ontology, subst (λ t. IsOntology t h.1.is_output.ontology) same h.1.is_output.read, subst (λ t. length t ≤ payload_limit) same h.1.read.short)

  -- a text of an ontology is answered
  pub answered : (s : Status) (ontology : List Noted) → EndsSo words a b s → RunCause a b s
      → IsSomeDocument words → length text ≤ payload_limit → IsOntology text ontology → NotRisen a.read_faults b.read_faults → NotRisen a.write_faults b.write_faults
      → (code_of s ≡ 0) ⊎ (code_of s ≡ 6)
  answered Done ontology ran cause some short found reads writes = inl refl
  answered Usage ontology ran cause some short found reads writes = absurd (ran some.command some.commanded)
  answered (Refused refusal) ontology ran cause some short found reads writes = absurd (fits ontology short found (unfit_text refusal (on_document (Refused refusal) some ran).0))
  answered Cut ontology ran cause some short found reads writes = absurd (on_document Cut some ran)
  answered TooLong ontology ran cause some short found reads writes = absurd (on_document TooLong some ran)
  answered Spent ontology ran cause some short found reads writes = absurd (on_document Spent some ran)
  answered ReadFault ontology ran cause some short found reads writes = absurd (reads (cause.read_fault refl))
  answered WriteFault ontology ran cause some short found reads writes = absurd (writes (cause.write_fault refl))
  answered Memory ontology ran cause some short found reads writes = inr refl

  -- any other text is refused
  pub refuses : (s : Status) → EndsSo words a b s → RunCause a b s
      → IsSomeDocument words → IsNoOntology text ⊎ (payload_limit < length text) → NotRisen a.read_faults b.read_faults → NotRisen a.write_faults b.write_faults
      → (code_of s ≡ 3) ⊎ (code_of s ≡ 6)
  refuses Done ran cause some unfit reads writes = let done = done_text ran.command (on_document Done some ran) in absurd (fits done.0 done.2 done.1 unfit)
  refuses Usage ran cause some unfit reads writes = absurd (ran some.command some.commanded)
  refuses (Refused refusal) ran cause some unfit reads writes = inl refl
  refuses Cut ran cause some unfit reads writes = inl refl
  refuses TooLong ran cause some unfit reads writes = inl refl
  refuses Spent ran cause some unfit reads writes = inl refl
  refuses ReadFault ran cause some unfit reads writes = absurd (reads (cause.read_fault refl))
  refuses WriteFault ran cause some unfit reads writes = absurd (writes (cause.write_fault refl))
  refuses Memory ran cause some unfit reads writes = inr refl

-- its input was refused
pub is_refused : (words : List (List ℕ)) (a b : Flow) (s : Status) → EndsSo words a b s → code_of s ≡ 3 → IsRefused words a b
is_refused words a b Done ran code = absurd (omega (arith, code))
is_refused words a b Usage ran code = absurd (omega (arith, code))
is_refused words a b (Refused refusal) ran code = record { status = Refused refusal; coded = code; ran = ran }
is_refused words a b Cut ran code = record { status = Cut; coded = code; ran = ran }
is_refused words a b TooLong ran code = record { status = TooLong; coded = code; ran = ran }
is_refused words a b Spent ran code = record { status = Spent; coded = code; ran = ran }
is_refused words a b ReadFault ran code = absurd (omega (arith, code))
is_refused words a b WriteFault ran code = absurd (omega (arith, code))
is_refused words a b Memory ran code = absurd (omega (arith, code))

-- the exit status is this code or that of wanting memory
pub either_code : (n result code : ℕ) → result ≡ code → (code ≡ n) ⊎ (code ≡ 6) → (result ≡ n) ⊎ (result ≡ 6)
either_code n result code e (inl h) = inl (e ∙ h)
either_code n result code e (inr h) = inr (e ∙ h)
