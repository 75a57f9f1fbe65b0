-- The replies of a session, and the bytes of each.
use Rattle.std.specs.Prelude.{◌≡◌, ◌≤◌, ℕ, List, [], ◌∷◌, ◌++◌, Option, None, Some, length, codes, decimal}
use Rattle.ad_base.specs.declared.limits.Kind.{Kind}
use Rattle.ad_base.specs.declared.limits.Which.{Which}
use Rattle.ad_base.specs.declared.limits.Which.TheVariants as limits
use Rattle.ad_check.specs.declared.texts.Unsupported.{Unsupported}
use Rattle.ad_check.specs.declared.texts.Unsupported.TheVariants as parts
use Rattle.ad_lex.specs.declared.token.LexFault.{LexFault}
use Rattle.ad_lex.specs.declared.token.LexFault.TheVariants as faults
use Rattle.ad_lines.specs.Lines.{line_of}
use Rattle.ad_request.specs.declared.request.Request.{Request}
use Rattle.ad_request.specs.declared.request.Request.TheVariants.{Atom}
use Rattle.ad_tree.specs.declared.axioms.Noted.{Noted}
use Rattle.ad_read.specs.declared.texts.ReadRefused.{ReadRefused}
use Rattle.ad_read.specs.declared.texts.ReadRefused.TheVariants as texts
use Rattle.ad_write.specs.Keywords as kw
use Rattle.ad_apply.specs.Apply.{Counts}
use Rattle.ad_edition.specs.declared.receipts.Receipt.{Receipt}
use Rattle.ad_reply.specs.declared.cause.Cause.{Cause}
use Rattle.ad_reply.specs.declared.cause.Cause.TheVariants as causes
use Rattle.ad_reply.specs.declared.refusal.Refusal.{Refusal}
use Rattle.ad_reply.specs.declared.refusal.Refusal.TheVariants as refusals
use Rattle.ad_reply.specs.Bodies.{IsBody, HasAtoms}
use Rattle.ad_reply.specs.Causes.{number_word}

pub data Reply : Type 0 where
  -- what was asked for, on the edition of this number
  answered : (edition : ℕ) (body : List ℕ) → Reply
  -- the line is no request
  no_request : Reply
  -- the payload has a lexical fault, or a token that may not stand there, at this place
  faulty_text : (at : ℕ) → Reply
  -- the payload's nesting is above the limit
  too_deep : (nesting : ℕ) → Reply
  -- a prefix at this place isn't declared, or is declared twice
  faulty_prefix : (at : ℕ) → Reply
  -- what stands at this place is outside what is read
  unsupported : (at : ℕ) (word : List ℕ) → Reply
  -- on the edition of this number the edit passes this limit, with this count
  limited : (edition : ℕ) (which : Which) (count : ℕ) → Reply
  -- on the edition of this number there are only so many atoms
  no_atom : (edition : ℕ) (count : ℕ) → Reply
  -- the edit expects another edition than the newest, which has this number
  moved : (edition : ℕ) → Reply
  -- memory is wanting
  no_memory : Reply
  -- the editions are shut for this session
  shut : Reply

-- the word of a limit
abbrev pub which_word : Which → List ℕ
which_word limits.Axioms = codes "axioms"
which_word limits.Entities = codes "entities"
which_word limits.Bytes = codes "bytes"
which_word limits.Editions = codes "editions"
which_word limits.Payload = codes "payload"

-- the line before a body: the number of the edition, and how many bytes the body has
abbrev pub answer_line : ℕ → ℕ → List ℕ
answer_line edition bytes = line_of (codes "OK" ∷ decimal edition ∷ decimal bytes ∷ [])

-- why a reply refuses; an answer refuses nothing
abbrev pub cause_of : Reply → Option Cause
cause_of (answered edition body) = None
cause_of no_request = Some causes.Request
cause_of (faulty_text at) = Some causes.Syntax
cause_of (too_deep nesting) = Some causes.Depth
cause_of (faulty_prefix at) = Some causes.Prefix
cause_of (unsupported at word) = Some causes.Unsupported
cause_of (limited edition which count) = Some causes.Limit
cause_of (no_atom edition count) = Some causes.Atom
cause_of (moved edition) = Some causes.Moved
cause_of no_memory = Some causes.Memory
cause_of shut = Some causes.Shut

-- what there is to say of the cause
abbrev pub details : Reply → List (List ℕ)
details (answered edition body) = []
details no_request = []
details (faulty_text at) = decimal at ∷ []
details (too_deep nesting) = decimal nesting ∷ []
details (faulty_prefix at) = decimal at ∷ []
details (unsupported at word) = decimal at ∷ word ∷ []
details (limited edition which count) = decimal edition ∷ which_word which ∷ decimal count ∷ []
details (no_atom edition count) = decimal edition ∷ decimal count ∷ []
details (moved edition) = decimal edition ∷ []
details no_memory = []
details shut = []

-- a cause in words: its number, and what there is to say of it
abbrev pub words_of : Option Cause → List (List ℕ) → List (List ℕ)
words_of None words = []
words_of (Some cause) words = number_word cause ∷ words

-- why something is refused, in words. An answer refuses nothing
abbrev pub cause_words : Reply → List (List ℕ)
cause_words reply = words_of (cause_of reply) (details reply)

-- the line of a refusal
abbrev pub refusal_line : Reply → List ℕ
refusal_line reply = line_of (codes "NO" ∷ cause_words reply)

abbrev pub reply_bytes : Reply → List ℕ
reply_bytes (answered edition body) = answer_line edition (length body) ++ body
reply_bytes no_request = refusal_line no_request
reply_bytes (faulty_text at) = refusal_line (faulty_text at)
reply_bytes (too_deep nesting) = refusal_line (too_deep nesting)
reply_bytes (faulty_prefix at) = refusal_line (faulty_prefix at)
reply_bytes (unsupported at word) = refusal_line (unsupported at word)
reply_bytes (limited edition which count) = refusal_line (limited edition which count)
reply_bytes (no_atom edition count) = refusal_line (no_atom edition count)
reply_bytes (moved edition) = refusal_line (moved edition)
reply_bytes no_memory = refusal_line no_memory
reply_bytes shut = refusal_line shut

-- the body of an accepted edit's reply: what its operations did
abbrev pub counts_body : Counts → List ℕ
counts_body counts = line_of (codes "added" ∷ decimal counts.added ∷ codes "already" ∷ decimal counts.already ∷ codes "removed" ∷ decimal counts.removed ∷ codes "absent" ∷ decimal counts.absent ∷ [])

-- the four counts of a receipt
abbrev pub counts_in : Receipt → Counts
counts_in receipt = record { added = receipt.added; already = receipt.already; removed = receipt.removed; absent = receipt.absent }

-- the reply of an accepted edit
abbrev pub accepted : Receipt → Reply
accepted receipt = answered receipt.number (counts_body (counts_in receipt))

-- where the fault of a token stands
abbrev pub fault_place : LexFault → ℕ
fault_place (faults.Utf8 at) = at
fault_place (faults.Char at) = at
fault_place (faults.OpenString at) = at
fault_place (faults.OpenIri at) = at

-- the word of what is not read
abbrev pub unsupported_word : Unsupported → List ℕ
unsupported_word parts.Import = kw.Import
unsupported_word parts.Rule = kw.DLSafeRule
unsupported_word parts.Nary = codes "n-ary"

-- the reply to a text that is not read
abbrev pub unread_text : ReadRefused → Reply
unread_text (texts.Lex fault) = faulty_text (fault_place fault)
unread_text (texts.Depth nesting) = too_deep nesting
unread_text (texts.Syntax at) = faulty_text at
unread_text (texts.Unsupported at what) = unsupported at (unsupported_word what)
unread_text (texts.Prefix at) = faulty_prefix at
unread_text (texts.PrefixTwice at) = faulty_prefix at
unread_text texts.Memory = no_memory

-- the reply of a refusal
abbrev pub refused : Refusal → Reply
refused refusals.Request = no_request
refused (refusals.Text cause) = unread_text cause
refused (refusals.Limit edition which count) = limited edition which count
refused (refusals.Atom edition count) = no_atom edition count
refused (refusals.Moved edition) = moved edition
refused refusals.Memory = no_memory
refused refusals.Shut = shut

-- The reply to a query, with its payload, on the edition of this number with this ontology: what was asked for; or, where
-- an atom was asked for that there isn't, how many atoms there are.
pub data IsReplyOn (depth : ℕ) (request : Request) (payload : List ℕ) (number : ℕ) (ontology : List Noted) (reply : Reply) : Type 0 where
  given : (body : List ℕ) → IsBody depth request payload ontology body → reply ≡ answered number body → IsReplyOn depth request payload number ontology reply
  beyond : (kind : Kind) (atom count : ℕ) → request ≡ Atom kind atom → HasAtoms kind ontology count → count ≤ atom → reply ≡ no_atom number count → IsReplyOn depth request payload number ontology reply
