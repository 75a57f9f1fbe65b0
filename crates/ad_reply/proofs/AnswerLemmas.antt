-- A reply is the line before its body, and then the body. A refusal is its first word, and then why.
use Rattle.std.proofs.Common.{◌≡◌, ℕ, ◌++◌, List, Option, Some, codes, length, refl, sym, subst, ap}
use Rattle.ad_io.specs.Flow.{Gains, GainsFront}
use Rattle.ad_io.specs.Sink.{Puts}
use Rattle.ad_io.specs.declared.writes.Wrote.{Wrote}
use Rattle.ad_io.specs.declared.writes.Wrote.TheVariants as wrote
use Rattle.ad_io.proofs.FlowLemmas.{goes_on, stops, stops_early}
use Rattle.ad_lines.specs.Lines.{behind, line_of}
use Rattle.ad_read.specs.declared.texts.ReadRefused.TheVariants as texts
use Rattle.ad_reply.specs.declared.refusal.Refusal.{Refusal}
use Rattle.ad_reply.specs.declared.refusal.Refusal.TheVariants as refusals
use Rattle.ad_reply.specs.declared.cause.Cause.{Cause}
use Rattle.ad_reply.specs.Causes.{number_word}
use Rattle.ad_reply.specs.Replies.{Reply, answered, answer_line, cause_of, cause_words, details, refused, reply_bytes, words_of}

joins : (line body : List ℕ) (old mid new : Option (List ℕ)) (w : Wrote) → Gains old mid line → Puts mid new w body → Puts old new w (line ++ body)
joins line body old mid new wrote.All first then_ = goes_on old mid new line body first then_
joins line body old mid new wrote.Failed first then_ = stops old mid new line body first then_

-- the line was written, and then the body or a front of it
pub answers_on : (edition bytes : ℕ) (body : List ℕ) (old mid new : Option (List ℕ)) (w : Wrote) → bytes ≡ length body → Gains old mid (answer_line edition bytes) → Puts mid new w body → Puts old new w (reply_bytes (answered edition body))
answers_on edition bytes body old mid new w is first then_ =
    joins (answer_line edition (length body)) body old mid new w (subst (λ n. Gains old mid (answer_line edition n)) is first) then_

-- a front of the line was written
pub answers_front : (edition bytes : ℕ) (body : List ℕ) (old new : Option (List ℕ)) → bytes ≡ length body → GainsFront old new (answer_line edition bytes) → GainsFront old new (reply_bytes (answered edition body))
answers_front edition bytes body old new is stop =
    stops_early old new (answer_line edition (length body)) body (subst (λ n. GainsFront old new (answer_line edition n)) is stop)

-- the line of a refusal is its first word, a space, and why
refusal_parts : (refusal : Refusal) → reply_bytes (refused refusal) ≡ codes "NO " ++ line_of (cause_words (refused refusal))
refusal_parts refusals.Request = refl
refusal_parts (refusals.Text (texts.Lex fault)) = refl
refusal_parts (refusals.Text (texts.Depth nesting)) = refl
refusal_parts (refusals.Text (texts.Syntax at)) = refl
refusal_parts (refusals.Text (texts.Unsupported at what)) = refl
refusal_parts (refusals.Text (texts.Prefix at)) = refl
refusal_parts (refusals.Text (texts.PrefixTwice at)) = refl
refusal_parts (refusals.Text texts.Memory) = refl
refusal_parts (refusals.Limit edition which count) = refl
refusal_parts (refusals.Atom edition count) = refl
refusal_parts (refusals.Moved edition) = refl
refusal_parts refusals.Memory = refl
refusal_parts refusals.Shut = refl

-- the first word was written, and then why, or a front of it
pub refuses_on : (refusal : Refusal) (old mid new : Option (List ℕ)) (w : Wrote) → Gains old mid (codes "NO ") → Puts mid new w (line_of (cause_words (refused refusal))) → Puts old new w (reply_bytes (refused refusal))
refuses_on refusal old mid new w first then_ =
    subst (λ line. Puts old new w line) (sym (refusal_parts refusal)) (joins (codes "NO ") (line_of (cause_words (refused refusal))) old mid new w first then_)

-- a front of the first word was written
pub refuses_front : (refusal : Refusal) (old new : Option (List ℕ)) → GainsFront old new (codes "NO ") → GainsFront old new (reply_bytes (refused refusal))
refuses_front refusal old new stop =
    subst (λ line. GainsFront old new line) (sym (refusal_parts refusal)) (stops_early old new (codes "NO ") (line_of (cause_words (refused refusal))) stop)

-- a cause in words is its number, and what there is to say of it behind that
explained : (reply : Reply) (cause : Cause) → cause_of reply ≡ Some cause → line_of (cause_words reply) ≡ number_word cause ++ behind (details reply)
explained reply cause is = ap (λ c. line_of (words_of c (details reply))) is

-- the number was written, and then the rest, or a front of it
pub explains_on : (reply : Reply) (cause : Cause) (number : List ℕ) (old mid new : Option (List ℕ)) (w : Wrote) → cause_of reply ≡ Some cause → number ≡ number_word cause → Gains old mid number → Puts mid new w (behind (details reply)) → Puts old new w (line_of (cause_words reply))
explains_on reply cause number old mid new w is spelled first then_ =
    subst (λ line. Puts old new w line) (sym (explained reply cause is)) (joins (number_word cause) (behind (details reply)) old mid new w (subst (λ n. Gains old mid n) spelled first) then_)

-- a front of the number was written
pub explains_front : (reply : Reply) (cause : Cause) (number : List ℕ) (old new : Option (List ℕ)) → cause_of reply ≡ Some cause → number ≡ number_word cause → GainsFront old new number → GainsFront old new (line_of (cause_words reply))
explains_front reply cause number old new is spelled stop =
    subst (λ line. GainsFront old new line) (sym (explained reply cause is)) (stops_early old new (number_word cause) (behind (details reply)) (subst (λ n. GainsFront old new n) spelled stop))
