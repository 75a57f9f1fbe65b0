-- What can be answered is answered.
use Rattle.std.proofs.Common.{◌≡◌, ◌≢◌, inl, inr, ◌+◌, ℕ, Bool, IsTrue, IsFalse, List, Option, None, Some, length, sym, ◌∙◌, ap, subst}
use Rattle.ad_request.specs.declared.request.Request.{Request}
use Rattle.ad_request.specs.declared.request.Request.TheVariants.{Load, Edit, Module, Genuine, Atoms, Atom, Export, Stat, Quit}
use Rattle.ad_request.specs.Requests.{expected_of}
use Rattle.ad_tree.specs.declared.axioms.Noted.{Noted}
use Rattle.ad_tree.specs.declared.edits.Op.{Op}
use Rattle.ad_apply.specs.Apply.{applied, counts_of}
use Rattle.ad_edition.specs.Log.{replay}
use Rattle.ad_edition.specs.Limit.{Passed, is_moved, passed}
use Rattle.ad_edition.specs.State.{after_commit}
use Rattle.ad_grammar.specs.Faults as forms
use Rattle.ad_grammar.specs.Texts.{SpellsEdit, SpellsSeed, SpellsSingle}
use Rattle.ad_read.specs.Laws.{SpellsOnce, IsNotRefused, IsRefusedOnce}
use Rattle.ad_read.specs.Texts.{SpellsAdditions}
use Rattle.ad_read.specs.declared.texts.ReadRefused.{ReadRefused}
use Rattle.ad_read.specs.declared.texts.ReadRefused.TheVariants.{Memory}
use Rattle.ad_reply.specs.Bodies.{IsBody}
use Rattle.ad_reply.specs.Replies as replies
use Rattle.ad_reply.specs.Replies.{Reply, IsReplyOn, answered, limited, unread_text, counts_body}
use Rattle.ad_session.specs.Asked.{IsUnread, SpellsBatch, SpellsQuery, TakesMemory}
use Rattle.ad_session.specs.Machines as machines
use Rattle.ad_session.specs.Complete.{LinesAreRefused, QueriesAreAnswered, EditsAreMade, EditsAreLimited, MovedEditsAreRefused, TextsAreRefused}

same_asked : (asked : Option Request) (r q : Request) → asked ≡ Some r → asked ≡ Some q → r ≡ q
same_asked asked r q a b = cc

not_both : (asked : Option Request) (r : Request) → asked ≡ None → asked ≡ Some r → ⊥
not_both asked r a b = cc

none_some : (o : Option Passed) (p : Passed) → o ≡ None → o ≡ Some p → ⊥
none_some o p a b = cc

some_once : (o : Option Passed) (p q : Passed) → o ≡ Some p → o ≡ Some q → p ≡ q
some_once o p q a b = cc

not_either : (b : Bool) → IsTrue b → IsFalse b → ⊥
not_either b t f = cc

-- what is proved of every text: it spells one thing at most, and has then no cause to be refused
pub record TextsOnce : Type 0 where
  pub documents : SpellsOnce forms.document SpellsAdditions
  pub edits : SpellsOnce forms.edit SpellsEdit
  pub seeds : SpellsOnce forms.seed SpellsSeed
  pub singles : SpellsOnce forms.single SpellsSingle
  pub document_is_read : IsNotRefused forms.document SpellsAdditions
  pub edit_is_read : IsNotRefused forms.edit SpellsEdit
  pub seed_is_read : IsNotRefused forms.seed SpellsSeed
  pub single_is_read : IsNotRefused forms.single SpellsSingle
  pub refused : IsRefusedOnce

-- an edit isn't a query
no_query : (depth : ℕ) (request : Request) (payload : List ℕ) (ops : List Op) → SpellsBatch depth request payload ops → SpellsQuery depth request payload → ⊥
no_query depth (Load n) payload ops batch query = query
no_query depth (Edit n expected) payload ops batch query = query
no_query depth (Module k n) payload ops batch query = batch
no_query depth (Genuine k n) payload ops batch query = batch
no_query depth (Atoms k) payload ops batch query = batch
no_query depth (Atom k n) payload ops batch query = batch
no_query depth Export payload ops batch query = batch
no_query depth Stat payload ops batch query = batch
no_query depth Quit payload ops batch query = batch

-- and isn't answered as one
no_body : (depth : ℕ) (request : Request) (payload : List ℕ) (ops : List Op) (ontology : List Noted) (body : List ℕ) → SpellsBatch depth request payload ops → IsBody depth request payload ontology body → ⊥
no_body depth (Load n) payload ops ontology body batch is = is
no_body depth (Edit n expected) payload ops ontology body batch is = is
no_body depth (Module k n) payload ops ontology body batch is = batch
no_body depth (Genuine k n) payload ops ontology body batch is = batch
no_body depth (Atoms k) payload ops ontology body batch is = batch
no_body depth (Atom k n) payload ops ontology body batch is = batch
no_body depth Export payload ops ontology body batch is = batch
no_body depth Stat payload ops ontology body batch is = batch
no_body depth Quit payload ops ontology body batch is = batch

no_reply : (depth : ℕ) (request : Request) (payload : List ℕ) (ops : List Op) (number : ℕ) (ontology : List Noted) (reply : Reply) → SpellsBatch depth request payload ops → IsReplyOn depth request payload number ontology reply → ⊥
no_reply depth request payload ops number ontology reply batch (replies.given body is eq) = no_body depth request payload ops ontology body batch is
no_reply depth request payload ops number ontology reply batch (replies.beyond kind atom count e has far eq) = subst (λ (r : Request). SpellsBatch depth r payload ops) e batch

-- a query that is spelled has no cause to be refused
query_fine : TextsOnce → (depth : ℕ) (request : Request) (payload : List ℕ) (cause : ReadRefused) → SpellsQuery depth request payload → IsUnread depth request payload cause → cause ≡ Memory
query_fine once depth (Load n) payload cause query unread = absurd query
query_fine once depth (Edit n expected) payload cause query unread = absurd query
query_fine once depth (Module k n) payload cause query unread = once.seed_is_read depth payload query.0 cause query.1 unread
query_fine once depth (Genuine k n) payload cause query unread = once.single_is_read depth payload query.0 cause query.1 unread
query_fine once depth (Atoms k) payload cause query unread = absurd unread
query_fine once depth (Atom k n) payload cause query unread = absurd unread
query_fine once depth Export payload cause query unread = absurd unread
query_fine once depth Stat payload cause query unread = absurd unread
query_fine once depth Quit payload cause query unread = absurd query

-- nor has an edit
batch_fine : TextsOnce → (depth : ℕ) (request : Request) (payload : List ℕ) (ops : List Op) (cause : ReadRefused) → SpellsBatch depth request payload ops → IsUnread depth request payload cause → cause ≡ Memory
batch_fine once depth (Load n) payload ops cause batch unread = once.document_is_read depth payload ops cause batch unread
batch_fine once depth (Edit n expected) payload ops cause batch unread = once.edit_is_read depth payload ops cause batch unread
batch_fine once depth (Module k n) payload ops cause batch unread = absurd batch
batch_fine once depth (Genuine k n) payload ops cause batch unread = absurd batch
batch_fine once depth (Atoms k) payload ops cause batch unread = absurd batch
batch_fine once depth (Atom k n) payload ops cause batch unread = absurd batch
batch_fine once depth Export payload ops cause batch unread = absurd batch
batch_fine once depth Stat payload ops cause batch unread = absurd batch
batch_fine once depth Quit payload ops cause batch unread = absurd batch

batch_once : TextsOnce → (depth : ℕ) (request : Request) (payload : List ℕ) (one other : List Op) → SpellsBatch depth request payload one → SpellsBatch depth request payload other → one ≡ other
batch_once once depth (Load n) payload one other a b = once.documents depth payload one other a b
batch_once once depth (Edit n expected) payload one other a b = once.edits depth payload one other a b
batch_once once depth (Module k n) payload one other a b = absurd a
batch_once once depth (Genuine k n) payload one other a b = absurd a
batch_once once depth (Atoms k) payload one other a b = absurd a
batch_once once depth (Atom k n) payload one other a b = absurd a
batch_once once depth Export payload one other a b = absurd a
batch_once once depth Stat payload one other a b = absurd a
batch_once once depth Quit payload one other a b = absurd a

-- a payload is refused for one cause
unread_once : TextsOnce → (depth : ℕ) (request : Request) (payload : List ℕ) (a b : ReadRefused) → a ≢ Memory → b ≢ Memory → IsUnread depth request payload a → IsUnread depth request payload b → a ≡ b
unread_once once depth (Load n) payload a b real known x y = once.refused forms.document depth payload a b real known x y
unread_once once depth (Edit n expected) payload a b real known x y = once.refused forms.edit depth payload a b real known x y
unread_once once depth (Module k n) payload a b real known x y = once.refused forms.seed depth payload a b real known x y
unread_once once depth (Genuine k n) payload a b real known x y = once.refused forms.single depth payload a b real known x y
unread_once once depth (Atoms k) payload a b real known x y = absurd x
unread_once once depth (Atom k n) payload a b real known x y = absurd x
unread_once once depth Export payload a b real known x y = absurd x
unread_once once depth Stat payload a b real known x y = absurd x
unread_once once depth Quit payload a b real known x y = absurd x

-- one that is answered isn't refused
body_fine : TextsOnce → (depth : ℕ) (request : Request) (payload : List ℕ) (cause : ReadRefused) (ontology : List Noted) (body : List ℕ) → IsBody depth request payload ontology body → IsUnread depth request payload cause → cause ≡ Memory
body_fine once depth (Load n) payload cause ontology body is unread = absurd is
body_fine once depth (Edit n expected) payload cause ontology body is unread = absurd is
body_fine once depth (Module k n) payload cause ontology body is unread = once.seed_is_read depth payload is.seed cause is.spelled unread
body_fine once depth (Genuine k n) payload cause ontology body is unread = once.single_is_read depth payload is.noted cause is.spelled unread
body_fine once depth (Atoms k) payload cause ontology body is unread = absurd unread
body_fine once depth (Atom k n) payload cause ontology body is unread = absurd unread
body_fine once depth Export payload cause ontology body is unread = absurd unread
body_fine once depth Stat payload cause ontology body is unread = absurd unread
body_fine once depth Quit payload cause ontology body is unread = absurd is

reply_fine : TextsOnce → (depth : ℕ) (request : Request) (payload : List ℕ) (cause : ReadRefused) (number : ℕ) (ontology : List Noted) (reply : Reply) → IsReplyOn depth request payload number ontology reply → IsUnread depth request payload cause → cause ≡ Memory
reply_fine once depth request payload cause number ontology reply (replies.given body is eq) unread = body_fine once depth request payload cause ontology body is unread
reply_fine once depth request payload cause number ontology reply (replies.beyond kind atom count e has far eq) unread = absurd (subst (λ (r : Request). IsUnread depth r payload cause) e unread)

pub lines_refused : LinesAreRefused
lines_refused old new i reply (machines.unasked a is same) none = (is, same)
lines_refused old new i reply (machines.unread r other a known unread is same) none = absurd (not_both i.asked r none a)
lines_refused old new i reply (machines.queried r a is same) none = absurd (not_both i.asked r none a)
lines_refused old new i reply (machines.wanting r a takes is same) none = absurd (not_both i.asked r none a)
lines_refused old new i reply (machines.accepted r ops a spelled expects free eq pushed) none = absurd (not_both i.asked r none a)
lines_refused old new i reply (machines.moved_edit r ops a spelled moves eq same) none = absurd (not_both i.asked r none a)
lines_refused old new i reply (machines.limited_edit r ops which count a spelled expects passes eq same) none = absurd (not_both i.asked r none a)

pub queries_answered : TextsOnce → QueriesAreAnswered
queries_answered once old new i reply request (machines.unasked a is same) asked spells = absurd (not_both i.asked request a asked)
queries_answered once old new i reply request (machines.unread r other a known unread is same) asked spells =
    absurd (known (query_fine once old.limits.depth request i.payload other spells (subst (λ (x : Request). IsUnread old.limits.depth x i.payload other) (same_asked i.asked r request a asked) unread)))
queries_answered once old new i reply request (machines.queried r a is same) asked spells =
    inr (subst (λ (x : Request). IsReplyOn old.limits.depth x i.payload (length old.log) (replay old.log) reply) (same_asked i.asked r request a asked) is, same)
queries_answered once old new i reply request (machines.wanting r a takes is same) asked spells = inl (subst TakesMemory (same_asked i.asked r request a asked) takes, is, same)
queries_answered once old new i reply request (machines.accepted r ops a spelled expects free eq pushed) asked spells =
    absurd (no_query old.limits.depth request i.payload ops (subst (λ (x : Request). SpellsBatch old.limits.depth x i.payload ops) (same_asked i.asked r request a asked) spelled) spells)
queries_answered once old new i reply request (machines.moved_edit r ops a spelled moves eq same) asked spells =
    absurd (no_query old.limits.depth request i.payload ops (subst (λ (x : Request). SpellsBatch old.limits.depth x i.payload ops) (same_asked i.asked r request a asked) spelled) spells)
queries_answered once old new i reply request (machines.limited_edit r ops which count a spelled expects passes eq same) asked spells =
    absurd (no_query old.limits.depth request i.payload ops (subst (λ (x : Request). SpellsBatch old.limits.depth x i.payload ops) (same_asked i.asked r request a asked) spelled) spells)

-- an item spells one edit
known_edit : TextsOnce → (depth : ℕ) (asked : Option Request) (request r : Request) (payload : List ℕ) (ops others : List Op) → asked ≡ Some request → asked ≡ Some r → SpellsBatch depth request payload ops → SpellsBatch depth r payload others → others ≡ ops
known_edit once depth asked request r payload ops others a b spells spelled =
    batch_once once depth request payload others ops (subst (λ (x : Request). SpellsBatch depth x payload others) (same_asked asked r request b a) spelled) spells

pub edits_made : TextsOnce → EditsAreMade
edits_made once old new i reply request ops (machines.unasked a is same) asked spells expects free = absurd (not_both i.asked request a asked)
edits_made once old new i reply request ops (machines.unread r other a known unread is same) asked spells expects free =
    absurd (known (batch_fine once old.limits.depth request i.payload ops other spells (subst (λ (x : Request). IsUnread old.limits.depth x i.payload other) (same_asked i.asked r request a asked) unread)))
edits_made once old new i reply request ops (machines.queried r a is same) asked spells expects free =
    absurd (no_reply old.limits.depth request i.payload ops (length old.log) (replay old.log) reply spells (subst (λ (x : Request). IsReplyOn old.limits.depth x i.payload (length old.log) (replay old.log) reply) (same_asked i.asked r request a asked) is))
edits_made once old new i reply request ops (machines.wanting r a takes is same) asked spells expects free = inl is
edits_made once old new i reply request ops (machines.accepted r others a spelled expects' free' eq pushed) asked spells expects free =
    let e = known_edit once old.limits.depth i.asked request r i.payload ops others asked a spells spelled in
    inr (eq ∙ ap (λ (o : List Op). answered (length old.log + 1) (counts_body (counts_of (replay old.log) o))) e, pushed ∙ ap (λ (o : List Op). after_commit old old.session o) e)
edits_made once old new i reply request ops (machines.moved_edit r others a spelled moves eq same) asked spells expects free =
    absurd (not_either (is_moved (expected_of request) (length old.log)) (subst (λ (x : Request). IsTrue (is_moved (expected_of x) (length old.log))) (same_asked i.asked r request a asked) moves) expects)
edits_made once old new i reply request ops (machines.limited_edit r others which count a spelled expects' passes eq same) asked spells expects free =
    let e = known_edit once old.limits.depth i.asked request r i.payload ops others asked a spells spelled in
    let over = sym (ap (λ (o : List Op). passed old.limits (length old.log) (applied (replay old.log) o)) e) ∙ passes in
    absurd (none_some (passed old.limits (length old.log) (applied (replay old.log) ops)) _ free over)

pub edits_limited : TextsOnce → EditsAreLimited
edits_limited once old new i reply request ops over (machines.unasked a is same) asked spells expects passed_it = absurd (not_both i.asked request a asked)
edits_limited once old new i reply request ops over (machines.unread r other a known unread is same) asked spells expects passed_it =
    absurd (known (batch_fine once old.limits.depth request i.payload ops other spells (subst (λ (x : Request). IsUnread old.limits.depth x i.payload other) (same_asked i.asked r request a asked) unread)))
edits_limited once old new i reply request ops over (machines.queried r a is same) asked spells expects passed_it =
    absurd (no_reply old.limits.depth request i.payload ops (length old.log) (replay old.log) reply spells (subst (λ (x : Request). IsReplyOn old.limits.depth x i.payload (length old.log) (replay old.log) reply) (same_asked i.asked r request a asked) is))
edits_limited once old new i reply request ops over (machines.wanting r a takes is same) asked spells expects passed_it = inl is
edits_limited once old new i reply request ops over (machines.accepted r others a spelled expects' free eq pushed) asked spells expects passed_it =
    let e = known_edit once old.limits.depth i.asked request r i.payload ops others asked a spells spelled in
    let none = sym (ap (λ (o : List Op). passed old.limits (length old.log) (applied (replay old.log) o)) e) ∙ free in
    absurd (none_some (passed old.limits (length old.log) (applied (replay old.log) ops)) over none passed_it)
edits_limited once old new i reply request ops over (machines.moved_edit r others a spelled moves eq same) asked spells expects passed_it =
    absurd (not_either (is_moved (expected_of request) (length old.log)) (subst (λ (x : Request). IsTrue (is_moved (expected_of x) (length old.log))) (same_asked i.asked r request a asked) moves) expects)
edits_limited once old new i reply request ops over (machines.limited_edit r others which count a spelled expects' passes eq same) asked spells expects passed_it =
    let e = known_edit once old.limits.depth i.asked request r i.payload ops others asked a spells spelled in
    let first = sym (ap (λ (o : List Op). passed old.limits (length old.log) (applied (replay old.log) o)) e) ∙ passes in
    let one : _ ≡ over = some_once (passed old.limits (length old.log) (applied (replay old.log) ops)) _ over first passed_it in
    inr (eq ∙ ap (λ (p : Passed). limited (length old.log) p.which p.count) one, same)

pub moved_refused : TextsOnce → MovedEditsAreRefused
moved_refused once old new i reply request ops (machines.unasked a is same) asked spells moves = absurd (not_both i.asked request a asked)
moved_refused once old new i reply request ops (machines.unread r other a known unread is same) asked spells moves =
    absurd (known (batch_fine once old.limits.depth request i.payload ops other spells (subst (λ (x : Request). IsUnread old.limits.depth x i.payload other) (same_asked i.asked r request a asked) unread)))
moved_refused once old new i reply request ops (machines.queried r a is same) asked spells moves =
    absurd (no_reply old.limits.depth request i.payload ops (length old.log) (replay old.log) reply spells (subst (λ (x : Request). IsReplyOn old.limits.depth x i.payload (length old.log) (replay old.log) reply) (same_asked i.asked r request a asked) is))
moved_refused once old new i reply request ops (machines.wanting r a takes is same) asked spells moves = inl is
moved_refused once old new i reply request ops (machines.accepted r others a spelled expects free eq pushed) asked spells moves =
    absurd (not_either (is_moved (expected_of request) (length old.log)) moves (subst (λ (x : Request). IsFalse (is_moved (expected_of x) (length old.log))) (same_asked i.asked r request a asked) expects))
moved_refused once old new i reply request ops (machines.moved_edit r others a spelled moves' eq same) asked spells moves = inr (eq, same)
moved_refused once old new i reply request ops (machines.limited_edit r others which count a spelled expects passes eq same) asked spells moves =
    absurd (not_either (is_moved (expected_of request) (length old.log)) moves (subst (λ (x : Request). IsFalse (is_moved (expected_of x) (length old.log))) (same_asked i.asked r request a asked) expects))

pub texts_refused : TextsOnce → TextsAreRefused
texts_refused once old new i reply request cause (machines.unasked a is same) real asked unread = absurd (not_both i.asked request a asked)
texts_refused once old new i reply request cause (machines.unread r other a known refused is same) real asked unread =
    let e = unread_once once old.limits.depth request i.payload other cause known real (subst (λ (x : Request). IsUnread old.limits.depth x i.payload other) (same_asked i.asked r request a asked) refused) unread in
    inr (is ∙ ap unread_text e, same)
texts_refused once old new i reply request cause (machines.queried r a is same) real asked unread =
    absurd (real (reply_fine once old.limits.depth request i.payload cause (length old.log) (replay old.log) reply (subst (λ (x : Request). IsReplyOn old.limits.depth x i.payload (length old.log) (replay old.log) reply) (same_asked i.asked r request a asked) is) unread))
texts_refused once old new i reply request cause (machines.wanting r a takes is same) real asked unread = inl is
texts_refused once old new i reply request cause (machines.accepted r ops a spelled expects free eq pushed) real asked unread =
    absurd (real (batch_fine once old.limits.depth request i.payload ops cause (subst (λ (x : Request). SpellsBatch old.limits.depth x i.payload ops) (same_asked i.asked r request a asked) spelled) unread))
texts_refused once old new i reply request cause (machines.moved_edit r ops a spelled moves eq same) real asked unread =
    absurd (real (batch_fine once old.limits.depth request i.payload ops cause (subst (λ (x : Request). SpellsBatch old.limits.depth x i.payload ops) (same_asked i.asked r request a asked) spelled) unread))
texts_refused once old new i reply request cause (machines.limited_edit r ops which count a spelled expects passes eq same) real asked unread =
    absurd (real (batch_fine once old.limits.depth request i.payload ops cause (subst (λ (x : Request). SpellsBatch old.limits.depth x i.payload ops) (same_asked i.asked r request a asked) spelled) unread))
