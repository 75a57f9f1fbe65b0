-- What a query's reply says.
use Rattle.std.proofs.Common.{◌≡◌, ◌≢◌, ℕ, ◌≤◌, List, Option, Some, Err, length, refl, ◌∙◌, ap, subst}
use Rattle.ad_base.specs.declared.limits.Kind.{Kind}
use Rattle.ad_base.specs.declared.limits.Limits.{Limits}
use Rattle.ad_io.specs.Sink.{Puts}
use Rattle.ad_io.specs.declared.writes.Wrote.{Wrote}
use Rattle.ad_request.specs.declared.request.Request.{Request}
use Rattle.ad_request.specs.declared.request.Request.TheVariants.{Module, Genuine, Atoms, Atom, Export, Stat}
use Rattle.ad_items.specs.Items.{Item}
use Rattle.ad_edition.specs.Log.{Logged, Shown, defined_by, replay}
use Rattle.ad_edition.specs.Edition.{Limited, IsEditionOf}
use Rattle.ad_edition.specs.Sight.{Sight, Footing, LookIs}
use Rattle.ad_edition.specs.declared.look.NoLook.{NoLook}
use Rattle.ad_edition.specs.declared.look.NoLook.TheVariants as failed
use Rattle.ad_entity.specs.declared.entities.Entity.{Entity}
use Rattle.ad_locality.specs.Signature.{in_signature}
use Rattle.ad_tree.specs.declared.axioms.Noted.{Noted}
use Rattle.ad_read.specs.Texts.{IsSeed, IsSingle}
use Rattle.ad_read.specs.declared.texts.ReadRefused.{ReadRefused}
use Rattle.ad_read.specs.declared.texts.ReadRefused.TheVariants as texts
use Rattle.ad_write.specs.Canonical.{canon_document}
use Rattle.ad_reply.specs.Bodies.{HasAtoms, IsAtomBody, IsAtomsBody, IsBody, IsModuleDocument, IsModuleText, IsStatBody}
use Rattle.ad_reply.specs.Replies as replies
use Rattle.ad_reply.specs.Replies.{answered, no_atom, no_memory, unread_text, shut, refused, reply_bytes}
use Rattle.ad_session.specs.Asked.{SpellsQuery, TakesMemory, IsUnread}
use Rattle.ad_session.specs.LookAnswers as says
use Rattle.ad_session.specs.LookAnswers.{Looks}
use Rattle.ad_reply.specs.Written.{PutsAnswer, PutsAtom, PutsGenuine, PutsModule}
use Rattle.ad_session.specs.Turns.{Speaks, refusal_of}

-- the edition at hand is that of the log entered
edition_shows : (limits : Limits) (log : List Logged) (new : Sight) (edition : Limited) → IsEditionOf limits log edition → log ≡ new.entered → edition.shown ≡ defined_by new.entered
edition_shows limits log new edition is e = is.shown ∙ ap defined_by e

-- a query that is answered with such a body
body_speaks : (IsSo : List Noted → List ℕ → Type 0) (depth : ℕ) (footing : Footing) (request : Request) (old new : Sight) (limits : Limits) (log : List Logged) (edition : Limited) (i : Item) (before after : Option (List ℕ)) (w : Wrote)
    → ((ontology : List Noted) (body : List ℕ) → IsSo ontology body → IsBody depth request i.payload ontology body)
    → i.asked ≡ Some request → Looks footing old new → IsEditionOf limits log edition → log ≡ new.entered
    → PutsAnswer (IsSo edition.shown.axioms) edition.shown.number before after w → Speaks depth footing old new i before after w
body_speaks IsSo depth footing request old new limits log edition i before after w turns asked looks is e puts =
    let p = subst (λ (s : Shown). PutsAnswer (IsSo s.axioms) s.number before after w) (edition_shows limits log new edition is e) puts in
    record {
      reply = answered (length new.entered) p.body;
      says = says.queried request asked looks (replies.given p.body (turns (replay new.entered) p.body p.is) refl);
      puts = p.puts;
    }

-- a whole ontology
pub export_speaks : (depth : ℕ) (footing : Footing) (old new : Sight) (limits : Limits) (log : List Logged) (edition : Limited) (i : Item) (before after : Option (List ℕ)) (w : Wrote)
    → i.asked ≡ Some Export → Looks footing old new → IsEditionOf limits log edition → log ≡ new.entered
    → Puts before after w (reply_bytes (answered edition.shown.number (canon_document edition.shown.axioms))) → Speaks depth footing old new i before after w
export_speaks depth footing old new limits log edition i before after w asked looks is e puts =
    body_speaks (λ ontology body. body ≡ canon_document ontology) depth footing Export old new limits log edition i before after w (λ ontology body so. so) asked looks is e
    (record { body = canon_document edition.shown.axioms; is = refl; puts = puts })

-- the counts
pub stat_speaks : (depth : ℕ) (footing : Footing) (old new : Sight) (limits : Limits) (log : List Logged) (edition : Limited) (i : Item) (before after : Option (List ℕ)) (w : Wrote)
    → i.asked ≡ Some Stat → Looks footing old new → IsEditionOf limits log edition → log ≡ new.entered
    → PutsAnswer (IsStatBody edition.shown.axioms) edition.shown.number before after w → Speaks depth footing old new i before after w
stat_speaks depth footing old new limits log edition i before after w asked looks is e puts =
    body_speaks IsStatBody depth footing Stat old new limits log edition i before after w (λ ontology body so. so) asked looks is e puts

-- the atoms of a kind
pub atoms_speak : (depth : ℕ) (footing : Footing) (kind : Kind) (old new : Sight) (limits : Limits) (log : List Logged) (edition : Limited) (i : Item) (before after : Option (List ℕ)) (w : Wrote)
    → i.asked ≡ Some (Atoms kind) → Looks footing old new → IsEditionOf limits log edition → log ≡ new.entered
    → PutsAnswer (IsAtomsBody kind edition.shown.axioms) edition.shown.number before after w → Speaks depth footing old new i before after w
atoms_speak depth footing kind old new limits log edition i before after w asked looks is e puts =
    body_speaks (IsAtomsBody kind) depth footing (Atoms kind) old new limits log edition i before after w (λ ontology body so. so) asked looks is e puts

-- an atom, or how many there are
pub atom_speaks : (depth : ℕ) (footing : Footing) (kind : Kind) (atom : ℕ) (old new : Sight) (limits : Limits) (log : List Logged) (edition : Limited) (i : Item) (before after : Option (List ℕ)) (w : Wrote)
    → i.asked ≡ Some (Atom kind atom) → Looks footing old new → IsEditionOf limits log edition → log ≡ new.entered
    → PutsAtom kind atom edition.shown before after w → Speaks depth footing old new i before after w
atom_speaks depth footing kind atom old new limits log edition i before after w asked looks is e puts =
    let p = subst (λ (s : Shown). PutsAtom kind atom s before after w) (edition_shows limits log new edition is e) puts in
    record { reply = p.reply; says = says.queried (Atom kind atom) asked looks (p.is depth i.payload); puts = p.puts }

-- a module
pub module_speaks : (depth : ℕ) (footing : Footing) (kind : Kind) (n : ℕ) (seed : List Entity) (old new : Sight) (limits : Limits) (log : List Logged) (edition : Limited) (i : Item) (before after : Option (List ℕ)) (w : Wrote)
    → i.asked ≡ Some (Module kind n) → IsSeed depth i.payload seed → Looks footing old new → IsEditionOf limits log edition → log ≡ new.entered
    → PutsModule kind edition.shown seed before after w → Speaks depth footing old new i before after w
module_speaks depth footing kind n seed old new limits log edition i before after w asked spelled looks is e puts =
    body_speaks (IsModuleDocument kind seed) depth footing (Module kind n) old new limits log edition i before after w (λ ontology body so. record { seed = seed; spelled = spelled; is = so }) asked looks is e puts

-- the module of an axiom's signature
pub genuine_speaks : (depth : ℕ) (footing : Footing) (kind : Kind) (n : ℕ) (noted : Noted) (old new : Sight) (limits : Limits) (log : List Logged) (edition : Limited) (i : Item) (before after : Option (List ℕ)) (w : Wrote)
    → i.asked ≡ Some (Genuine kind n) → IsSingle depth i.payload noted → Looks footing old new → IsEditionOf limits log edition → log ≡ new.entered
    → PutsGenuine kind edition.shown noted before after w → Speaks depth footing old new i before after w
genuine_speaks depth footing kind n noted old new limits log edition i before after w asked spelled looks is e puts =
    body_speaks (IsModuleText kind (in_signature noted.axiom)) depth footing (Genuine kind n) old new limits log edition i before after w (λ ontology body so. record { noted = noted; spelled = spelled; is = so }) asked looks is e puts

-- a look that failed
pub refused_speaks : (depth : ℕ) (footing : Footing) (cause : NoLook) (request : Request) (old new : Sight) (i : Item) (before after : Option (List ℕ)) (w : Wrote)
    → i.asked ≡ Some request → SpellsQuery depth request i.payload → LookIs {T = Unit {0}} (Err cause) old new → Puts before after w (reply_bytes (refused (refusal_of cause))) → Speaks depth footing old new i before after w
refused_speaks depth footing failed.Memory request old new i before after w asked query look puts = record {
  reply = no_memory;
  says = says.lapsed request asked query look.0 look.1 refl;
  puts = puts;
}
refused_speaks depth footing failed.Shut request old new i before after w asked query look puts = record {
  reply = shut;
  says = says.barred request asked query look.0 look.1 look.2 refl;
  puts = puts;
}

-- a payload that is refused for a cause, which isn't want of memory
unread_as : (depth : ℕ) (footing : Footing) (request : Request) (cause : ReadRefused) (sight : Sight) (i : Item) (before after : Option (List ℕ)) (w : Wrote)
    → i.asked ≡ Some request → cause ≢ texts.Memory → IsUnread depth request i.payload cause → Puts before after w (reply_bytes (unread_text cause)) → Speaks depth footing sight sight i before after w
unread_as depth footing request cause sight i before after w asked known unread puts = record { reply = unread_text cause; says = says.unread request cause asked known unread refl refl; puts = puts }

-- want of memory before a look
pub wanting_speaks : (depth : ℕ) (footing : Footing) (request : Request) (sight : Sight) (i : Item) (before after : Option (List ℕ)) (w : Wrote)
    → i.asked ≡ Some request → TakesMemory request → Puts before after w (reply_bytes no_memory) → Speaks depth footing sight sight i before after w
wanting_speaks depth footing request sight i before after w asked takes puts = record { reply = no_memory; says = says.wanting request asked takes refl refl; puts = puts }

-- a payload that isn't read
pub unread_speaks : (depth : ℕ) (footing : Footing) (request : Request) (cause : ReadRefused) (sight : Sight) (i : Item) (before after : Option (List ℕ)) (w : Wrote)
    → i.asked ≡ Some request → TakesMemory request → IsUnread depth request i.payload cause → Puts before after w (reply_bytes (unread_text cause)) → Speaks depth footing sight sight i before after w
unread_speaks depth footing request (texts.Lex fault) sight i before after w asked takes unread puts = unread_as depth footing request (texts.Lex fault) sight i before after w asked (λ e. cc) unread puts
unread_speaks depth footing request (texts.Depth nesting) sight i before after w asked takes unread puts = unread_as depth footing request (texts.Depth nesting) sight i before after w asked (λ e. cc) unread puts
unread_speaks depth footing request (texts.Syntax at) sight i before after w asked takes unread puts = unread_as depth footing request (texts.Syntax at) sight i before after w asked (λ e. cc) unread puts
unread_speaks depth footing request (texts.Unsupported at what) sight i before after w asked takes unread puts = unread_as depth footing request (texts.Unsupported at what) sight i before after w asked (λ e. cc) unread puts
unread_speaks depth footing request (texts.Prefix at) sight i before after w asked takes unread puts = unread_as depth footing request (texts.Prefix at) sight i before after w asked (λ e. cc) unread puts
unread_speaks depth footing request (texts.PrefixTwice at) sight i before after w asked takes unread puts = unread_as depth footing request (texts.PrefixTwice at) sight i before after w asked (λ e. cc) unread puts
unread_speaks depth footing request texts.Memory sight i before after w asked takes unread puts = wanting_speaks depth footing request sight i before after w asked takes puts

-- the axioms of an atom were written, or a front of them
pub atom_put : (kind : Kind) (atom : ℕ) (edition : Shown) (before after : Option (List ℕ)) (w : Wrote)
    → PutsAnswer (IsAtomBody kind atom edition.axioms) edition.number before after w → PutsAtom kind atom edition before after w
atom_put kind atom edition before after w puts = record {
  reply = answered edition.number puts.body;
  is = λ depth payload. replies.given puts.body puts.is refl;
  puts = puts.puts;
}

-- how many atoms there are was written, or a front of it
pub no_atom_put : (kind : Kind) (atom count : ℕ) (edition : Shown) (before after : Option (List ℕ)) (w : Wrote)
    → HasAtoms kind edition.axioms count → count ≤ atom → Puts before after w (reply_bytes (no_atom edition.number count)) → PutsAtom kind atom edition before after w
no_atom_put kind atom count edition before after w has beyond puts = record {
  reply = no_atom edition.number count;
  is = λ depth payload. replies.beyond kind atom count refl has beyond refl;
  puts = puts;
}
