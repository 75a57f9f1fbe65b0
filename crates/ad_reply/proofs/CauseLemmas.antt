-- A number leads back to its cause.
use Rattle.std.proofs.Common.{◌≡◌, ℕ, List, codes, refl, sym, ◌∙◌, ap, cond}
use Rattle.std.specs.Str.{bytes_eq}
use Rattle.ad_reply.specs.declared.cause.Cause.{Cause}
use Rattle.ad_reply.specs.declared.cause.Cause.TheVariants as causes
use Rattle.ad_reply.specs.Causes.{number_word, CausesDiffer}

-- the cause of a number that is one
cause_with : List ℕ → Cause
cause_with n =
    cond (bytes_eq n (codes "10")) causes.Request
    (cond (bytes_eq n (codes "20")) causes.Syntax
    (cond (bytes_eq n (codes "21")) causes.Depth
    (cond (bytes_eq n (codes "22")) causes.Prefix
    (cond (bytes_eq n (codes "23")) causes.Unsupported
    (cond (bytes_eq n (codes "30")) causes.Limit
    (cond (bytes_eq n (codes "41")) causes.Atom
    (cond (bytes_eq n (codes "50")) causes.Moved
    (cond (bytes_eq n (codes "90")) causes.Memory causes.Shut))))))))

leads_back : (cause : Cause) → cause_with (number_word cause) ≡ cause
unfolding cause_with
leads_back causes.Request = refl
leads_back causes.Syntax = refl
leads_back causes.Depth = refl
leads_back causes.Prefix = refl
leads_back causes.Unsupported = refl
leads_back causes.Limit = refl
leads_back causes.Atom = refl
leads_back causes.Moved = refl
leads_back causes.Memory = refl
leads_back causes.Shut = refl

pub causes_differ : CausesDiffer
causes_differ a b same = sym (leads_back a) ∙ ap cause_with same ∙ leads_back b
