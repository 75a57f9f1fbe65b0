use Rattle.ad_names.proofs.MemberLemmas.{no_member}
use Rattle.ad_names.proofs.names.Names.new.Goals as goal

pub returns : goal.returns
returns c = λ e. no_member _ e c.new.ensures c.new-2.ensures c.new-3.ensures c.new-4.ensures c.new-5.ensures c.new-6.ensures
