use Rattle.ad_lex.proofs.Keywords.{plain_shape, node_shape, lang_shape}
use Rattle.ad_lex.proofs.laws.written_shapes.Goals as goal

pub returns : goal.returns
returns c = record { plain = plain_shape; node = node_shape; lang = lang_shape }
