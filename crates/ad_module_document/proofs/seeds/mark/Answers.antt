use Rattle.std.proofs.Common.{sym, ◌∙◌}
use Rattle.ad_bits.specs.Rows.{has}
use Rattle.ad_module_document.proofs.SeedLemmas.{builtin_kept, other_marked}
use Rattle.ad_module_document.proofs.seeds.mark.Goals as goal

pub returns-then-not-is_builtin-clause-marked : goal.returns-then-not-is_builtin-clause-marked
returns-then-not-is_builtin-clause-marked c e n at =
    c.set_number.ensures.marked e n at ∙ other_marked c.args.entity.now e (has c.args.row.now n) (sym c.is_builtin.ensures ∙ c.if-not-is_builtin.true)

pub returns-else-not-is_builtin-clause-marked : goal.returns-else-not-is_builtin-clause-marked
returns-else-not-is_builtin-clause-marked c e n at =
    builtin_kept c.args.entity.now e (has c.args.row.now n) (sym c.is_builtin.ensures ∙ c.if-not-is_builtin.false)
