use Rattle.ad_check.specs.Machine.{logical_rows, carried_rows}
use Rattle.ad_check.proofs.Tables.{either_row}
use Rattle.ad_check.proofs.rows.keyword_row.Goals as goal

pub returns-in-Class : goal.returns-in-Class
returns-in-Class c = rw c.in-Class.is c.row_of-in-Class.ensures

pub returns-in-Axiom : goal.returns-in-Axiom
returns-in-Axiom c = rw c.in-Axiom.is (either_row _ _ _ logical_rows carried_rows c.args.word.now c.or-in-Axiom.ensures c.row_of-in-Axiom.ensures c.row_of-in-Axiom-2.ensures)

pub returns-in-Logical : goal.returns-in-Logical
returns-in-Logical c = rw c.in-Logical.is c.row_of-in-Logical.ensures
