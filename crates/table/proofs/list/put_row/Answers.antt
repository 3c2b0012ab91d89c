-- `table::list::put_row` meets its contract: the places passed are put.
use native.Mathlib.Omega.{arith}
use Rattle.table.proofs.Cells.{row_done}
use Rattle.table.proofs.list.put_row.Goals as goal

pub returns : goal.returns
returns c =
    let l = c.loop-j in row_done _ _ _ _ l.j l.invariant (omega arith) (omega arith)
