-- `table::bearer::Table::relist` meets its contract: the lists touched are emptied, and the rows of the bearers passed are put.
use native.Mathlib.Omega.{arith}
use Rattle.laws.specs.Index.{walk}
use Rattle.laws.proofs.Index.{done}
use Rattle.table.specs.Bearers.{bearer_count}
use Rattle.table.specs.Inner.Lists.{cleared_by}
use Rattle.table.proofs.Cells.{made_done}
use Rattle.table.proofs.bearer.Table.relist.Goals as goal

pub returns : goal.returns
returns c =
    let l = c.loop-i-2 in
    let first = c.loop-i in
    made_done c.args.self.now _ c.typed.ensures l.i (omega arith) (omega arith)
    (done (walk (cleared_by c.args.touched.now) c.args.self.now.lists) first.i bearer_count _ (omega arith) (omega arith) first.invariant) l.invariant
