-- `table::walk::row_uplinks` meets its contract: the places passed are fine, the precedences in them marked, and their uplink filters counted.
use native.Mathlib.Omega.{arith}
use Rattle.table.proofs.Walks.{row_start, row_more, row_never, row_within, row_few, row_done}
use Rattle.table.proofs.walk.row_uplinks.Goals as goal

pub loop-j-init : goal.loop-j-init
loop-j-init c = row_start _ _ _ _ _ _

pub returns-in_err-uplinks-clause-count : goal.returns-in_err-uplinks-clause-count
returns-in_err-uplinks-clause-count c =
    let l = c.loop-j in
    rw c.from_residual.ensures (row_never _ _ _ _ _ _ l.j l.invariant (rw c.cell_of.ensures at c.place_uplinks.ensures.count) (omega arith) c.in_err-uplinks.was)

pub overflow_add-uplinks : goal.overflow_add-uplinks
overflow_add-uplinks c =
    let l = c.loop-j in
    let few = row_few _ _ _ _ _ _ l.j l.invariant in
    let once = row_within _ _ _ _ _ _ l.j l.invariant (rw c.cell_of.ensures at c.place_uplinks.ensures.count) c.in_ok-uplinks.was in
    omega arith

pub loop-j-preserved : goal.loop-j-preserved
loop-j-preserved c =
    let l = c.loop-j in
    row_more _ _ _ _ _ _ l.j l.invariant (rw c.cell_of.ensures at c.place_uplinks.ensures.count) c.in_ok-uplinks.was c.in_ok-uplinks.ensures.marks

pub returns-clause-count : goal.returns-clause-count
returns-clause-count c = (row_done _ _ _ _ _ _ c.loop-j.j c.loop-j.invariant (omega arith) (omega arith)).0

pub returns-clause-marks : goal.returns-clause-marks
returns-clause-marks c = (row_done _ _ _ _ _ _ c.loop-j.j c.loop-j.invariant (omega arith) (omega arith)).1
