-- `element::write::put_marks` meets its contract. The loop's invariant: the marks that are left, stored into `out` as it is now, are all of them stored into it as it was.
use mathlib.Core.Bool.{false}
use native.Mathlib.Omega.{arith}
use Rattle.element.proofs.Rows.{marks_by_places}
use Rattle.element.proofs.Writing.{puts_next, puts_done}
use Rattle.element.proofs.write.put_marks.Goals as goal

pub loop-identifier-preserved : goal.loop-identifier-preserved
loop-identifier-preserved c =
    let few = c.put_mark-end.ensures.few in
    (omega arith, puts_next marks_by_places false c.loop-identifier.invariant.1 (omega arith) c.put_mark-end.ensures.put)

pub returns-clause-put : goal.returns-clause-put
returns-clause-put c = puts_done marks_by_places false c.loop-identifier.invariant.1 (omega arith)
