use native.Mathlib.Omega.{arith}
use Rattle.laws.proofs.Index.{any_more}
use Rattle.table.specs.Bearers.{bearer_at}
use Rattle.calls.specs.Steps.{holds_in, stays_in}
use Rattle.calls.proofs.Changing.{empties_past}
use Rattle.calls.proofs.modify.empties.Goals as goal

pub returns-then-i-ge-BEARERS : goal.returns-then-i-ge-BEARERS
returns-then-i-ge-BEARERS c = empties_past c.args.table.now c.args.i c.args.marks.now c.typed.ensures.bearers.count (omega arith)

pub loop-j-preserved : goal.loop-j-preserved
unfolding holds_in stays_in
loop-j-preserved c =
    let a = c.args in
    let l = c.loop-j in
    let row = (bearer_at a.table.now a.i).row in (
      any_more (holds_in row) l.j l.holds _ (cc) l.invariant.0,
      any_more (stays_in a.marks.now row) l.j l.stays _ (cc) l.invariant.1,
    )
