use native.Mathlib.Omega.{arith}
use Rattle.table.proofs.Rows.{row_put}
use Rattle.table.specs.Bearers.{in_row}
use mathlib.Core.Path.{ap, ◌∙◌}
use Rattle.filter.specs.declared.component.Filter.{Filter}
use Rattle.calls.specs.Lay.{old, conflict}
use Rattle.calls.proofs.Conflicts.{placed_new, placed_gone, placed_old}
use Rattle.calls.proofs.incoming.Incoming.lay_row.Goals.{then-standing-held, else-standing-held+then-standing-self, else-standing-held+else-standing-self}
use Rattle.calls.proofs.incoming.Incoming.lay_row.Goals as goal

pub loop-j-preserved : goal.loop-j-preserved
loop-j-preserved c =
    let a = c.args in
    let l = c.loop-j in
    let new = a.self.now.filters.now in
    let create = a.self.now.creates in
    let s = a.standing in
    let row = a.row.now in
    let still = ap (λ (f : Filter). conflict new s.connected (old create s (in_row new l.j) f)) (l.invariant.rest l.j (omega arith)) in
    elim c.if-standing-held.branch [
      | then-standing-held w ↦ rw w.row-is (row_put l.j l.invariant _ (omega arith) (placed_new new row create s l.j (rw c.held.ensures at w.if-standing-held.true)))
      | else-standing-held+then-standing-self w ↦ rw w.row-is (row_put l.j l.invariant _ (omega arith) (w.bare.ensures ∙ placed_gone new row create s l.j (rw c.held.ensures at w.if-standing-held.false) _ (w.conflicts.ensures ∙ still) w.if-standing-self.true))
      | else-standing-held+else-standing-self w ↦ rw w.row-is (row_put l.j l.invariant _ (omega arith) (l.invariant.rest l.j (omega arith) ∙ placed_old new row create s l.j (rw c.held.ensures at w.if-standing-held.false) _ (w.conflicts.ensures ∙ still) w.if-standing-self.false))
    ]
