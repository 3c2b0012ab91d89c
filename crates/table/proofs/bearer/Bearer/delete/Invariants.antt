use mathlib.Core.Bool.{true}
use Rattle.table.specs.Changes.{deleted_in}
use Rattle.table.proofs.Rows.{RowTurned}
use Rattle.table.proofs.bearer.Bearer.delete.Given as goal

abbrev pub invariant-loop-j : goal.invariant-loop-j
invariant-loop-j l = RowTurned (deleted_in true l.marks l.initial.place-items) l.initial.place-items l.place-items l.j
