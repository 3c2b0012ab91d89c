use Rattle.table.proofs.Walks.{RowTold}
use Rattle.table.proofs.walk.row_uplinks.Given as goal

abbrev pub invariant-loop-j : goal.invariant-loop-j
invariant-loop-j l = RowTold l.bit l.lists l.from l.bearer l.row l.initial.seen l.j l.uplinks l.seen
