use Rattle.table.proofs.Rows.{RowTurned}
use Rattle.calls.specs.Lay.{placed_in}
use Rattle.calls.proofs.incoming.Incoming.lay_row.Given as goal

abbrev pub invariant-loop-j : goal.invariant-loop-j
invariant-loop-j l = RowTurned (placed_in l.self.filters.now l.self.creates l.standing l.initial.row) l.initial.row l.row l.j
