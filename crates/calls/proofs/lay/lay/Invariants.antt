use Rattle.table.proofs.Rows.{Turned}
use Rattle.calls.proofs.Changing.{laying}
use Rattle.calls.proofs.lay.lay.Given as goal

abbrev pub invariant-loop-i : goal.invariant-loop-i
invariant-loop-i l = Turned (laying l.filters l.creates l.named l.connection) l.initial.bearer-items l.bearer-items l.i
