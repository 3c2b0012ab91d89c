use Rattle.table.proofs.Rows.{Turned, cutting}
use Rattle.table.proofs.bearer.Table.drop_connection.Given as goal

abbrev pub invariant-loop-i : goal.invariant-loop-i
invariant-loop-i l = Turned (cutting l.connection) l.initial.bearer-items l.bearer-items l.i
