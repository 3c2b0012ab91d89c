use Rattle.table.proofs.Rows.{Turned, closing}
use Rattle.table.proofs.bearer.Table.close.Given as goal

abbrev pub invariant-loop-bearer : goal.invariant-loop-bearer
invariant-loop-bearer l = Turned (closing l.transaction) l.initial.bearer-items l.bearer-items l.bearer-index
