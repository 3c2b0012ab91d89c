use Rattle.table.proofs.Walks.{TableTold}
use Rattle.table.proofs.bearer.Table.uplinks_if_fine.Given as goal

abbrev pub invariant-loop-i : goal.invariant-loop-i
invariant-loop-i l = TableTold l.self l.i l.uplinks l.seen
