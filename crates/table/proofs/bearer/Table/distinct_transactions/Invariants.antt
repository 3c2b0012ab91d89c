use mathlib.Core.Path.{◌≡◌}
use Rattle.laws.specs.Index.{all_below}
use Rattle.table.specs.WellFormed.{transaction_from}
use Rattle.table.proofs.bearer.Table.distinct_transactions.Given as goal

abbrev pub invariant-loop-i : goal.invariant-loop-i
invariant-loop-i l = (l.all ≡ all_below (transaction_from l.self) l.i)
