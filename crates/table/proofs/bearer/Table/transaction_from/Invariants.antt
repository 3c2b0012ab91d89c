use mathlib.Core.Path.{◌≡◌}
use Rattle.laws.specs.Index.{all_below}
use Rattle.table.specs.WellFormed.{transactions_apart}
use Rattle.table.proofs.bearer.Table.transaction_from.Given as goal

abbrev pub invariant-loop-k : goal.invariant-loop-k
invariant-loop-k l = (l.all ≡ all_below (transactions_apart l.self l.i) l.k)
