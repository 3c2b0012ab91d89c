use mathlib.Core.Path.{◌≡◌}
use Rattle.laws.specs.Index.{count_below}
use Rattle.table.specs.Inner.Lists.{names_at}
use Rattle.table.proofs.list.entries_in.Given as goal

abbrev pub invariant-loop-cell : goal.invariant-loop-cell
invariant-loop-cell l = (l.count ≡ count_below (names_at l.part 0) l.cell-index)
