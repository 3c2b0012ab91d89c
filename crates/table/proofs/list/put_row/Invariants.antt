use mathlib.Core.Path.{◌≡◌}
use Rattle.laws.specs.Index.{walk}
use Rattle.table.specs.Inner.Lists.{put_filter}
use Rattle.table.proofs.list.put_row.Given as goal

abbrev pub invariant-loop-j : goal.invariant-loop-j
invariant-loop-j l = (l.cells ≡ walk (put_filter l.row l.from l.bearer) l.initial.cells l.j)
