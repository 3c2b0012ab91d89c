use mathlib.Core.Path.{◌≡◌}
use Rattle.laws.specs.Index.{walk}
use Rattle.table.specs.Inner.Lists.{cleared_by, put_bearer}
use Rattle.table.proofs.bearer.Table.relist.Given as goal

abbrev pub invariant-loop-i : goal.invariant-loop-i
invariant-loop-i l = (l.lists ≡ walk (cleared_by l.touched) l.initial.lists l.i)

abbrev pub invariant-loop-i-2 : goal.invariant-loop-i-2
invariant-loop-i-2 l = (l.lists ≡ walk (put_bearer l.bearer-items l.touched) l.initial.lists l.i)
