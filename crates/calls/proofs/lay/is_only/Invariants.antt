use mathlib.Core.Path.{◌≡◌}
use Rattle.laws.specs.Index.{any_below}
use Rattle.calls.specs.Lay.{other_at}
use Rattle.calls.proofs.lay.is_only.Given as goal

abbrev pub invariant-loop-i : goal.invariant-loop-i
invariant-loop-i l = (l.other ≡ any_below (other_at l.table l.connection) l.i)
