use mathlib.Core.Path.{◌≡◌}
use Rattle.laws.specs.Index.{any_below}
use Rattle.calls.specs.Lay.{conflict_in}
use Rattle.calls.proofs.incoming.Incoming.row_loses.Given as goal

abbrev pub invariant-loop-j : goal.invariant-loop-j
invariant-loop-j l = (l.any ≡ any_below (conflict_in l.self.filters.now l.self.creates l.standing l.row) l.j)
