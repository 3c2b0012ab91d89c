use mathlib.Core.Path.{◌≡◌}
use Rattle.laws.specs.Index.{any_below}
use Rattle.table.specs.Bearers.{bearer_at}
use Rattle.calls.specs.Steps.{holds_in, stays_in}
use Rattle.calls.proofs.modify.empties.Given as goal

abbrev pub invariant-loop-j : goal.invariant-loop-j
invariant-loop-j l = (l.holds ≡ any_below (holds_in (bearer_at l.table l.i).row) l.j) × (l.stays ≡ any_below (stays_in l.marks (bearer_at l.table l.i).row) l.j)
