use mathlib.Core.Path.{◌≡◌}
use Rattle.laws.specs.Index.{last_below}
use Rattle.table.specs.Bearers.{identity_of}
use Rattle.table.specs.Changes.{opens_at}
use Rattle.calls.proofs.steps.owner_of.Given as goal

abbrev pub invariant-loop-i : goal.invariant-loop-i
invariant-loop-i l = (l.owner ≡ last_below (opens_at l.table l.transaction) identity_of 0 l.i)
