use mathlib.Core.Path.{◌≡◌}
use mathlib.Core.Bool.{false, ◌&&◌}
use lib.ListN.{get_or}
use Rattle.laws.specs.Index.{any_below}
use Rattle.table.specs.Bearers.{role_at, is_default}
use Rattle.calls.proofs.lay.a_default_loses.Given as goal

abbrev pub invariant-loop-i : goal.invariant-loop-i
invariant-loop-i l = (l.any ≡ any_below (λ i. is_default (role_at l.table i) && get_or l.losers i false) l.i)
