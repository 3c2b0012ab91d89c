use mathlib.Core.Path.{◌≡◌}
use mathlib.Core.Bool.{false, ◌&&◌}
use lib.ListN.{get_or}
use Rattle.table.specs.Bearers.{role_at, is_dedicated}
use Rattle.calls.proofs.Followers.{follow_below}
use Rattle.calls.proofs.lay.followers.Given as goal

abbrev pub invariant-loop-i : goal.invariant-loop-i
invariant-loop-i l = (l.follow ≡ follow_below (λ i. is_dedicated (role_at l.table i) && get_or l.losers i false) l.i)
