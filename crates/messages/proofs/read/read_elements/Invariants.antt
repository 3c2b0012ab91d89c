use mathlib.Core.Path.{◌≡◌}
use Prim.Native.Nat.{◌-◌, ◌≤◌}
use lib.ListN.{length, drop}
use Rattle.messages.specs.Layout.{optional}
use Rattle.messages.specs.Read.{elements}
use Rattle.messages.proofs.read.read_elements.Given as goal

abbrev pub invariant-loop-reached : goal.invariant-loop-reached
invariant-loop-reached l =
    (l.reached.at ≤ length l.message)
    × (elements (optional l.kind) 0 l.reached.at l.reached.tft (drop l.reached.at l.message)
    ≡ elements (optional l.kind) 0 l.initial.reached.at l.initial.reached.tft (drop l.initial.reached.at l.message))

abbrev pub decreases-loop-reached : goal.decreases-loop-reached
decreases-loop-reached l = length l.message - l.reached.at
