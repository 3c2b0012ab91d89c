use mathlib.Core.Path.{◌≡◌}
use Prim.Native.Nat.{◌-◌, ◌≤◌}
use lib.ListN.{take, drop}
use Rattle.std.specs.List.{list_all}
use Rattle.element.specs.Portions.{is_zero}
use Rattle.element.proofs.portions.are_zero.Given as goal

abbrev pub invariant-loop-i : goal.invariant-loop-i
invariant-loop-i l = (l.from ≤ l.i) × (l.zero ≡ list_all is_zero (take (l.i - l.from) (drop l.from l.octets)))
