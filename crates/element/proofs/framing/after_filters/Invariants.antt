use mathlib.Core.Path.{◌≡◌}
use Prim.Native.Nat.{◌-◌}
use Rattle.element.specs.Framing.{split_of}
use Rattle.element.specs.Places.{left_by}
use Rattle.element.proofs.framing.after_filters.Given as goal

abbrev pub invariant-loop : goal.invariant-loop
invariant-loop l = left_by (split_of (l.n - l.counter) l.rest) ≡ left_by (split_of l.n l.octets)
