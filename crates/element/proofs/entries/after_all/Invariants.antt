use mathlib.Core.Path.{◌≡◌}
use Prim.Native.Nat.{◌-◌}
use Rattle.element.specs.Entries.{after_all}
use Rattle.element.proofs.entries.after_all.Given as goal

abbrev pub invariant-loop : goal.invariant-loop
invariant-loop l = after_all l.value l.to (l.n - l.counter) ≡ after_all l.value l.at l.n
