-- `element::entries::after_all` meets its contract. The loop's invariant: the offset, as many entries on as are left, is the offset n entries on.
use mathlib.Core.Path.{◌≡◌}
use Prim.Native.Nat.{◌+◌, ◌-◌, suc}
use native.Mathlib.Omega.{arith}
use Rattle.element.specs.Entries.{after_all}
use Rattle.element.proofs.entries.after_all.Goals as goal

pub loop-preserved : goal.loop-preserved
unfolding after_all
loop-preserved c =
    let a = c.args in
    let l = c.loop in
    let e : a.n - l.counter ≡ suc (a.n - (l.counter + 1)) = omega arith in
    rw c.after-to.ensures (rw e at l.invariant)
