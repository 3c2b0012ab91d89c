-- `table::list::clear` meets its contract: the part that is filled is as long as a list.
use mathlib.Core.Path.{◌≡◌, refl}
use Prim.Native.Nat.{◌+◌, ◌-◌}
use native.Mathlib.Omega.{arith}
use lib.ListN.{length, take, drop}
use Rattle.std.proofs.lemmas.List.{length-take, length-drop}
use Rattle.filter.specs.Sizes.{precedence_count}
use Rattle.table.specs.Inner.Lists.{cleared}
use Rattle.table.proofs.list.clear.Goals as goal

pub returns : goal.returns
unfolding cleared
returns c =
    let from = c.args.from in
    let n : from + 256 - from ≡ precedence_count = omega arith in
    let long : length (take (from + 256 - from) (drop from c.args.cells.now)) ≡ precedence_count = simp (length-take, length-drop) (omega (arith, c.requires.0, c.requires.1)) in
    rw (c.fill.ensures.after (λ y q. q), long, n) refl
