use mathlib.Core.Path.{◌≡◌}
use lib.ListN.{length}
use Prim.Native.Nat.{◌+◌, ◌*◌}
use Rattle.laws.specs.Index.{count_below}
use Rattle.table.specs.Lists.{held_count}
use Rattle.table.specs.Inner.Lists.{names_at}
use Rattle.table.proofs.list.entries.Given as goal

abbrev pub invariant-loop-part : goal.invariant-loop-part
invariant-loop-part l = (l.part-iterator.size ≡ 128) × (length l.part-iterator.rest.now + 128 * length l.yielded ≡ held_count) × (l.count + count_below (names_at l.part-iterator.rest.now 0) (length l.part-iterator.rest.now) ≡ count_below (names_at l.cells 0) held_count)
