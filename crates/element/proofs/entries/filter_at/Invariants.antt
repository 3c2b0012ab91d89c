use mathlib.Core.Path.{◌≡◌}
use mathlib.Core.Bool.{true}
use Prim.Native.Nat.{◌-◌, ◌<◌}
use lib.ListN.{length, drop}
use Rattle.element.specs.Framing.{split_of}
use Rattle.element.specs.Entries.{located_at}
use Rattle.element.specs.Inner.Walk.{whole, located_split}
use Rattle.element.proofs.entries.filter_at.Given as goal

abbrev pub invariant-loop : goal.invariant-loop
invariant-loop l = (length l.rest < length l.value)
    × (whole (split_of (l.count - l.counter) l.rest) ≡ true)
    × (located_at (located_split (length l.value - length l.rest) (split_of (l.count - l.counter) l.rest)) l.at ≡ located_at (located_split 1 (split_of l.count (drop 1 l.value))) l.at)
