-- Two tests of fit, and the tables that are well formed by the one and by the other.
use mathlib.Core.Bool.{Bool}
use Prim.Native.Nat.{ℕ, ◌<◌}
use Rattle.filter.specs.declared.component.Filter.{Filter}
use Rattle.filter.specs.declared.packet.Header.{Header}
use Rattle.filter.specs.Fittable.{SomePacketFitsBy}
use Rattle.filter.specs.Sizes.{place_count}
use Rattle.table.specs.Bearers.{bearer_count}
use Rattle.table.specs.Tables.{View}
use Rattle.table.specs.WellFormed.{WellBy}

-- where, by b, some packet fits each filter that a table holds, as by a some does, a table that is well formed by a is so by b
pub well_more : (a b : Filter → Header → Bool) (v : View)
    → ((i j : ℕ) → i < bearer_count → j < place_count → SomePacketFitsBy a (v.filter i j) → SomePacketFitsBy b (v.filter i j)) → WellBy a v → WellBy b v
well_more a b v more w =
    record {
      silent = w.silent;
      empty = w.empty;
      linked = w.linked;
      small = w.small;
      single = w.single;
      zeroed = w.zeroed;
      coded = w.coded;
      fitted = λ i j l m h. more i j l m (w.fitted i j l m h);
      distinct = w.distinct;
    }
