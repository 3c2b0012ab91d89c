-- A table as the code's types hold it: eleven bearers of sixteen places, eleven lists of 256 octets, every number in its type's range.
use Rattle.std.specs.Prelude.{◌^◌, ◌<◌}
use Rattle.laws.specs.Lists.{Each}
use Rattle.filter.specs.Ranges.{FilterInRange}
use Rattle.table.specs.declared.bearer.Role.{Role}
use Rattle.table.specs.declared.bearer.Role.TheVariants.{Idle, Default, Dedicated}
use Rattle.table.specs.declared.bearer.Bearer.{Bearer}
use Rattle.table.specs.declared.bearer.Table.{Table}
use Rattle.filter.specs.Sizes.{place_count}
use Rattle.table.specs.Bearers.{bearer_count}
use Rattle.table.specs.Lists.{held_count}

abbrev pub RoleInRange : Role → Type 0
RoleInRange Idle = Unit {0}
RoleInRange Default = Unit {0}
RoleInRange (Dedicated link) = link < 2 ^ 8

pub record BearerInRange (b : Bearer) : Type 0 where
  pub role : RoleInRange b.role
  pub transaction : b.transaction < 2 ^ 8
  pub row : Each FilterInRange place_count b.row

pub record TableInRange (t : Table) : Type 0 where
  pub bearers : Each BearerInRange bearer_count t.bearers
  pub lists : Each (λ n. n < 2 ^ 8) held_count t.lists
