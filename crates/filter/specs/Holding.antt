-- What it means that a filter holds a type, and that two types exclude each other.
use Rattle.std.specs.Prelude.{◌≡◌, ◌⊎◌, ℕ}
use Rattle.filter.specs.declared.component.Filter.{Filter}
use Rattle.filter.specs.Component.{ipv4_remote_type, ipv6_remote_type, local_port_type, local_range_type, remote_port_type, remote_range_type}
use Rattle.filter.specs.Build.{Component, type_of, put}

-- a component of type t stands in f: to put it in its place changes nothing
pub record Holds (f : Filter) (t : ℕ) : Type 0 where
  pub component : Component
  pub of_type : type_of component ≡ t
  pub stands : put component f ≡ f

-- "10 with 20, 40 with 41 and 50 with 51 exclude each other"
pub data ExcludeEachOther : ℕ → ℕ → Type 0 where
  10_with_20 : ExcludeEachOther ipv4_remote_type ipv6_remote_type
  20_with_10 : ExcludeEachOther ipv6_remote_type ipv4_remote_type
  40_with_41 : ExcludeEachOther local_port_type local_range_type
  41_with_40 : ExcludeEachOther local_range_type local_port_type
  50_with_51 : ExcludeEachOther remote_port_type remote_range_type
  51_with_50 : ExcludeEachOther remote_range_type remote_port_type

-- "excluded by one held"
pub record ExcludedByOneHeld (f : Filter) (t : ℕ) : Type 0 where
  pub other : ℕ
  pub held : Holds f other
  pub apart : ExcludeEachOther t other

-- "the type is held already, is excluded by one held"
abbrev pub HeldOrExcluded : Filter → ℕ → Type 0
HeldOrExcluded f t = Holds f t ⊎ ExcludedByOneHeld f t
