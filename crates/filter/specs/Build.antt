-- "A filter is built up one component at a time, each addition handing the filter back; .."
use Rattle.std.specs.Prelude.{ℕ, Bool, false, ◌||◌, List, [], ◌∷◌, ltb, None, Option, Some}
use Rattle.laws.specs.Says.{pick}
use Rattle.std.specs.List.{list_any}
use Rattle.filter.specs.declared.component.Address.{Address}
use Rattle.filter.specs.declared.component.RemoteAddress.{RemoteAddress}
use Rattle.filter.specs.declared.component.RemoteAddress.TheVariants.{Absent as no_address, V4, V6}
use Rattle.filter.specs.declared.component.Port.{Port}
use Rattle.filter.specs.declared.component.Port.TheVariants.{Absent as no_port, Is as is_port, Range}
use Rattle.filter.specs.declared.component.Class.{Class}
use Rattle.filter.specs.declared.component.Filter.{Filter}
use Rattle.filter.specs.Component.{ipv4_remote_type, ipv6_remote_type, protocol_type, local_port_type, local_range_type, remote_port_type, remote_range_type}
use Rattle.filter.specs.Component.{index_type, class_type, label_type, largest_label, types_of, excludes}

pub data Component : Type 0 where
  ipv4_remote : (address mask : ℕ) → Component
  ipv6_remote : (address mask : Address) → Component
  protocol : ℕ → Component
  local_port : ℕ → Component
  local_range : (low high : ℕ) → Component
  remote_port : ℕ → Component
  remote_range : (low high : ℕ) → Component
  index : ℕ → Component
  class : (class mask : ℕ) → Component
  label : ℕ → Component

-- the type of each, as it is written
abbrev pub type_of : Component → ℕ
type_of (ipv4_remote address mask) = ipv4_remote_type
type_of (ipv6_remote address mask) = ipv6_remote_type
type_of (protocol x) = protocol_type
type_of (local_port x) = local_port_type
type_of (local_range low high) = local_range_type
type_of (remote_port x) = remote_port_type
type_of (remote_range low high) = remote_range_type
type_of (index x) = index_type
type_of (class x mask) = class_type
type_of (label x) = label_type

-- the filter without a component
abbrev pub bare : ℕ → ℕ → Filter
bare precedence direction =
    record {
      precedence = precedence;
      direction = direction;
      address = no_address;
      protocol = None;
      local = no_port;
      remote = no_port;
      index = None;
      class = None;
      label = None;
    }

-- a place that holds nothing
abbrev pub empty_filter : Filter
empty_filter = bare 0 0

-- ---- The filter with one kind of component set, whatever stood there
abbrev pub with_address : RemoteAddress → Filter → Filter
with_address x f =
    record {
      precedence = f.precedence;
      direction = f.direction;
      address = x;
      protocol = f.protocol;
      local = f.local;
      remote = f.remote;
      index = f.index;
      class = f.class;
      label = f.label;
    }

abbrev pub with_protocol : Option ℕ → Filter → Filter
with_protocol x f =
    record {
      precedence = f.precedence;
      direction = f.direction;
      address = f.address;
      protocol = x;
      local = f.local;
      remote = f.remote;
      index = f.index;
      class = f.class;
      label = f.label;
    }

abbrev pub with_local : Port → Filter → Filter
with_local x f =
    record {
      precedence = f.precedence;
      direction = f.direction;
      address = f.address;
      protocol = f.protocol;
      local = x;
      remote = f.remote;
      index = f.index;
      class = f.class;
      label = f.label;
    }

abbrev pub with_remote : Port → Filter → Filter
with_remote x f =
    record {
      precedence = f.precedence;
      direction = f.direction;
      address = f.address;
      protocol = f.protocol;
      local = f.local;
      remote = x;
      index = f.index;
      class = f.class;
      label = f.label;
    }

abbrev pub with_index : Option ℕ → Filter → Filter
with_index x f =
    record {
      precedence = f.precedence;
      direction = f.direction;
      address = f.address;
      protocol = f.protocol;
      local = f.local;
      remote = f.remote;
      index = x;
      class = f.class;
      label = f.label;
    }

abbrev pub with_class : Option Class → Filter → Filter
with_class x f =
    record {
      precedence = f.precedence;
      direction = f.direction;
      address = f.address;
      protocol = f.protocol;
      local = f.local;
      remote = f.remote;
      index = f.index;
      class = x;
      label = f.label;
    }

abbrev pub with_label : Option ℕ → Filter → Filter
with_label x f =
    record {
      precedence = f.precedence;
      direction = f.direction;
      address = f.address;
      protocol = f.protocol;
      local = f.local;
      remote = f.remote;
      index = f.index;
      class = f.class;
      label = x;
    }

-- the filter with the component in its place
abbrev pub put : Component → Filter → Filter
put (ipv4_remote address mask) f = with_address (V4 address mask) f
put (ipv6_remote address mask) f = with_address (V6 address mask) f
put (protocol x) f = with_protocol (Some x) f
put (local_port x) f = with_local (is_port x) f
put (local_range low high) f = with_local (Range low high) f
put (remote_port x) f = with_remote (is_port x) f
put (remote_range low high) f = with_remote (Range low high) f
put (index x) f = with_index (Some x) f
put (class x mask) f = with_class (Some (record { class = x; mask = mask })) f
put (label x) f = with_label (Some x) f

-- "the type is held already, is excluded by one held"
unfoldable pub excluded : Filter → ℕ → Bool
excluded f t = list_any (excludes t) (types_of f)

-- "or is a flow label above 1048575"
abbrev pub too_large : Component → Bool
too_large (ipv4_remote address mask) = false
too_large (ipv6_remote address mask) = false
too_large (protocol x) = false
too_large (local_port x) = false
too_large (local_range low high) = false
too_large (remote_port x) = false
too_large (remote_range low high) = false
too_large (index x) = false
too_large (class x mask) = false
too_large (label x) = ltb largest_label x

-- "it comes back unchanged where ..": one addition
unfoldable pub added : Filter → Component → Filter
added f c = pick (too_large c || excluded f (type_of c)) f (put c f)

-- any sequence of additions
unfoldable pub built : Filter → List Component → Filter
built f [] = f
built f (c ∷ cs) = built (added f c) cs
