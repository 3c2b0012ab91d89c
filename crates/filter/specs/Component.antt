-- The component types, those that a filter has, and which of them exclude which.
use Rattle.std.specs.Prelude.{ℕ, Bool, not, ◌&&◌, List, [], ◌∷◌, eqb, None, Option, Some}
use Rattle.laws.specs.Says.{pick}
use Rattle.filter.specs.declared.component.RemoteAddress.{RemoteAddress}
use Rattle.filter.specs.declared.component.RemoteAddress.TheVariants.{Absent as no_address, V4, V6}
use Rattle.filter.specs.declared.component.Port.{Port}
use Rattle.filter.specs.declared.component.Port.TheVariants.{Absent as no_port, Is as is_port, Range}
use Rattle.filter.specs.declared.component.Class.{Class}
use Rattle.filter.specs.declared.component.Filter.{Filter}

-- "flow label, low 20 bits"
abbrev pub largest_label : ℕ
largest_label = 1048575

-- ---- "Component types and value lengths": the types, of an octet each
-- 10 hex: "IPv4 remote address, mask"
abbrev pub ipv4_remote_type : ℕ
ipv4_remote_type = 0x10

-- 20: "IPv6 remote address, mask"
abbrev pub ipv6_remote_type : ℕ
ipv6_remote_type = 0x20

-- 30: "protocol"
abbrev pub protocol_type : ℕ
protocol_type = 0x30

-- 40 / 41: "local port / range low, high"
abbrev pub local_port_type : ℕ
local_port_type = 0x40

abbrev pub local_range_type : ℕ
local_range_type = 0x41

-- 50 / 51: "remote port / range"
abbrev pub remote_port_type : ℕ
remote_port_type = 0x50

abbrev pub remote_range_type : ℕ
remote_range_type = 0x51

-- 60: "security parameter index"
abbrev pub index_type : ℕ
index_type = 0x60

-- 70: "traffic class, mask"
abbrev pub class_type : ℕ
class_type = 0x70

-- 80: "flow label, low 20 bits"
abbrev pub label_type : ℕ
label_type = 0x80

-- ---- The type of each kind of component that a filter has; 0, which is no type, where it is absent
abbrev pub type_of_address : RemoteAddress → ℕ
type_of_address no_address = 0
type_of_address (V4 address mask) = ipv4_remote_type
type_of_address (V6 address mask) = ipv6_remote_type

abbrev pub type_of_protocol : Option ℕ → ℕ
type_of_protocol None = 0
type_of_protocol (Some protocol) = protocol_type

abbrev pub type_of_port : ℕ → ℕ → Port → ℕ
type_of_port one range no_port = 0
type_of_port one range (is_port port) = one
type_of_port one range (Range low high) = range

abbrev pub type_of_local : Port → ℕ
type_of_local port = type_of_port local_port_type local_range_type port

abbrev pub type_of_remote : Port → ℕ
type_of_remote port = type_of_port remote_port_type remote_range_type port

abbrev pub type_of_index : Option ℕ → ℕ
type_of_index None = 0
type_of_index (Some index) = index_type

abbrev pub type_of_class : Option Class → ℕ
type_of_class None = 0
type_of_class (Some m) = class_type

abbrev pub type_of_label : Option ℕ → ℕ
type_of_label None = 0
type_of_label (Some label) = label_type

abbrev pub types_of : Filter → List ℕ
types_of f =
    type_of_address f.address
    ∷ type_of_protocol f.protocol
    ∷ type_of_local f.local
    ∷ type_of_remote f.remote
    ∷ type_of_index f.index
    ∷ type_of_class f.class
    ∷ type_of_label f.label
    ∷ []

abbrev pub present : ℕ → Bool
present t = not (eqb t 0)

-- ---- "each type once at most; 10 with 20, 40 with 41 and 50 with 51 exclude each other": types of one family exclude each other.
abbrev pub family : ℕ → ℕ
family t =
    pick (eqb t ipv6_remote_type) ipv4_remote_type
    (pick (eqb t local_range_type) local_port_type (pick (eqb t remote_range_type) remote_port_type t))

-- a component of type u, where it is present, excludes one of type t
abbrev pub excludes : ℕ → ℕ → Bool
excludes t u = present u && eqb (family t) (family u)
