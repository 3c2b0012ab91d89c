-- Every number in its type's range: what the code's types give by themselves, said of the definitions' natural numbers.
use Rattle.std.specs.Prelude.{ℕ, ◌^◌, ◌<◌, None, Option, Some}
use Rattle.filter.specs.declared.component.Address.{Address}
use Rattle.filter.specs.declared.component.RemoteAddress.{RemoteAddress}
use Rattle.filter.specs.declared.component.RemoteAddress.TheVariants.{Absent as no_address, V4, V6}
use Rattle.filter.specs.declared.component.Port.{Port}
use Rattle.filter.specs.declared.component.Port.TheVariants.{Absent as no_port, Is as is_port, Range}
use Rattle.filter.specs.declared.component.Class.{Class}
use Rattle.filter.specs.declared.component.Filter.{Filter}
use Rattle.filter.specs.declared.packet.Header.{Header}

pub record AddressInRange (a : Address) : Type 0 where
  pub high : a.high < 2 ^ 64
  pub low : a.low < 2 ^ 64

pub record HeaderInRange (h : Header) : Type 0 where
  pub version : h.version < 2 ^ 8
  pub address : AddressInRange h.address
  pub protocol : h.protocol < 2 ^ 8
  pub local : h.local < 2 ^ 16
  pub remote : h.remote < 2 ^ 16
  pub index : h.index < 2 ^ 32
  pub class : h.class < 2 ^ 8
  pub label : h.label < 2 ^ 32

abbrev pub RemoteInRange : RemoteAddress → Type 0
RemoteInRange no_address = Unit {0}
RemoteInRange (V4 address mask) = (address < 2 ^ 32) × (mask < 2 ^ 32)
RemoteInRange (V6 address mask) = AddressInRange address × AddressInRange mask

abbrev pub ProtocolInRange : Option ℕ → Type 0
ProtocolInRange None = Unit {0}
ProtocolInRange (Some x) = x < 2 ^ 8

abbrev pub PortInRange : Port → Type 0
PortInRange no_port = Unit {0}
PortInRange (is_port x) = x < 2 ^ 16
PortInRange (Range low high) = (low < 2 ^ 16) × (high < 2 ^ 16)

abbrev pub IndexInRange : Option ℕ → Type 0
IndexInRange None = Unit {0}
IndexInRange (Some x) = x < 2 ^ 32

abbrev pub ClassInRange : Option Class → Type 0
ClassInRange None = Unit {0}
ClassInRange (Some m) = (m.class < 2 ^ 8) × (m.mask < 2 ^ 8)

abbrev pub LabelInRange : Option ℕ → Type 0
LabelInRange None = Unit {0}
LabelInRange (Some x) = x < 2 ^ 32

pub record FilterInRange (f : Filter) : Type 0 where
  pub precedence : f.precedence < 2 ^ 8
  pub direction : f.direction < 2 ^ 8
  pub address : RemoteInRange f.address
  pub protocol : ProtocolInRange f.protocol
  pub local : PortInRange f.local
  pub remote : PortInRange f.remote
  pub index : IndexInRange f.index
  pub class : ClassInRange f.class
  pub label : LabelInRange f.label
