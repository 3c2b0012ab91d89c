-- What the declared types tell: every filter and every header that the code can hold has its numbers in range.
use Rattle.std.specs.Prelude.{None, Some}
use denote.Builtin.{u8, u32}
use Rattle.std.specs.contracts.option.Option as option
use Rattle.laws.proofs.Typed.{Tells}
use Rattle.filter.specs.declared.component.RemoteAddress.TheVariants.{Absent as no_address, V4, V6}
use Rattle.filter.specs.declared.component.Port.TheVariants.{Absent as no_port, Is as is_port, Range}
use Rattle.filter.specs.contracts.component.Address as address
use Rattle.filter.specs.contracts.component.RemoteAddress as remote
use Rattle.filter.specs.contracts.component.Port as port
use Rattle.filter.specs.contracts.component.Class as class
use Rattle.filter.specs.contracts.component.Filter as filter
use Rattle.filter.specs.contracts.packet.Header as header
use Rattle.filter.specs.Ranges.{AddressInRange, HeaderInRange, RemoteInRange, ProtocolInRange, PortInRange, IndexInRange, ClassInRange, LabelInRange, FilterInRange}

pub address_in_range : Tells address.the_field AddressInRange
address_in_range a vs is = let h = is.1.1 in record { high = h.0.1; low = h.1.0.1 }

remote_in_range : Tells remote.the_field RemoteInRange
remote_in_range no_address vs is = tt
remote_in_range (V4 a mask) vs is = let h = is.1.1.1.1 in (h.0.1, h.1.0.1)
remote_in_range (V6 a mask) vs is = let h = is.1.1.1.1 in (address_in_range a _ h.0, address_in_range mask _ h.1.0)

protocol_in_range : Tells (option.the_field u8) ProtocolInRange
protocol_in_range None vs is = tt
protocol_in_range (Some x) vs is = is.1.1.1.1.0.1

port_in_range : Tells port.the_field PortInRange
port_in_range no_port vs is = tt
port_in_range (is_port x) vs is = is.1.1.1.1.0.1
port_in_range (Range low high) vs is = let h = is.1.1.1.1 in (h.0.1, h.1.0.1)

index_in_range : Tells (option.the_field u32) IndexInRange
index_in_range None vs is = tt
index_in_range (Some x) vs is = is.1.1.1.1.0.1

masked_in_range : Tells class.the_field (λ m. ClassInRange (Some m))
masked_in_range m vs is = let h = is.1.1 in (h.0.1, h.1.0.1)

class_in_range : Tells (option.the_field class.the_row) ClassInRange
class_in_range None vs is = tt
class_in_range (Some m) vs is = masked_in_range m _ is.1.1.1.1.0

label_in_range : Tells (option.the_field u32) LabelInRange
label_in_range None vs is = tt
label_in_range (Some x) vs is = is.1.1.1.1.0.1

pub filter_in_range : Tells filter.the_field FilterInRange
filter_in_range f vs is =
    let h = is.1.1 in
    record {
      precedence = h.0.1;
      direction = h.1.0.1;
      address = remote_in_range f.address _ h.1.1.0;
      protocol = protocol_in_range f.protocol _ h.1.1.1.0;
      local = port_in_range f.local _ h.1.1.1.1.0;
      remote = port_in_range f.remote _ h.1.1.1.1.1.0;
      index = index_in_range f.index _ h.1.1.1.1.1.1.0;
      class = class_in_range f.class _ h.1.1.1.1.1.1.1.0;
      label = label_in_range f.label _ h.1.1.1.1.1.1.1.1.0;
    }

pub header_in_range : Tells header.the_field HeaderInRange
header_in_range h vs is =
    let i = is.1.1 in
    record {
      version = i.0.1;
      address = address_in_range h.address _ i.1.0;
      protocol = i.1.1.0.1;
      local = i.1.1.1.0.1;
      remote = i.1.1.1.1.0.1;
      index = i.1.1.1.1.1.0.1;
      class = i.1.1.1.1.1.1.0.1;
      label = i.1.1.1.1.1.1.1.0.1;
    }
