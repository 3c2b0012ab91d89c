-- Packets and fit (house model).
use Rattle.std.specs.Prelude.{ℕ, ◌/◌, ◌^◌, Bool, true, ◌&&◌, ◌||◌, eqb, leb, None, Option, Some}
use Rattle.laws.specs.Numbers.{same_under, within}
use Rattle.filter.specs.declared.component.Address.{Address}
use Rattle.filter.specs.declared.component.RemoteAddress.{RemoteAddress}
use Rattle.filter.specs.declared.component.RemoteAddress.TheVariants.{Absent as no_address, V4, V6}
use Rattle.filter.specs.declared.component.Port.{Port}
use Rattle.filter.specs.declared.component.Port.TheVariants.{Absent as no_port, Is as is_port, Range}
use Rattle.filter.specs.declared.component.Class.{Class}
use Rattle.filter.specs.declared.component.Filter.{Filter}
use Rattle.filter.specs.declared.packet.Header.{Header}
use Rattle.filter.specs.Component.{largest_label}

-- "A header has version 4 or 6"; 2 is given for a "header version not 4 or 6, or version 6 label above 1048575"
abbrev pub valid_at : ℕ → ℕ → Bool
valid_at version label = eqb version 4 || (eqb version 6 && leb label largest_label)

unfoldable pub valid_header : Header → Bool
valid_header h = valid_at h.version h.label

-- "Ports count only for protocols 6 and 17"; and later: "132 carries both ports as well"
abbrev pub carries_ports : ℕ → Bool
carries_ports protocol = eqb protocol 6 || eqb protocol 17 || eqb protocol 132

-- "the index only for 50 and 51"
abbrev pub carries_index : ℕ → Bool
carries_index protocol = eqb protocol 50 || eqb protocol 51

-- "the flow label only for version 6"
abbrev pub carries_label : ℕ → Bool
carries_label version = eqb version 6

-- "a version 4 address is four octets, and what lies beyond them is ignored"
abbrev pub first_four : Address → ℕ
first_four address = address.high / 2 ^ 32

-- ---- A component agrees with a header's fields; an absent one asks nothing. "a component on a field that doesn't count never agrees"
-- "masked fields equal under the mask"; "Type 10 agrees only with version 4, 20 only with 6"
abbrev pub agrees_address : RemoteAddress → ℕ → Address → Bool
agrees_address no_address version address = true
agrees_address (V4 a mask) version address = eqb version 4 && same_under 32 mask a (first_four address)
agrees_address (V6 a mask) version address =
    eqb version 6 && same_under 64 mask.high a.high address.high && same_under 64 mask.low a.low address.low

abbrev pub agrees_protocol : Option ℕ → ℕ → Bool
agrees_protocol None protocol = true
agrees_protocol (Some x) protocol = eqb x protocol

-- "ranges inclusive". Which protocols carry ports is a parameter here and below: `fits` takes `carries_ports`, and what is said of fit as it was takes another
abbrev pub agrees_port_by : (ℕ → Bool) → Port → ℕ → ℕ → Bool
agrees_port_by carries no_port protocol port = true
agrees_port_by carries (is_port x) protocol port = carries protocol && eqb x port
agrees_port_by carries (Range low high) protocol port = carries protocol && within low high port

abbrev pub agrees_index : Option ℕ → ℕ → ℕ → Bool
agrees_index None protocol index = true
agrees_index (Some x) protocol index = carries_index protocol && eqb x index

abbrev pub agrees_class : Option Class → ℕ → Bool
agrees_class None class = true
agrees_class (Some m) class = same_under 8 m.mask m.class class

abbrev pub agrees_label : Option ℕ → ℕ → ℕ → Bool
agrees_label None version label = true
agrees_label (Some x) version label = carries_label version && eqb x label

-- ---- "A filter fits if every component agrees"
-- those on the protocol and on fields that count only for some protocols
abbrev pub agrees_transport_by : (ℕ → Bool) → Filter → Header → Bool
agrees_transport_by carries f h =
    agrees_protocol f.protocol h.protocol && agrees_port_by carries f.local h.protocol h.local
    && agrees_port_by carries f.remote h.protocol h.remote && agrees_index f.index h.protocol h.index

-- the others
unfoldable pub agrees_network : Filter → Header → Bool
agrees_network f h =
    agrees_address f.address h.version h.address && agrees_class f.class h.class && agrees_label f.label h.version h.label

abbrev pub fits_by : (ℕ → Bool) → Filter → Header → Bool
fits_by carries f h = agrees_transport_by carries f h && agrees_network f h

unfoldable pub fits : Filter → Header → Bool
fits f h = fits_by carries_ports f h

-- ---- parts of `fits`, for the functions that give them
abbrev pub agrees_port : Port → ℕ → ℕ → Bool
agrees_port component protocol port = agrees_port_by carries_ports component protocol port

unfoldable pub agrees_transport : Filter → Header → Bool
agrees_transport f h = agrees_transport_by carries_ports f h
