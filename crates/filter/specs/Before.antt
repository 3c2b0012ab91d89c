-- Fit as it was before the request that "132 carries both ports as well", to say what became of filters, tables and routes. No function computes it. It is
-- Fit with another answer to which protocols carry ports: all else is as it stands there, and that request changed nothing else. So what is said here of before and now is
-- of this answer alone; a change of all else would be a change of both.
use Rattle.std.specs.Prelude.{◌≡◌, ℕ, Bool, true, false, ◌||◌, eqb, None, Option, Some}
use Rattle.filter.specs.declared.component.Port.TheVariants.{Absent as no_port}
use Rattle.filter.specs.declared.component.Filter.{Filter}
use Rattle.filter.specs.declared.packet.Header.{Header}
use Rattle.filter.specs.Fit.{valid_header, fits, fits_by}
use Rattle.filter.specs.Ranges.{HeaderInRange}
use Rattle.filter.specs.Fittable.{SomePacketFitsBy}

abbrev pub tcp : ℕ
tcp = 6

abbrev pub udp : ℕ
udp = 17

-- "SCTP, protocol 132"
abbrev pub sctp : ℕ
sctp = 132

-- ports were given "only to TCP and UDP"
abbrev pub tcp_or_udp : ℕ → Bool
tcp_or_udp protocol = eqb protocol tcp || eqb protocol udp

abbrev pub fits_before : Filter → Header → Bool
fits_before f h = fits_by tcp_or_udp f h

-- some packet fitted it: what a table that was well formed asked of the filters that it held
abbrev pub SomePacketFitted : Filter → Type 0
SomePacketFitted f = SomePacketFitsBy fits_before f

-- ---- filters with a port, and with this for a protocol
abbrev pub NoPort : Filter → Type 0
NoPort f = (f.local ≡ no_port) × (f.remote ≡ no_port)

pub record PortWith (component : Option ℕ) (f : Filter) : Type 0 where
  pub port : NoPort f → ⊥
  pub protocol : f.protocol ≡ component

-- "filters with a port and no protocol"
abbrev pub PortNoProtocol : Filter → Type 0
PortNoProtocol f = PortWith None f

abbrev pub PortOfSctp : Filter → Type 0
PortOfSctp f = PortWith (Some sctp) f

-- ---- the same filter, the same packet, but for the protocol
abbrev pub naming : Option ℕ → Filter → Filter
naming protocol f =
    record {
      precedence = f.precedence;
      direction = f.direction;
      address = f.address;
      protocol = protocol;
      local = f.local;
      remote = f.remote;
      index = f.index;
      class = f.class;
      label = f.label;
    }

abbrev pub of_protocol : ℕ → Header → Header
of_protocol protocol h =
    record {
      version = h.version;
      address = h.address;
      protocol = protocol;
      local = h.local;
      remote = h.remote;
      index = h.index;
      class = h.class;
      label = h.label;
    }

-- ---- "now fit SCTP packets too": there is one that the filter fits and did not fit. Which ones they are is the theorem `sctp_alike`
pub record FitsSctpToo (f : Filter) : Type 0 where
  pub header : Header
  pub in_range : HeaderInRange header
  pub valid : valid_header header ≡ true
  pub of_sctp : header.protocol ≡ sctp
  pub before : fits_before f header ≡ false
  pub now : fits f header ≡ true
