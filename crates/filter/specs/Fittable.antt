-- "fits some packet": what it means, and how it is computed.
use Rattle.std.specs.Prelude.{◌≡◌, ℕ, ◌*◌, ◌^◌, Bool, true, ◌&&◌, ◌||◌, None, Option, Some}
use Rattle.laws.specs.Says.{pick}
use Rattle.filter.specs.declared.component.Address.{Address}
use Rattle.filter.specs.declared.component.RemoteAddress.{RemoteAddress}
use Rattle.filter.specs.declared.component.RemoteAddress.TheVariants.{Absent as no_address, V4, V6}
use Rattle.filter.specs.declared.component.Port.{Port}
use Rattle.filter.specs.declared.component.Port.TheVariants.{Absent as no_port, Is as is_port, Range}
use Rattle.filter.specs.declared.component.Class.{Class}
use Rattle.filter.specs.declared.component.Filter.{Filter}
use Rattle.filter.specs.declared.packet.Header.{Header}
use Rattle.filter.specs.Component.{type_of_local, type_of_remote, type_of_index, present}
use Rattle.filter.specs.Coding.{well_coded, empty_place}
use Rattle.filter.specs.Fit.{valid_header, fits}
use Rattle.filter.specs.Ranges.{HeaderInRange}

-- ---- "fits some packet": there is a valid header, every number in its type's range, that the filter fits. It is said of any
-- test of fit, so that it can be said of fit as it was (Before)
pub record SomePacketFitsBy (test : Filter → Header → Bool) (f : Filter) : Type 0 where
  pub header : Header
  pub in_range : HeaderInRange header
  pub valid : valid_header header ≡ true
  pub agrees : test f header ≡ true

abbrev pub SomePacketFits : Filter → Type 0
SomePacketFits f = SomePacketFitsBy fits f

-- ---- The packet that a filter describes: each component's own value, of a range the low end; a version and a protocol that the components
-- leave open are ones for which the others count.
abbrev pub sample_version : RemoteAddress → Option ℕ → ℕ
sample_version no_address None = 4
sample_version no_address (Some x) = 6
sample_version (V4 a mask) label = 4
sample_version (V6 a mask) label = 6

abbrev pub sample_address : RemoteAddress → Address
sample_address no_address = record { high = 0; low = 0 }
sample_address (V4 a mask) = record { high = a * 2 ^ 32; low = 0 }
sample_address (V6 a mask) = a

abbrev pub sample_protocol : Option ℕ → Bool → Bool → ℕ
sample_protocol None ports index = pick ports 6 (pick index 50 0)
sample_protocol (Some x) ports index = x

abbrev pub sample_port : Port → ℕ
sample_port no_port = 0
sample_port (is_port x) = x
sample_port (Range low high) = low

abbrev pub sample_index : Option ℕ → ℕ
sample_index None = 0
sample_index (Some x) = x

abbrev pub sample_class : Option Class → ℕ
sample_class None = 0
sample_class (Some m) = m.class

abbrev pub sample_label : Option ℕ → ℕ
sample_label None = 0
sample_label (Some x) = x

unfoldable pub sample : Filter → Header
sample f =
    record {
      version = sample_version f.address f.label;
      address = sample_address f.address;
      protocol = sample_protocol f.protocol (present (type_of_local f.local) || present (type_of_remote f.remote)) (present (type_of_index f.index));
      local = sample_port f.local;
      remote = sample_port f.remote;
      index = sample_index f.index;
      class = sample_class f.class;
      label = sample_label f.label;
    }

-- some packet fits exactly where this one does: the theorem `fittable_says`
unfoldable pub fittable : Filter → Bool
fittable f = valid_header (sample f) && fits f (sample f)

-- ---- "each filter is well coded .. and fits some packet", "unused fields are zero": what may stand in a place
abbrev pub place_fine : Filter → Bool
place_fine f = empty_place f || (well_coded f && fittable f)
