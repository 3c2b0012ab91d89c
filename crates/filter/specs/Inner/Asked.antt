-- How the code asks whether any packet fits: what its inner functions give. Nothing here is claimed of a filter; the proofs tie it to Fittable.
use Rattle.std.specs.Prelude.{ℕ, Bool, true, false, not, ◌&&◌, ◌||◌, leb, None, Option, Some}
use Rattle.laws.specs.Index.{imp}
use Rattle.filter.specs.declared.component.RemoteAddress.{RemoteAddress}
use Rattle.filter.specs.declared.component.RemoteAddress.TheVariants.{Absent as no_address, V4, V6}
use Rattle.filter.specs.declared.component.Port.{Port}
use Rattle.filter.specs.declared.component.Port.TheVariants.{Absent as no_port, Is as is_port, Range}
use Rattle.filter.specs.declared.component.Filter.{Filter}
use Rattle.filter.specs.Component.{largest_label, type_of_index, present}
use Rattle.filter.specs.Fit.{carries_ports, carries_index}

abbrev pub some_port : Port → Bool
some_port no_port = false
some_port (is_port x) = true
some_port (Range low high) = true

abbrev pub in_order : Port → Bool
in_order no_port = true
in_order (is_port x) = true
in_order (Range low high) = leb low high

-- a version for which the address and the label count
abbrev pub some_version : RemoteAddress → Option ℕ → Bool
some_version address None = true
some_version no_address (Some x) = leb x largest_label
some_version (V4 a mask) (Some x) = false
some_version (V6 a mask) (Some x) = leb x largest_label

-- a protocol for which the ports and the index count, where there are any
abbrev pub some_protocol : Option ℕ → Bool → Bool → Bool
some_protocol None ports index = not (ports && index)
some_protocol (Some x) ports index = imp ports (carries_ports x) && imp index (carries_index x)

unfoldable pub asked : Filter → Bool
asked f =
    some_version f.address f.label && some_protocol f.protocol (some_port f.local || some_port f.remote) (present (type_of_index f.index))
    && in_order f.local && in_order f.remote
