-- The definitions at work, the input that no network should send among it: a single list under a single claim, computed.
use mathlib.Core.Path.{◌≡◌, refl}
use mathlib.Core.Bool.{Bool, true, not, ◌&&◌}
use mathlib.Core.List.{List, [], ◌∷◌}
use Prim.Native.Nat.{ℕ}
use Rattle.laws.specs.Numbers.{same_under}
use Rattle.filter.specs.declared.component.Filter.{Filter}
use Rattle.filter.specs.declared.packet.Header.{Header}
use Rattle.filter.specs.Coding.{held, well_coded, empty_place, uplink}
use Rattle.filter.specs.Build.{Component, ipv4_remote, ipv6_remote, protocol, local_port, local_range, remote_port, remote_range, index, class, label, excluded, bare, added, built}
use Rattle.filter.specs.Fit.{valid_header, agrees_network, fits}
use Rattle.filter.specs.Fittable.{sample, fittable}

-- precedence 10, both directions
abbrev with : List Component → Filter
with cs = built (bare 10 3) cs

-- a component of each kind
abbrev full : Filter
full = with (ipv4_remote 0 0 ∷ protocol 17 ∷ local_port 5 ∷ remote_port 5060 ∷ index 7 ∷ class 0 0 ∷ label 5 ∷ [])

-- 192.0.2.1, or the IPv6 address C000:0201::
abbrev packet : ℕ → ℕ → ℕ → ℕ → Header
packet v p r l =
    record {
      version = v;
      address = record { high = 0xC000_0201_0000_0000; low = 0 };
      protocol = p;
      local = 1000;
      remote = r;
      index = 7;
      class = 0xB8;
      label = l;
    }

every : List Bool → Bool
every [] = true
every (b ∷ bs) = b && every bs

examples : every (
    -- UDP, remote port 5060
    fits (with (protocol 17 ∷ remote_port 5060 ∷ [])) (packet 4 17 5060 0)
    ∷ not (fits (with (protocol 17 ∷ remote_port 5060 ∷ [])) (packet 4 17 5061 0))
    -- ports count for 6, 17 and 132 alone, the index for 50 and 51 alone
    ∷ fits (with (remote_port 5060 ∷ [])) (packet 4 6 5060 0)
    ∷ fits (with (remote_port 5060 ∷ [])) (packet 6 132 5060 0)
    ∷ fits (with (protocol 132 ∷ local_port 1000 ∷ [])) (packet 4 132 0 0)
    ∷ not (fits (with (protocol 132 ∷ local_port 1000 ∷ remote_port 5060 ∷ [])) (packet 4 132 5061 0))
    ∷ not (fits (with (remote_port 5060 ∷ [])) (packet 4 1 5060 0))
    ∷ not (fits (with (remote_port 5060 ∷ [])) (packet 4 136 5060 0))
    ∷ fits (with (index 7 ∷ [])) (packet 6 51 0 0)
    ∷ not (fits (with (index 7 ∷ [])) (packet 6 17 0 0))
    -- an address with its mask, of its own version alone
    ∷ fits (with (ipv4_remote 0xC000_02FF 0xFFFF_FF00 ∷ [])) (packet 4 0 0 0)
    ∷ not (fits (with (ipv4_remote 0xC000_03FF 0xFFFF_FF00 ∷ [])) (packet 4 0 0 0))
    ∷ not (fits (with (ipv4_remote 0xC000_0201 0xFFFF_FFFF ∷ [])) (packet 6 0 0 0))
    ∷ fits (with (ipv6_remote (record { high = 0xC000_0201_0000_0000; low = 5 }) (record { high = 0xFFFF_FFFF_0000_0000; low = 0 }) ∷ [])) (packet 6 0 0 0)
    -- the class in both versions, the label in version 6
    ∷ fits (with (class 0xBA 0xFC ∷ [])) (packet 4 0 0 0)
    ∷ fits (with (label 5 ∷ [])) (packet 6 0 0 5)
    ∷ not (fits (with (label 5 ∷ [])) (packet 4 0 0 5))
    -- a range holds both its ends and what is between
    ∷ fits (with (local_range 1000 1000 ∷ [])) (packet 4 6 0 0)
    ∷ fits (with (local_range 1000 1002 ∷ [])) (packet 4 6 0 0)
    ∷ fits (with (local_range 998 1000 ∷ [])) (packet 4 17 0 0)
    ∷ fits (with (protocol 132 ∷ local_range 999 1001 ∷ [])) (packet 4 132 0 0)
    ∷ fits (with (remote_range 5000 5060 ∷ [])) (packet 6 132 5060 0)
    ∷ not (fits (with (protocol 132 ∷ remote_range 5000 5059 ∷ [])) (packet 6 132 5060 0))
    ∷ not (fits (with (local_range 1001 2000 ∷ [])) (packet 4 6 0 0))
    ∷ not (fits (with (local_range 1 999 ∷ [])) (packet 4 6 0 0))
    -- no packet: a range that ends before it starts, ICMP or UDP-Lite with a port, SCTP with an index, ports with an index, IPv4 with a label
    ∷ not (fittable (with (local_range 2 1 ∷ [])))
    ∷ not (fittable (with (protocol 1 ∷ remote_port 5060 ∷ [])))
    ∷ not (fittable (with (protocol 136 ∷ remote_port 5060 ∷ [])))
    ∷ not (fittable (with (protocol 132 ∷ index 7 ∷ [])))
    ∷ not (fittable (with (index 7 ∷ remote_port 5060 ∷ [])))
    ∷ not (fittable (with (ipv4_remote 0 0 ∷ label 5 ∷ [])))
    -- some packet: SCTP with both ports; every other component together
    ∷ fittable (with (protocol 132 ∷ local_range 1 2 ∷ remote_port 5060 ∷ []))
    ∷ fittable (with (label 1048575 ∷ class 1 255 ∷ remote_port 65535 ∷ local_range 0 65535 ∷ []))
    -- a filter without a component fits every valid packet, and is not held
    ∷ fits (bare 0 0) (packet 4 1 0 0)
    ∷ not (held (bare 10 3))
    ∷ not (well_coded (bare 10 3))
    ∷ empty_place (bare 0 0)
    ∷ not (empty_place (bare 0 1))
    -- headers: version 9; a label that is too large, which version 4 ignores
    ∷ not (valid_header (packet 9 0 0 0))
    ∷ not (valid_header (packet 6 0 0 4294967295))
    ∷ valid_header (packet 4 0 0 4294967295)
    -- additions that change nothing: a label that is too large, a type held already, one excluded by one held
    ∷ not (held (with (label 1048576 ∷ [])))
    ∷ fits (with (protocol 17 ∷ protocol 6 ∷ [])) (packet 4 17 0 0)
    ∷ not (excluded (with (local_port 5 ∷ [])) 0x50)
    ∷ excluded (with (local_port 5 ∷ [])) 0x41
    ∷ excluded (with (ipv4_remote 0 0 ∷ [])) 0x20
    -- 0 is no type: a filter without a component does not exclude it, nor does one with each kind
    ∷ not (excluded (bare 10 3) 0)
    ∷ not (excluded full 0)
    ∷ excluded full 0x80
    -- and a type that no component has is not excluded
    ∷ not (excluded full 0x42)
    ∷ uplink (bare 0 2)
    ∷ not (uplink (bare 0 1))
    ∷ [])
    ≡ true
unfolding every held well_coded empty_place uplink excluded added built valid_header agrees_network fits sample fittable same_under
examples = refl
