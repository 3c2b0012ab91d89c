-- The theorems of the layer.
use Rattle.std.specs.Prelude.{None, Option, Some}
use mathlib.Core.Path.{◌≡◌, refl}
use mathlib.Core.Bool.{Bool, true, false, ◌||◌}
use mathlib.Core.List.{List, [], ◌∷◌}
use mathlib.Core.Logic.{◌⊎◌, inl, inr}
use Prim.Native.Nat.{ℕ, ◌^◌, ◌<◌, ◌≤◌}
use native.Mathlib.Omega.{arith}
use borrow.Author.Tests.{le-leb, ltb-false}
use Rattle.laws.specs.Says.{pick, Says}
use Rattle.laws.proofs.Says.{says_so}
use Rattle.laws.proofs.Tests.{both, neither}
use Rattle.filter.specs.declared.component.RemoteAddress.{RemoteAddress}
use Rattle.filter.specs.declared.component.RemoteAddress.TheVariants.{Absent as no_address, V4, V6}
use Rattle.filter.specs.declared.component.Port.{Port}
use Rattle.filter.specs.declared.component.Port.TheVariants.{Absent as no_port, Is as is_port, Range}
use Rattle.filter.specs.declared.component.Class.{Class}
use Rattle.filter.specs.declared.component.Filter.{Filter}
use Rattle.filter.specs.Component.{largest_label}
use Rattle.filter.specs.Coding.{held, label_fits, well_coded}
use Rattle.filter.specs.Build.{Component, ipv4_remote, ipv6_remote, protocol, local_port, local_range, remote_port, remote_range, index}
use Rattle.filter.specs.Build.{class, label, type_of, bare, put, excluded, too_large, added, built}
use Rattle.filter.specs.Holding.{ExcludeEachOther, HeldOrExcluded}
use Rattle.filter.specs.Fit.{valid_header, fits}
use Rattle.filter.specs.Ranges.{AddressInRange, HeaderInRange, RemoteInRange, ProtocolInRange, PortInRange, IndexInRange, ClassInRange, LabelInRange, FilterInRange}
use Rattle.filter.specs.Fittable.{sample_version, sample_address, sample_protocol, sample_port, sample_index, sample_class, sample_label, sample, fittable, SomePacketFits}
use Rattle.filter.proofs.Holding.{HeldInFamily, excluded_in_family, same_or_apart, apart_kin}
use Rattle.filter.proofs.Asked.{any_asked, asked_fits}

-- ---- A filter is told fittable exactly where some packet fits it.
-- the sample's numbers are in range where the filter's are
address_range : (a : RemoteAddress) → RemoteInRange a → AddressInRange (sample_address a)
address_range no_address r = record { high = omega arith; low = omega arith }
address_range (V4 a mask) r = record { high = omega arith; low = omega arith }
address_range (V6 a mask) r = r.0

version_range : (a : RemoteAddress) (l : Option ℕ) → sample_version a l < 2 ^ 8
version_range no_address None = omega arith
version_range no_address (Some x) = omega arith
version_range (V4 a mask) l = omega arith
version_range (V6 a mask) l = omega arith

protocol_range : (p : Option ℕ) (ports i : Bool) → ProtocolInRange p → sample_protocol p ports i < 2 ^ 8
protocol_range (Some x) ports i r = r
protocol_range None true i r = omega arith
protocol_range None false true r = omega arith
protocol_range None false false r = omega arith

port_range : (p : Port) → PortInRange p → sample_port p < 2 ^ 16
port_range no_port r = omega arith
port_range (is_port x) r = r
port_range (Range low high) r = r.0

index_range : (i : Option ℕ) → IndexInRange i → sample_index i < 2 ^ 32
index_range None r = omega arith
index_range (Some x) r = r

class_range : (c : Option Class) → ClassInRange c → sample_class c < 2 ^ 8
class_range None r = omega arith
class_range (Some m) r = r.0

label_range : (l : Option ℕ) → LabelInRange l → sample_label l < 2 ^ 32
label_range None r = omega arith
label_range (Some x) r = r

sample_range : (f : Filter) → FilterInRange f → HeaderInRange (sample f)
unfolding sample
sample_range f r =
    record {
      version = version_range f.address f.label;
      address = address_range f.address r.address;
      protocol = protocol_range f.protocol _ _ r.protocol;
      local = port_range f.local r.local;
      remote = port_range f.remote r.remote;
      index = index_range f.index r.index;
      class = class_range f.class r.class;
      label = label_range f.label r.label;
    }

pub fittable_says : (f : Filter) → FilterInRange f → Says (fittable f) (SomePacketFits f)
unfolding fittable
fittable_says f r =
    record {
      to = λ e.
          let h = both (valid_header (sample f)) (fits f (sample f)) e in
          record { header = sample f; in_range = sample_range f r; valid = h.0; agrees = h.1 };
      from = λ s. asked_fits f (any_asked f s.header s.valid s.agrees);
    }

-- ---- A filter built from the empty one is well coded as soon as it holds a component and its direction is at most 3.
label_put : (f : Filter) (c : Component) → label_fits f.label ≡ true → too_large c ≡ false → label_fits (put c f).label ≡ true
label_put f (ipv4_remote a mask) e t = e
label_put f (ipv6_remote a mask) e t = e
label_put f (protocol x) e t = e
label_put f (local_port x) e t = e
label_put f (local_range low high) e t = e
label_put f (remote_port x) e t = e
label_put f (remote_range low high) e t = e
label_put f (index x) e t = e
label_put f (class x mask) e t = e
label_put f (label x) e t = le-leb x largest_label (ltb-false largest_label x t)

pub label_added : (f : Filter) (c : Component) → label_fits f.label ≡ true → label_fits (added f c).label ≡ true
unfolding added
label_added f c e = go (too_large c || excluded f (type_of c)) refl
  where
    go : (b : Bool) → too_large c || excluded f (type_of c) ≡ b → label_fits (pick b f (put c f)).label ≡ true
    go true q = e
    go false q = label_put f c e (neither (too_large c) (excluded f (type_of c)) q).0

label_built : (f : Filter) (cs : List Component) → label_fits f.label ≡ true → label_fits (built f cs).label ≡ true
unfolding built
label_built f [] e = e
label_built f (c ∷ cs) e = label_built (added f c) cs (label_added f c e)

pub built_well_coded : (precedence direction : ℕ) (cs : List Component) →
    let f = built (bare precedence direction) cs in
    held f ≡ true → f.direction ≤ 3 → well_coded f ≡ true
unfolding well_coded
built_well_coded precedence direction cs h d =
    let f = built (bare precedence direction) cs in
    rw (h, le-leb f.direction 3 d, label_built (bare precedence direction) cs refl)

-- ---- A type is told excluded exactly where it is held already, or one held excludes it.
pub excluded_says : (f : Filter) (t : ℕ) → Says (excluded f t) (HeldOrExcluded f t)
excluded_says f t = says_so (excluded_in_family f t) there back
  where
    there : HeldInFamily f t → HeldOrExcluded f t
    there h = by (same_or_apart t h.other h.same)
      where
        by : (t ≡ h.other) ⊎ ExcludeEachOther t h.other → HeldOrExcluded f t
        by (inl e) = inl (rw e h.held)
        by (inr a) = inr (record { other = h.other; held = h.held; apart = a })

    back : HeldOrExcluded f t → HeldInFamily f t
    back (inl h) = record { other = t; held = h; same = refl }
    back (inr h) = record { other = h.other; held = h.held; same = apart_kin t h.other h.apart }
