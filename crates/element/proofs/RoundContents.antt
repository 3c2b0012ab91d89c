-- A filter's contents that are written are read back: each component in turn, and none of its octets is more than an octet.
-- Assumes nothing.
use Rattle.std.specs.Prelude.{None, Option, Some}
use mathlib.Core.Path.{◌≡◌, refl, sym, ap, ap₂, ◌∙◌}
use mathlib.Core.Bool.{true, false, ◌&&◌, false≢true}
use mathlib.Core.List.{List, [], ◌∷◌, ◌++◌, append-nil}
use Prim.Native.Nat.{ℕ, ◌+◌, ◌*◌, ◌^◌, ◌≤◌, ◌<◌}
use native.Mathlib.Nat.{mod-eq_of_lt}
use native.Mathlib.Omega.{arith}
use lib.Dec.{leb}
use lib.ListN.{length, take, drop, length-append}
use lib.Seq.{take_at, drop_at}
use borrow.Author.Tests.{le-ltb, leb-true}
use Rattle.std.proofs.Common.{Some}
use Rattle.laws.specs.Lists.{All}
use Rattle.laws.specs.Octets.{be_of, be_bytes}
use Rattle.laws.proofs.Tests.{both}
use Rattle.laws.proofs.Lists.{all_append}
use Rattle.laws.proofs.Octets.{length_be, be_octets, be_round}
use Rattle.filter.specs.declared.component.Address.{Address}
use Rattle.filter.specs.declared.component.RemoteAddress.{RemoteAddress}
use Rattle.filter.specs.declared.component.RemoteAddress.TheVariants.{Absent as no_address, V4, V6}
use Rattle.filter.specs.declared.component.Port.{Port}
use Rattle.filter.specs.declared.component.Port.TheVariants.{Absent as no_port, Is as is_port, Range}
use Rattle.filter.specs.declared.component.Class.{Class}
use Rattle.filter.specs.declared.component.Filter.{Filter}
use Rattle.filter.specs.Component.{type_of_address, type_of_protocol, type_of_port, type_of_index, type_of_class, excludes, largest_label}
use Rattle.filter.specs.Coding.{held, label_fits, well_coded}
use Rattle.filter.specs.Build.{Component, ipv4_remote, ipv6_remote, protocol, local_port, local_range, remote_port, remote_range, index, class, label, type_of, bare, put, excluded, too_large, added}
use Rattle.filter.specs.Ranges.{AddressInRange, RemoteInRange, ProtocolInRange, PortInRange, IndexInRange, ClassInRange, FilterInRange}
use Rattle.element.specs.Contents.{length_of, known, address_of, component_of, contents_from, contents_of}
use Rattle.element.specs.Write.{address_bytes, remote_octets, protocol_octets, port_octets, index_octets, class_octets, label_octets, contents_octets}
use Rattle.element.specs.Meaning.{Octet}
use Rattle.element.proofs.Reading.{pass}

-- from the filter f so far, the octets xs make the filter g
abbrev Reads : Filter → List ℕ → Filter → Type 0
Reads f xs g = (rest : List ℕ) → contents_from 0 f (xs ++ rest) ≡ contents_from 0 g rest

-- ---- one component: its type, and its value v
read_component : (f : Filter) (c : Component) (v : List ℕ) → known (type_of c) ≡ true → length v ≡ length_of (type_of c) → component_of (type_of c) v ≡ c
    → too_large c ≡ false → excluded f (type_of c) ≡ false → Reads f (type_of c ∷ v) (put c f)
unfolding contents_from added
read_component f c v k l e s x rest =
    let w = length_of (type_of c) in
    let m : w ≤ length (v ++ rest) = simp (length-append, l) (omega arith) in
    let p : contents_from w (put c f) (v ++ rest) ≡ contents_from 0 (put c f) rest
    = pass w (put c f) (v ++ rest) m ∙ ap (contents_from 0 (put c f)) (drop_at v rest w l) in
    rw (k, x, take_at v rest w l, e, s, x) p

-- the values: two numbers of w octets each
pub pair_long : (w x y : ℕ) → length (be_bytes w x ++ be_bytes w y) ≡ w + w
pair_long w x y = simp (length-append, length_be)

pair_first : (w x y : ℕ) → x < 2 ^ (8 * w) → be_of (take w (be_bytes w x ++ be_bytes w y)) ≡ x
pair_first w x y h = rw (take_at (be_bytes w x) (be_bytes w y) w (length_be w x)) (be_round w x h)

pair_second : (w x y : ℕ) → y < 2 ^ (8 * w) → be_of (drop w (be_bytes w x ++ be_bytes w y)) ≡ y
pair_second w x y h = rw (drop_at (be_bytes w x) (be_bytes w y) w (length_be w x)) (be_round w y h)

address_long : (a : Address) → length (address_bytes a) ≡ 16
address_long a = pair_long 8 a.high a.low

pub addresses_long : (a mask : Address) → length (address_bytes a ++ address_bytes mask) ≡ 32
addresses_long a mask = simp (length-append, length_be)

address_round : (a : Address) → AddressInRange a → address_of (address_bytes a) ≡ a
address_round a r = rw (pair_first 8 a.high a.low r.high, pair_second 8 a.high a.low r.low)

-- ---- a type excludes none of another family
address_apart : (t : ℕ) → excludes t 0x10 ≡ false → (a : RemoteAddress) → excludes t (type_of_address a) ≡ false
address_apart t one no_address = refl
address_apart t one (V4 a mask) = one
address_apart t one (V6 a mask) = one

protocol_apart : (t : ℕ) → excludes t 0x30 ≡ false → (p : Option ℕ) → excludes t (type_of_protocol p) ≡ false
protocol_apart t one None = refl
protocol_apart t one (Some x) = one

port_apart : (t u v : ℕ) → excludes t u ≡ false → excludes t v ≡ false → (p : Port) → excludes t (type_of_port u v p) ≡ false
port_apart t u v one two no_port = refl
port_apart t u v one two (is_port x) = one
port_apart t u v one two (Range low high) = two

index_apart : (t : ℕ) → excludes t 0x60 ≡ false → (i : Option ℕ) → excludes t (type_of_index i) ≡ false
index_apart t one None = refl
index_apart t one (Some x) = one

class_apart : (t : ℕ) → excludes t 0x70 ≡ false → (c : Option Class) → excludes t (type_of_class c) ≡ false
class_apart t one None = refl
class_apart t one (Some m) = one

-- ---- each kind, after those of lower types
module _ (precedence direction : ℕ) where
  abbrev with : RemoteAddress → Option ℕ → Port → Port → Option ℕ → Option Class → Option ℕ → Filter
  with a p l r i c b =
      record { precedence = precedence; direction = direction; address = a; protocol = p; local = l; remote = r; index = i; class = c; label = b }

  at_address : (a : RemoteAddress) → RemoteInRange a
      → Reads (bare precedence direction) (remote_octets a) (with a None no_port no_port None None None)
  unfolding length_of component_of excluded
  at_address no_address h = λ rest. refl
  at_address (V4 a mask) h =
      read_component _ (ipv4_remote a mask) (be_bytes 4 a ++ be_bytes 4 mask) refl (pair_long 4 a mask)
      (rw (pair_first 4 a mask h.0, pair_second 4 a mask h.1)) refl refl
  at_address (V6 a mask) h =
      read_component _ (ipv6_remote a mask) (address_bytes a ++ address_bytes mask) refl (addresses_long a mask)
      (rw (take_at (address_bytes a) (address_bytes mask) 16 (address_long a), drop_at (address_bytes a) (address_bytes mask) 16 (address_long a))
      (ap₂ ipv6_remote (address_round a h.0) (address_round mask h.1))) refl refl

  at_protocol : (a : RemoteAddress) (p : Option ℕ) → ProtocolInRange p
      → Reads (with a None no_port no_port None None None) (protocol_octets p) (with a p no_port no_port None None None)
  unfolding length_of component_of excluded
  at_protocol a None h = λ rest. refl
  at_protocol a (Some x) h =
      read_component _ (protocol x) (be_bytes 1 x) refl (length_be 1 x) (rw (be_round 1 x h)) refl (rw (address_apart 0x30 refl a))

  -- a range's type excludes what the port's does
  local_free : (a : RemoteAddress) (p : Option ℕ) → excluded (with a p no_port no_port None None None) 0x40 ≡ false
  unfolding excluded
  local_free a p = rw (address_apart 0x40 refl a, protocol_apart 0x40 refl p)

  at_local : (a : RemoteAddress) (p : Option ℕ) (l : Port) → PortInRange l
      → Reads (with a p no_port no_port None None None) (port_octets 0x40 0x41 l) (with a p l no_port None None None)
  unfolding length_of component_of excluded
  at_local a p no_port h = λ rest. refl
  at_local a p (is_port x) h =
      read_component _ (local_port x) (be_bytes 2 x) refl (length_be 2 x) (rw (be_round 2 x h)) refl (local_free a p)
  at_local a p (Range low high) h =
      read_component _ (local_range low high) (be_bytes 2 low ++ be_bytes 2 high) refl (pair_long 2 low high)
      (rw (pair_first 2 low high h.0, pair_second 2 low high h.1)) refl (local_free a p)

  remote_free : (a : RemoteAddress) (p : Option ℕ) (l : Port) → excluded (with a p l no_port None None None) 0x50 ≡ false
  unfolding excluded
  remote_free a p l = rw (address_apart 0x50 refl a, protocol_apart 0x50 refl p, port_apart 0x50 0x40 0x41 refl refl l)

  at_remote : (a : RemoteAddress) (p : Option ℕ) (l r : Port) → PortInRange r
      → Reads (with a p l no_port None None None) (port_octets 0x50 0x51 r) (with a p l r None None None)
  unfolding length_of component_of excluded
  at_remote a p l no_port h = λ rest. refl
  at_remote a p l (is_port x) h =
      read_component _ (remote_port x) (be_bytes 2 x) refl (length_be 2 x) (rw (be_round 2 x h)) refl (remote_free a p l)
  at_remote a p l (Range low high) h =
      read_component _ (remote_range low high) (be_bytes 2 low ++ be_bytes 2 high) refl (pair_long 2 low high)
      (rw (pair_first 2 low high h.0, pair_second 2 low high h.1)) refl (remote_free a p l)

  at_index : (a : RemoteAddress) (p : Option ℕ) (l r : Port) (i : Option ℕ) → IndexInRange i
      → Reads (with a p l r None None None) (index_octets i) (with a p l r i None None)
  unfolding length_of component_of excluded
  at_index a p l r None h = λ rest. refl
  at_index a p l r (Some x) h =
      read_component _ (index x) (be_bytes 4 x) refl (length_be 4 x) (rw (be_round 4 x h)) refl
      (rw (
        address_apart 0x60 refl a,
        protocol_apart 0x60 refl p,
        port_apart 0x60 0x40 0x41 refl refl l,
        port_apart 0x60 0x50 0x51 refl refl r,
      ))

  at_class : (a : RemoteAddress) (p : Option ℕ) (l r : Port) (i : Option ℕ) (c : Option Class) → ClassInRange c
      → Reads (with a p l r i None None) (class_octets c) (with a p l r i c None)
  unfolding length_of component_of excluded
  at_class a p l r i None h = λ rest. refl
  at_class a p l r i (Some m) h =
      read_component _ (class m.class m.mask) (be_bytes 1 m.class ++ be_bytes 1 m.mask) refl (pair_long 1 m.class m.mask)
      (rw (pair_first 1 m.class m.mask h.0, pair_second 1 m.class m.mask h.1)) refl
      (rw (
        address_apart 0x70 refl a,
        protocol_apart 0x70 refl p,
        port_apart 0x70 0x40 0x41 refl refl l,
        port_apart 0x70 0x50 0x51 refl refl r,
        index_apart 0x70 refl i,
      ))

  -- of the label's three octets, the low 20 bits are all that it has
  at_label : (a : RemoteAddress) (p : Option ℕ) (l r : Port) (i : Option ℕ) (c : Option Class) (b : Option ℕ) → label_fits b ≡ true
      → Reads (with a p l r i c None) (label_octets b) (with a p l r i c b)
  unfolding length_of component_of excluded
  at_label a p l r i c None h = λ rest. refl
  at_label a p l r i c (Some x) h =
      let small = leb-true x largest_label h in
      read_component _ (label x) (be_bytes 3 x) refl (length_be 3 x) (rw (be_round 3 x (omega arith), mod-eq_of_lt {n = x} {m = 2 ^ 20} (omega arith)))
      (le-ltb largest_label x small)
      (rw (
        address_apart 0x80 refl a,
        protocol_apart 0x80 refl p,
        port_apart 0x80 0x40 0x41 refl refl l,
        port_apart 0x80 0x50 0x51 refl refl r,
        index_apart 0x80 refl i,
        class_apart 0x80 refl c,
      ))

-- ---- the whole contents
from_bare : (f : Filter) → FilterInRange f → label_fits f.label ≡ true
    → contents_from 0 (bare f.precedence f.direction) (contents_octets f) ≡ Some f
unfolding contents_octets contents_from
from_bare f r h =
    at_address f.precedence f.direction f.address r.address _
    ∙ at_protocol f.precedence f.direction f.address f.protocol r.protocol _
    ∙ at_local f.precedence f.direction f.address f.protocol f.local r.local _
    ∙ at_remote f.precedence f.direction f.address f.protocol f.local f.remote r.remote _
    ∙ at_index f.precedence f.direction f.address f.protocol f.local f.remote f.index r.index _
    ∙ at_class f.precedence f.direction f.address f.protocol f.local f.remote f.index f.class r.class _
    ∙ rw (← append-nil (label_octets f.label))
    (at_label f.precedence f.direction f.address f.protocol f.local f.remote f.index f.class f.label h [])

-- a filter that is held was not read from nothing
some_contents : (f g : Filter) (xs : List ℕ) → contents_from 0 g xs ≡ Some f → held g ≡ false → held f ≡ true → contents_of g xs ≡ Some f
unfolding contents_from contents_of
some_contents f g [] e n h =
    let same : g ≡ f = cc in
    absurd (false≢true (sym n ∙ ap held same ∙ h))
some_contents f g (x ∷ xs) e n h = e

-- what "well coded" says
pub record WellCoded (f : Filter) : Type 0 where
  pub held : held f ≡ true
  pub direction : f.direction ≤ 3
  pub label : label_fits f.label ≡ true

pub well_coded_lem : (f : Filter) → well_coded f ≡ true → WellCoded f
unfolding well_coded
well_coded_lem f e =
    let all = both (held f && leb f.direction 3) (label_fits f.label) e in
    let first = both (held f) (leb f.direction 3) all.0 in
    record { held = first.0; direction = leb-true f.direction 3 first.1; label = all.1 }

pub contents_round : (f : Filter) → FilterInRange f → WellCoded f
    → contents_of (bare f.precedence f.direction) (contents_octets f) ≡ Some f
unfolding held
contents_round f r w = some_contents f _ (contents_octets f) (from_bare f r w.label) refl w.held

-- ---- its octets, and how many there are
-- octets, at most n of them
pub record AtMost (n : ℕ) (xs : List ℕ) : Type 0 where
  pub each : All Octet xs
  pub count : length xs ≤ n

be_many : (w n : ℕ) → AtMost w (be_bytes w n)
be_many w n = record { each = be_octets w n; count = omega (arith, length_be w n) }

join : {m n : ℕ} {xs ys : List ℕ} → AtMost m xs → AtMost n ys → AtMost (m + n) (xs ++ ys)
join {xs = xs} {ys = ys} h g = record { each = all_append Octet xs ys h.each g.each; count = simp length-append (omega arith) }

pair_many : (w x y : ℕ) → AtMost (w + w) (be_bytes w x ++ be_bytes w y)
pair_many w x y = join (be_many w x) (be_many w y)

none_many : (n : ℕ) → AtMost n []
none_many n = record { each = tt; count = omega arith }

-- a type, and its value
typed : {t m n : ℕ} {v : List ℕ} → t < 256 → m < n → AtMost m v → AtMost n (t ∷ v)
typed h l v = record { each = (h, v.each); count = omega arith }

remote_many : (a : RemoteAddress) → AtMost 33 (remote_octets a)
remote_many no_address = none_many 33
remote_many (V4 a mask) = typed (omega arith) (omega arith) (pair_many 4 a mask)
remote_many (V6 a mask) =
    typed (omega arith) (omega arith) (join (pair_many 8 a.high a.low) (pair_many 8 mask.high mask.low))

protocol_many : (p : Option ℕ) → AtMost 2 (protocol_octets p)
protocol_many None = none_many 2
protocol_many (Some x) = typed (omega arith) (omega arith) (be_many 1 x)

port_many : (t u : ℕ) (p : Port) → t < 256 → u < 256 → AtMost 5 (port_octets t u p)
port_many t u no_port h g = none_many 5
port_many t u (is_port x) h g = typed h (omega arith) (be_many 2 x)
port_many t u (Range low high) h g = typed g (omega arith) (pair_many 2 low high)

index_many : (i : Option ℕ) → AtMost 5 (index_octets i)
index_many None = none_many 5
index_many (Some x) = typed (omega arith) (omega arith) (be_many 4 x)

class_many : (c : Option Class) → AtMost 3 (class_octets c)
class_many None = none_many 3
class_many (Some m) = typed (omega arith) (omega arith) (pair_many 1 m.class m.mask)

label_many : (b : Option ℕ) → AtMost 4 (label_octets b)
label_many None = none_many 4
label_many (Some x) = typed (omega arith) (omega arith) (be_many 3 x)

pub contents_many : (f : Filter) → AtMost 57 (contents_octets f)
unfolding contents_octets
contents_many f =
    join (remote_many f.address)
    (join (protocol_many f.protocol)
    (join (port_many 0x40 0x41 f.local (omega arith) (omega arith))
    (join (port_many 0x50 0x51 f.remote (omega arith) (omega arith))
    (join (index_many f.index) (join (class_many f.class) (label_many f.label))))))
