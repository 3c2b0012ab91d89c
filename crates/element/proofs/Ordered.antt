-- What is written stands in order: filters in rising identifier, components in rising type.
use Rattle.std.specs.Prelude.{None, Option, Some}
use mathlib.Core.Path.{◌≡◌, refl}
use mathlib.Core.Bool.{Bool, true, false, not, false≢true}
use mathlib.Core.List.{List, [], ◌∷◌, ◌++◌, map, append-nil, append_assoc}
use Prim.Native.Nat.{ℕ, suc, ◌+◌, ◌*◌, ◌%◌, ◌≤◌, ◌<◌}
use native.Mathlib.Omega.{arith}
use lib.ListN.{length}
use Rattle.laws.specs.Lists.{All, Each, every}
use Rattle.laws.proofs.Octets.{length_be}
use Rattle.laws.proofs.Says.{picked}
use Rattle.laws.proofs.Tests.{both}
use Rattle.filter.specs.declared.component.RemoteAddress.{RemoteAddress}
use Rattle.filter.specs.declared.component.RemoteAddress.TheVariants.{Absent as no_address, V4, V6}
use Rattle.filter.specs.declared.component.Port.{Port}
use Rattle.filter.specs.declared.component.Port.TheVariants.{Absent as no_port, Is as is_port, Range}
use Rattle.filter.specs.declared.component.Class.{Class}
use Rattle.filter.specs.declared.component.Filter.{Filter}
use Rattle.filter.specs.Component.{ipv4_remote_type, protocol_type, local_port_type, local_range_type, remote_port_type, remote_range_type, index_type, class_type, label_type}
use Rattle.filter.specs.Coding.{held, empty_place}
use Rattle.filter.specs.Ranges.{FilterInRange}
use Rattle.filter.specs.Sizes.{place_count}
use Rattle.element.specs.declared.answer.BareOperation.TheVariants.{DeleteTft, NoOperation}
use Rattle.element.specs.declared.answer.Answer.{Answer}
use Rattle.element.specs.declared.answer.Answer.TheVariants.{Filters, Identifiers, Bare, Refused}
use Rattle.element.specs.declared.answer.Element.{Element}
use Rattle.element.specs.Contents.{length_of}
use Rattle.element.specs.Framing.{identifier_in, identifier_of, rest_fits, framed_by, framed_of}
use Rattle.element.specs.Read.{Entry}
use Rattle.element.specs.Write.{remote_octets, protocol_octets, port_octets, index_octets, class_octets, label_octets, contents_octets, entries_from, marks_from, octets_by, octets_of, row_given, marks_given, given_by, given}
use Rattle.element.specs.Order.{Rising, types_from, InOrder}
use Rattle.element.specs.Meaning.{ElementInRange}
use Rattle.element.proofs.RoundContents.{pair_long, addresses_long}
use Rattle.element.proofs.RoundTrip.{raw_of, row_given_lem, counted, filters_framed, marks_framed}

-- ---- Rising from k on: the first is at least k, and each after it more than the one before
data RisingFrom : ℕ → List ℕ → Type 0 where
  end : {k : ℕ} → RisingFrom k []
  next : {k x : ℕ} {xs : List ℕ} → k ≤ x → RisingFrom (suc x) xs → RisingFrom k (x ∷ xs)

rising : {k : ℕ} {xs : List ℕ} → RisingFrom k xs → Rising xs
rising end = tt
rising (next l end) = tt
rising (next l (next m h)) = (m, rising (next m h))

from_less : {j k : ℕ} {xs : List ℕ} → j ≤ k → RisingFrom k xs → RisingFrom j xs
from_less l end = end
from_less {j} l (next {x = x} m h) = next {k = j} {x = x} (omega arith) h

from_next : {x : ℕ} {xs : List ℕ} → RisingFrom (suc x) xs → RisingFrom x (x ∷ xs)
from_next {x} h = next {k = x} {x = x} (omega arith) h

-- ---- A filter's contents: octets whose types are at least low and below high, before others whose types are at least high
record Part (low : ℕ) (xs : List ℕ) (high : ℕ) : Type 0 where
  before : (rest : List ℕ) → RisingFrom high (types_from 0 rest) → RisingFrom low (types_from 0 (xs ++ rest))

passed : (v rest : List ℕ) → types_from (length v) (v ++ rest) ≡ types_from 0 rest
unfolding types_from
passed [] rest = refl
passed (x ∷ v) rest = passed v rest

-- a component that is absent, and one of type t with the value v
none : {low high : ℕ} → low ≤ high → Part low [] high
none l = record { before = λ rest h. from_less l h }

one : {low t high : ℕ} {v : List ℕ} → length v ≡ length_of t → low ≤ t → t < high → Part low (t ∷ v) high
unfolding types_from
one {v = v} q l m = record { before = λ rest h. from_less l (from_next (rw (← q, passed v rest) (from_less m h))) }

joined : {low middle high : ℕ} {xs ys : List ℕ} → Part low xs middle → Part middle ys high → Part low (xs ++ ys) high
joined {xs = xs} {ys = ys} p q = record { before = λ rest h. rw append_assoc (p.before (ys ++ rest) (q.before rest h)) }

remote_part : (a : RemoteAddress) → Part ipv4_remote_type (remote_octets a) protocol_type
unfolding length_of
remote_part no_address = none (omega arith)
remote_part (V4 a mask) = one (pair_long 4 a mask) (omega arith) (omega arith)
remote_part (V6 a mask) = one (addresses_long a mask) (omega arith) (omega arith)

protocol_part : (p : Option ℕ) → Part protocol_type (protocol_octets p) local_port_type
unfolding length_of
protocol_part None = none (omega arith)
protocol_part (Some x) = one (length_be 1 x) (omega arith) (omega arith)

-- a port or a range, of types t and u
port_part : (t u high : ℕ) (p : Port) → length_of t ≡ 2 → length_of u ≡ 4 → t < u → u < high → Part t (port_octets t u p) high
port_part t u high no_port two four l m = none (omega arith)
port_part t u high (is_port x) two four l m = one (rw two (length_be 2 x)) (omega arith) (omega arith)
port_part t u high (Range low top) two four l m = one (rw four (pair_long 2 low top)) (omega arith) (omega arith)

index_part : (i : Option ℕ) → Part index_type (index_octets i) class_type
unfolding length_of
index_part None = none (omega arith)
index_part (Some x) = one (length_be 4 x) (omega arith) (omega arith)

class_part : (c : Option Class) → Part class_type (class_octets c) label_type
unfolding length_of
class_part None = none (omega arith)
class_part (Some m) = one (pair_long 1 m.class m.mask) (omega arith) (omega arith)

label_part : (b : Option ℕ) → Part label_type (label_octets b) 0x100
unfolding length_of
label_part None = none (omega arith)
label_part (Some x) = one (length_be 3 x) (omega arith) (omega arith)

contents_part : (f : Filter) → Part ipv4_remote_type (contents_octets f) 0x100
unfolding contents_octets length_of
contents_part f =
    joined (remote_part f.address)
    (joined (protocol_part f.protocol)
    (joined (port_part local_port_type local_range_type remote_port_type f.local refl refl (omega arith) (omega arith))
    (joined (port_part remote_port_type remote_range_type index_type f.remote refl refl (omega arith) (omega arith))
    (joined (index_part f.index) (joined (class_part f.class) (label_part f.label))))))

contents_rising : (f : Filter) → Rising (types_from 0 (contents_octets f))
unfolding types_from
contents_rising f = rw (← append-nil (contents_octets f)) (rising ((contents_part f).before [] end))

entries_rising : (es : List Entry) → All (λ r. Rising (types_from 0 r.contents)) (map raw_of es)
entries_rising [] = tt
entries_rising (e ∷ es) = (contents_rising e.filter, entries_rising es)

-- ---- The filters of a row and the marked identifiers, both counted from i
row_rising : (i : ℕ) (fs : List Filter) → i + length fs ≤ place_count → RisingFrom i (map identifier_of (map raw_of (entries_from i fs)))
unfolding entries_from
row_rising i [] l = end
row_rising i (f ∷ fs) l =
    let x : (f.direction * 16 + i) % 16 ≡ i = omega arith in
    let rest = row_rising (suc i) fs (omega arith) in
    picked (λ (es : List Entry). RisingFrom i (map identifier_of (map raw_of es))) (held f) _ _ (rw x (from_next rest)) (from_less (omega arith) rest)

marks_rising : (i : ℕ) (ms : List Bool) → i + length ms ≤ place_count → RisingFrom i (map identifier_in (marks_from i ms))
unfolding marks_from
marks_rising i [] l = end
marks_rising i (true ∷ ms) l =
    let x : i % 16 ≡ i = omega arith in
    rw x (from_next (marks_rising (suc i) ms (omega arith)))
marks_rising i (false ∷ ms) l = from_less (omega arith) (marks_rising (suc i) ms (omega arith))

-- ---- The whole value
order_by : (answer : Answer) (row : List Filter) (marks : List Bool) → Each FilterInRange place_count row → length marks ≡ place_count → given_by answer row marks ≡ true
    → InOrder (framed_of (octets_by answer row marks))
unfolding marks_given framed_of framed_by rest_fits
order_by (Filters operation) row marks r l e =
    let g = row_given_lem row r (both (row_given row) (every not marks) e).0 in
    rw (filters_framed operation (entries_from 0 row) g.count)
    (rising (row_rising 0 row (omega (arith, r.count))), entries_rising (entries_from 0 row))
order_by Identifiers row marks r l e =
    let all = both (every empty_place row) (marks_given marks) e in
    rw (marks_framed (marks_from 0 marks) (counted _ all.1)) (rising (marks_rising 0 marks (omega arith)))
order_by (Bare DeleteTft) row marks r l e = tt
order_by (Bare NoOperation) row marks r l e = tt
order_by (Refused refusal) row marks r l e = absurd (false≢true e)

pub in_order_lem : (e : Element) → ElementInRange e → given e ≡ true → InOrder (framed_of (octets_of e))
unfolding octets_of given
in_order_lem e r g = order_by e.answer e.filters e.marks r.filters r.marks g
