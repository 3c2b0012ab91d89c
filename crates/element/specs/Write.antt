-- The writer: "filters in rising identifier and components in rising type", E and spare bits 0.
use Rattle.std.specs.Prelude.{Result, Ok, Err, ℕ, suc, ◌+◌, ◌*◌, Bool, true, false, not, ◌&&◌, List, [], ◌∷◌, ◌++◌, map, leb, length, drop, None, Option, Some}
use Rattle.laws.specs.Says.{pick}
use Rattle.laws.specs.Lists.{every, repeats}
use Rattle.laws.specs.Octets.{be_bytes}
use Rattle.filter.specs.declared.component.Address.{Address}
use Rattle.filter.specs.declared.component.RemoteAddress.{RemoteAddress}
use Rattle.filter.specs.declared.component.RemoteAddress.TheVariants.{Absent as no_address, V4, V6}
use Rattle.filter.specs.declared.component.Port.{Port}
use Rattle.filter.specs.declared.component.Port.TheVariants.{Absent as no_port, Is as is_port, Range}
use Rattle.filter.specs.declared.component.Class.{Class}
use Rattle.filter.specs.declared.component.Filter.{Filter}
use Rattle.filter.specs.Component.{ipv4_remote_type, ipv6_remote_type, protocol_type, local_port_type, local_range_type, remote_port_type, remote_range_type}
use Rattle.filter.specs.Component.{index_type, class_type, label_type}
use Rattle.filter.specs.Coding.{held, empty_place}
use Rattle.filter.specs.Fittable.{place_fine}
use Rattle.element.specs.declared.answer.SetOperation.{SetOperation}
use Rattle.element.specs.declared.answer.SetOperation.TheVariants.{Create, Add, Replace}
use Rattle.element.specs.declared.answer.BareOperation.{BareOperation}
use Rattle.element.specs.declared.answer.BareOperation.TheVariants.{DeleteTft, NoOperation}
use Rattle.element.specs.declared.answer.Answer.{Answer}
use Rattle.element.specs.declared.answer.Answer.TheVariants.{Filters, Identifiers, Bare, Refused}
use Rattle.element.specs.declared.answer.Element.{Element}
use Rattle.element.specs.declared.write.Unwritten.{Unwritten}
use Rattle.element.specs.declared.write.Unwritten.TheVariants.{NotGiven, TooLong, NoRoom}
use Rattle.element.specs.Head.{longest, first_octet, create, delete_tft, add, replace, delete_filters, no_operation}
use Rattle.element.specs.Read.{Entry, precedence_of}

-- ---- The octets of each kind of component: its type, and its value, big-endian; none where it is absent
abbrev pub address_bytes : Address → List ℕ
address_bytes a = be_bytes 8 a.high ++ be_bytes 8 a.low

abbrev pub remote_octets : RemoteAddress → List ℕ
remote_octets no_address = []
remote_octets (V4 address mask) = ipv4_remote_type ∷ be_bytes 4 address ++ be_bytes 4 mask
remote_octets (V6 address mask) = ipv6_remote_type ∷ address_bytes address ++ address_bytes mask

abbrev pub protocol_octets : Option ℕ → List ℕ
protocol_octets None = []
protocol_octets (Some x) = protocol_type ∷ be_bytes 1 x

abbrev pub port_octets : ℕ → ℕ → Port → List ℕ
port_octets one range no_port = []
port_octets one range (is_port x) = one ∷ be_bytes 2 x
port_octets one range (Range low high) = range ∷ be_bytes 2 low ++ be_bytes 2 high

abbrev pub index_octets : Option ℕ → List ℕ
index_octets None = []
index_octets (Some x) = index_type ∷ be_bytes 4 x

abbrev pub class_octets : Option Class → List ℕ
class_octets None = []
class_octets (Some m) = class_type ∷ be_bytes 1 m.class ++ be_bytes 1 m.mask

abbrev pub label_octets : Option ℕ → List ℕ
label_octets None = []
label_octets (Some x) = label_type ∷ be_bytes 3 x

-- "components in rising type"
unfoldable pub contents_octets : Filter → List ℕ
contents_octets f =
    remote_octets f.address
    ++ (protocol_octets f.protocol
    ++ (port_octets local_port_type local_range_type f.local
    ++ (port_octets remote_port_type remote_range_type f.remote
    ++ (index_octets f.index ++ (class_octets f.class ++ label_octets f.label)))))

unfoldable pub entry_octets : Entry → List ℕ
entry_octets e =
    (e.filter.direction * 16 + e.identifier) ∷ e.filter.precedence ∷ length (contents_octets e.filter) ∷ contents_octets e.filter

-- "filters in rising identifier": what a row holds, its places counted from i
unfoldable pub entries_from : ℕ → List Filter → List Entry
entries_from i [] = []
entries_from i (f ∷ fs) = pick (held f) (record { identifier = i; filter = f } ∷ entries_from (suc i) fs) (entries_from (suc i) fs)

unfoldable pub entries_octets : List Entry → List ℕ
entries_octets [] = []
entries_octets (e ∷ es) = entry_octets e ++ entries_octets es

unfoldable pub marks_from : ℕ → List Bool → List ℕ
marks_from i [] = []
marks_from i (m ∷ ms) = pick m (i ∷ marks_from (suc i) ms) (marks_from (suc i) ms)

-- ---- The whole value
abbrev pub set_number : SetOperation → ℕ
set_number Create = create
set_number Add = add
set_number Replace = replace

abbrev pub bare_number : BareOperation → ℕ
bare_number DeleteTft = delete_tft
bare_number NoOperation = no_operation

abbrev pub octets_by : Answer → List Filter → List Bool → List ℕ
octets_by (Filters operation) row marks = first_octet (set_number operation) (length (entries_from 0 row)) ∷ entries_octets (entries_from 0 row)
octets_by Identifiers row marks = first_octet delete_filters (length (marks_from 0 marks)) ∷ marks_from 0 marks
octets_by (Bare operation) row marks = first_octet (bare_number operation) 0 ∷ []
octets_by (Refused refusal) row marks = []

unfoldable pub octets_of : Element → List ℕ
octets_of e = octets_by e.answer e.filters e.marks

-- ---- "An operation is a set of filters or of identifiers, at most 15"; what the reader could give
-- at least one and at most 15
abbrev pub one_to_fifteen : ℕ → Bool
one_to_fifteen n = leb 1 n && leb n 15

unfoldable pub row_given : List Filter → Bool
row_given row = every place_fine row && one_to_fifteen (length (entries_from 0 row)) && not (repeats (map precedence_of (entries_from 0 row)))

unfoldable pub marks_given : List Bool → Bool
marks_given marks = one_to_fifteen (length (marks_from 0 marks))

abbrev pub given_by : Answer → List Filter → List Bool → Bool
given_by (Filters operation) row marks = row_given row && every not marks
given_by Identifiers row marks = every empty_place row && marks_given marks
given_by (Bare kind) row marks = every empty_place row && every not marks
given_by (Refused refusal) row marks = false

unfoldable pub given : Element → Bool
given e = given_by e.answer e.filters e.marks

-- ---- "Writer: 10, 11, 9. Octets after those written stay." A refusal leaves the buffer
pub record WriteOutcome : Type 0 where
  pub written : Result ℕ Unwritten
  pub buffer : List ℕ

abbrev pub leaves : Unwritten → List ℕ → WriteOutcome
leaves why buffer = record { written = Err why; buffer = buffer }

abbrev pub wrote : List ℕ → List ℕ → WriteOutcome
wrote xs buffer = record { written = Ok (length xs); buffer = xs ++ drop (length xs) buffer }

-- by whether the reader could give it, whether it is short enough, and whether there is room
abbrev pub written_by : Bool → Bool → Bool → Element → List ℕ → WriteOutcome
written_by false short room e buffer = leaves NotGiven buffer
written_by true false room e buffer = leaves TooLong buffer
written_by true true false e buffer = leaves NoRoom buffer
written_by true true true e buffer = wrote (octets_of e) buffer

unfoldable pub write_of : Element → List ℕ → WriteOutcome
write_of e buffer = written_by (given e) (leb (length (octets_of e)) longest) (leb (length (octets_of e)) (length buffer)) e buffer
