-- A filter's contents: the components' types, lengths and values.
use Rattle.std.specs.Prelude.{ℕ, zero, suc, ◌%◌, ◌^◌, Bool, not, ◌&&◌, List, [], ◌∷◌, eqb, leb, take, drop, get_or, None, Option, Some}
use Rattle.laws.specs.Says.{pick}
use Rattle.laws.specs.Octets.{be_of}
use Rattle.filter.specs.declared.component.Address.{Address}
use Rattle.filter.specs.declared.component.Filter.{Filter}
use Rattle.filter.specs.Component.{ipv4_remote_type, ipv6_remote_type, protocol_type, local_port_type, local_range_type, remote_port_type, remote_range_type}
use Rattle.filter.specs.Component.{index_type, class_type, label_type}
use Rattle.filter.specs.Build.{Component, ipv4_remote, ipv6_remote, protocol, local_port, local_range, remote_port, remote_range, index, class, label}
use Rattle.filter.specs.Build.{bare, excluded, added}
use Rattle.laws.specs.Index.{all_below}
use Rattle.element.specs.Framing.{Raw, direction_of}

-- ---- "Component types and value lengths": a type, how many octets its value has, and what component they say
pub record TypeRow : Type 0 where
  pub type : ℕ
  pub octets : ℕ
  pub meaning : List ℕ → Component

abbrev pub type_row : ℕ → ℕ → (List ℕ → Component) → TypeRow
type_row type octets meaning = record { type = type; octets = octets; meaning = meaning }

-- "Numbers are big-endian."
abbrev pub number : (ℕ → Component) → List ℕ → Component
number make xs = make (be_of xs)

-- two numbers, the first of w octets
abbrev pub numbers : ℕ → (ℕ → ℕ → Component) → List ℕ → Component
numbers w make xs = make (be_of (take w xs)) (be_of (drop w xs))

abbrev pub address_of : List ℕ → Address
address_of xs = record { high = be_of (take 8 xs); low = be_of (drop 8 xs) }

abbrev pub type_table : List TypeRow
type_table =
    type_row ipv4_remote_type 8 (numbers 4 ipv4_remote)
    ∷ type_row ipv6_remote_type 32 (λ xs. ipv6_remote (address_of (take 16 xs)) (address_of (drop 16 xs)))
    ∷ type_row protocol_type 1 (number protocol)
    ∷ type_row local_port_type 2 (number local_port)
    ∷ type_row local_range_type 4 (numbers 2 local_range)
    ∷ type_row remote_port_type 2 (number remote_port)
    ∷ type_row remote_range_type 4 (numbers 2 remote_range)
    ∷ type_row index_type 4 (number index)
    ∷ type_row class_type 2 (numbers 1 class)
    -- "flow label, low 20 bits"
    ∷ type_row label_type 3 (λ xs. label (be_of xs % 2 ^ 20))
    ∷ []

-- a column of the table at type t; `unknown` where the type is not listed
abbrev pub look_up : {A : Type 0} → (TypeRow → A) → A → ℕ → List TypeRow → A
look_up column unknown t [] = unknown
look_up column unknown t (l ∷ ls) = pick (eqb t l.type) (column l) (look_up column unknown t ls)

-- "The length for each of the 256 type octets is one table, 0 where the type is unknown."
unfoldable pub length_of : ℕ → ℕ
length_of t = look_up (λ l. l.octets) 0 t type_table

-- ---- the table of lengths: each of its 256 entries is its type's length, the longest that of an IPv6 address and its mask
abbrev pub lengths_right : List ℕ → Bool
lengths_right lengths = all_below (λ t. eqb (get_or lengths t 0) (length_of t) && leb (get_or lengths t 0) 32) 256

abbrev pub known : ℕ → Bool
known t = leb 1 (length_of t)

-- the component of type t whose value is xs; an unknown type is never asked for
unfoldable pub component_of : ℕ → List ℕ → Component
component_of t xs = look_up (λ l. l.meaning xs) (protocol 0) t type_table

-- ---- "A badly coded filter (unknown or repeated type, component past its contents, empty contents, forbidden pair)"
-- what the octets say after the filter f so far, of whose last component k octets are still to pass
unfoldable pub contents_from : ℕ → Filter → List ℕ → Option Filter
contents_from zero f [] = Some f
contents_from (suc k) f [] = None
contents_from zero f (t ∷ xs) =
    pick (known t && not (excluded f t)) (contents_from (length_of t) (added f (component_of t (take (length_of t) xs))) xs) None
contents_from (suc k) f (x ∷ xs) = contents_from k f xs

-- f is the filter without a component; "Contents hold at least one component"
unfoldable pub contents_of : Filter → List ℕ → Option Filter
contents_of f [] = None
contents_of f (t ∷ xs) = contents_from 0 f (t ∷ xs)

-- a filter as it is framed, decoded
unfoldable pub coded_of : Raw → Option Filter
coded_of r = contents_of (bare r.precedence (direction_of r)) r.contents
