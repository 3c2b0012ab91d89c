-- "The value of the EPS bearer context status element (TS 24.301 9.9.2.1)"
use Rattle.std.specs.Prelude.{◌≡◌, ℕ, ◌/◌, ◌%◌, ◌^◌, Bool, true, not, List, eqb, get_or, set}
use Rattle.std.specs.Int.Bits.{bit_and, bit_or}

-- "two octets"
abbrev pub status_octets : ℕ
status_octets = 2

-- "identities 7 down to 0 in bits 8 to 1 of the first, 15 down to 8 in the second": the octet of an identity, counted from 0, and its bit there as a number
abbrev pub octet_of : ℕ → ℕ
octet_of identity = identity / 8

abbrev pub bit_of : ℕ → ℕ
bit_of identity = 2 ^ (identity % 8)

-- "1 for active": whether a value shows an identity active ..
unfoldable pub shown_active : List ℕ → ℕ → Bool
shown_active value identity = not (eqb (bit_and (get_or value (octet_of identity) 0) (bit_of identity)) 0)

-- .. and the value that shows it active too
unfoldable pub showing : List ℕ → ℕ → List ℕ
showing value identity = set value (octet_of identity) (bit_or (get_or value (octet_of identity) 0) (bit_of identity))

abbrev pub Shown : List ℕ → ℕ → Type 0
Shown value identity = shown_active value identity ≡ true
