-- Octet 1, and what can be said of a value by its length and octet 1 alone.
use Rattle.std.specs.Prelude.{ℕ, ◌+◌, ◌*◌, ◌/◌, ◌%◌, Bool, ◌&&◌, List, leb, length, get_or}

-- "The value is 1 to 255 octets."
abbrev pub longest : ℕ
longest = 255

-- "Octet 1: operation in bits 8 to 6, E in bit 5, count in bits 4 to 1."
abbrev pub operation_in : ℕ → ℕ
operation_in octet = octet / 32

abbrev pub extension_in : ℕ → ℕ
extension_in octet = octet / 16 % 2

abbrev pub count_in : ℕ → ℕ
count_in octet = octet % 16

-- "The writer sets E to 0."
abbrev pub first_octet : ℕ → ℕ → ℕ
first_octet operation count = operation * 32 + count

-- "Operations: 1 create, 2 delete TFT, 3 add, 4 replace, 5 delete filters, 6 no operation; 0 and 7 are refused (house)."
abbrev pub create : ℕ
create = 1

abbrev pub delete_tft : ℕ
delete_tft = 2

abbrev pub add : ℕ
add = 3

abbrev pub replace : ℕ
replace = 4

abbrev pub delete_filters : ℕ
delete_filters = 5

abbrev pub no_operation : ℕ
no_operation = 6

-- the operation of a value; of one without octets it is 0
abbrev pub operation_of : List ℕ → ℕ
operation_of value = operation_in (get_or value 0 0)

-- Step 4: "Value length 0 or above 255, operation 0 or 7: 42."
unfoldable pub head_fine : List ℕ → Bool
head_fine value = leb 1 (length value) && leb (length value) longest && leb create (operation_of value) && leb (operation_of value) no_operation
