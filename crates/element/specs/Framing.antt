-- How a value's octets are framed.
use Rattle.std.specs.Prelude.{ℕ, zero, suc, ◌/◌, ◌%◌, Bool, true, false, not, ◌&&◌, List, [], ◌∷◌, eqb, leb, length, take, drop}
use Rattle.laws.specs.Says.{pick}
use Rattle.element.specs.Head.{operation_in, extension_in, count_in, create, delete_tft, add, replace, delete_filters, no_operation}
use Rattle.element.specs.declared.answer.SetOperation.{SetOperation, TheVariants.Create, TheVariants.Add, TheVariants.Replace}
use Rattle.element.specs.declared.answer.BareOperation.{BareOperation, TheVariants.DeleteTft, TheVariants.NoOperation}

-- "For 1, 3, 4 each filter is: octet with direction in bits 6 and 5 and identifier in bits 4 to 1; precedence; contents length; contents."
pub record Raw : Type 0 where
  pub first : ℕ
  pub precedence : ℕ
  pub contents : List ℕ

-- of that octet, and of each octet of a delete list: "For 5 each is one octet, identifier in bits 4 to 1"
abbrev pub identifier_in : ℕ → ℕ
identifier_in octet = octet % 16

abbrev pub identifier_of : Raw → ℕ
identifier_of r = identifier_in r.first

abbrev pub direction_of : Raw → ℕ
direction_of r = r.first / 16 % 4

-- the first n filters of the octets, and what is left; cut, where one runs past the end
pub data Split : Type 0 where
  cut : Split
  split : List Raw → List ℕ → Split

abbrev pub with_raw : Raw → Split → Split
with_raw r cut = cut
with_raw r (split rs rest) = split (r ∷ rs) rest

unfoldable pub split_of : ℕ → List ℕ → Split
split_of zero xs = split [] xs
split_of (suc n) [] = cut
split_of (suc n) (a ∷ []) = cut
split_of (suc n) (a ∷ p ∷ []) = cut
split_of (suc n) (a ∷ p ∷ l ∷ xs) =
    pick (leb l (length xs)) (with_raw (record { first = a; precedence = p; contents = take l xs }) (split_of n (drop l xs))) cut

-- "parameters (identifier, length, contents) fill the rest": k octets of the last one are still to pass
unfoldable pub parameters : ℕ → List ℕ → Bool
parameters zero [] = true
parameters zero (i ∷ []) = false
parameters zero (i ∷ l ∷ xs) = parameters l xs
parameters (suc k) [] = false
parameters (suc k) (x ∷ xs) = parameters k xs

-- "If E is 1, parameters .. at least one"; else nothing is left over
unfoldable pub rest_fits : ℕ → List ℕ → Bool
rest_fits zero [] = true
rest_fits zero (x ∷ xs) = false
rest_fits (suc e) [] = false
rest_fits (suc e) (x ∷ xs) = parameters 0 (x ∷ xs)

-- ---- Steps 4 and 6: "operation 0 or 7"; a count that the operation does not take, "an entry past the end; octets left over; bad parameter framing"
pub data Framed : Type 0 where
  not_framed : Framed
  filters : SetOperation → List Raw → Framed
  identifiers : List ℕ → Framed
  bare : BareOperation → Framed

abbrev pub framed_split : SetOperation → ℕ → Split → Framed
framed_split operation e cut = not_framed
framed_split operation e (split rs rest) = pick (rest_fits e rest) (filters operation rs) not_framed

abbrev pub framed_set : SetOperation → ℕ → ℕ → List ℕ → Framed
framed_set operation e n xs = pick (eqb n 0) not_framed (framed_split operation e (split_of n xs))

-- "For 5 each is one octet"
abbrev pub framed_identifiers : ℕ → ℕ → List ℕ → Framed
framed_identifiers e n xs = pick (not (eqb n 0) && leb n (length xs) && rest_fits e (drop n xs)) (identifiers (take n xs)) not_framed

abbrev pub framed_bare : BareOperation → ℕ → ℕ → List ℕ → Framed
framed_bare operation e n xs = pick (eqb n 0 && rest_fits e xs) (bare operation) not_framed

-- "Operations: 1 create, 2 delete TFT, 3 add, 4 replace, 5 delete filters, 6 no operation; 0 and 7 are refused"
unfoldable pub framed_by : ℕ → ℕ → ℕ → List ℕ → Framed
framed_by operation e n xs =
    pick (eqb operation create) (framed_set Create e n xs)
    (pick (eqb operation delete_tft) (framed_bare DeleteTft e n xs)
    (pick (eqb operation add) (framed_set Add e n xs)
    (pick (eqb operation replace) (framed_set Replace e n xs)
    (pick (eqb operation delete_filters) (framed_identifiers e n xs) (pick (eqb operation no_operation) (framed_bare NoOperation e n xs) not_framed)))))

unfoldable pub framed_of : List ℕ → Framed
framed_of [] = not_framed
framed_of (x ∷ xs) = framed_by (operation_in x) (extension_in x) (count_in x) xs
