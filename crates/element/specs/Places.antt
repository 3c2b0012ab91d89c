-- "Every refusal of the element reader should carry a place, the offset from 0." Of a value that reads, what is said here is not used.
use Rattle.std.specs.Prelude.{ℕ, ◌+◌, ◌-◌, Bool, true, false, not, ◌||◌, List, [], ◌∷◌, ◌++◌, map, eqb, leb, length, drop, None, Option, Some}
use Rattle.laws.specs.Says.{pick}
use Rattle.laws.specs.Lists.{is_in}
use Rattle.filter.specs.declared.component.Filter.{Filter}
use Rattle.filter.specs.Fittable.{fittable}
use Rattle.element.specs.Head.{longest, operation_in, extension_in, count_in, create, delete_tft, add, replace, delete_filters, no_operation}
use Rattle.element.specs.Framing.{Raw, identifier_of, Split, cut, split, split_of, Framed, not_framed, filters, identifiers, bare, framed_of}
use Rattle.element.specs.Contents.{coded_of}

-- ---- A value that is not framed
-- "A wrong count comes first.": "Count 0 for 1, 3, 4, 5; count above 0 for 2, 6"; no count fits operations 0 and 7
abbrev pub brings_filters : ℕ → Bool
brings_filters operation = eqb operation create || eqb operation add || eqb operation replace

abbrev pub is_bare : ℕ → Bool
is_bare operation = eqb operation delete_tft || eqb operation no_operation

abbrev pub count_fits : ℕ → ℕ → Bool
count_fits operation n = pick (brings_filters operation || eqb operation delete_filters) (leb 1 n) (pick (is_bare operation) (eqb n 0) false)

-- what is left after a list of n entries; nothing, where one of them runs past the end or is missing
abbrev pub left_by : Split → Option (List ℕ)
left_by cut = None
left_by (split rs rest) = Some rest

-- an entry is a filter or, of every other operation, an octet
abbrev pub left_after : ℕ → ℕ → List ℕ → Option (List ℕ)
left_after operation n xs = pick (brings_filters operation) (left_by (split_of n xs)) (pick (leb n (length xs)) (Some (drop n xs)) None)

-- "An entry or parameter past the end or missing: the value's length. Left-over octets: the first of them." With E what is left are parameters
abbrev pub left_place : ℕ → ℕ → Option (List ℕ) → ℕ
left_place total e None = total
left_place total e (Some rest) = pick (eqb e 0) (total - length rest) total

-- "Length, operation or count wrong: 0."
abbrev pub unframed_by : ℕ → ℕ → ℕ → List ℕ → ℕ
unframed_by operation e n xs = pick (count_fits operation n) (left_place (1 + length xs) e (left_after operation n xs)) 0

unfoldable pub unframed_place : List ℕ → ℕ
unframed_place [] = 0
unframed_place (x ∷ xs) = unframed_by (operation_in x) (extension_in x) (count_in x) xs

-- ---- A list of filters
-- where the filter after this one begins
abbrev pub after_raw : ℕ → Raw → ℕ
after_raw at r = at + 3 + length r.contents

-- the first octet of the earliest filter that is wrong, of those that begin at an offset; whether it is may depend on those before it. 0, at which no filter
-- begins, if none is wrong
unfoldable pub earliest : (List Raw → Raw → Bool) → List Raw → ℕ → List Raw → ℕ
earliest wrong before at [] = 0
earliest wrong before at (r ∷ rs) = pick (wrong before r) at (earliest wrong (before ++ r ∷ []) (after_raw at r) rs)

-- "Causes 45 and 44 for a filter: the first octet of the earliest such filter in the message."
abbrev pub is_badly : Option Filter → Bool
is_badly None = true
is_badly (Some f) = false

abbrev pub is_unfit : Option Filter → Bool
is_unfit None = false
is_unfit (Some f) = not (fittable f)

abbrev pub badly_coded : List Raw → Raw → Bool
badly_coded before r = is_badly (coded_of r)

abbrev pub fits_nothing : List Raw → Raw → Bool
fits_nothing before r = is_unfit (coded_of r)

-- "A repeated identifier or precedence: the first octet of the earliest filter that repeats one before it."
abbrev pub precedence_in : Raw → ℕ
precedence_in r = r.precedence

unfoldable pub repeats_one : List Raw → Raw → Bool
repeats_one before r = is_in (identifier_of r) (map identifier_of before) || is_in (precedence_in r) (map precedence_in before)

-- coding is judged of every filter before the fit of any, and fit before repeats; the filters begin after octet 1
abbrev pub or_else : ℕ → ℕ → ℕ
or_else place later = pick (eqb place 0) later place

unfoldable pub filters_place : List Raw → ℕ
filters_place rs = or_else (earliest badly_coded [] 1 rs) (or_else (earliest fits_nothing [] 1 rs) (earliest repeats_one [] 1 rs))

-- ---- The whole value
abbrev pub framed_place : Framed → List ℕ → ℕ
framed_place not_framed xs = unframed_place xs
framed_place (filters operation rs) xs = filters_place rs
framed_place (identifiers ids) xs = 0
framed_place (bare kind) xs = 0

unfoldable pub place_of : List ℕ → ℕ
place_of xs = pick (leb (length xs) longest) (framed_place (framed_of xs) xs) 0
