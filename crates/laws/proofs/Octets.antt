-- Laws of numbers in octets, at every width.
use mathlib.Core.Path.{◌≡◌, refl, ap, ◌∙◌}
use mathlib.Core.List.{List, [], ◌∷◌, ◌++◌}
use Prim.Native.Nat.{ℕ, zero, suc, ◌+◌, ◌-◌, ◌*◌, ◌/◌, ◌%◌, ◌^◌, ◌≤◌, ◌<◌}
use native.Mathlib.Nat.{lt_of_lt_of_le, not-suc-le-zero, zero-add, add-zero, suc-add, zero-mul, mod-eq_of_lt, add-mul, mul_assoc, add_assoc, mul-add-div_right, mul-add-mod_self_right}
use native.Mathlib.Numerals.{add-one, sub-one}
use native.Mathlib.Omega.{arith}
use lib.ListN.{length, take, drop, get_or, set, length-drop}
use lib.Seq.{take-suc, get_or-drop, sets}
use lib.Pow.{pow-add, pow_mono, pow_pos, mod-pow-add, shr-shr, high}
use lib.Arith.{digits_lt}
use Rattle.laws.specs.Lists.{All}
use Rattle.laws.specs.Octets.{be_from, be_of, be_bytes}

-- ---- reading: one more octet
be_snoc : (n : ℕ) (xs : List ℕ) (x : ℕ) → be_from n (xs ++ (x ∷ [])) ≡ be_from n xs * 256 + x
unfolding be_from
be_snoc n [] x = refl
be_snoc n (y ∷ xs) x = be_snoc (n * 256 + y) xs x

pub be_more : (s : List ℕ) (at i : ℕ) → at + i < length s
    → be_of (take (i + 1) (drop at s)) ≡ be_of (take i (drop at s)) * 256 + get_or s (at + i) 0
be_more s at i h =
    let h' : i < length (drop at s) = simp length-drop (omega arith) in
    rw (add-one, take-suc (drop at s) i 0 h', be_snoc, get_or-drop)

-- w octets have 8 * w bits
bits_more : (k : ℕ) → 2 ^ (8 * (k + 1)) ≡ 2 ^ (8 * k) * 256
bits_more k = ap (λ (m : ℕ). 2 ^ m) (omega arith) ∙ pow-add 2 (8 * k) 8

pub octet_more : (n x k : ℕ) → n < 2 ^ (8 * k) → x < 256 → n * 256 + x < 2 ^ (8 * (k + 1))
octet_more n x k h g = rw bits_more (digits_lt h g)

pub octet_fits : (n x k : ℕ) → n < 2 ^ (8 * k) → x < 256 → k < 8 → n * 256 + x < 2 ^ 64
octet_fits n x k h g l = lt_of_lt_of_le (octet_more n x k h g) (pow_mono {j = 64} (omega arith))

be_from_bound : (xs : List ℕ) (n k : ℕ) → n < 2 ^ (8 * k) → All (λ x. x < 256) xs → be_from n xs < 2 ^ (8 * (k + length xs))
unfolding be_from
be_from_bound [] n k h a = rw add-zero h
be_from_bound (x ∷ xs) n k h a =
    let e : k + suc (length xs) ≡ k + 1 + length xs = omega arith in
    rw e (be_from_bound xs (n * 256 + x) (k + 1) (octet_more n x k h a.0) a.1)

be_bound : (xs : List ℕ) → All (λ x. x < 256) xs → be_of xs < 2 ^ (8 * length xs)
be_bound xs a = rw zero-add at (be_from_bound xs 0 0 (omega arith) a)

-- at most w octets are a number of 8 * w bits
pub be_within : (w : ℕ) (xs : List ℕ) → length xs ≤ w → All (λ x. x < 256) xs → be_of xs < 2 ^ (8 * w)
be_within w xs l a = lt_of_lt_of_le (be_bound xs a) (pow_mono {i = 8 * length xs} {j = 8 * w} (omega arith))

-- ---- writing
pub length_be : (w n : ℕ) → length (be_bytes w n) ≡ w
unfolding be_bytes
length_be zero n = refl
length_be (suc w) n = ap suc (length_be w n)

pub be_octets : (w n : ℕ) → All (λ x. x < 256) (be_bytes w n)
unfolding be_bytes
be_octets zero n = tt
be_octets (suc w) n = (omega arith, be_octets w n)

-- the store of the next octet
pub store_next : (b : List ℕ) (o left v : ℕ) → 0 < left
    → sets b o (be_bytes left v) ≡ sets (set b o (v / 2 ^ (8 * (left - 1)) % 256)) (o + 1) (be_bytes (left - 1) v)
unfolding be_bytes
store_next b o zero v h = absurd (not-suc-le-zero h)
store_next b o (suc left) v h = rw (add-one, sub-one)

pub store_end : (b : List ℕ) (o left v : ℕ) → left ≤ 0 → sets b o (be_bytes left v) ≡ b
unfolding be_bytes
store_end b o zero v h = refl
store_end b o (suc left) v h = absurd (not-suc-le-zero h)

-- ---- two numbers in one: the octets of the higher, then those of the lower
be_low : (w a b : ℕ) → be_bytes w (a * 2 ^ (8 * w) + b) ≡ be_bytes w b
unfolding be_bytes
be_low zero a b = refl
be_low (suc w) a b =
    let k : 8 * suc w ≡ 8 + 8 * w = omega arith in
    let e : a * 2 ^ (8 * suc w) ≡ a * 256 * 2 ^ (8 * w) = rw (k, pow-add, mul_assoc) in
    rw (e, mul-add-div_right (pow_pos (8 * w)) (a * 256) b, mul-add-mod_self_right, be_low w (a * 256) b)

pub be_join : (u w a b : ℕ) → b < 2 ^ (8 * w) → be_bytes (u + w) (a * 2 ^ (8 * w) + b) ≡ be_bytes u a ++ be_bytes w b
unfolding be_bytes
be_join zero w a b h = rw zero-add (be_low w a b)
be_join (suc u) w a b h =
    let k : 8 * (u + w) ≡ 8 * w + 8 * u = omega arith in
    rw (suc-add, k, ← shr-shr, high a (8 * w) h, be_join u w a b h)

-- ---- the round trip
be_bytes_lem : (w a n : ℕ) → be_from a (be_bytes w n) ≡ a * 2 ^ (8 * w) + n % 2 ^ (8 * w)
unfolding be_from be_bytes
be_bytes_lem zero a n = omega arith
be_bytes_lem (suc w) a n =
    let k : 8 * suc w ≡ 8 + 8 * w = omega arith in
    be_bytes_lem w (a * 256 + n / 2 ^ (8 * w) % 256) n ∙ rw (k, mod-pow-add, pow-add) (simp (add-mul, mul_assoc, add_assoc))

pub be_round : (w n : ℕ) → n < 2 ^ (8 * w) → be_of (be_bytes w n) ≡ n
be_round w n h = be_bytes_lem w 0 n ∙ rw (zero-mul, zero-add, mod-eq_of_lt h)
