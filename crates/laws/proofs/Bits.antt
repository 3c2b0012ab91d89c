-- Bits of a number: one more set.
use mathlib.Core.Path.{◌≡◌, refl, ap}
use mathlib.Core.Bool.{Bool, true, false, not, ◌&&◌}
use Prim.Native.Nat.compare
use Prim.Native.Nat.{ℕ, zero, suc, ◌+◌, ◌*◌, ◌/◌, ◌%◌, ◌^◌, ◌<◌, min, max}
use native.Mathlib.Omega.{arith}
use native.Mathlib.Nat.{pow-suc}
use lib.Dec.{eqb}
use lib.Bits.{bit_and, bit_or, and_step, or_step, and_zero_r, or_zero_r}
use borrow.Author.Tests.{eqb-true, eqb-false, eq-eqb, ne_eqb}

-- the lowest bit of a number and the rest, both zero
both_zero : (p m : ℕ) → eqb (p * 2 + m) 0 ≡ eqb m 0 && eqb p 0
both_zero p m = go (eqb m 0) refl (eqb p 0) refl
  where
    go : (a : Bool) → eqb m 0 ≡ a → (b : Bool) → eqb p 0 ≡ b → eqb (p * 2 + m) 0 ≡ a && b
    go true e true f = eq-eqb (p * 2 + m) 0 (let u = eqb-true m 0 e in let v = eqb-true p 0 f in omega arith)
    go true e false f = ne_eqb (p * 2 + m) 0 (λ h. eqb-false p 0 f (omega arith))
    go false e b f = ne_eqb (p * 2 + m) 0 (λ h. eqb-false m 0 e (omega arith))

-- bit b of v is not set
abbrev pub off : ℕ → ℕ → Bool
off b v = eqb (bit_and v (2 ^ b)) 0

off_zero : (v : ℕ) → off 0 v ≡ eqb (v % 2) 0
off_zero v = let e = and_step v 1 in let z = and_zero_r (v / 2) in ap (λ (x : ℕ). eqb x 0) (let r : bit_and v 1 ≡ v % 2 = omega arith in r)

off_suc : (b v : ℕ) → off (suc b) v ≡ off b (v / 2)
off_suc b v =
    let p : 2 ^ suc b ≡ 2 ^ b * 2 = pow-suc 2 _ in
    let h : 2 ^ suc b / 2 ≡ 2 ^ b = omega arith in
    let z : min (v % 2) (2 ^ suc b % 2) ≡ 0 = omega arith in
    rw (and_step v (2 ^ suc b), h, z) (both_zero (bit_and (v / 2) (2 ^ b)) 0)

-- the rest and the lowest bit of x or y
or_half : (x y : ℕ) → bit_or x y / 2 ≡ bit_or (x / 2) (y / 2)
or_half x y = let e = or_step x y in let m : max (x % 2) (y % 2) < 2 = omega arith in omega arith

or_odd : (x y : ℕ) → bit_or x y % 2 ≡ max (x % 2) (y % 2)
or_odd x y = let e = or_step x y in let m : max (x % 2) (y % 2) < 2 = omega arith in omega arith

-- bit b is off in v with bit a set exactly where a is not b and it is off in v
pub bit_set : (a b v : ℕ) → off b (bit_or v (2 ^ a)) ≡ not (eqb a b) && off b v
bit_set zero zero v = rw (off_zero (bit_or v 1), or_odd v 1) (ne_eqb (max (v % 2) 1) 0 (λ h. omega arith))
bit_set (suc a) zero v =
    let p : 2 ^ suc a ≡ 2 ^ a * 2 = pow-suc 2 _ in
    let m : max (v % 2) (2 ^ suc a % 2) ≡ v % 2 = omega arith in
    rw (off_zero (bit_or v (2 ^ suc a)), off_zero v, or_odd v (2 ^ suc a), m, ne_eqb (suc a) 0 (λ h. omega arith))
bit_set zero (suc b) v = rw (off_suc b (bit_or v 1), off_suc b v, or_half v 1, or_zero_r (v / 2), ne_eqb 0 (suc b) (λ h. omega arith))
bit_set (suc a) (suc b) v =
    let p : 2 ^ suc a ≡ 2 ^ a * 2 = pow-suc 2 _ in
    let h : 2 ^ suc a / 2 ≡ 2 ^ a = omega arith in
    rw (off_suc b (bit_or v (2 ^ suc a)), off_suc b v, or_half v (2 ^ suc a), h, compare.suc-suc) (bit_set a b (v / 2))
