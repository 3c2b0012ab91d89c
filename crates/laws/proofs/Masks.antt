-- Equality under a mask, over the width.
use mathlib.Core.Path.{◌≡◌, refl, ap₂, ◌∙◌}
use mathlib.Core.Bool.{Bool, true, false, ◌&&◌, ◌||◌}
use Prim.Native.Nat.{ℕ, zero, suc, ◌+◌, ◌*◌, ◌/◌, ◌%◌, ◌^◌, ◌<◌, min}
use native.Mathlib.Omega.{arith}
use native.Mathlib.Nat.{pow-suc}
use lib.Dec.{eqb}
use lib.Bits.{bit_and, and_step, and_zero_r}
use borrow.Author.Tests.{eqb-true, eqb-false, eq-eqb, ne_eqb}
use Rattle.laws.specs.Numbers.{same_under}
use Rattle.laws.proofs.Tests.{or_true}

-- a number equals itself under every mask
pub same_self : (w mask x : ℕ) → same_under w mask x x ≡ true
unfolding same_under
same_self zero mask x = refl
same_self (suc w) mask x = simp (eq-eqb (x % 2) (x % 2) refl, or_true, same_self w (mask / 2) (x / 2))

-- two numbers are equal exactly where their lowest bits and the rest are
digits : (a b x y : ℕ) → x < 2 → y < 2 → eqb (a * 2 + x) (b * 2 + y) ≡ eqb x y && eqb a b
digits a b x y l m = go (eqb x y) refl (eqb a b) refl
  where
    go : (p : Bool) → eqb x y ≡ p → (q : Bool) → eqb a b ≡ q → eqb (a * 2 + x) (b * 2 + y) ≡ p && q
    go true e true f = eq-eqb (a * 2 + x) (b * 2 + y) (let u = eqb-true x y e in let v = eqb-true a b f in omega arith)
    go true e false f = ne_eqb (a * 2 + x) (b * 2 + y) (λ h. eqb-false a b f (let u = eqb-true x y e in omega arith))
    go false e q f = ne_eqb (a * 2 + x) (b * 2 + y) (λ h. eqb-false x y e (omega arith))

-- the lowest bits after a mask
low : (x y m : ℕ) → x < 2 → y < 2 → m < 2 → eqb (min x m) (min y m) ≡ eqb m 0 || eqb x y
low x y m hx hy hm = go (eqb m 0) refl (eqb x y) refl
  where
    go : (p : Bool) → eqb m 0 ≡ p → (q : Bool) → eqb x y ≡ q → eqb (min x m) (min y m) ≡ p || q
    go true e q f = eq-eqb (min x m) (min y m) (let u = eqb-true m 0 e in omega arith)
    go false e true f = eq-eqb (min x m) (min y m) (let u = eqb-true x y f in omega arith)
    go false e false f = ne_eqb (min x m) (min y m) (λ h. eqb-false x y f (let u : m ≡ 0 → ⊥ = eqb-false m 0 e in omega arith))

-- what a machine compares, x & mask with y & mask, at w bits
pub same_and : (w mask x y : ℕ) → mask < 2 ^ w → eqb (bit_and x mask) (bit_and y mask) ≡ same_under w mask x y
unfolding same_under
same_and zero mask x y l =
    let e : mask ≡ 0 = omega arith in
    rw e (rw (and_zero_r x, and_zero_r y) refl)
same_and (suc w) mask x y l =
    rw (and_step x mask, and_step y mask)
    (digits (bit_and (x / 2) (mask / 2)) (bit_and (y / 2) (mask / 2)) _ _ (omega arith) (omega arith)
    ∙ ap₂ ◌&&◌ (low (x % 2) (y % 2) (mask % 2) (omega arith) (omega arith) (omega arith)) (same_and w (mask / 2) (x / 2) (y / 2) (let h = rw pow-suc at l in omega arith)))
