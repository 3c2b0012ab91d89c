-- Numbers of which none is there twice, and one more put among them.
use mathlib.Core.Path.{◌≡◌, refl, sym, ap}
use mathlib.Core.Bool.{false}
use mathlib.Core.List.{List, ◌∷◌}
use Prim.Native.Nat.{ℕ, suc}
use lib.Dec.{eqb}
use lib.ListN.{length}
use borrow.Author.Tests.{eqb-false, ne_eqb}
use Rattle.laws.specs.Lists.{is_in, repeats}
use Rattle.laws.proofs.Tests.{neither}

pub not_in : (x y : ℕ) (ys : List ℕ) → is_in x (y ∷ ys) ≡ false → (eqb x y ≡ false) × (is_in x ys ≡ false)
unfolding is_in
not_in x y ys = neither (eqb x y) (is_in x ys)

still_out : (x y : ℕ) (ys : List ℕ) → eqb x y ≡ false → is_in x ys ≡ false → is_in x (y ∷ ys) ≡ false
unfolding is_in
still_out x y ys e f = rw (e, f)

pub no_repeat : (x : ℕ) (xs : List ℕ) → repeats (x ∷ xs) ≡ false → (is_in x xs ≡ false) × (repeats xs ≡ false)
unfolding repeats
no_repeat x xs = neither (is_in x xs) (repeats xs)

still_fresh : (x : ℕ) (xs : List ℕ) → is_in x xs ≡ false → repeats xs ≡ false → repeats (x ∷ xs) ≡ false
unfolding repeats
still_fresh x xs e f = rw (e, f)

pub turned : (p q : ℕ) → eqb p q ≡ false → eqb q p ≡ false
turned p q e = ne_eqb q p (λ s. eqb-false p q e (sym s))

-- qs is ps with p put in at some place
pub data With (p : ℕ) : List ℕ → List ℕ → Type 0 where
  here : {ps : List ℕ} → With p ps (p ∷ ps)
  there : {q : ℕ} {ps qs : List ℕ} → With p ps qs → With p (q ∷ ps) (q ∷ qs)

pub with_length : {p : ℕ} {ps qs : List ℕ} → With p ps qs → length qs ≡ suc (length ps)
with_length here = refl
with_length (there w) = ap suc (with_length w)

pub with_out : {p : ℕ} {ps qs : List ℕ} (x : ℕ) → With p ps qs → eqb x p ≡ false → is_in x ps ≡ false → is_in x qs ≡ false
with_out {p} {ps} x here e f = still_out x p ps e f
with_out x (there {q} {ps} {qs} w) e f =
    let apart = not_in x q ps f in
    still_out x q qs apart.0 (with_out x w e apart.1)

pub with_fresh : {p : ℕ} {ps qs : List ℕ} → With p ps qs → is_in p ps ≡ false → repeats ps ≡ false → repeats qs ≡ false
with_fresh {p} {ps} here e f = still_fresh p ps e f
with_fresh {p} (there {q} {ps} {qs} w) e f =
    let apart = not_in p q ps e in
    let rest = no_repeat q ps f in
    still_fresh q qs (with_out q w (turned p q apart.0) rest.0) (with_fresh w apart.1 rest.1)
