-- Laws of a value's framing: how the definitions go over the parameter and the filter at the front of the octets.
-- Assumes nothing.
use mathlib.Core.Path.{◌≡◌, refl, ap, ◌∙◌}
use mathlib.Core.Bool.{Bool, true, false}
use mathlib.Core.List.{List, [], ◌∷◌}
use Prim.Native.Nat.{ℕ, zero, suc, ◌+◌, ◌-◌, ◌≤◌, ◌<◌}
use native.Mathlib.Nat.{le_of_suc-le-suc, not-suc-le-zero}
use native.Mathlib.Omega.{arith}
use lib.Dec.{eqb, leb}
use lib.ListN.{length, take, drop, length-drop}
use borrow.Author.Tests.{leb-true, leb-false, ne_eqb}
use Rattle.std.proofs.Common.{Option, None, Some}
use Rattle.laws.specs.Says.{pick}
use Rattle.element.specs.Framing.{Raw, Split, cut, split, with_raw, split_of, parameters, rest_fits}
use Rattle.element.specs.Places.{left_by}
use Rattle.element.specs.Inner.Walk.{next_filter, next_parameter}

-- ---- parameters
pass : (k : ℕ) (xs : List ℕ) → k ≤ length xs → parameters k xs ≡ parameters 0 (drop k xs)
unfolding parameters
pass zero xs h = refl
pass (suc k) [] h = absurd (not-suc-le-zero h)
pass (suc k) (x ∷ xs) h = pass k xs (le_of_suc-le-suc h)

short : (k : ℕ) (xs : List ℕ) → length xs < k → parameters k xs ≡ false
unfolding parameters
short zero xs h = absurd (not-suc-le-zero h)
short (suc k) [] h = refl
short (suc k) (x ∷ xs) h = short k xs (le_of_suc-le-suc h)

-- the octets after a parameter, gone on with
abbrev fit_from : Option (List ℕ) → Bool
fit_from None = false
fit_from (Some rest) = parameters 0 rest

parameter_turn : (s : List ℕ) → 0 < length s → parameters 0 s ≡ fit_from (next_parameter s)
unfolding parameters
parameter_turn [] h = absurd (not-suc-le-zero h)
parameter_turn (i ∷ []) h = refl
parameter_turn (i ∷ l ∷ xs) h = by (leb l (length xs)) refl
  where
    by : (b : Bool) → leb l (length xs) ≡ b → parameters l xs ≡ fit_from (pick b (Some (drop l xs)) None)
    by true e = pass l xs (leb-true l (length xs) e)
    by false e = short l xs (leb-false l (length xs) e)

pub parameter_more : (s rest : List ℕ) → 0 < length s → next_parameter s ≡ Some rest → parameters 0 s ≡ parameters 0 rest
parameter_more s rest h e = parameter_turn s h ∙ ap fit_from e

pub parameter_cut : (s : List ℕ) → 0 < length s → next_parameter s ≡ None → parameters 0 s ≡ false
parameter_cut s h e = parameter_turn s h ∙ ap fit_from e

pub parameter_shrinks : (s rest : List ℕ) → next_parameter s ≡ Some rest → length rest < length s
parameter_shrinks [] rest e = absurd (let z : ◌≡◌ {A = ℕ} 0 1 = cc in omega arith)
parameter_shrinks (i ∷ []) rest e = absurd (let z : ◌≡◌ {A = ℕ} 0 1 = cc in omega arith)
parameter_shrinks (i ∷ l ∷ xs) rest e = by (leb l (length xs)) e
  where
    by : (b : Bool) → pick b (Some (drop l xs)) None ≡ Some rest → length rest < length (i ∷ l ∷ xs)
    by true e = let q : drop l xs ≡ rest = cc in omega (arith, ap length q, length-drop l xs)
    by false e = absurd (let z : ◌≡◌ {A = ℕ} 0 1 = cc in omega arith)

pub parameters_end : (s : List ℕ) → length s ≡ 0 → parameters 0 s ≡ true
unfolding parameters
parameters_end [] h = refl
parameters_end (x ∷ s) h = absurd (omega arith)

-- what E asks of the rest
pub none_left : (s : List ℕ) → eqb (length s) 0 ≡ rest_fits 0 s
unfolding rest_fits
none_left [] = refl
none_left (x ∷ s) = ne_eqb (length (x ∷ s)) 0 (λ e. omega arith)

pub none_given : (e : ℕ) (s : List ℕ) → 0 < e → length s ≡ 0 → rest_fits e s ≡ false
unfolding rest_fits
none_given zero s h l = absurd (not-suc-le-zero h)
none_given (suc e) [] h l = refl
none_given (suc e) (x ∷ s) h l = absurd (omega arith)

pub some_given : (e : ℕ) (s : List ℕ) → 0 < e → 0 < length s → rest_fits e s ≡ parameters 0 s
unfolding rest_fits
some_given zero s h l = absurd (not-suc-le-zero h)
some_given (suc e) [] h l = absurd (not-suc-le-zero l)
some_given (suc e) (x ∷ s) h l = refl

-- ---- filters: the filter at the front, gone on with
abbrev pub split_from : ℕ → Option (Raw × List ℕ) → Split
split_from n None = cut
split_from n (Some x) = with_raw x.0 (split_of n x.1)

pub split_turn : (n : ℕ) (xs : List ℕ) → split_of (suc n) xs ≡ split_from n (next_filter xs)
unfolding split_of
split_turn n [] = refl
split_turn n (a ∷ []) = refl
split_turn n (a ∷ p ∷ []) = refl
split_turn n (a ∷ p ∷ l ∷ xs) = by (leb l (length xs))
  where
    r : Raw
    r = record { first = a; precedence = p; contents = take l xs }

    by : (b : Bool) → pick b (with_raw r (split_of n (drop l xs))) cut ≡ split_from n (pick b (Some (r, drop l xs)) None)
    by true = refl
    by false = refl

pub left_with : (r : Raw) (q : Split) → left_by (with_raw r q) ≡ left_by q
left_with r cut = refl
left_with r (split rs rest) = refl

pub filters_more : (n i : ℕ) → i < n → (xs : List ℕ) (x : Raw × List ℕ) → next_filter xs ≡ Some x → left_by (split_of (n - i) xs) ≡ left_by (split_of (n - (i + 1)) x.1)
filters_more n i h xs x e =
    let k : n - i ≡ suc (n - (i + 1)) = omega arith in
    rw (k, split_turn (n - (i + 1)) xs, e) (left_with x.0 (split_of (n - (i + 1)) x.1))

pub filters_cut : (n i : ℕ) → i < n → (xs : List ℕ) → next_filter xs ≡ None → left_by (split_of (n - i) xs) ≡ None
filters_cut n i h xs e =
    let k : n - i ≡ suc (n - (i + 1)) = omega arith in
    rw (k, split_turn (n - (i + 1)) xs, e)

pub filters_end : (n i : ℕ) → n ≤ i → (xs : List ℕ) → left_by (split_of (n - i) xs) ≡ Some xs
unfolding split_of
filters_end n i h xs = let k : n - i ≡ 0 = omega arith in rw k
