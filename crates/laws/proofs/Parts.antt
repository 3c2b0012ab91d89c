-- Laws of parts of a list, and of stores into one.
use mathlib.Core.Path.{◌≡◌, refl, sym, ap, ◌∙◌}
use mathlib.Core.Bool.{Bool, true}
use mathlib.Core.List.{List, [], ◌∷◌, ◌++◌}
use Prim.Native.Nat.{ℕ, zero, suc, ◌+◌, ◌-◌, ◌≤◌, ◌<◌}
use native.Mathlib.Nat.{le_refl, not-suc-le-zero, le_of_suc-le-suc, sub-zero, suc-sub-suc, add-zero, add-suc, suc-add}
use native.Mathlib.Numerals.{add-one}
use native.Mathlib.Omega.{arith}
use lib.ListN.{length, take, drop, get_or, set, replicate, length-drop}
use lib.Seq.{take_all, take-nil, drop-cons, drop-drop, sets}
use Rattle.laws.specs.Index.{pad}
use Rattle.laws.specs.Lists.{every, All}
use Rattle.laws.proofs.Lists.{all_alike}
use Rattle.laws.proofs.Tests.{both}

module _ {A : Type 0} where
  -- the rest from a place: its first element, and the rest from the next place
  pub drop_next : (s : List A) (k m : ℕ) (d : A) → k + 1 ≡ m → k < length s → drop k s ≡ get_or s k d ∷ drop m s
  drop_next s k m d e h = rw (← e, add-one) (drop-cons s k d h)

  -- the part up to the end
  pub part_rest : (s : List A) (o : ℕ) → take (length s - o) (drop o s) ≡ drop o s
  part_rest s o = take_all (length s - o) (drop o s) (rw length-drop (le_refl (length s - o)))

  drop-take : (w k : ℕ) (l : List A) → w ≤ k → drop w (take k l) ≡ take (k - w) (drop w l)
  drop-take zero k l h = rw sub-zero
  drop-take (suc w) zero l h = absurd (not-suc-le-zero h)
  drop-take (suc w) (suc k) [] h = sym (take-nil (suc k - suc w))
  drop-take (suc w) (suc k) (x ∷ l) h = rw suc-sub-suc (drop-take w k l (le_of_suc-le-suc h))

  -- a part of a part
  pub part_skip : (s : List A) (o k w : ℕ) → w ≤ k → drop w (take k (drop o s)) ≡ take (k - w) (drop (o + w) s)
  part_skip s o k w h = drop-take w k (drop o s) h ∙ rw drop-drop

  -- stores one after the other
  pub sets_append : (xs ys l : List A) (i : ℕ) → sets (sets l i xs) (i + length xs) ys ≡ sets l i (xs ++ ys)
  sets_append [] ys l i = rw add-zero
  sets_append (x ∷ xs) ys l i = rw (add-suc, ← suc-add) (sets_append xs ys (set l i x) (suc i))

  pub stores_join : (xs ys l : List A) (i n : ℕ) → length xs ≡ n → sets (sets l i xs) (i + n) ys ≡ sets l i (xs ++ ys)
  stores_join xs ys l i n e = rw (← e) (sets_append xs ys l i)

-- what holds of each element holds of each of a part
module _ {A : Type 0} (P : A → Type 0) where
  pub all_take : (n : ℕ) (l : List A) → All P l → All P (take n l)
  all_take zero l h = tt
  all_take (suc n) [] h = tt
  all_take (suc n) (x ∷ l) h = (h.0, all_take n l h.1)

  pub all_drop : (n : ℕ) (l : List A) → All P l → All P (drop n l)
  all_drop zero l h = h
  all_drop (suc n) [] h = tt
  all_drop (suc n) (x ∷ l) h = all_drop n l h.1

-- a test that is true of each element, and of what is stored
module _ {A : Type 0} (test : A → Bool) where
  pub every_set : (l : List A) (i : ℕ) (a : A) → every test l ≡ true → test a ≡ true → every test (set l i a) ≡ true
  unfolding every
  every_set [] i a h t = refl
  every_set (x ∷ l) zero a h t = rw (t, (both (test x) (every test l) h).1)
  every_set (x ∷ l) (suc i) a h t = rw (both (test x) (every test l) h).0 (every_set l i a (both (test x) (every test l) h).1 t)

-- ---- a list in an array, zero beyond its end
pub pad_none : (n : ℕ) → replicate n 0 ≡ pad n []
unfolding pad
pad_none zero = refl
pad_none (suc n) = ap (λ (xs : List ℕ). 0 ∷ xs) (pad_none n)

pub pad_take : (n : ℕ) (xs : List ℕ) → length xs ≤ n → take (length xs) (pad n xs) ≡ xs
unfolding pad
pad_take n [] l = refl
pad_take zero (x ∷ xs) l = absurd (not-suc-le-zero l)
pad_take (suc n) (x ∷ xs) l = ap (λ (ys : List ℕ). x ∷ ys) (pad_take n xs (le_of_suc-le-suc l))

pub pad_long : (n : ℕ) (xs : List ℕ) → length (pad n xs) ≡ n
unfolding pad
pad_long zero xs = refl
pad_long (suc n) [] = ap suc (pad_long n [])
pad_long (suc n) (x ∷ xs) = ap suc (pad_long n xs)

module _ (test : ℕ → Bool) where
  -- zero passes the test, and so does all that is beyond the end
  pub pad_rests : test 0 ≡ true → (n : ℕ) (xs : List ℕ) → every test (drop (length xs) (pad n xs)) ≡ true
  unfolding pad every
  pad_rests z zero [] = refl
  pad_rests z (suc n) [] = rw z (pad_rests z n [])
  pad_rests z zero (x ∷ xs) = refl
  pad_rests z (suc n) (x ∷ xs) = pad_rests z n xs

  -- zero alone passes it: an array all of which passes it from k on is its first k elements, padded
  pub pad_is : ((x : ℕ) → test x ≡ true → x ≡ 0) → (n k : ℕ) (xs : List ℕ) → length xs ≡ n → every test (drop k xs) ≡ true → xs ≡ pad n (take k xs)
  unfolding pad
  pad_is same n zero xs l t = all_alike test 0 same n xs l t ∙ pad_none n
  pad_is same zero (suc k) [] l t = refl
  pad_is same (suc n) (suc k) [] l t = absurd (omega arith)
  pad_is same zero (suc k) (x ∷ xs) l t = absurd (omega arith)
  pad_is same (suc n) (suc k) (x ∷ xs) l t = ap (λ (ys : List ℕ). x ∷ ys) (pad_is same n k xs (omega arith) t)
