-- Tests and lists said by index, over any element type.
use Rattle.std.specs.Prelude.{ℕ, zero, suc, ◌+◌, ◌<◌, Bool, true, false, not, ◌&&◌, ◌||◌, List, [], ◌∷◌, ◌++◌}
use Rattle.laws.specs.Says.{pick}

-- where a, then b
abbrev pub imp : Bool → Bool → Bool
imp a b = not a || b

module _ (p : ℕ → Bool) where
  -- p of every index below n
  unfoldable pub all_below : ℕ → Bool
  all_below zero = true
  all_below (suc n) = all_below n && p n

  -- p of some index below n
  unfoldable pub any_below : ℕ → Bool
  any_below zero = false
  any_below (suc n) = any_below n || p n

  -- what f gives at the highest index below n with p; d where there is none
  unfoldable pub last_below : {A : Type 0} → (ℕ → A) → A → ℕ → A
  last_below f d zero = d
  last_below f d (suc n) = pick (p n) (f n) (last_below f d n)

  -- what g calls the indices below n with p, in their order
  unfoldable pub picks : (ℕ → ℕ) → ℕ → List ℕ
  picks g zero = []
  picks g (suc n) = picks g n ++ pick (p n) (g n ∷ []) []

-- what f gives at each index below n, added up
unfoldable pub sum_below : (ℕ → ℕ) → ℕ → ℕ
sum_below f zero = 0
sum_below f (suc n) = sum_below f n + f n

abbrev pub one : Bool → ℕ
one b = pick b 1 0

-- how many indices below n have p
unfoldable pub count_below : (ℕ → Bool) → ℕ → ℕ
count_below p n = sum_below (λ i. one (p i)) n

-- s, changed by f at each index below n in turn
unfoldable pub walk : {A : Type 0} → (A → ℕ → A) → A → ℕ → A
walk f s zero = s
walk f s (suc n) = f (walk f s n) n

-- f at each index below n
unfoldable pub tab : {A : Type 0} → (ℕ → A) → ℕ → List A
tab f zero = []
tab f (suc n) = f 0 ∷ tab (λ i. f (suc i)) n

-- the pieces below n, one after the other
unfoldable pub joined : {A : Type 0} → (ℕ → List A) → ℕ → List A
joined piece zero = []
joined piece (suc n) = joined piece n ++ piece n

-- the first n elements, zero beyond the end
unfoldable pub pad : ℕ → List ℕ → List ℕ
pad zero xs = []
pad (suc n) [] = 0 ∷ pad n []
pad (suc n) (x ∷ xs) = x ∷ pad n xs

-- an index below n with P
pub record SomeBelow (n : ℕ) (P : ℕ → Type 0) : Type 0 where
  pub at : ℕ
  pub below : at < n
  pub holds : P at
