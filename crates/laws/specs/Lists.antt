-- Tests and walks over a list.
use Rattle.std.specs.Prelude.{◌≡◌, ◌⊎◌, ℕ, Bool, true, false, ◌&&◌, ◌||◌, List, [], ◌∷◌, eqb, length}

module _ {A : Type 0} (test : A → Bool) where
  -- the test is true of each element
  unfoldable pub every : List A → Bool
  every [] = true
  every (x ∷ xs) = test x && every xs

module _ {A B : Type 0} (f : B → A → B) where
  -- f over the elements, from the front
  unfoldable pub fold : B → List A → B
  fold s [] = s
  fold s (x ∷ xs) = fold (f s x) xs

module _ {A : Type 0} (P : A → Type 0) where
  -- P holds of each element
  abbrev pub All : List A → Type 0
  All [] = Unit {0}
  All (x ∷ xs) = P x × All xs

  -- P holds of some element
  abbrev pub Some : List A → Type 0
  Some [] = ⊥
  Some (x ∷ xs) = P x ⊎ Some xs

-- n elements, and P of each
pub record Each {A : Type 0} (P : A → Type 0) (n : ℕ) (xs : List A) : Type 0 where
  pub count : length xs ≡ n
  pub all : All P xs

-- x is among the numbers
unfoldable pub is_in : ℕ → List ℕ → Bool
is_in x [] = false
is_in x (y ∷ ys) = eqb x y || is_in x ys

-- some number is there twice
unfoldable pub repeats : List ℕ → Bool
repeats [] = false
repeats (x ∷ xs) = is_in x xs || repeats xs
