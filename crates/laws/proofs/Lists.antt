-- Laws of lists: what holds of each element, and one element more at the end.
-- Assumes nothing.
use mathlib.Core.Path.{◌≡◌, refl, sym, ap, ◌∙◌}
use mathlib.Core.Bool.{Bool, true}
use mathlib.Core.List.{List, [], ◌∷◌, ◌++◌}
use Prim.Native.Nat.{ℕ, zero, suc, ◌<◌}
use native.Mathlib.Omega.{arith}
use lib.ListN.{length, get_or, set, replicate, length-append}
use lib.Seq.{set_at, append_snoc}
use Rattle.laws.specs.Index.{tab}
use Rattle.laws.specs.Lists.{All, every, fold, Each}
use Rattle.laws.proofs.Index.{tab_length}
use Rattle.laws.proofs.Tests.{both}

-- ---- P of each element
module _ {A : Type 0} (P : A → Type 0) where
  pub all_append : (xs ys : List A) → All P xs → All P ys → All P (xs ++ ys)
  all_append [] ys h g = g
  all_append (x ∷ xs) ys h g = (h.0, all_append xs ys h.1 g)

  pub all_among : (xs : List A) (a : A) (ys : List A) → All P (xs ++ a ∷ ys) → P a
  all_among [] a ys h = h.0
  all_among (x ∷ xs) a ys h = all_among xs a ys h.1

  pub all_set : (xs : List A) (i : ℕ) (a : A) → All P xs → P a → All P (set xs i a)
  all_set [] i a h p = tt
  all_set (x ∷ xs) zero a h p = (p, h.1)
  all_set (x ∷ xs) (suc i) a h p = (h.0, all_set xs i a h.1 p)

  -- .. at any place, past the end too, where it holds of what is said to stand there
  pub all_at : (xs : List A) (d : A) → All P xs → P d → (i : ℕ) → P (get_or xs i d)
  all_at [] d h p i = p
  all_at (x ∷ xs) d h p zero = h.0
  all_at (x ∷ xs) d h p (suc i) = all_at xs d h.1 p i

  -- n equal elements
  all_replicate : (n : ℕ) (a : A) → P a → All P (replicate n a)
  all_replicate zero a p = tt
  all_replicate (suc n) a p = (p, all_replicate n a p)

  long : (n : ℕ) (a : A) → length (replicate n a) ≡ n
  long zero a = refl
  long (suc n) a = ap suc (long n a)

  pub each_replicate : (n : ℕ) (a : A) → P a → Each P n (replicate n a)
  each_replicate n a p = record { count = long n a; all = all_replicate n a p }

  -- an element for each index
  all_tab : (f : ℕ → A) (n : ℕ) → ((i : ℕ) → i < n → P (f i)) → All P (tab f n)
  unfolding tab
  all_tab f zero h = tt
  all_tab f (suc n) h = (h 0 (omega arith), all_tab (λ i. f (suc i)) n (λ i l. h (suc i) (omega arith)))

  pub each_tab : (f : ℕ → A) (n : ℕ) → ((i : ℕ) → i < n → P (f i)) → Each P n (tab f n)
  each_tab f n h = record { count = tab_length f n; all = all_tab f n h }

-- a fold over one list, then over another
pub fold_append : {A B : Type 0} (f : B → A → B) (xs ys : List A) (s : B) → fold f s (xs ++ ys) ≡ fold f (fold f s xs) ys
unfolding fold
fold_append f [] ys s = refl
fold_append f (x ∷ xs) ys s = fold_append f xs ys (f s x)

module _ {A : Type 0} where
  -- a test that only one value passes, passed by each of n elements
  pub all_alike : (test : A → Bool) (a : A) → ((x : A) → test x ≡ true → x ≡ a) → (n : ℕ) (xs : List A)
      → length xs ≡ n → every test xs ≡ true → xs ≡ replicate n a
  unfolding every
  all_alike test a same zero [] l e = refl
  all_alike test a same (suc n) [] l e = absurd (omega arith)
  all_alike test a same zero (x ∷ xs) l e = absurd (omega arith)
  all_alike test a same (suc n) (x ∷ xs) l e =
      let here = both (test x) (every test xs) e in
      rw (same x here.0) (ap (λ (ys : List A). a ∷ ys) (all_alike test a same n xs (omega arith) here.1))

  -- one element more
  pub snoc_long : (xs : List A) (a : A) (i : ℕ) → length xs ≡ i → length (xs ++ (a ∷ [])) ≡ suc i
  snoc_long xs a i e = simp length-append (omega arith)

  pub snoc_set : (xs : List A) (y : A) (ys : List A) (a : A) (i : ℕ) → length xs ≡ i → set (xs ++ y ∷ ys) i a ≡ xs ++ (a ∷ []) ++ ys
  snoc_set xs y ys a i e = set_at xs y ys a i e ∙ sym (append_snoc xs a ys)
