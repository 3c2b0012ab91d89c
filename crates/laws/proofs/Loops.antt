-- Laws of loops that go through an array from the front, over any element type: i is the next index, xs the array, d what `get_or` gives past
-- the end. Each law of a turn takes the invariant at i and gives it at i + 1.
use mathlib.Core.Path.{◌≡◌, sym, ◌∙◌, ap}
use Prim.Native.Nat.{ℕ, zero, suc, ◌+◌, ◌<◌, ◌≤◌}
use native.Mathlib.Numerals.{add-one}
use native.Mathlib.Nat.{not-suc-le-zero, le_of_suc-le-suc}
use native.Mathlib.Omega.{arith}
use mathlib.Core.Bool.{Bool, true, ◌&&◌, and_assoc, and-true}
use mathlib.Core.List.{List, [], ◌∷◌, ◌++◌}
use lib.ListN.{length, get_or, drop, length-append, drop_of_length-le}
use lib.Seq.{drop-cons, sets, length-sets}
use Rattle.laws.specs.Lists.{every, fold}
use Rattle.laws.proofs.Parts.{sets_append}
use Rattle.laws.proofs.Tests.{both}

module _ {A B : Type 0} (f : B → A → B) where
  pub fold_more : (i : ℕ) (xs : List A) (d : A) (s r : B) → i < length xs → fold f s (drop i xs) ≡ r → fold f (f s (get_or xs i d)) (drop (i + 1) xs) ≡ r
  unfolding fold
  fold_more i xs d s r l e = ap (λ (k : ℕ). fold f (f s (get_or xs i d)) (drop k xs)) (add-one i) ∙ ap (fold f s) (sym (drop-cons xs i d l)) ∙ e

  pub fold_done : (i : ℕ) (xs : List A) (s r : B) → length xs ≤ i → fold f s (drop i xs) ≡ r → s ≡ r
  unfolding fold
  fold_done i xs s r l e = ap (fold f s) (sym (drop_of_length-le xs l)) ∙ e

module _ {A : Type 0} (test : A → Bool) where
  pub every_more : (i : ℕ) (xs : List A) (d : A) (b r : Bool) → i < length xs → b && every test (drop i xs) ≡ r
      → (b && test (get_or xs i d)) && every test (drop (i + 1) xs) ≡ r
  unfolding every
  every_more i xs d b r l e =
      ap (λ (k : ℕ). (b && test (get_or xs i d)) && every test (drop k xs)) (add-one i)
      ∙ and_assoc b (test (get_or xs i d)) (every test (drop (suc i) xs))
      ∙ ap (λ (ys : List A). b && every test ys) (sym (drop-cons xs i d l))
      ∙ e

  pub every_done : (i : ℕ) (xs : List A) (b r : Bool) → length xs ≤ i → b && every test (drop i xs) ≡ r → b ≡ r
  unfolding every
  every_done i xs b r l e = sym (and-true b) ∙ ap (λ (ys : List A). b && every test ys) (sym (drop_of_length-le xs l)) ∙ e

  -- the test at a place, where it is true of each element
  pub every_at : (xs : List A) → every test xs ≡ true → (d : A) (i : ℕ) → i < length xs → test (get_or xs i d) ≡ true
  unfolding every
  every_at [] e d i l = absurd (not-suc-le-zero l)
  every_at (x ∷ xs) e d zero l = (both (test x) (every test xs) e).0
  every_at (x ∷ xs) e d (suc i) l = every_at xs (both (test x) (every test xs) e).1 d i (le_of_suc-le-suc l)

-- ---- loops that store, or count, what each place gives
-- a list that is the parts of the places, one after the other, the places counted from i
pub record ByPlaces {A B : Type 0} (part : ℕ → A → List B) (whole : ℕ → List A → List B) : Type 0 where
  pub none : (i : ℕ) → whole i [] ≡ []
  pub more : (i : ℕ) (x : A) (xs : List A) → whole i (x ∷ xs) ≡ part i x ++ whole (suc i) xs

module _ {A B : Type 0} {part : ℕ → A → List B} {whole : ℕ → List A → List B} (by : ByPlaces part whole) (d : A) (xs : List A) (i : ℕ) where
  pub places_end : length xs ≤ i → whole i (drop i xs) ≡ []
  places_end l = rw (drop_of_length-le xs l) (by.none i)

  places_next : i < length xs → whole i (drop i xs) ≡ part i (get_or xs i d) ++ whole (i + 1) (drop (i + 1) xs)
  places_next l = rw (drop-cons xs i d l, add-one) (by.more i (get_or xs i d) (drop (suc i) xs))

  pub size_next : i < length xs → length (whole i (drop i xs)) ≡ length (part i (get_or xs i d)) + length (whole (i + 1) (drop (i + 1) xs))
  size_next l = ap length (places_next l) ∙ simp length-append

-- what is left from place i, stored into b from o, is all of it stored into b₀ from `at`
pub record Stored {A B : Type 0} (whole : ℕ → List A → List B) (xs : List A) (b₀ : List B) (at i : ℕ) (b : List B) (o : ℕ) : Type 0 where
  pub long : length b ≡ length b₀
  pub size : o + length (whole i (drop i xs)) ≡ at + length (whole 0 xs)
  pub stores : sets b o (whole i (drop i xs)) ≡ sets b₀ at (whole 0 xs)

module _ {A B : Type 0} {part : ℕ → A → List B} {whole : ℕ → List A → List B} (by : ByPlaces part whole) (d : A) {xs : List A} {b₀ : List B} {at i : ℕ} {b : List B} {o : ℕ} (s : Stored whole xs b₀ at i b o) where
  -- there is room for a place's part
  pub stored_room : i < length xs → at + length (whole 0 xs) ≤ length b₀ → o + length (part i (get_or xs i d)) ≤ length b
  stored_room l h = omega (arith, size_next by d xs i l)

  pub stored_next : i < length xs → (b' : List B) (o' : ℕ) → b' ≡ sets b o (part i (get_or xs i d)) → o' ≡ o + length (part i (get_or xs i d))
      → Stored whole xs b₀ at (i + 1) b' o'
  stored_next l b' o' e f =
      record {
        long = ap length e ∙ length-sets b o (part i (get_or xs i d)) ∙ s.long;
        size = omega (arith, size_next by d xs i l);
        stores = rw (e, f) (sets_append (part i (get_or xs i d)) _ b o ∙ ap (sets b o) (sym (places_next by d xs i l)) ∙ s.stores);
      }

  pub stored_done : length xs ≤ i → b ≡ sets b₀ at (whole 0 xs)
  stored_done l = ap (sets b o) (sym (places_end by d xs i l)) ∙ s.stores
