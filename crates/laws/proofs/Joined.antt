-- Lists of numbers joined from pieces: what is in them, and when none is there twice.
use mathlib.Core.Path.{◌≡◌, refl, sym, ◌∙◌, ap, ap₂, subst}
use mathlib.Core.Bool.{Bool, true, false, ◌||◌, or_assoc, false≢true}
use mathlib.Core.Logic.{◌⊎◌, inl, inr, ⊎_elim}
use mathlib.Core.List.{List, [], ◌∷◌, ◌++◌, map}
use Prim.Native.Nat.{ℕ, zero, suc, ◌<◌}
use native.Mathlib.Nat.{not-suc-le-zero}
use native.Mathlib.Omega.{arith}
use lib.Dec.{eqb}
use borrow.Author.Tests.{eqb-true, eq-eqb}
use Rattle.laws.specs.Index.{SomeBelow, joined}
use Rattle.laws.specs.Lists.{All, is_in, repeats}
use Rattle.laws.proofs.Lists.{all_append}
use Rattle.laws.proofs.Tests.{either, or_left, or_right}
use Rattle.laws.proofs.Says.{last, never}
use Rattle.laws.proofs.Repeats.{no_repeat}

abbrev pub Fresh : List ℕ → Type 0
Fresh xs = repeats xs ≡ false

abbrev pub In : ℕ → List ℕ → Type 0
In x xs = is_in x xs ≡ true

-- ---- one list after another
in_append : (x : ℕ) (xs ys : List ℕ) → is_in x (xs ++ ys) ≡ is_in x xs || is_in x ys
unfolding is_in
in_append x [] ys = refl
in_append x (y ∷ xs) ys = ap (λ (b : Bool). eqb x y || b) (in_append x xs ys) ∙ sym (or_assoc (eqb x y) (is_in x xs) (is_in x ys))

pub in_either : (x : ℕ) (xs ys : List ℕ) → In x (xs ++ ys) → In x xs ⊎ In x ys
in_either x xs ys h = either (is_in x xs) (is_in x ys) (sym (in_append x xs ys) ∙ h)

pub in_left : (x : ℕ) (xs ys : List ℕ) → In x xs → In x (xs ++ ys)
in_left x xs ys h = in_append x xs ys ∙ or_left (is_in x xs) (is_in x ys) h

pub in_right : (x : ℕ) (xs ys : List ℕ) → In x ys → In x (xs ++ ys)
in_right x xs ys h = in_append x xs ys ∙ or_right (is_in x xs) (is_in x ys) h

-- no number is in an empty list
pub in_none : {A : Type 0} (x : ℕ) → In x [] → A
unfolding is_in
in_none x h = absurd (false≢true h)

-- what holds of each element holds of a number that is in the list
pub in_holds : (P : ℕ → Type 0) (xs : List ℕ) → All P xs → (n : ℕ) → In n xs → P n
unfolding is_in
in_holds P [] a n h = absurd (false≢true h)
in_holds P (x ∷ xs) a n h = ⊎_elim (λ e. subst P (sym (eqb-true n x e)) a.0) (in_holds P xs a.1 n) (either (eqb n x) (is_in n xs) h)

-- a number that is in a list is none that is not
pub in_apart : (n k : ℕ) (xs : List ℕ) → In n xs → is_in k xs ≡ false → n ≡ k → ⊥
in_apart n k xs h o e = never h (rw e o)

pub in_head : (x : ℕ) (xs : List ℕ) → In x (x ∷ xs)
unfolding is_in
in_head x xs = or_left (eqb x x) (is_in x xs) (eq-eqb x x refl)

pub in_tail : (x y : ℕ) (xs : List ℕ) → In x xs → In x (y ∷ xs)
unfolding is_in
in_tail x y xs h = or_right (eqb x y) (is_in x xs) h

pub in_cons : (x y : ℕ) (xs : List ℕ) → In x (y ∷ xs) → (x ≡ y) ⊎ In x xs
unfolding is_in
in_cons x y xs h = ⊎_elim (λ e. inl (eqb-true x y e)) (λ e. inr e) (either (eqb x y) (is_in x xs) h)

pub out : {b : Bool} → (b ≡ true → ⊥) → b ≡ false
out {b = true} n = absurd (n refl)
out {b = false} n = refl

pub fresh_cons : (x : ℕ) (xs : List ℕ) → is_in x xs ≡ false → Fresh xs → Fresh (x ∷ xs)
unfolding repeats
fresh_cons x xs e f = rw (e, f)

abbrev Disjoint : List ℕ → List ℕ → Type 0
Disjoint xs ys = (x : ℕ) → In x xs → In x ys → ⊥

fresh_append : (xs ys : List ℕ) → Fresh xs → Fresh ys → Disjoint xs ys → Fresh (xs ++ ys)
fresh_append [] ys f g d = g
fresh_append (x ∷ xs) ys f g d =
    let h = no_repeat x xs f in
    fresh_cons x (xs ++ ys) (out (λ i. ⊎_elim (λ j. never j h.0) (λ j. d x (in_head x xs) j) (in_either x xs ys i)))
    (fresh_append xs ys h.1 g (λ y i. d y (in_tail y x xs i)))

append_fresh : (xs ys : List ℕ) → Fresh (xs ++ ys) → Fresh xs × Fresh ys × Disjoint xs ys
unfolding repeats is_in
append_fresh [] ys f = (refl, f, λ x i. absurd (never i refl))
append_fresh (z ∷ xs) ys f =
    let h = no_repeat z (xs ++ ys) f in
    let rest = append_fresh xs ys h.1 in (
      fresh_cons z xs (out (λ i. never (in_left z xs ys i) h.0)) rest.0,
      rest.1,
      λ x i j. ⊎_elim (λ e. never (in_right z xs ys (subst (λ (y : ℕ). In y ys) e j)) h.0) (λ k. rest.2 x k j) (in_cons x z xs i),
    )

-- P of each number that is there
pub all_in : (P : ℕ → Type 0) (xs : List ℕ) → ((x : ℕ) → In x xs → P x) → All P xs
all_in P [] h = tt
all_in P (x ∷ xs) h = (h x (in_head x xs), all_in P xs (λ y i. h y (in_tail y x xs i)))

-- ---- each number under a name that no other has
module _ (f : ℕ → ℕ) (apart : (x y : ℕ) → eqb (f x) (f y) ≡ eqb x y) where
  pub named_in : (x : ℕ) (xs : List ℕ) → is_in (f x) (map f xs) ≡ is_in x xs
  unfolding is_in
  named_in x [] = refl
  named_in x (y ∷ ys) = ap₂ ◌||◌ (apart x y) (named_in x ys)

  pub named_repeats : (xs : List ℕ) → repeats (map f xs) ≡ repeats xs
  unfolding repeats
  named_repeats [] = refl
  named_repeats (x ∷ xs) = ap₂ ◌||◌ (named_in x xs) (named_repeats xs)

-- ---- the pieces below n, one after the other
module _ (piece : ℕ → List ℕ) where
  pub joined_all : (P : ℕ → Type 0) (n : ℕ) → ((i : ℕ) → i < n → All P (piece i)) → All P (joined piece n)
  unfolding joined
  joined_all P zero h = tt
  joined_all P (suc n) h = all_append P (joined piece n) (piece n) (joined_all P n (λ i l. h i (omega arith))) (h n (omega arith))

  pub joined_in : (n x : ℕ) → In x (joined piece n) → SomeBelow n (λ i. In x (piece i))
  unfolding joined is_in
  joined_in zero x h = absurd (never h refl)
  joined_in (suc n) x h =
      ⊎_elim (λ i. let r = joined_in n x i in record { at = r.at; below = omega (arith, r.below); holds = r.holds })
      (λ i. record { at = n; below = omega arith; holds = i }) (in_either x (joined piece n) (piece n) h)

  pub in_joined : (n x i : ℕ) → i < n → In x (piece i) → In x (joined piece n)
  unfolding joined
  in_joined zero x i l h = absurd (not-suc-le-zero l)
  in_joined (suc n) x i l h =
      ⊎_elim (λ m. in_left x (joined piece n) (piece n) (in_joined n x i m h))
      (λ e. in_right x (joined piece n) (piece n) (subst (λ (k : ℕ). In x (piece k)) e h)) (last l)

  -- a number that is in two pieces is in one
  abbrev pub Single : ℕ → Type 0
  Single n = (i k : ℕ) → i < n → k < n → (x : ℕ) → In x (piece i) → In x (piece k) → i ≡ k

  pub joined_fresh : (n : ℕ) → ((i : ℕ) → i < n → Fresh (piece i)) → Single n → Fresh (joined piece n)
  unfolding joined repeats
  joined_fresh zero f s = refl
  joined_fresh (suc n) f s =
      fresh_append (joined piece n) (piece n) (joined_fresh n (λ i l. f i (omega arith)) (λ i k l m. s i k (omega arith) (omega arith))) (f n (omega arith))
      (λ x h g. let r = joined_in n x h in
      let b = r.below in
      let e : r.at ≡ n = s r.at n (omega arith) (omega arith) x r.holds g in
      omega arith)

  pub fresh_piece : (n : ℕ) → Fresh (joined piece n) → (i : ℕ) → i < n → Fresh (piece i)
  unfolding joined
  fresh_piece zero f i l = absurd (not-suc-le-zero l)
  fresh_piece (suc n) f i l =
      let h = append_fresh (joined piece n) (piece n) f in
      ⊎_elim (λ m. fresh_piece n h.0 i m) (λ e. subst (λ (k : ℕ). Fresh (piece k)) (sym e) h.1) (last l)

  pub fresh_single : (n : ℕ) → Fresh (joined piece n) → Single n
  unfolding joined
  fresh_single zero f i k l m x p q = absurd (not-suc-le-zero l)
  fresh_single (suc n) f i k l m x p q = go (λ u a b. fresh_single n u i k a b x p q) (last l) (last m)
    where
      h : Fresh (joined piece n) × Fresh (piece n) × Disjoint (joined piece n) (piece n)
      h = append_fresh (joined piece n) (piece n) f

      at_end_lem : (j : ℕ) → j ≡ n → In x (piece j) → In x (piece n)
      at_end_lem j e = subst (λ (k : ℕ). In x (piece k)) e

      go : (Fresh (joined piece n) → i < n → k < n → i ≡ k) → (i < n) ⊎ (i ≡ n) → (k < n) ⊎ (k ≡ n) → i ≡ k
      go rest (inl a) (inl b) = rest h.0 a b
      go rest (inl a) (inr b) = absurd (h.2 x (in_joined n x i a p) (at_end_lem k b q))
      go rest (inr a) (inl b) = absurd (h.2 x (in_joined n x k b q) (at_end_lem i a p))
      go rest (inr a) (inr b) = a ∙ sym b
