-- Laws of the highest index below n with p, and of walks in which the last turn with p decides.
use mathlib.Core.Path.{◌≡◌, refl, ◌∙◌, ap}
use mathlib.Core.Bool.{Bool, true, false, ◌||◌}
use mathlib.Core.Logic.{◌⊎◌, inl, inr, ⊎_elim}
use Prim.Native.Nat.{ℕ, zero, suc, ◌<◌, ◌≤◌}
use native.Mathlib.Nat.{not-suc-le-zero}
use native.Mathlib.Omega.{arith}
use Rattle.laws.specs.Says.{pick}
use Rattle.laws.specs.Index.{any_below, last_below, walk}
use Rattle.laws.proofs.Says.{last, never}
use Rattle.laws.proofs.Index.{walk_keeps}

module _ (p : ℕ → Bool) {A : Type 0} (f : ℕ → A) where
  -- r is what f gives at the highest index below n with p ..
  pub record Last (n : ℕ) (r : A) : Type 0 where
    pub at : ℕ
    pub below : at < n
    pub holds : p at ≡ true
    pub highest : (k : ℕ) → k < n → p k ≡ true → k ≤ at
    pub is : r ≡ f at

  -- .. or there is none, and it is d
  pub record NoLast (d : A) (n : ℕ) (r : A) : Type 0 where
    pub none : (k : ℕ) → k < n → p k ≡ true → ⊥
    pub is : r ≡ d

  pub last_cases : (d : A) (n : ℕ) → Last n (last_below p f d n) ⊎ NoLast d n (last_below p f d n)
  unfolding last_below
  last_cases d zero = inr (record { none = λ k l. absurd (not-suc-le-zero l); is = refl })
  last_cases d (suc n) = go (last_cases d n) (p n) refl
    where
      go : Last n (last_below p f d n) ⊎ NoLast d n (last_below p f d n) → (b : Bool) → p n ≡ b
          → Last (suc n) (pick b (f n) (last_below p f d n)) ⊎ NoLast d (suc n) (pick b (f n) (last_below p f d n))
      go ih true e = inl (record { at = n; below = omega arith; holds = e; highest = λ k l _. omega arith; is = refl })
      go (inl h) false e =
          inl (record {
            at = h.at;
            below = omega (arith, h.below);
            holds = h.holds;
            highest = λ k l q. ⊎_elim (λ m. h.highest k m q) (λ s. never q (ap p s ∙ e)) (last l);
            is = h.is;
          })
      go (inr h) false e = inr (record { none = λ k l q. ⊎_elim (λ m. h.none k m q) (λ s. never q (ap p s ∙ e)) (last l); is = h.is })

  -- what stands for "none" matters only where there is none
  pub last_else : (d e : A) (n : ℕ) → last_below p f d n ≡ pick (any_below p n) (last_below p f e n) d
  unfolding last_below any_below
  last_else d e zero = refl
  last_else d e (suc n) = go (p n) (any_below p n) (last_below p f d n) (last_below p f e n) (last_else d e n)
    where
      go : (b a : Bool) (x y : A) → x ≡ pick a y d → pick b (f n) x ≡ pick (a || b) (pick b (f n) y) d
      go true true x y h = refl
      go true false x y h = refl
      go false true x y h = h
      go false false x y h = h

  -- .. and f only where it is asked
  pub last_none : (d : A) (n : ℕ) → ((i : ℕ) → i < n → p i ≡ false) → last_below p f d n ≡ d
  unfolding last_below
  last_none d zero h = refl
  last_none d (suc n) h = rw (h n (omega arith)) (last_none d n (λ i l. h i (omega arith)))

  pub last_same : (q : ℕ → Bool) (g : ℕ → A) (d : A) (n : ℕ) → ((i : ℕ) → i < n → p i ≡ q i) → ((i : ℕ) → i < n → f i ≡ g i) → last_below p f d n ≡ last_below q g d n
  unfolding last_below
  last_same q g d zero h k = refl
  last_same q g d (suc n) h k = rw (h n (omega arith), k n (omega arith), last_same q g d n (λ i l. h i (omega arith)) (λ i l. k i (omega arith)))

  -- seen through a function
  pub last_map : {B : Type 0} (see : A → B) (d : A) (n : ℕ) → see (last_below p f d n) ≡ last_below p (λ i. see (f i)) (see d) n
  unfolding last_below
  last_map see d zero = refl
  last_map {B} see d (suc n) = go (p n) (last_map see d n)
    where
      go : (b : Bool) → see (last_below p f d n) ≡ last_below p (λ i. see (f i)) (see d) n
          → see (pick b (f n) (last_below p f d n)) ≡ pick b (see (f n)) (last_below p (λ i. see (f i)) (see d) n)
      go true h = refl
      go false h = h

  -- a walk after which p's last index decides what is seen of the state
  pub last_walk : {S : Type 0} (Good : S → Type 0) (see : S → A) (turn : S → ℕ → S) (s : S) (n : ℕ) → Good s
      → ((i : ℕ) (s : S) → i < n → Good s → Good (turn s i) × (see (turn s i) ≡ pick (p i) (f i) (see s)))
      → Good (walk turn s n) × (see (walk turn s n) ≡ last_below p f (see s) n)
  unfolding last_below
  last_walk {S} Good see turn s n g h =
      walk_keeps turn s (λ (i : ℕ) (r : S). Good r × (see r ≡ last_below p f (see s) i)) n (g, refl)
      (λ i r l k. ((h i r l k.0).0, (h i r l k.0).1 ∙ ap (pick (p i) (f i)) k.1))
