-- What a Bool test says: it is true exactly where P holds. A test made of tests says what its parts say.
use mathlib.Core.Path.{◌≡◌, refl, sym, ◌∙◌, subst}
use mathlib.Core.Bool.{Bool, true, false, not, ◌&&◌, ◌||◌, true≢false, false≢true}
use mathlib.Core.List.{List, [], ◌∷◌}
use mathlib.Core.Logic.{◌⊎◌, inl, inr, ⊎_elim, ◌↔◌}
use Prim.Native.Nat.{ℕ, zero, suc, ◌<◌, ◌≤◌}
use native.Mathlib.Nat.{not-suc-le-zero}
use native.Mathlib.Omega.{arith}
use lib.Dec.{eqb, leb}
use borrow.Author.Tests.{eqb-true, eq-eqb, leb-true, le-leb}
use Rattle.laws.specs.Index.{imp, all_below, any_below, SomeBelow}
use Rattle.laws.specs.Says.{pick, Says}
use Rattle.std.specs.List.{list_any}
use Rattle.laws.specs.Lists.{Some}

-- a test is true or false
pub which : (b : Bool) → (b ≡ true) ⊎ (b ≡ false)
which true = inl refl
which false = inr refl

pub never : {A : Type 0} {b : Bool} → b ≡ true → b ≡ false → A
never t f = absurd (true≢false (sym t ∙ f))

-- a test that says P is false exactly where P does not hold
-- ---- what holds of the one and of the other holds of what a test picks
module _ {A : Type 0} (P : A → Type 0) where
  pub by_test : (b : Bool) (x y : A) → (b ≡ true → P x) → (b ≡ false → P y) → P (pick b x y)
  by_test true x y p q = p refl
  by_test false x y p q = q refl

  pub picked : (b : Bool) (x y : A) → P x → P y → P (pick b x y)
  picked b x y p q = by_test b x y (λ e. p) (λ e. q)

pub says_no : {b : Bool} {P : Type 0} → Says b P → (P → ⊥) → b ≡ false
says_no {b = true} s n = absurd (n (s.to refl))
says_no {b = false} s n = refl

pub says_ne : {b : Bool} {P : Type 0} → Says b P → b ≡ false → P → ⊥
says_ne s e p = never (s.from p) e

-- two tests that say the same
pub says_same : {a b : Bool} {P : Type 0} → Says a P → Says b P → a ≡ b
says_same {a = true} s u = sym (u.from (s.to refl))
says_same {a = false} {b = true} s u = s.from (u.to refl)
says_same {a = false} {b = false} s u = refl

pub says_true : {P : Type 0} → P → Says true P
says_true p = record { to = λ _. p; from = λ _. refl }

pub says_eq : (a b : ℕ) → Says (eqb a b) (a ≡ b)
says_eq a b = record { to = eqb-true a b; from = eq-eqb a b }

pub says_le : (a b : ℕ) → Says (leb a b) (a ≤ b)
says_le a b = record { to = leb-true a b; from = le-leb a b }

pub says_not : {a : Bool} {P : Type 0} → Says a P → Says (not a) (P → ⊥)
says_not {a = true} s = record { to = λ e. absurd (false≢true e); from = λ n. absurd (n (s.to refl)) }
says_not {a = false} s = record { to = λ _ p. false≢true (s.from p); from = λ _. refl }

pub says_and : {a b : Bool} {P Q : Type 0} → Says a P → Says b Q → Says (a && b) (P × Q)
says_and {a = true} s r = record { to = λ e. (s.to refl, r.to e); from = λ h. r.from h.1 }
says_and {a = false} s r = record { to = λ e. absurd (false≢true e); from = λ h. s.from h.0 }

pub says_or : {a b : Bool} {P Q : Type 0} → Says a P → Says b Q → Says (a || b) (P ⊎ Q)
says_or {a = true} s r = record { to = λ _. inl (s.to refl); from = λ _. refl }
says_or {a = false} {b = b} {P = P} {Q = Q} s r = record { to = λ e. inr (r.to e); from = back }
  where
    back : P ⊎ Q → b ≡ true
    back (inl p) = absurd (false≢true (s.from p))
    back (inr q) = r.from q

module _ {A : Type 0} {test : A → Bool} {P : A → Type 0} (says : (x : A) → Says (test x) (P x)) where
  pub says_some : (xs : List A) → Says (list_any test xs) (Some P xs)
  says_some [] = record { to = λ e. absurd (false≢true e); from = λ h. absurd h }
  says_some (x ∷ xs) = says_or (says x) (says_some xs)

-- where a, then b
pub says_if : {a b : Bool} {P Q : Type 0} → Says a P → Says b Q → Says (imp a b) (P → Q)
says_if {a = true} s r = record { to = λ e _. r.to e; from = λ h. r.from (h (s.to refl)) }
says_if {a = false} s r = record { to = λ _ p. absurd (false≢true (s.from p)); from = λ _. refl }

-- unless a, b
pub says_unless : {a b : Bool} {P Q : Type 0} → Says a P → Says b Q → Says (a || b) ((P → ⊥) → Q)
says_unless {a = true} s r = record { to = λ _ n. absurd (n (s.to refl)); from = λ _. refl }
says_unless {a = false} s r = record { to = λ e _. r.to e; from = λ h. r.from (h (λ p. false≢true (s.from p))) }

-- a test says that it is true
pub says_it : (b : Bool) → Says b (b ≡ true)
says_it b = record { to = λ e. e; from = λ e. e }

-- ---- a number that tests give in turn: n is given by this test alone, or by those after it
module _ {b : Bool} {P : Type 0} (s : Says b P) {x a n : ℕ} where
  -- a is given unless P
  pub unless_here : a ≡ n → (x ≡ n → ⊥) → (pick b x a ≡ n) ↔ (P → ⊥)
  unless_here e ne =
      ⊎_elim (λ t. (λ h. absurd (ne (rw t at h)), λ q. absurd (q (s.to t)))) (λ f. (λ h. says_ne s f, λ q. rw f e)) (which b)

  pub unless_later : {Q : Type 0} → (a ≡ n → ⊥) → (x ≡ n) ↔ Q → (pick b x a ≡ n) ↔ (P × Q)
  unless_later ne q =
      ⊎_elim (λ t. (λ h. (s.to t, q.0 (rw t at h)), λ h. rw t (q.1 h.1))) (λ f. (λ h. absurd (ne (rw f at h)), λ h. absurd (says_ne s f h.0))) (which b)

  -- a is given where P
  pub where_here : a ≡ n → (x ≡ n → ⊥) → (pick b a x ≡ n) ↔ P
  where_here e ne =
      ⊎_elim (λ t. (λ h. s.to t, λ q. rw t e)) (λ f. (λ h. absurd (ne (rw f at h)), λ q. absurd (says_ne s f q))) (which b)

  pub where_later : {Q : Type 0} → (a ≡ n → ⊥) → (x ≡ n) ↔ Q → (pick b a x ≡ n) ↔ ((P → ⊥) × Q)
  where_later ne q =
      ⊎_elim (λ t. (λ h. absurd (ne (rw t at h)), λ h. absurd (h.0 (s.to t)))) (λ f. (λ h. (says_ne s f, q.0 (rw f at h)), λ h. rw f (q.1 h.1))) (which b)

-- another way to say the same
pub says_so : {a : Bool} {P Q : Type 0} → Says a P → (P → Q) → (Q → P) → Says a Q
says_so s f g = record { to = λ e. f (s.to e); from = λ q. s.from (g q) }

-- an index below n + 1 is below n, or n
pub last : {n i : ℕ} → i < suc n → (i < n) ⊎ (i ≡ n)
last {n} {i} l = split (which (eqb i n))
  where
    split : (eqb i n ≡ true) ⊎ (eqb i n ≡ false) → (i < n) ⊎ (i ≡ n)
    split (inl e) = inr (eqb-true i n e)
    split (inr e) = let ne : i ≡ n → ⊥ = says_ne (says_eq i n) e in inl (omega arith)

module _ {p : ℕ → Bool} {P : ℕ → Type 0} where
  pub says_all : (n : ℕ) → ((i : ℕ) → i < n → Says (p i) (P i)) → Says (all_below p n) ((i : ℕ) → i < n → P i)
  unfolding all_below
  says_all zero s = record { to = λ _ i l. absurd (not-suc-le-zero l); from = λ _. refl }
  says_all (suc n) s =
      says_so (says_and (says_all n (λ i l. s i (omega arith))) (s n (omega arith)))
      (λ h i l. ⊎_elim (λ m. h.0 i m) (λ e. subst P (sym e) h.1) (last l)) (λ h. (λ i l. h i (omega arith), h n (omega arith)))

  pub says_any : (n : ℕ) → ((i : ℕ) → i < n → Says (p i) (P i)) → Says (any_below p n) (SomeBelow n P)
  unfolding any_below
  says_any zero s = record { to = λ e. absurd (false≢true e); from = λ h. absurd (not-suc-le-zero h.below) }
  says_any (suc n) s =
      says_so (says_or (says_any n (λ i l. s i (omega arith))) (s n (omega arith)))
      (⊎_elim (λ h. record { at = h.at; below = omega (arith, h.below); holds = h.holds }) (λ h. record { at = n; below = omega arith; holds = h }))
      (λ h. ⊎_elim (λ m. inl (record { at = h.at; below = m; holds = h.holds })) (λ e. inr (subst P e h.holds)) (last h.below))
