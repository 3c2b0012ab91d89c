-- Laws of sums and counts over indices, and of lists of numbers that are no longer than another.
use mathlib.Core.Path.{◌≡◌, refl, sym, ◌∙◌, ap, subst}
use mathlib.Core.Bool.{Bool, true, false}
use mathlib.Core.Logic.{◌⊎◌, inl, inr, ⊎_elim}
use mathlib.Core.List.{List, [], ◌∷◌, ◌++◌}
use Prim.Native.Nat.{ℕ, zero, suc, ◌+◌, ◌*◌, ◌<◌, ◌≤◌}
use native.Mathlib.Nat.{add-zero, add-suc}
use native.Mathlib.Omega.{arith}
use lib.ListN.{length, length-append}
use Rattle.laws.specs.Says.{pick}
use Rattle.laws.specs.Index.{picks, joined, one, sum_below, count_below}
use Rattle.laws.specs.Lists.{is_in, repeats}
use Rattle.laws.proofs.Says.{never}
use Rattle.laws.proofs.Index.{next, Called}
use Rattle.laws.proofs.Joined.{Fresh, In, in_head, in_tail, in_cons, in_none, joined_in, in_joined, joined_fresh}
use Rattle.laws.proofs.Repeats.{With, here, there, with_length, no_repeat}

-- ---- sums
module _ (f : ℕ → ℕ) where
  pub sum_start : 0 ≡ sum_below f 0
  unfolding sum_below
  sum_start = refl

  pub sum_more : (i b r : ℕ) → r ≡ b + f i → b ≡ sum_below f i → r ≡ sum_below f (i + 1)
  unfolding sum_below
  sum_more i b r h e = next (sum_below f) i r (h ∙ ap (λ (x : ℕ). x + f i) e)

  pub sum_same : (g : ℕ → ℕ) (n : ℕ) → ((i : ℕ) → i < n → f i ≡ g i) → sum_below f n ≡ sum_below g n
  unfolding sum_below
  sum_same g zero h = refl
  sum_same g (suc n) h = rw (sum_same g n (λ i l. h i (omega arith)), h n (omega arith))

  pub sum_le : (k n : ℕ) → ((i : ℕ) → i < n → f i ≤ k) → sum_below f n ≤ n * k
  unfolding sum_below
  sum_le k zero h = omega arith
  sum_le k (suc n) h = omega (arith, sum_le k n (λ i l. h i (omega arith)), h n (omega arith))

  -- the indices below a, then the b after them
  pub sum_split : (a b : ℕ) → sum_below f (a + b) ≡ sum_below f a + sum_below (λ i. f (a + i)) b
  unfolding sum_below
  sum_split a zero = ap (sum_below f) (add-zero a) ∙ sym (add-zero (sum_below f a))
  sum_split a (suc b) = ap (sum_below f) (add-suc a b) ∙ (let q = sum_split a b in omega arith)

-- ---- counts
module _ (p : ℕ → Bool) where
  pub count_start : 0 ≡ count_below p 0
  unfolding count_below
  count_start = sum_start (λ i. one (p i))

  pub count_more : (i b r : ℕ) → r ≡ b + one (p i) → b ≡ count_below p i → r ≡ count_below p (i + 1)
  unfolding count_below
  count_more = sum_more (λ i. one (p i))

  pub count_same : (q : ℕ → Bool) (n : ℕ) → ((i : ℕ) → i < n → p i ≡ q i) → count_below p n ≡ count_below q n
  unfolding count_below
  count_same q n h = sum_same (λ i. one (p i)) (λ i. one (q i)) n (λ i l. ap one (h i l))

  pub count_le : (n : ℕ) → count_below p n ≤ n
  unfolding count_below
  count_le n = omega (arith, sum_le (λ i. one (p i)) 1 n (λ i l. at_most (p i)))
    where
      at_most : (b : Bool) → one b ≤ 1
      at_most true = omega arith
      at_most false = omega arith

  -- k parts of m indices each
  pub count_parts : (m k : ℕ) → sum_below (λ j. count_below (λ i. p (j * m + i)) m) k ≡ count_below p (k * m)
  unfolding count_below sum_below
  count_parts m zero = ap (count_below p) (let e : 0 ≡ 0 * m = omega arith in e)
  count_parts m (suc k) =
      ap (λ (c : ℕ). c + count_below (λ i. p (k * m + i)) m) (count_parts m k) ∙ sym (sum_split (λ i. one (p i)) (k * m) m)
      ∙ ap (count_below p) (let e : k * m + m ≡ suc k * m = omega arith in e)

-- ---- the pieces below n, one after the other
pub joined_long : (piece : ℕ → List ℕ) (n : ℕ) → length (joined piece n) ≡ sum_below (λ i. length (piece i)) n
unfolding joined sum_below
joined_long piece zero = refl
joined_long piece (suc n) = length-append (joined piece n) (piece n) ∙ ap (λ (k : ℕ). k + length (piece n)) (joined_long piece n)

-- ---- the indices with p, under the names that g gives them
module _ (p : ℕ → Bool) (g : ℕ → ℕ) where
  -- the name of i, if it has p
  piece : ℕ → List ℕ
  piece i = pick (p i) (g i ∷ []) []

  pieces : (n : ℕ) → joined piece n ≡ picks p g n
  unfolding joined picks piece
  pieces zero = refl
  pieces (suc n) = ap (λ (xs : List ℕ). xs ++ piece n) (pieces n)

  piece_long : (i : ℕ) → length (piece i) ≡ one (p i)
  unfolding piece
  piece_long i = go (p i)
    where
      go : (b : Bool) → length (pick b (g i ∷ []) []) ≡ one b
      go true = refl
      go false = refl

  piece_in : (x i : ℕ) → In x (piece i) → (p i ≡ true) × (g i ≡ x)
  unfolding piece
  piece_in x i = go (p i) refl
    where
      go : (b : Bool) → p i ≡ b → In x (pick b (g i ∷ []) []) → (p i ≡ true) × (g i ≡ x)
      go true e h = (e, ⊎_elim sym (in_none x) (in_cons x (g i) [] h))
      go false e h = in_none x h

  in_piece : (i : ℕ) → p i ≡ true → In (g i) (piece i)
  unfolding piece
  in_piece i e = rw e (in_head (g i) [])

  piece_fresh : (i : ℕ) → Fresh (piece i)
  unfolding piece repeats is_in
  piece_fresh i = go (p i)
    where
      go : (b : Bool) → Fresh (pick b (g i ∷ []) [])
      go true = refl
      go false = refl

  -- as many as are counted
  pub picks_long : (n : ℕ) → length (picks p g n) ≡ count_below p n
  unfolding count_below
  picks_long n = ap length (sym (pieces n)) ∙ joined_long piece n ∙ sum_same (λ i. length (piece i)) (λ i. one (p i)) n (λ i l. piece_long i)

  -- those and no other
  pub picks_tell : (n x : ℕ) → In x (picks p g n) → Called p g n x
  picks_tell n x h =
      let r = joined_in piece n x (subst (In x) (sym (pieces n)) h) in
      record { at = r.at; below = r.below; holds = piece_in x r.at r.holds }

  pub picks_have : (n i : ℕ) → i < n → p i ≡ true → In (g i) (picks p g n)
  picks_have n i l e = subst (In (g i)) (pieces n) (in_joined piece n (g i) i l (in_piece i e))

  -- none twice, where no two of them have one name
  pub picks_fresh : (n : ℕ) → ((i k : ℕ) → i < n → k < n → p i ≡ true → p k ≡ true → g i ≡ g k → i ≡ k) → Fresh (picks p g n)
  picks_fresh n apart =
      subst Fresh (pieces n)
      (joined_fresh piece n (λ i l. piece_fresh i)
      (λ i k l m x a b.
      let u = piece_in x i a in
      let v = piece_in x k b in
      apart i k l m u.0 v.0 (u.1 ∙ sym v.1)))

-- under their own
module _ (p : ℕ → Bool) (n : ℕ) where
  abbrev pub indices : List ℕ
  indices = picks p (λ i. i) n

  pub indices_fresh : Fresh indices
  indices_fresh = picks_fresh p (λ i. i) n (λ i k l m a b e. e)

  pub indices_tell : (x : ℕ) → In x indices → (x < n) × (p x ≡ true)
  indices_tell x h =
      let r = picks_tell p (λ i. i) n x h in
      let e = r.holds.1 in
      (subst (λ (k : ℕ). k < n) e r.below, ap p (sym e) ∙ r.holds.0)

  pub indices_have : (x : ℕ) → x < n → p x ≡ true → In x indices
  indices_have x = picks_have p (λ i. i) n x

-- ---- numbers of which none is there twice, all in another list, are no more than that has
-- the rest of a list, and what is still in it
without : (x : ℕ) (ys : List ℕ) → In x ys → (zs : List ℕ) × With x zs ys
without x [] h = in_none x h
without x (y ∷ ys) h =
    ⊎_elim (λ e. subst (λ (z : ℕ). (zs : List ℕ) × With x zs (z ∷ ys)) e (ys, here)) (λ i. let r = without x ys i in (y ∷ r.0, there r.1)) (in_cons x y ys h)

still_in : {x : ℕ} {zs ys : List ℕ} (y : ℕ) → With x zs ys → In y ys → (y ≡ x) ⊎ In y zs
still_in {x} {zs} y here h = in_cons y x zs h
still_in y (there {q} {ps} {qs} w) h =
    ⊎_elim (λ e. inr (subst (λ (z : ℕ). In y (z ∷ ps)) e (in_head y ps))) (λ i. ⊎_elim inl (λ k. inr (in_tail y q ps k)) (still_in y w i)) (in_cons y q qs h)

pub fresh_within : (xs ys : List ℕ) → Fresh xs → ((x : ℕ) → In x xs → In x ys) → length xs ≤ length ys
fresh_within [] ys f h = omega arith
fresh_within (x ∷ xs) ys f h =
    let r = no_repeat x xs f in
    let cut = without x ys (h x (in_head x xs)) in
    let rest : length xs ≤ length cut.0 = fresh_within xs cut.0 r.1
    (λ y i. ⊎_elim (λ e. never i (ap (λ (z : ℕ). is_in z xs) e ∙ r.0)) (λ k. k) (still_in y cut.1 (h y (in_tail y x xs i)))) in
    omega (arith, with_length cut.1)
