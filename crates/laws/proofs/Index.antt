-- Laws of what is said by index: what stands at an index of a list, and the turns of a loop. i is the loop's index, which starts at 0.
-- Each law of a turn takes the invariant at i as its last premise and gives it at i + 1.
use mathlib.Core.Path.{◌≡◌, refl, sym, ◌∙◌, ap, subst}
use mathlib.Core.Bool.{Bool, true, false, ◌&&◌, ◌||◌}
use mathlib.Core.Logic.{◌⊎◌, inl, inr, ⊎_elim}
use Prim.Native.Nat.{ℕ, zero, suc, ◌+◌, ◌<◌, ◌≤◌}
use native.Mathlib.Nat.{not-suc-le-zero, le_of_suc-le-suc}
use native.Mathlib.Numerals.{add-one}
use native.Mathlib.Omega.{arith}
use mathlib.Core.List.{List, [], ◌∷◌, ◌++◌, append-nil}
use lib.Dec.{eqb}
use lib.ListN.{length, take, get_or, set, length-set, length-append, get_or-append}
use Rattle.std.specs.List.{list_all, list_any}
use Rattle.std.proofs.lemmas.List.{take_all}
use Rattle.std.proofs.lemmas.List.Folds.{list_all_more, list_any_more}
use lib.Seq.{set-get_or, get_or-set_same, get_or-set_other, ext_get_or, get_or-append_seam}
use Rattle.laws.specs.Says.{pick}
use Rattle.laws.specs.Index.{all_below, any_below, SomeBelow, picks, walk, tab, pad}
use Rattle.laws.proofs.Tests.{neither}
use Rattle.laws.proofs.Says.{last, never, says_eq, says_ne}

-- ---- loops: g i is the state before turn i
pub next : {A : Type 0} (g : ℕ → A) (i : ℕ) (r : A) → r ≡ g (suc i) → r ≡ g (i + 1)
next g i r e = e ∙ ap g (sym (add-one i))

pub done : {A : Type 0} (g : ℕ → A) (i n : ℕ) (r : A) → n ≤ i → i ≤ n → r ≡ g i → r ≡ g n
done g i n r l m e = e ∙ ap g (let q : i ≡ n = omega arith in q)

module _ (p : ℕ → Bool) where
  pub all_start : true ≡ all_below p 0
  unfolding all_below
  all_start = refl

  pub all_more : (i : ℕ) (b r : Bool) → r ≡ b && p i → b ≡ all_below p i → r ≡ all_below p (i + 1)
  unfolding all_below
  all_more i b r h e = next (all_below p) i r (h ∙ ap (λ (x : Bool). x && p i) e)

  pub all_same : (q : ℕ → Bool) (n : ℕ) → ((i : ℕ) → i < n → p i ≡ q i) → all_below p n ≡ all_below q n
  unfolding all_below
  all_same q zero h = refl
  all_same q (suc n) h = rw (all_same q n (λ i l. h i (omega arith)), h n (omega arith))

  -- two tests of each index
  pub all_both : (q : ℕ → Bool) (n : ℕ) → all_below (λ i. p i && q i) n ≡ all_below p n && all_below q n
  unfolding all_below
  all_both q zero = refl
  all_both q (suc n) = ap (λ (b : Bool). b && (p n && q n)) (all_both q n) ∙ go (all_below p n) (all_below q n) (p n) (q n)
    where
      go : (a b x y : Bool) → (a && b) && (x && y) ≡ (a && x) && (b && y)
      go true true x y = refl
      go true false true y = refl
      go true false false y = refl
      go false b x y = refl

  -- a test of each index is one of each element
  pub all_of_list : {A : Type 0} (test : A → Bool) (d : A) (xs : List A) (n : ℕ) → length xs ≡ n → ((i : ℕ) → i < n → p i ≡ test (get_or xs i d)) → list_all test xs ≡ all_below p n
  unfolding all_below
  all_of_list {A} test d xs n e h = ap (list_all test) (sym (take_all n xs (omega (arith, e)))) ∙ go n (omega (arith, e)) h
    where
      go : (k : ℕ) → k ≤ length xs → ((i : ℕ) → i < k → p i ≡ test (get_or xs i d)) → list_all test (take k xs) ≡ all_below p k
      go zero l q = refl
      go (suc k) l q =
          ap (λ (m : ℕ). list_all test (take m xs)) (sym (add-one k)) ∙ list_all_more test xs k d (omega arith)
          ∙ rw (go k (omega arith) (λ i m. q i (omega arith)), q k (omega arith))

  pub any_start : false ≡ any_below p 0
  unfolding any_below
  any_start = refl

  pub any_none : (n : ℕ) → ((i : ℕ) → p i ≡ false) → any_below p n ≡ false
  unfolding any_below
  any_none zero h = refl
  any_none (suc n) h = rw (any_none n h) (h n)

  pub any_no : (n i : ℕ) → i < n → any_below p n ≡ false → p i ≡ false
  unfolding any_below
  any_no zero i l e = absurd (not-suc-le-zero l)
  any_no (suc n) i l e =
      let both = neither (any_below p n) (p n) e in
      ⊎_elim (λ m. any_no n i m both.0) (λ q. ap p q ∙ both.1) (last l)

  pub any_same : (q : ℕ → Bool) (n : ℕ) → ((i : ℕ) → i < n → p i ≡ q i) → any_below p n ≡ any_below q n
  unfolding any_below
  any_same q zero h = refl
  any_same q (suc n) h = rw (any_same q n (λ i l. h i (omega arith)), h n (omega arith))

  pub any_of_list : {A : Type 0} (test : A → Bool) (d : A) (xs : List A) (n : ℕ) → length xs ≡ n → ((i : ℕ) → i < n → p i ≡ test (get_or xs i d)) → list_any test xs ≡ any_below p n
  unfolding any_below
  any_of_list {A} test d xs n e h = ap (list_any test) (sym (take_all n xs (omega (arith, e)))) ∙ go n (omega (arith, e)) h
    where
      go : (k : ℕ) → k ≤ length xs → ((i : ℕ) → i < k → p i ≡ test (get_or xs i d)) → list_any test (take k xs) ≡ any_below p k
      go zero l q = refl
      go (suc k) l q =
          ap (λ (m : ℕ). list_any test (take m xs)) (sym (add-one k)) ∙ list_any_more test xs k d (omega arith)
          ∙ rw (go k (omega arith) (λ i m. q i (omega arith)), q k (omega arith))

  pub any_more : (i : ℕ) (b r : Bool) → r ≡ b || p i → b ≡ any_below p i → r ≡ any_below p (i + 1)
  unfolding any_below
  any_more i b r h e = next (any_below p) i r (h ∙ ap (λ (x : Bool). x || p i) e)

module _ {A : Type 0} (f : A → ℕ → A) (a : A) where
  pub walk_start : a ≡ walk f a 0
  unfolding walk
  walk_start = refl

  pub walk_more : (i : ℕ) (s r : A) → r ≡ f s i → s ≡ walk f a i → r ≡ walk f a (i + 1)
  unfolding walk
  walk_more i s r h e = next (walk f a) i r (h ∙ ap (λ (s : A). f s i) e)

  -- P holds after the walk where it held before, and every turn keeps it
  pub walk_keeps : (P : ℕ → A → Type 0) (n : ℕ) → P 0 a → ((i : ℕ) (s : A) → i < n → P i s → P (suc i) (f s i)) → P n (walk f a n)
  unfolding walk
  walk_keeps P zero h turn = h
  walk_keeps P (suc n) h turn = turn n (walk f a n) (omega arith) (walk_keeps P n h (λ i s l. turn i s (omega arith)))

-- ---- a list by index
-- a walk whose turns keep the length
pub walk_long : {A : Type 0} (f : List A → ℕ → List A) → ((s : List A) (i : ℕ) → length (f s i) ≡ length s) → (s : List A) (n : ℕ) → length (walk f s n) ≡ length s
walk_long {A} f keeps s n = walk_keeps f s (λ (i : ℕ) (r : List A). length r ≡ length s) n refl (λ i r l e. keeps r i ∙ e)

pub tab_length : {A : Type 0} (f : ℕ → A) (n : ℕ) → length (tab f n) ≡ n
unfolding tab
tab_length f zero = refl
tab_length f (suc n) = ap suc (tab_length (λ i. f (suc i)) n)

pub tab_at : {A : Type 0} (f : ℕ → A) (n i : ℕ) (d : A) → i < n → get_or (tab f n) i d ≡ f i
unfolding tab
tab_at f zero i d l = absurd (not-suc-le-zero l)
tab_at f (suc n) zero d l = refl
tab_at f (suc n) (suc i) d l = tab_at (λ i. f (suc i)) n i d (le_of_suc-le-suc l)

-- a list is what stands at its indices
pub tab_is : {A : Type 0} (d : A) (f : ℕ → A) (xs : List A) (n : ℕ) → length xs ≡ n → ((i : ℕ) → i < n → get_or xs i d ≡ f i) → xs ≡ tab f n
tab_is d f xs n e h =
    ext_get_or d xs (tab f n) (e ∙ sym (tab_length f n)) (λ i l. let m : i < n = omega arith in h i m ∙ sym (tab_at f n i d m))

-- two that tell the same at each index
pub tab_same : {A : Type 0} (d : A) (f g : ℕ → A) (n : ℕ) → ((i : ℕ) → i < n → f i ≡ g i) → tab f n ≡ tab g n
tab_same d f g n h = tab_is d g (tab f n) n (tab_length f n) (λ i l. tab_at f n i d l ∙ h i l)

-- what stands at i after a store at k
pub set_seen : {A : Type 0} (xs : List A) (k i : ℕ) (v d : A) → (k ≡ i → i < length xs) → get_or (set xs k v) i d ≡ pick (eqb k i) v (get_or xs i d)
set_seen {A} xs k i v d l = go (eqb k i) refl
  where
    go : (b : Bool) → eqb k i ≡ b → get_or (set xs k v) i d ≡ pick b v (get_or xs i d)
    go true e = let same = (says_eq k i).to e in rw same (get_or-set_same xs i v d (l same))
    go false e = get_or-set_other xs k i v d (λ q. says_ne (says_eq k i) e (sym q))

-- ---- stores, one at each index
module _ {A : Type 0} (f : ℕ → A) (xs : List A) where
  -- what a loop makes of xs that stores f i at each i below n
  unfoldable pub stored : ℕ → List A
  stored zero = xs
  stored (suc i) = set (stored i) i (f i)

  pub stored_start : xs ≡ stored 0
  unfolding stored
  stored_start = refl

  pub stored_more : (i : ℕ) (ys : List A) (v : A) → v ≡ f i → ys ≡ stored i → set ys i v ≡ stored (i + 1)
  unfolding stored
  stored_more i ys v h e = next (stored) i (set ys i v) (ap (λ (r : List A). set r i v) e ∙ ap (set (stored i) i) h)

  stored_length : (n : ℕ) → length (stored n) ≡ length xs
  unfolding stored
  stored_length zero = refl
  stored_length (suc n) = length-set (stored n) n (f n) ∙ stored_length n

  stored_at : (d : A) (n i : ℕ) → n ≤ length xs → i < n → get_or (stored n) i d ≡ f i
  unfolding stored
  stored_at d zero i m l = absurd (not-suc-le-zero l)
  stored_at d (suc n) i m l =
      ⊎_elim (λ k. let ne : i ≡ n → ⊥ = λ e. omega arith in get_or-set_other (stored n) n i (f n) d ne ∙ stored_at d n i (omega arith) k)
      (λ e. subst (λ (k : ℕ). get_or (set (stored n) n (f n)) k d ≡ f k) (sym e) (get_or-set_same (stored n) n (f n) d (omega (arith, stored_length n)))) (last l)

  -- all of them
  pub stored_done : (d : A) (i n : ℕ) (ys : List A) → length xs ≡ n → n ≤ i → i ≤ n → ys ≡ stored i → ys ≡ tab f n
  stored_done d i n ys h l m e = done (stored) i n ys l m e ∙ tab_is d f (stored n) n (stored_length n ∙ h) (λ k q. stored_at d n k (omega arith) q)

-- stores that are yet to come, and one that is left out, because f tells what stands there
module _ {A : Type 0} (f : ℕ → A) (xs : List A) (d : A) where
  -- what stands past the places that are stored is what stood there
  pub stored_rest : (n i : ℕ) → n ≤ i → get_or (stored f xs n) i d ≡ get_or xs i d
  unfolding stored
  stored_rest zero i l = refl
  stored_rest (suc n) i l =
      let ne : i ≡ n → ⊥ = λ e. omega arith in
      get_or-set_other (stored f xs n) n i (f n) d ne ∙ stored_rest n i (omega arith)

  pub stored_skip : (i : ℕ) (ys : List A) → get_or xs i d ≡ f i → ys ≡ stored f xs i → ys ≡ stored f xs (i + 1)
  unfolding stored
  stored_skip i ys h e =
      let here : get_or (stored f xs i) i d ≡ f i = stored_rest i i (omega arith) ∙ h in
      next (stored f xs) i ys (e ∙ sym (ap (set (stored f xs i) i) (sym here) ∙ set-get_or (stored f xs i) i d))

-- ---- membership, and a list that rises
abbrev pub In : List ℕ → ℕ → Type 0
In xs x = SomeBelow (length xs) (λ m. get_or xs m 0 ≡ x)

abbrev pub Rising : List ℕ → Type 0
Rising xs = (m k : ℕ) → m < k → k < length xs → get_or xs m 0 < get_or xs k 0

module _ (xs : List ℕ) (v : ℕ) where
  more : length (xs ++ v ∷ []) ≡ length xs + 1
  more = length-append xs (v ∷ [])

  in_front : (x : ℕ) → In xs x → In (xs ++ v ∷ []) x
  in_front x h = record { at = h.at; below = omega (arith, more, h.below); holds = get_or-append xs (v ∷ []) 0 h.at h.below ∙ h.holds }

  in_last : In (xs ++ v ∷ []) v
  in_last = record { at = length xs; below = omega (arith, more); holds = get_or-append_seam xs v [] 0 }

  in_cases : (x : ℕ) → In (xs ++ v ∷ []) x → In xs x ⊎ (x ≡ v)
  in_cases x h =
      ⊎_elim (λ l. inl (record { at = h.at; below = l; holds = sym (get_or-append xs (v ∷ []) 0 h.at l) ∙ h.holds }))
      (λ e. inr (sym h.holds ∙ ap (λ (k : ℕ). get_or (xs ++ v ∷ []) k 0) e ∙ get_or-append_seam xs v [] 0)) (last (omega (arith, more, h.below)))

  rising_more : Rising xs → ((x : ℕ) → In xs x → x < v) → Rising (xs ++ v ∷ [])
  rising_more r h m k l q =
      let front : get_or (xs ++ v ∷ []) m 0 ≡ get_or xs m 0 = get_or-append xs (v ∷ []) 0 m (omega (arith, more)) in
      ⊎_elim (λ u. omega (arith, get_or-append xs (v ∷ []) 0 k u, r m k l u))
      (λ (e : k ≡ length xs). let z : get_or (xs ++ v ∷ []) k 0 ≡ v = ap (λ (k : ℕ). get_or (xs ++ v ∷ []) k 0) e ∙ get_or-append_seam xs v [] 0 in
      omega (arith, h (get_or xs m 0) (record { at = m; below = omega arith; holds = refl }))) (last (omega (arith, more)))

-- ---- the indices with p, as a list
module _ (p : ℕ → Bool) (g : ℕ → ℕ) where
  abbrev pub Called : ℕ → ℕ → Type 0
  Called n x = SomeBelow n (λ i. (p i ≡ true) × (g i ≡ x))

  -- the list holds what g calls an index below n with p ..
  pub picks_in : (n x : ℕ) → In (picks p g n) x → Called n x
  unfolding picks
  picks_in zero x h = absurd (not-suc-le-zero h.below)
  picks_in (suc n) x h = go (picks_in n x) (p n) refl h
    where
      up : Called n x → Called (suc n) x
      up r = record { at = r.at; below = omega (arith, r.below); holds = r.holds }

      go : (In (picks p g n) x → Called n x) → (b : Bool) → p n ≡ b → In (picks p g n ++ pick b (g n ∷ []) []) x → Called (suc n) x
      go ih true e h = ⊎_elim (λ u. up (ih u)) (λ q. record { at = n; below = omega arith; holds = (e, sym q) }) (in_cases (picks p g n) (g n) x h)
      go ih false e h = up (ih (subst (λ (xs : List ℕ). In xs x) (append-nil (picks p g n)) h))

  -- .. and each of them
  pub picks_all : (n i : ℕ) → i < n → p i ≡ true → In (picks p g n) (g i)
  unfolding picks
  picks_all zero i l e = absurd (not-suc-le-zero l)
  picks_all (suc n) i l e = go (λ m. picks_all n i m e) (p n) refl
    where
      go : (i < n → In (picks p g n) (g i)) → (b : Bool) → p n ≡ b → In (picks p g n ++ pick b (g n ∷ []) []) (g i)
      go ih true h =
          ⊎_elim (λ m. in_front (picks p g n) (g n) (g i) (ih m))
          (λ q. subst (λ (k : ℕ). In (picks p g n ++ g n ∷ []) (g k)) (sym q) (in_last (picks p g n) (g n))) (last l)
      go ih false h = subst (λ (xs : List ℕ). In xs (g i)) (sym (append-nil (picks p g n))) (⊎_elim ih (λ q. never e (ap p q ∙ h)) (last l))

  -- .. in rising order, where g rises
  pub picks_rise : ((i k : ℕ) → i < k → g i < g k) → (n : ℕ) → Rising (picks p g n)
  unfolding picks
  picks_rise up zero = λ m k l q. absurd (not-suc-le-zero q)
  picks_rise up (suc n) = go (picks_rise up n) (p n)
    where
      go : Rising (picks p g n) → (b : Bool) → Rising (picks p g n ++ pick b (g n ∷ []) [])
      go ih true = rising_more (picks p g n) (g n) ih (λ x h. let r = picks_in n x h in subst (λ (y : ℕ). y < g n) r.holds.1 (up r.at n r.below))
      go ih false = subst Rising (sym (append-nil (picks p g n))) ih

  pub picks_start : [] ≡ picks p g 0
  unfolding picks
  picks_start = refl

  pub picks_more : (i : ℕ) → picks p g i ++ pick (p i) (g i ∷ []) [] ≡ picks p g (i + 1)
  unfolding picks
  picks_more i = next (picks p g) i (picks p g (suc i)) refl

  pub picks_le : (n : ℕ) → length (picks p g n) ≤ n
  unfolding picks
  picks_le zero = omega arith
  picks_le (suc n) = go (picks_le n) (p n)
    where
      go : length (picks p g n) ≤ n → (b : Bool) → length (picks p g n ++ pick b (g n ∷ []) []) ≤ suc n
      go ih true = omega (arith, more (picks p g n) (g n))
      go ih false = omega (arith, ap length (append-nil (picks p g n)))

pub picks_same : (p q : ℕ → Bool) (g : ℕ → ℕ) (n : ℕ) → ((i : ℕ) → i < n → p i ≡ q i) → picks p g n ≡ picks q g n
unfolding picks
picks_same p q g zero h = refl
picks_same p q g (suc n) h = rw (picks_same p q g n (λ i l. h i (omega arith)), h n (omega arith))

pub picks_none : (p : ℕ → Bool) (g : ℕ → ℕ) (n : ℕ) → ((i : ℕ) → i < n → p i ≡ false) → picks p g n ≡ []
unfolding picks
picks_none p g zero h = refl
picks_none p g (suc n) h = rw (picks_none p g n (λ i l. h i (omega arith)), h n (omega arith))

-- ---- a list in an array, zero beyond its end
pub pad_push : (n : ℕ) (xs : List ℕ) (v : ℕ) → set (pad n xs) (length xs) v ≡ pad n (xs ++ v ∷ [])
unfolding pad
pad_push zero xs v = refl
pad_push (suc n) [] v = refl
pad_push (suc n) (x ∷ xs) v = ap (λ (r : List ℕ). x ∷ r) (pad_push n xs v)

pub pad_at : (n : ℕ) (xs : List ℕ) (i : ℕ) → i < n → get_or (pad n xs) i 0 ≡ get_or xs i 0
unfolding pad
pad_at zero xs i l = absurd (not-suc-le-zero l)
pad_at (suc n) [] zero l = refl
pad_at (suc n) [] (suc i) l = pad_at n [] i (le_of_suc-le-suc l)
pad_at (suc n) (x ∷ xs) zero l = refl
pad_at (suc n) (x ∷ xs) (suc i) l = pad_at n xs i (le_of_suc-le-suc l)

pub pad_rest : (n : ℕ) (xs : List ℕ) (i : ℕ) → length xs ≤ i → get_or (pad n xs) i 0 ≡ 0
unfolding pad
pad_rest zero xs i l = refl
pad_rest (suc n) [] zero l = refl
pad_rest (suc n) [] (suc i) l = pad_rest n [] i (omega arith)
pad_rest (suc n) (x ∷ xs) zero l = absurd (not-suc-le-zero l)
pad_rest (suc n) (x ∷ xs) (suc i) l = pad_rest n xs i (le_of_suc-le-suc l)
