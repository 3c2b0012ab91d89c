-- Conflicts as the code finds them: `took` is whether a new filter has the old one's precedence.
use mathlib.Core.Path.{◌≡◌, refl, sym, ◌∙◌, ap}
use mathlib.Core.Bool.{Bool, true, false, not, ◌&&◌, ◌||◌}
use mathlib.Core.List.{List}
use Prim.Native.Nat.{ℕ, suc, ◌+◌, ◌<◌}
use native.Mathlib.Omega.{arith}
use lib.Dec.{eqb}
use lib.ListN.{length, get_or, set, replicate, length-set, length-replicate, get_or-replicate}
use lib.Seq.{get_or-set_same, get_or-set_other}
use mathlib.Core.Logic.{⊎_elim}
use Rattle.laws.specs.Says.{pick}
use Rattle.laws.specs.Index.{any_below, tab}
use Rattle.laws.proofs.Index.{next, tab_at, tab_length, tab_is, any_none}
use Rattle.laws.proofs.Says.{which, never, by_test, says_eq, says_ne}
use Rattle.filter.specs.declared.component.Filter.{Filter}
use Rattle.filter.specs.Coding.{held}
use Rattle.table.specs.declared.bearer.Table.{Table}
use Rattle.filter.specs.Sizes.{place_count, precedence_count}
use Rattle.filter.specs.Build.{empty_filter}
use Rattle.table.specs.Bearers.{in_row, bearer_at}
use Rattle.calls.specs.declared.incoming.Standing.{Standing}
use Rattle.table.specs.Changes.{of_connection}
use Rattle.laws.proofs.Tests.{neither}
use Rattle.calls.specs.Lay.{old, taken_by, takes, conflict, placed, placed_in, conflict_in, loses, loses_at}

abbrev pub so : Bool → Bool → Standing
so named connected = record { named = named; connected = connected }

-- ---- the precedences of the new filters
abbrev pub taken_below : List Filter → ℕ → ℕ → Bool
taken_below new j p = any_below (taken_by new p) j

pub taken_start : (new : List Filter) → replicate precedence_count false ≡ tab (taken_below new 0) precedence_count
unfolding any_below
taken_start new = tab_is false (taken_below new 0) (replicate precedence_count false) precedence_count (length-replicate precedence_count false) (λ i l. get_or-replicate precedence_count i false false l)

-- the filter at j marks its precedence q
pub taken_more : (new : List Filter) (j q : ℕ) (ms : List Bool) (h : Bool) → q < precedence_count → q ≡ (in_row new j).precedence → h ≡ held (in_row new j)
    → ms ≡ tab (taken_below new j) precedence_count → set ms q (get_or ms q false || h) ≡ tab (taken_below new (j + 1)) precedence_count
unfolding any_below taken_by
taken_more new j q ms h l eq eh e =
    next (λ (j : ℕ). tab (taken_below new j) precedence_count) j (set ms q (get_or ms q false || h))
    (tab_is false (taken_below new (suc j)) (set ms q (get_or ms q false || h)) precedence_count (length-set ms q _ ∙ long) at)
  where
    long : length ms ≡ precedence_count
    long = ap length e ∙ tab_length (taken_below new j) precedence_count

    was : (p : ℕ) → p < precedence_count → get_or ms p false ≡ taken_below new j p
    was p m = ap (λ (ms : List Bool). get_or ms p false) e ∙ tab_at (taken_below new j) precedence_count p false m

    and_true : (b : Bool) → b ≡ b && true
    and_true true = refl
    and_true false = refl

    and_false : (b : Bool) → false ≡ b && false
    and_false true = refl
    and_false false = refl

    or_false : (b : Bool) → b ≡ b || false
    or_false true = refl
    or_false false = refl

    at : (p : ℕ) → p < precedence_count → get_or (set ms q (get_or ms q false || h)) p false ≡ taken_below new j p || (held (in_row new j) && eqb (in_row new j).precedence p)
    at p m =
        ⊎_elim
        (λ w. let same : q ≡ p = (says_eq q p).to w in
        ap (λ (k : ℕ). get_or (set ms q (get_or ms q false || h)) k false) (sym same)
        ∙ get_or-set_same ms q _ false (omega (arith, long))
        ∙ ap (λ (b : Bool). b || h) (ap (λ (k : ℕ). get_or ms k false) same ∙ was p m)
        ∙ ap (λ (b : Bool). taken_below new j p || b) (eh ∙ and_true (held (in_row new j)) ∙ ap (λ (b : Bool). held (in_row new j) && b) (sym w ∙ ap (λ (k : ℕ). eqb k p) eq)))
        (λ w. let other : p ≡ q → ⊥ = λ z. says_ne (says_eq q p) w (sym z) in
        get_or-set_other ms q p _ false other ∙ was p m ∙ or_false (taken_below new j p)
        ∙ ap (λ (b : Bool). taken_below new j p || b) (and_false (held (in_row new j)) ∙ ap (λ (b : Bool). held (in_row new j) && b) (sym w ∙ ap (λ (k : ℕ). eqb k p) eq)))
        (which (eqb q p))

pub taken_done : (new : List Filter) → tab (taken_below new place_count) precedence_count ≡ tab (takes new) precedence_count
unfolding takes
taken_done new = refl

-- ---- one place
module _ (new : List Filter) (create named connected : Bool) (n f : Filter) (took hit : Bool) (et : took ≡ takes new f.precedence) (eh : hit ≡ connected && held f && took) where
  hit_is : hit ≡ conflict new connected f
  unfolding conflict
  hit_is = eh ∙ ap (λ (b : Bool). connected && held f && b) et

  no_conflict : (connected : Bool) → conflict new connected empty_filter ≡ false
  unfolding conflict held
  no_conflict true = refl
  no_conflict false = refl

  pub conflict_old : (rem : Bool) → rem ≡ not (named && (create || held n)) → rem && hit ≡ conflict new connected (old create (so named connected) n f)
  unfolding old
  conflict_old rem er = ap (λ (b : Bool). b && hit) er ∙ ap (λ (b : Bool). not (named && (create || held n)) && b) hit_is ∙ go (named && (create || held n))
    where
      go : (b : Bool) → not b && conflict new connected f ≡ conflict new connected (pick b empty_filter f)
      go true = sym (no_conflict connected)
      go false = refl

-- the code's question
pub conflict_is : (new : List Filter) (taken : List Bool) (create : Bool) (s : Standing) (n f : Filter) → taken ≡ tab (takes new) precedence_count → f.precedence < precedence_count
    → not (s.named && (create || held n)) && (s.connected && held f && get_or taken f.precedence false) ≡ conflict new s.connected (old create s n f)
conflict_is new taken create s n f e l =
    conflict_old new create s.named s.connected n f (get_or taken f.precedence false) _
    (ap (λ (ms : List Bool). get_or ms f.precedence false) e ∙ tab_at (takes new) precedence_count f.precedence false l) refl _ refl

-- ---- one place of a row that is laid on
module _ (new row : List Filter) (create : Bool) (s : Standing) (j : ℕ) where
  pub placed_new : s.named && held (in_row new j) ≡ true → in_row new j ≡ placed_in new create s row j
  unfolding placed_in placed
  placed_new h = rw h

  -- b: the old one is a conflict
  module _ (h : s.named && held (in_row new j) ≡ false) (b : Bool) (c : b ≡ conflict new s.connected (old create s (in_row new j) (in_row row j))) where
    remains : (s.named && create) || b ≡ false → s.named && (create || held (in_row new j)) ≡ false
    remains e = go s.named create (held (in_row new j)) h e
      where
        go : (named create held : Bool) → named && held ≡ false → (named && create) || b ≡ false → named && (create || held) ≡ false
        go false create held h e = refl
        go true true held h e = e
        go true false held h e = h

    hit : (named create held : Bool) → named && (create || held) ≡ false → (named && create) || b ≡ true → b ≡ true
    hit false create held q e = e
    hit true true held q e = never refl q
    hit true false held q e = e

    pub placed_gone : (s.named && create) || b ≡ true → empty_filter ≡ placed_in new create s row j
    unfolding placed_in placed old
    placed_gone e = rw h (go (s.named && (create || held (in_row new j))) refl)
      where
        go : (r : Bool) → s.named && (create || held (in_row new j)) ≡ r
            → empty_filter ≡ pick (conflict new s.connected (pick r empty_filter (in_row row j))) empty_filter (pick r empty_filter (in_row row j))
        go true q = by_test (λ (f : Filter). empty_filter ≡ f) (conflict new s.connected empty_filter) empty_filter empty_filter (λ _. refl) (λ _. refl)
        go false q = rw (sym (c ∙ ap (λ (r : Bool). conflict new s.connected (pick r empty_filter (in_row row j))) q) ∙ hit s.named create (held (in_row new j)) q e)

    pub placed_old : (s.named && create) || b ≡ false → in_row row j ≡ placed_in new create s row j
    unfolding placed_in placed old
    placed_old e = rw (h, remains e) (rw (sym (c ∙ ap (λ (r : Bool). conflict new s.connected (pick r empty_filter (in_row row j))) (remains e)) ∙ (neither (s.named && create) b e).1))

-- ---- one row
module _ (new : List Filter) (create : Bool) where
  loses_none : (named : Bool) (row : List Filter) → loses new create (so named false) row ≡ false
  unfolding loses conflict_in conflict
  loses_none named row = any_none (conflict_in new create (so named false) row) place_count (λ j. refl)

  -- ---- the bearers
  module _ (t : Table) (k connection : ℕ) where
    pub mine_loses : (i : ℕ) (r : Bool) → of_connection t connection i ≡ true → r ≡ loses new create (so (eqb i k) true) (bearer_at t i).row
        → r ≡ loses_at new create t k connection i
    unfolding loses_at
    mine_loses i r m e = e ∙ ap (λ (connected : Bool). loses new create (so (eqb i k) connected) (bearer_at t i).row) (sym m)

    pub other_loses : (i : ℕ) → of_connection t connection i ≡ false → false ≡ loses_at new create t k connection i
    unfolding loses_at
    other_loses i m =
        sym (loses_none (eqb i k) (bearer_at t i).row) ∙ ap (λ (connected : Bool). loses new create (so (eqb i k) connected) (bearer_at t i).row) (sym m)
