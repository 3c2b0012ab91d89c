-- The octets of the lists while they are made: what stands at octet n when lists are emptied and rows put.
use mathlib.Core.Path.{◌≡◌, refl, sym, ◌∙◌, ap, subst}
use mathlib.Core.Bool.{Bool, true, false, not, ◌&&◌, and-true, and-false}
use mathlib.Core.Logic.{⊎_elim}
use mathlib.Core.List.{List, ◌++◌}
use Prim.Native.Nat.{ℕ, ◌+◌, ◌-◌, ◌*◌, ◌/◌, ◌%◌, ◌<◌, ◌≤◌}
use native.Mathlib.Nat.{add-zero}
use native.Mathlib.Omega.{arith}
use lib.Dec.{eqb}
use lib.ListN.{length, get_or, take, drop, set, replicate, length-set, length-append}
use borrow.Author.Tests.{eqb-true, eqb-false, eq-eqb, ne_eqb}
use Rattle.laws.specs.Says.{pick}
use Rattle.laws.specs.Index.{any_below, last_below, walk, one, count_below}
use Rattle.laws.proofs.Index.{done, tab_is, set_seen, walk_keeps, walk_long, walk_more}
use Rattle.std.proofs.lemmas.Bool.{cases_lt}
use Rattle.std.proofs.lemmas.List.{length-take, length-take-le, length-drop, length-replicate, get_or_append_left, get_or-append_right, get_or-take, get_or-drop, get_or-replicate}
use Rattle.laws.proofs.Counts.{sum_split, count_more, count_same}
use Rattle.laws.proofs.Lasts.{Last, NoLast, last_cases, last_else, last_none, last_same, last_map, last_walk}
use Rattle.laws.proofs.Says.{never, picked, says_eq, says_same, says_so}
use Rattle.laws.proofs.Tests.{both}
use Rattle.laws.proofs.Typed.{each_at}
use Rattle.filter.specs.declared.component.Filter.{Filter}
use Rattle.filter.specs.Sizes.{place_count, precedence_count}
use Rattle.filter.specs.Build.{empty_filter}
use Rattle.table.specs.declared.bearer.Bearer.{Bearer}
use Rattle.table.specs.declared.bearer.Table.{Table}
use Rattle.table.specs.Bearers.{bearer_count, is_identity, index_of, identity_of, no_bearer, bearer_from, filter_from, connection_from, in_row}
use Rattle.table.specs.Lists.{is_uplink, nothing, place_has, bearer_has, entry_of, entry_in, entry_at, cell_of, encoded, held_count, cell_at}
use Rattle.table.specs.Ranges.{TableInRange}
use Rattle.table.specs.Tables.{relisted_at, relisted_of}
use Rattle.table.specs.Inner.Lists.{begins_at, cleared, cleared_by, put_filter, put_row, touches, put_bearer, names_at}
use Rattle.table.proofs.Meaning.{range_says}

abbrev pub Long : List ℕ → Type 0
Long cells = length cells ≡ held_count

-- an index that one test alone is true of
only_last : {A : Type 0} (p : ℕ → Bool) (a d : A) (n k : ℕ) → k < n → ((i : ℕ) → i < n → p i ≡ true → i ≡ k) → last_below p (λ i. a) d n ≡ pick (p k) a d
only_last p a d n k l one = ⊎_elim (λ h. h.is ∙ found h) (λ h. h.is ∙ missed h) (last_cases p (λ i. a) d n)
  where
    found : Last p (λ i. a) n (last_below p (λ i. a) d n) → a ≡ pick (p k) a d
    found h = rw (subst (λ (i : ℕ). p i ≡ true) (one h.at h.below h.holds) h.holds)

    missed : NoLast p (λ i. a) d n (last_below p (λ i. a) d n) → d ≡ pick (p k) a d
    missed h = go (p k) refl
      where
        go : (b : Bool) → p k ≡ b → d ≡ pick b a d
        go true e = absurd (h.none k l e)
        go false e = refl

cleared_long : (i : ℕ) (cells : List ℕ) → i < bearer_count → Long cells → Long (cleared (i * precedence_count) cells)
unfolding cleared
cleared_long i cells l long = simp (length-append, length-take, length-drop) (omega (arith, long, length-replicate {A = ℕ} precedence_count 0))

module _ (n : ℕ) (small : n < held_count) where
  abbrev at : List ℕ → ℕ
  at cells = get_or cells n 0

  -- the index of the list that octet n is of, and its position
  abbrev d : ℕ
  d = n / precedence_count

  abbrev p : ℕ
  p = n % precedence_count

  set_at : (b : Bool) (cells : List ℕ) (k v : ℕ) → Long cells → let after = pick b (set cells k v) cells in Long after × (at after ≡ pick (b && eqb k n) v (at cells))
  set_at true cells k v long = (simp length-set long, set_seen cells k n v 0 (λ _. omega (arith, long)))
  set_at false cells k v long = (long, refl)

  -- ---- lists emptied
  cleared_at_lem : (i : ℕ) (cells : List ℕ) → i < bearer_count → Long cells → at (cleared (i * precedence_count) cells) ≡ pick (eqb d i) 0 (at cells)
  unfolding cleared
  cleared_at_lem i cells l long = ⊎_elim before (λ m. ⊎_elim (inside m) after (cases_lt n (from + precedence_count))) (cases_lt n from)
    where
      from : ℕ
      from = i * precedence_count

      front : length (take from cells) ≡ from
      front = length-take-le from cells (omega (arith, long))

      rest : List ℕ
      rest = replicate precedence_count 0 ++ drop precedence_count (drop from cells)

      before : n < from → get_or (take from cells ++ rest) n 0 ≡ pick (eqb d i) 0 (at cells)
      before m = rw (ne_eqb d i (λ e. omega (arith, e))) (get_or_append_left (take from cells) rest 0 n (omega (arith, front)) ∙ get_or-take from cells n 0 m)

      inside : from ≤ n → n < from + precedence_count → get_or (take from cells ++ rest) n 0 ≡ pick (eqb d i) 0 (at cells)
      inside m o =
          rw (eq-eqb d i (omega arith))
          (get_or-append_right (take from cells) rest from n 0 front m
          ∙ get_or_append_left (replicate precedence_count 0) (drop precedence_count (drop from cells)) 0 (n - from) (omega (arith, length-replicate {A = ℕ} precedence_count 0))
          ∙ get_or-replicate precedence_count (n - from) 0 0 (omega arith))

      after : from + precedence_count ≤ n → get_or (take from cells ++ rest) n 0 ≡ pick (eqb d i) 0 (at cells)
      after o =
          rw (ne_eqb d i (λ e. omega (arith, e)))
          (get_or-append_right (take from cells) rest from n 0 front (omega arith)
          ∙ get_or-append_right (replicate precedence_count 0) (drop precedence_count (drop from cells)) precedence_count (n - from) 0 (length-replicate {A = ℕ} precedence_count 0) (omega arith)
          ∙ get_or-drop precedence_count (drop from cells) (n - from - precedence_count) 0
          ∙ get_or-drop from cells (precedence_count + (n - from - precedence_count)) 0
          ∙ (let q : from + (precedence_count + (n - from - precedence_count)) ≡ n = omega arith in ap (λ (k : ℕ). get_or cells k 0) q))

  module _ (touched : List Bool) where
    abbrev is : Bool
    is = get_or touched d false

    cleared_by_lem : (i : ℕ) (cells : List ℕ) → i < bearer_count → Long cells → Long (cleared_by touched cells i) × (at (cleared_by touched cells i) ≡ pick (get_or touched i false && eqb d i) 0 (at cells))
    unfolding cleared_by
    cleared_by_lem i cells l long = go (get_or touched i false)
      where
        go : (b : Bool) → let after = pick b (cleared (i * precedence_count) cells) cells in Long after × (at after ≡ pick (b && eqb d i) 0 (at cells))
        go true = (cleared_long i cells l long, cleared_at_lem i cells l long)
        go false = (long, refl)

    -- those touched are empty
    emptied_at : (cells : List ℕ) → Long cells → Long (walk (cleared_by touched) cells bearer_count) × (at (walk (cleared_by touched) cells bearer_count) ≡ pick is 0 (at cells))
    emptied_at cells long =
        let (z, e) = last_walk (λ i. get_or touched i false && eqb d i) (λ i. 0) Long at (cleared_by touched) cells bearer_count long (λ i s l g. cleared_by_lem i s l g) in (
          z,
          e ∙ only_last (λ i. get_or touched i false && eqb d i) 0 (at cells) bearer_count d (omega arith)
              (λ i l h. sym (eqb-true d i (both (get_or touched i false) (eqb d i) h).1)) ∙ ap (λ (b : Bool). pick b 0 (at cells)) same,
        )
      where
        same : get_or touched d false && eqb d d ≡ is
        same = rw (eq-eqb d d refl) (and-true is)

    -- ---- rows put
    module _ (bs : List Bearer) (i : ℕ) (fits : (j : ℕ) → j < place_count → (filter_from bs i j).precedence < precedence_count) where
      abbrev c : ℕ
      c = connection_from bs i

      abbrev row : List Filter
      row = (bearer_from bs i).row

      -- a filter's octet in the list that begins at from
      abbrev lands : ℕ → ℕ → Bool
      lands from j = is_uplink (in_row row j) && eqb (from + (in_row row j).precedence) n

      row_at : (from : ℕ) (cells : List ℕ) → Long cells → let after = put_row row from (identity_of i) cells in
          Long after × (at after ≡ last_below (lands from) (cell_of (identity_of i)) (at cells) place_count)
      unfolding put_row put_filter
      row_at from cells long =
          last_walk (lands from) (cell_of (identity_of i)) Long at (put_filter row from (identity_of i)) cells place_count long
          (λ j s l g. set_at (is_uplink (in_row row j)) s (from + (in_row row j).precedence) (cell_of (identity_of i) j) g)

      -- in the list of its own connection ..
      own_at : is_identity c ≡ true → c ≡ identity_of d → (old : ℕ)
          → last_below (lands (index_of c * precedence_count)) (cell_of (identity_of i)) old place_count ≡ pick (any_below (place_has bs p i) place_count) (encoded (entry_in bs p i)) old
      unfolding entry_in place_has
      own_at id e old =
          last_same (lands (index_of c * precedence_count)) (cell_of (identity_of i)) (place_has bs p i) (λ j. encoded (entry_of (identity_of i) j)) old place_count has (λ j l. refl)
          ∙ last_else (place_has bs p i) (λ j. encoded (entry_of (identity_of i) j)) old 0 place_count
          ∙ ap (λ (x : ℕ). pick (any_below (place_has bs p i) place_count) x old) (sym (last_map (place_has bs p i) (entry_of (identity_of i)) encoded nothing place_count))
        where
          has : (j : ℕ) → j < place_count → lands (index_of c * precedence_count) j ≡ place_has bs p i j
          has j l =
              let q = fits j l in
              let r = (range_says c).to id in
              let low = r.0 in
              ap (λ (b : Bool). is_uplink (in_row row j) && b)
              (says_same (says_so (says_eq (index_of c * precedence_count + (in_row row j).precedence) n) (λ h. let s : (in_row row j).precedence ≡ p = omega arith in s) (λ h. omega arith))
              (says_eq (in_row row j).precedence p))

      -- .. and of no other
      other_at_lem : is_identity c ≡ true → (c ≡ identity_of d → ⊥) → (old : ℕ) → last_below (lands (index_of c * precedence_count)) (cell_of (identity_of i)) old place_count ≡ old
      other_at_lem id e old =
          last_none (lands (index_of c * precedence_count)) (cell_of (identity_of i)) old place_count
          (λ j l. let q = fits j l in
          let r = (range_says c).to id in
          let low = r.0 in
          rw (ne_eqb (index_of c * precedence_count + (in_row row j).precedence) n (λ h. e (let s : c ≡ identity_of d = omega arith in s))) (and-false (is_uplink (in_row row j))))

      put_at : (cells : List ℕ) → Long cells → let after = put_bearer bs touched cells i in
          Long after × (at after ≡ pick (is && bearer_has bs (identity_of d) p i) (encoded (entry_in bs p i)) (at cells))
      unfolding put_bearer begins_at bearer_has
      put_at cells long = go (is_identity c) refl
        where
          after : ℕ → List ℕ
          after from = put_row row from (identity_of i) cells

          has : Bool
          has = any_below (place_has bs p i) place_count

          e₁ : ℕ
          e₁ = encoded (entry_in bs p i)

          touch : (b own : Bool) → is_identity c ≡ true → eqb c (identity_of d) ≡ own → get_or touched (index_of c) false ≡ b
              → let r = pick b (after (index_of c * precedence_count)) cells in Long r × (at r ≡ pick (is && (own && has)) e₁ (at cells))
          touch true true id o t =
              let e = eqb-true c (identity_of d) o in
              let q : index_of c ≡ d = omega arith in
              let (z, r) = row_at (index_of c * precedence_count) cells long in
              (z, r ∙ own_at id e (at cells) ∙ rw (sym (ap (λ (k : ℕ). get_or touched k false) q) ∙ t))
          touch true false id o t =
              let (z, r) = row_at (index_of c * precedence_count) cells long in
              (z, r ∙ other_at_lem id (eqb-false c (identity_of d) o) (at cells) ∙ rw (and-false is))
          touch false true id o t =
              let e = eqb-true c (identity_of d) o in
              let q : index_of c ≡ d = omega arith in
              (long, rw (sym (ap (λ (k : ℕ). get_or touched k false) q) ∙ t))
          touch false false id o t = (long, rw (and-false is))

          go : (b : Bool) → is_identity c ≡ b → let r = pick (b && get_or touched (index_of c) false) (after (pick b (index_of c * precedence_count) 0)) cells in
              Long r × (at r ≡ pick (is && (eqb c (identity_of d) && has)) e₁ (at cells))
          go true id = touch (get_or touched (index_of c) false) (eqb c (identity_of d)) id refl refl
          go false id = (long, rw (ne_eqb c (identity_of d) (λ e. never (subst (λ (k : ℕ). is_identity k ≡ true) (sym e) ((range_says (identity_of d)).from (omega arith, omega arith))) id), and-false is))

    -- the lists touched are the rule's, the others stay
    made_at : (t : Table) → TableInRange t → Long t.lists → let made = walk (put_bearer t.bearers touched) (walk (cleared_by touched) t.lists bearer_count) bearer_count in
        Long made × (at made ≡ relisted_at t touched n)
    unfolding relisted_at cell_at entry_at
    made_at t ok long =
        let (z, e) = emptied_at t.lists long in
        let (y, f) = last_walk (λ i. is && bearer_has t.bearers (identity_of d) p i) (λ i. encoded (entry_in t.bearers p i)) Long at (put_bearer t.bearers touched)
        (walk (cleared_by touched) t.lists bearer_count) bearer_count z
        (λ i s l g. put_at t.bearers i (λ j m. (each_at (each_at ok.bearers no_bearer i l).row empty_filter j m).precedence) s g) in
        (y, f ∙ ap (λ (x : ℕ). last_below (λ i. is && bearer_has t.bearers (identity_of d) p i) (λ i. encoded (entry_in t.bearers p i)) x bearer_count) e ∙ go is)
      where
        go : (b : Bool) → last_below (λ i. b && bearer_has t.bearers (identity_of d) p i) (λ i. encoded (entry_in t.bearers p i)) (pick b 0 (at t.lists)) bearer_count
            ≡ pick b (encoded (last_below (bearer_has t.bearers (identity_of d) p) (entry_in t.bearers p) nothing bearer_count)) (at t.lists)
        go true = sym (last_map (bearer_has t.bearers (identity_of d) p) (entry_in t.bearers p) encoded nothing bearer_count)
        go false = last_none (λ i. false) (λ i. encoded (entry_in t.bearers p i)) (at t.lists) bearer_count (λ i l. refl)

pub made_lists : (t : Table) (touched : List Bool) → TableInRange t
    → walk (put_bearer t.bearers touched) (walk (cleared_by touched) t.lists bearer_count) bearer_count ≡ (relisted_of t touched).lists
unfolding relisted_of
made_lists t touched ok =
    tab_is 0 (relisted_at t touched) _ held_count (made_at 0 (omega arith) touched t ok ok.lists.count).0 (λ n small. (made_at n small touched t ok ok.lists.count).1)

-- ---- the walks keep the length
kept : (b : Bool) (ys xs : List ℕ) → length ys ≡ length xs → length (pick b ys xs) ≡ length xs
kept b ys xs e = picked (λ (zs : List ℕ). length zs ≡ length xs) b ys xs e refl

module _ (row : List Filter) (from bearer : ℕ) where
  filter_long : (cells : List ℕ) (j : ℕ) → length (put_filter row from bearer cells j) ≡ length cells
  unfolding put_filter
  filter_long cells j = kept (is_uplink (in_row row j)) _ cells (length-set cells (from + (in_row row j).precedence) (cell_of bearer j))

  pub put_row_long : (cells : List ℕ) → length (put_row row from bearer cells) ≡ length cells
  unfolding put_row
  put_row_long cells = walk_long (put_filter row from bearer) filter_long cells place_count

  module _ (before : List ℕ) where
    pub row_long : (j : ℕ) → length (walk (put_filter row from bearer) before j) ≡ length before
    row_long j = walk_long (put_filter row from bearer) filter_long before j

    module _ (j : ℕ) {cells : List ℕ} (so : cells ≡ walk (put_filter row from bearer) before j) where
      pub row_put : (cell : ℕ) → is_uplink (in_row row j) ≡ true → cell ≡ cell_of bearer j → set cells (from + (in_row row j).precedence) cell ≡ walk (put_filter row from bearer) before (j + 1)
      unfolding put_filter
      row_put cell up e = walk_more (put_filter row from bearer) before j cells _ (rw (up, e)) so

      pub row_skip : is_uplink (in_row row j) ≡ false → cells ≡ walk (put_filter row from bearer) before (j + 1)
      unfolding put_filter
      row_skip down = walk_more (put_filter row from bearer) before j cells _ (rw down) so

      pub row_done : place_count ≤ j → j ≤ place_count → cells ≡ put_row row from bearer before
      unfolding put_row
      row_done l m = done (walk (put_filter row from bearer) before) j place_count _ l m so

-- ---- the lists of the identities touched, emptied one after the other
module _ (touched : List Bool) (before : List ℕ) where
  by_long : (i : ℕ) (cells : List ℕ) → i < bearer_count → Long cells → Long (cleared_by touched cells i)
  unfolding cleared_by
  by_long i cells l long = picked Long (get_or touched i false) _ cells (cleared_long i cells l long) long

  pub emptied_long : (i : ℕ) → i ≤ bearer_count → Long before → Long (walk (cleared_by touched) before i)
  emptied_long i l long = walk_keeps (cleared_by touched) before (λ (k : ℕ) (cells : List ℕ). Long cells) i long (λ k cells m so. by_long k cells (omega arith) so)

  module _ (i : ℕ) {cells : List ℕ} (so : cells ≡ walk (cleared_by touched) before i) where
    pub empty_more : {after : List ℕ} → get_or touched i false ≡ true → after ≡ cleared (i * precedence_count) cells → after ≡ walk (cleared_by touched) before (i + 1)
    unfolding cleared_by
    empty_more up e = walk_more (cleared_by touched) before i cells _ (rw up e) so

    pub empty_skip : get_or touched i false ≡ false → cells ≡ walk (cleared_by touched) before (i + 1)
    unfolding cleared_by
    empty_skip down = walk_more (cleared_by touched) before i cells _ (rw down) so

-- ---- .. and the rows of their bearers put
module _ (bs : List Bearer) (touched : List Bool) (before : List ℕ) where
  bearer_long : (cells : List ℕ) (i : ℕ) → length (put_bearer bs touched cells i) ≡ length cells
  unfolding put_bearer
  bearer_long cells i =
      kept (touches touched (connection_from bs i)) _ cells (put_row_long (bearer_from bs i).row (begins_at (connection_from bs i)) (identity_of i) cells)

  pub bearers_long : (i : ℕ) → length (walk (put_bearer bs touched) before i) ≡ length before
  bearers_long i = walk_long (put_bearer bs touched) bearer_long before i

  module _ (i : ℕ) {cells : List ℕ} (so : cells ≡ walk (put_bearer bs touched) before i) where
    pub bearer_put : {after : List ℕ} → touches touched (connection_from bs i) ≡ true
        → after ≡ put_row (bearer_from bs i).row (begins_at (connection_from bs i)) (identity_of i) cells → after ≡ walk (put_bearer bs touched) before (i + 1)
    unfolding put_bearer
    bearer_put up e = walk_more (put_bearer bs touched) before i cells _ (rw up e) so

    pub bearer_skip : touches touched (connection_from bs i) ≡ false → cells ≡ walk (put_bearer bs touched) before (i + 1)
    unfolding put_bearer
    bearer_skip down = walk_more (put_bearer bs touched) before i cells _ (rw down) so

-- a list begins inside the lists
pub begins_inside : (connection : ℕ) → begins_at connection + precedence_count ≤ held_count
unfolding begins_at
begins_inside connection = go (is_identity connection) refl
  where
    go : (b : Bool) → is_identity connection ≡ b → pick b (index_of connection * precedence_count) 0 + precedence_count ≤ held_count
    go true e = let r = (range_says connection).to e in let low = r.0 in let high = r.1 in omega arith
    go false e = omega arith

-- the lists so made
pub made_done : (t : Table) (touched : List Bool) → TableInRange t → (i : ℕ) {cells emptied : List ℕ} → bearer_count ≤ i → i ≤ bearer_count
    → emptied ≡ walk (cleared_by touched) t.lists bearer_count → cells ≡ walk (put_bearer t.bearers touched) emptied i
    → record { bearers = t.bearers; lists = cells } ≡ relisted_of t touched
unfolding relisted_of
made_done t touched ok i {cells} {emptied} l m e so =
    ap with_lists_lem (done (walk (put_bearer t.bearers touched) emptied) i bearer_count cells l m so
    ∙ ap (λ (start : List ℕ). walk (put_bearer t.bearers touched) start bearer_count) e ∙ made_lists t touched ok)
  where
    with_lists_lem : List ℕ → Table
    with_lists_lem cells = record { bearers = t.bearers; lists = cells }

-- ---- entries counted
module _ (cells : List ℕ) (from p : ℕ) {count : ℕ} (so : count ≡ count_below (names_at cells from) p) where
  pub names_more : (get_or cells (from + p) 0 ≡ 0 → ⊥) → count + 1 ≡ count_below (names_at cells from) (p + 1)
  unfolding names_at
  names_more n = count_more (names_at cells from) p count (count + 1) (rw (ne_eqb (get_or cells (from + p) 0) 0 n)) so

  pub names_skip : get_or cells (from + p) 0 ≡ 0 → count ≡ count_below (names_at cells from) (p + 1)
  unfolding names_at
  names_skip e = count_more (names_at cells from) p count count (rw e (sym (add-zero count))) so

-- in a part, and in the rest after it
pub names_apart : (part rest : List ℕ) {cells : List ℕ} {n : ℕ} → cells ≡ part ++ rest → length part ≡ n
    → count_below (names_at cells 0) (length cells) ≡ count_below (names_at part 0) n + count_below (names_at rest 0) (length rest)
unfolding names_at count_below
names_apart part rest {cells} {n} e long =
    ap (λ (xs : List ℕ). count_below (names_at xs 0) (length xs)) e
    ∙ ap (count_below (names_at (part ++ rest) 0)) (length-append part rest ∙ ap (λ (k : ℕ). k + length rest) long)
    ∙ sum_split (λ i. one (names_at (part ++ rest) 0 i)) n (length rest)
    ∙ (λ i. front i + back i)
  where
    front : count_below (names_at (part ++ rest) 0) n ≡ count_below (names_at part 0) n
    front = count_same (names_at (part ++ rest) 0) (names_at part 0) n (λ i l. ap (λ (x : ℕ). not (eqb x 0)) (get_or_append_left part rest 0 (0 + i) (omega (arith, long))))

    back : count_below (λ i. names_at (part ++ rest) 0 (n + i)) (length rest) ≡ count_below (names_at rest 0) (length rest)
    back =
        count_same (λ i. names_at (part ++ rest) 0 (n + i)) (names_at rest 0) (length rest)
        (λ i l. ap (λ (x : ℕ). not (eqb x 0)) (get_or-append_right part rest n (0 + (n + i)) 0 long (omega arith) ∙ ap (λ (k : ℕ). get_or rest k 0) (let q : 0 + (n + i) - n ≡ 0 + i = omega arith in q)))
