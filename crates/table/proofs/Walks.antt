-- What the inner functions give is what WellFormed says.
use mathlib.Core.Path.{◌≡◌, refl, sym, ◌∙◌, ap, ap₂}
use mathlib.Core.Logic.{◌⊎◌, inl, inr, ⊎_elim}
use Rattle.std.specs.Prelude.{Option, None, Some}
use Rattle.std.proofs.lemmas.Bool.{cases_lt}
use mathlib.Core.Bool.{Bool, true, false, not, ◌&&◌, ◌||◌, and-false, or-false, or_assoc}
use mathlib.Core.List.{List, [], ◌∷◌}
use Prim.Native.Nat.{ℕ, zero, suc, ◌+◌, ◌≤◌, ◌<◌}
use native.Mathlib.Nat.{add-zero}
use borrow.Author.Tests.{eq-eqb, ne_eqb}
use native.Mathlib.Numerals.{add-one}
use native.Mathlib.Omega.{arith}
use lib.ListN.{length, get_or, length-set, replicate}
use Rattle.laws.specs.Says.{pick}
use Rattle.laws.specs.Index.{all_below, walk, joined, one, sum_below, count_below}
use Rattle.laws.specs.Lists.{fold}
use Rattle.std.specs.List.{list_all}
use Rattle.filter.specs.Build.{empty_filter}
use Rattle.laws.proofs.Index.{all_of_list, all_same, all_both}
use Rattle.laws.proofs.Counts.{sum_start, sum_more, sum_le, count_start, count_more, count_le}
use Rattle.laws.proofs.Says.{picked}
use Rattle.filter.specs.declared.component.Filter.{Filter}
use Rattle.filter.specs.Coding.{held, uplink, empty_place}
use Rattle.filter.specs.Fittable.{place_fine}
use Rattle.table.specs.declared.bearer.Table.{Table}
use Rattle.filter.specs.Sizes.{place_count, precedence_count}
use Rattle.table.specs.Bearers.{bearer_count, is_identity, index_of, identity_of, in_row, bearer_at, role_at, transaction_at, is_idle, connection_at}
use Rattle.table.specs.WellFormed.{link_fine, transaction_fine, filter_fine, bearer_fine, transactions_apart, transaction_from, precedence_in, row_precedences}
use Rattle.table.specs.Inner.Walk.{bit_of, has_bit, with_bit, Marks, none_marked, marked, marked_with, precedence_of, active_precedences, bearer_marked, marks_at}
use Rattle.table.specs.Lists.{is_uplink, cell_of}
use Rattle.table.specs.Inner.Lists.{begins_at, stands_at, filter_told, place_stands, place_told, up_in, bearer_stands, uplinks_at, bearer_told, place_uplinks, row_uplinks, uplinks_if_fine}
use Rattle.laws.proofs.Lists.{fold_append}
use Rattle.table.proofs.Meaning.{range_says}

-- ---- one bearer
-- a place of an idle bearer is fine where it is empty
idle_fine : (row : List Filter) (j : ℕ) → filter_fine true row j ≡ empty_place (in_row row j)
unfolding filter_fine
idle_fine row j = go (empty_place (in_row row j)) _
  where
    go : (a b : Bool) → a && (a || b) ≡ a
    go true b = refl
    go false b = refl

pub empty_row : (row : List Filter) → length row ≡ place_count → list_all empty_place row ≡ all_below (filter_fine true row) place_count
empty_row row e = all_of_list (filter_fine true row) empty_place empty_filter row place_count e (λ j l. idle_fine row j)

pub in_eleven : (identity : ℕ) → is_identity identity ≡ true → index_of identity < bearer_count
in_eleven identity e =
    let r = (range_says identity).to e in
    let low = r.0 in
    let high = r.1 in
    omega arith

-- a bearer without a transaction is apart from every other
pub none_open : (t : Table) (i : ℕ) → transaction_at t i ≡ 0 → true ≡ transaction_from t i
unfolding transaction_from transactions_apart all_below
none_open t i e = sym (all_same (transactions_apart t i) (λ k. true) bearer_count (λ k l. rw e) ∙ all_true bearer_count)
  where
    all_true : (n : ℕ) → all_below (λ k. true) n ≡ true
    all_true zero = refl
    all_true (suc n) = rw (all_true n)

-- ---- precedences, marked as they come
-- what was found before changes no mark, and is kept
module _ (bit : ℕ) where
  seen_alone : (xs seen : List ℕ) (a b : Bool) → (fold (marked bit) (record { seen = seen; again = a }) xs).seen ≡ (fold (marked bit) (record { seen = seen; again = b }) xs).seen
  unfolding fold marked
  seen_alone [] seen a b = refl
  seen_alone (x ∷ xs) seen a b = seen_alone xs (with_bit bit seen x) (a || has_bit bit seen x) (b || has_bit bit seen x)

  again_kept : (xs seen : List ℕ) (a : Bool) → (fold (marked bit) (record { seen = seen; again = a }) xs).again ≡ a || (marked_with bit seen xs).again
  unfolding fold marked
  again_kept [] seen a = sym (or-false a)
  again_kept (x ∷ xs) seen a =
      again_kept xs (with_bit bit seen x) (a || has_bit bit seen x)
      ∙ or_assoc a (has_bit bit seen x) (marked_with bit (with_bit bit seen x) xs).again
      ∙ ap (λ (b : Bool). a || b) (sym (again_kept xs (with_bit bit seen x) (has_bit bit seen x)))

  marked_length : (xs seen : List ℕ) (a : Bool) → length (fold (marked bit) (record { seen = seen; again = a }) xs).seen ≡ length seen
  unfolding fold marked with_bit
  marked_length [] seen a = refl
  marked_length (x ∷ xs) seen a = marked_length xs (with_bit bit seen x) (a || has_bit bit seen x) ∙ length-set seen x _

-- ---- a test that marks as it goes
both_told : (a m b g : Bool) → (a && not m) && (b && not g) ≡ (a && b) && not (m || g)
both_told true true true g = refl
both_told true true false g = refl
both_told true false true g = refl
both_told true false false g = refl
both_told false m b g = refl

-- what is false of the first k stays so
never_after : (b c : ℕ → Bool) → ((k : ℕ) → b (suc k) ≡ b k && c k) → (k n : ℕ) → k ≤ n → b k ≡ false → b n ≡ false
never_after b c next k zero l e = let q : k ≡ 0 = omega arith in ap b (sym q) ∙ e
never_after b c next k (suc n) l e =
    ⊎_elim (λ m. next n ∙ ap (λ (a : Bool). a && c n) (never_after b c next k n (omega arith) e)) (λ m. let q : k ≡ suc n = omega arith in ap b (sym q) ∙ e) (cases_lt k (suc n))

-- ---- one filter
pub one_le : (b : Bool) → one b ≤ 1
one_le true = omega arith
one_le false = omega arith

held_marks : (bit : ℕ) (seen : List ℕ) (f : Filter) → held f ≡ true
    → marked_with bit seen (precedence_of f) ≡ record { seen = with_bit bit seen f.precedence; again = has_bit bit seen f.precedence }
unfolding fold marked
held_marks bit seen f h = rw h

no_marks_lem : (bit : ℕ) (seen : List ℕ) (f : Filter) → held f ≡ false → marked_with bit seen (precedence_of f) ≡ record { seen = seen; again = false }
unfolding fold
no_marks_lem bit seen f h = rw h

pub unheld_leaves : (bit : ℕ) (seen : List ℕ) (f : Filter) → held f ≡ false → seen ≡ (marked_with bit seen (precedence_of f)).seen
unheld_leaves bit seen f h = sym (ap (λ (k : Marks). k.seen) (no_marks_lem bit seen f h))

pub held_leaves : (bit : ℕ) (seen : List ℕ) (f : Filter) → held f ≡ true → with_bit bit seen f.precedence ≡ (marked_with bit seen (precedence_of f)).seen
held_leaves bit seen f h = sym (ap (λ (k : Marks). k.seen) (held_marks bit seen f h))

module _ (bit : ℕ) (seen cells : List ℕ) (from cell : ℕ) (f : Filter) where
  -- what a place's count says of it
  place_some : {n : ℕ} → Some n ≡ place_uplinks bit seen cells from cell f → (filter_told bit seen cells from cell f ≡ true) × (n ≡ one (is_uplink f))
  unfolding place_uplinks
  place_some {n} e = go (filter_told bit seen cells from cell f) e
    where
      go : (b : Bool) → Some n ≡ pick b (Some (one (is_uplink f))) None → (b ≡ true) × (n ≡ one (is_uplink f))
      go true q = (refl, cc)
      go false q = absurd (let z : ⊥ = cc in z)

  place_none : None ≡ place_uplinks bit seen cells from cell f → filter_told bit seen cells from cell f ≡ false
  unfolding place_uplinks
  place_none e = go (filter_told bit seen cells from cell f) e
    where
      go : (b : Bool) → None ≡ pick b (Some (one (is_uplink f))) None → b ≡ false
      go true q = absurd (let z : ⊥ = cc in z)
      go false q = refl

  pub fine_never : place_fine f ≡ false → None ≡ place_uplinks bit seen cells from cell f
  unfolding place_uplinks filter_told
  fine_never e = rw e refl

  pub unheld_counts : place_fine f ≡ true → held f ≡ false → Some 0 ≡ place_uplinks bit seen cells from cell f
  unfolding place_uplinks filter_told stands_at
  unheld_counts e h = rw (e, no_marks_lem bit seen f h, h) refl

  module _ (fine : place_fine f ≡ true) (h : held f ≡ true) where
    pub again_never : has_bit bit seen f.precedence ≡ true → None ≡ place_uplinks bit seen cells from cell f
    unfolding place_uplinks filter_told
    again_never e = rw (held_marks bit seen f h, e, and-false (place_fine f && stands_at cells from cell f)) refl

    pub missing_never : uplink f ≡ true → (get_or cells (from + f.precedence) 0 ≡ cell → ⊥) → None ≡ place_uplinks bit seen cells from cell f
    unfolding place_uplinks filter_told stands_at
    missing_never u n = rw (fine, h, u, ne_eqb (get_or cells (from + f.precedence) 0) cell n) refl

    module _ (e : has_bit bit seen f.precedence ≡ false) where
      pub down_counts : uplink f ≡ false → Some 0 ≡ place_uplinks bit seen cells from cell f
      unfolding place_uplinks filter_told stands_at
      down_counts u = rw (held_marks bit seen f h, fine, h, u, e) refl

      pub up_counts : uplink f ≡ true → get_or cells (from + f.precedence) 0 ≡ cell → Some 1 ≡ place_uplinks bit seen cells from cell f
      unfolding place_uplinks filter_told stands_at
      up_counts u q = rw (held_marks bit seen f h, fine, h, u, e, eq-eqb (get_or cells (from + f.precedence) 0) cell q) refl

-- ---- the filters of a row
module _ (bit : ℕ) (cells : List ℕ) (from bearer : ℕ) (row : List Filter) (before : List ℕ) where
  abbrev row_marks : ℕ → Marks
  row_marks j = marked_with bit before (joined (precedence_in row) j)

  -- the places below j are fine, and no precedence came again
  abbrev row_sound : ℕ → Bool
  row_sound j = all_below (place_told cells from bearer row) j && not (row_marks j).again

  abbrev place_sound : ℕ → Bool
  place_sound j = filter_told bit (row_marks j).seen cells from (cell_of bearer j) (in_row row j)

  row_joined : (j : ℕ) → row_marks (suc j) ≡ fold (marked bit) (row_marks j) (precedence_in row j)
  unfolding joined
  row_joined j = fold_append (marked bit) (joined (precedence_in row) j) (precedence_in row j) (record { seen = before; again = false })

  row_next : (j : ℕ) → row_sound (suc j) ≡ row_sound j && place_sound j
  unfolding all_below filter_fine filter_told place_told place_stands
  row_next j =
      ap (λ (m : Marks). all_below (place_told cells from bearer row) (suc j) && not m.again) (row_joined j)
      ∙ ap (λ (b : Bool). all_below (place_told cells from bearer row) (suc j) && not b) (again_kept bit (precedence_in row j) (row_marks j).seen (row_marks j).again)
      ∙ sym (both_told (all_below (place_told cells from bearer row) j) (row_marks j).again (place_told cells from bearer row j) (marked_with bit (row_marks j).seen (precedence_in row j)).again)

  pub record RowTold (j uplinks : ℕ) (seen : List ℕ) : Type 0 where
    pub sound : row_sound j ≡ true
    pub leaves : seen ≡ (row_marks j).seen
    pub counted : uplinks ≡ count_below (up_in row) j

  pub row_start : RowTold 0 0 before
  unfolding all_below joined fold
  row_start = record { sound = refl; leaves = refl; counted = count_start (up_in row) }

  module _ (j : ℕ) {uplinks : ℕ} {seen : List ℕ} (so : RowTold j uplinks seen) where
    row_turn : {b : Bool} → filter_told bit seen cells from (cell_of bearer j) (in_row row j) ≡ b → row_sound (suc j) ≡ b
    row_turn e =
        row_next j
        ∙ ap₂ (λ (a b : Bool). a && b) so.sound (ap (λ (s : List ℕ). filter_told bit s cells from (cell_of bearer j) (in_row row j)) (sym so.leaves) ∙ e)

    module _ {o : Option ℕ} (found : o ≡ place_uplinks bit seen cells from (cell_of bearer j) (in_row row j)) where
      pub row_more : {n : ℕ} {after : List ℕ} → o ≡ Some n → after ≡ (marked_with bit seen (precedence_of (in_row row j))).seen → RowTold (j + 1) (uplinks + n) after
      unfolding up_in
      row_more e m =
          let place = place_some bit seen cells from (cell_of bearer j) (in_row row j) (sym e ∙ found) in
          record {
            sound = ap row_sound (add-one j) ∙ row_turn place.0;
            leaves = m ∙ rw so.leaves (seen_alone bit (precedence_in row j) (row_marks j).seen false (row_marks j).again) ∙ ap (λ (k : Marks). k.seen) (sym (row_joined j)) ∙ ap (λ (k : ℕ). (row_marks k).seen) (sym (add-one j));
            counted = count_more (up_in row) j uplinks _ (ap (λ (k : ℕ). uplinks + k) place.1) so.counted;
          }

      pub row_never : j < place_count → o ≡ None → None ≡ row_uplinks bit before cells from bearer row
      unfolding row_uplinks row_precedences
      row_never l e =
          rw (never_after row_sound place_sound row_next (suc j) place_count l (row_turn (place_none bit seen cells from (cell_of bearer j) (in_row row j) (sym e ∙ found))))

      pub row_within : {n : ℕ} → o ≡ Some n → n ≤ 1
      row_within e = let m = (place_some bit seen cells from (cell_of bearer j) (in_row row j) (sym e ∙ found)).1 in let l = one_le (is_uplink (in_row row j)) in omega arith

    pub row_long : length seen ≡ length before
    row_long = ap length so.leaves ∙ marked_length bit (joined (precedence_in row) j) before false

    pub row_few : uplinks ≤ j
    row_few = let e = so.counted in let l = count_le (up_in row) j in omega arith

    pub row_done : place_count ≤ j → j ≤ place_count → (Some uplinks ≡ row_uplinks bit before cells from bearer row) × (seen ≡ (marked_with bit before (row_precedences row)).seen)
    unfolding row_uplinks row_precedences
    row_done l m = let e : j ≡ place_count = omega arith in let h = rw e at so in (rw h.sound (ap Some h.counted), h.leaves)

-- what a row's count says of it
module _ (bit : ℕ) (before cells : List ℕ) (from bearer : ℕ) (row : List Filter) where
  row_some : (n : ℕ) → Some n ≡ row_uplinks bit before cells from bearer row → (row_sound bit cells from bearer row before place_count ≡ true) × (n ≡ count_below (up_in row) place_count)
  unfolding row_uplinks row_precedences
  row_some n e = go (row_sound bit cells from bearer row before place_count) e
    where
      go : (b : Bool) → Some n ≡ pick b (Some (count_below (up_in row) place_count)) None → (b ≡ true) × (n ≡ count_below (up_in row) place_count)
      go true q = (refl, cc)
      go false q = absurd (let z : ⊥ = cc in z)

  row_none : None ≡ row_uplinks bit before cells from bearer row → row_sound bit cells from bearer row before place_count ≡ false
  unfolding row_uplinks row_precedences
  row_none e = go (row_sound bit cells from bearer row before place_count) e
    where
      go : (b : Bool) → None ≡ pick b (Some (count_below (up_in row) place_count)) None → b ≡ false
      go true q = absurd (let z : ⊥ = cc in z)
      go false q = refl

  -- no row has more than its places
  pub row_at_most : {o : Option ℕ} (n : ℕ) → o ≡ row_uplinks bit before cells from bearer row → o ≡ Some n → n ≤ place_count
  row_at_most n found e = let m = (row_some n (sym e ∙ found)).1 in let l = count_le (up_in row) place_count in omega arith

-- ---- the bearers of a table
module _ (t : Table) where
  -- the bearers below i are fine, and no precedence came again
  abbrev table_sound : ℕ → Bool
  table_sound i = all_below (bearer_told t) i && not (marks_at t i).again

  abbrev bearer_sound : ℕ → Bool
  bearer_sound i = bearer_told t i && not (marked_with (bit_of (connection_at t i)) (marks_at t i).seen (active_precedences t i)).again

  table_next : (i : ℕ) → table_sound (suc i) ≡ table_sound i && bearer_sound i
  unfolding all_below walk bearer_marked
  table_next i =
      ap (λ (b : Bool). (all_below (bearer_told t) i && bearer_told t i) && not b) (again_kept (bit_of (connection_at t i)) (active_precedences t i) (marks_at t i).seen (marks_at t i).again)
      ∙ sym (both_told (all_below (bearer_told t) i) (marks_at t i).again (bearer_told t i) (marked_with (bit_of (connection_at t i)) (marks_at t i).seen (active_precedences t i)).again)

  pub record TableTold (i uplinks : ℕ) (seen : List ℕ) : Type 0 where
    pub sound : table_sound i ≡ true
    pub leaves : seen ≡ (marks_at t i).seen
    pub counted : uplinks ≡ sum_below (uplinks_at t) i

  pub table_start : TableTold 0 0 (replicate precedence_count 0)
  unfolding all_below walk none_marked
  table_start = record { sound = refl; leaves = refl; counted = sum_start (uplinks_at t) }

  marks_long : (n : ℕ) → length (marks_at t n).seen ≡ precedence_count
  unfolding walk bearer_marked none_marked
  marks_long zero = refl
  marks_long (suc n) = marked_length (bit_of (connection_at t n)) (active_precedences t n) (marks_at t n).seen (marks_at t n).again ∙ marks_long n

  few_at : (i : ℕ) → uplinks_at t i ≤ place_count
  unfolding uplinks_at
  few_at i = picked (λ (n : ℕ). n ≤ place_count) (is_idle (role_at t i)) 0 (count_below (up_in (bearer_at t i).row) place_count) (omega arith) (count_le (up_in (bearer_at t i).row) place_count)

  module _ (i : ℕ) {uplinks : ℕ} {seen : List ℕ} (so : TableTold i uplinks seen) where
    pub table_long : length seen ≡ precedence_count
    table_long = ap length so.leaves ∙ marks_long i

    pub table_few : i ≤ bearer_count → uplinks ≤ 176
    table_few l = let e = so.counted in let m = sum_le (uplinks_at t) place_count i (λ k _. few_at k) in omega arith

    pub table_done : bearer_count ≤ i → i ≤ bearer_count → Some uplinks ≡ uplinks_if_fine t
    unfolding uplinks_if_fine
    table_done l m = let e : i ≡ bearer_count = omega arith in let h = rw e at so in rw h.sound (ap Some h.counted)

    turn_false : i < bearer_count → bearer_sound i ≡ false → None ≡ uplinks_if_fine t
    unfolding uplinks_if_fine
    turn_false l e = rw (never_after table_sound bearer_sound table_next (suc i) bearer_count l (table_next i ∙ ap₂ (λ (a b : Bool). a && b) so.sound e))

    -- a bearer's transaction or its link is wrong
    pub head_never : i < bearer_count → (transaction_fine (is_idle (role_at t i)) (transaction_at t i) ≡ false) ⊎ (link_fine t (role_at t i) ≡ false) → None ≡ uplinks_if_fine t
    unfolding bearer_told bearer_fine
    head_never l (inl e) = turn_false l (rw e)
    head_never l (inr e) = turn_false l (rw (e, and-false (transaction_fine (is_idle (role_at t i)) (transaction_at t i))))

    module _ (head : transaction_fine (is_idle (role_at t i)) (transaction_at t i) ≡ true) (link : link_fine t (role_at t i) ≡ true) where
      pub idle_never : i < bearer_count → is_idle (role_at t i) ≡ true → all_below (filter_fine true (bearer_at t i).row) place_count ≡ false → None ≡ uplinks_if_fine t
      unfolding bearer_told bearer_fine
      idle_never l d e = turn_false l (rw (head, link, d, e) refl)

      pub idle_more : is_idle (role_at t i) ≡ true → all_below (filter_fine true (bearer_at t i).row) place_count ≡ true → TableTold (i + 1) uplinks seen
      unfolding walk bearer_marked fold bearer_told bearer_fine bearer_stands uplinks_at
      idle_more d e =
          record {
            sound = ap table_sound (add-one i) ∙ table_next i ∙ ap₂ (λ (a b : Bool). a && b) so.sound (rw (head, link, d, e) refl);
            leaves = rw (add-one i, d) so.leaves;
            counted = sum_more (uplinks_at t) i uplinks uplinks (rw d (sym (add-zero uplinks))) so.counted;
          }

      module _ (d : is_idle (role_at t i) ≡ false) {o : Option ℕ}
          (found : o ≡ row_uplinks (bit_of (connection_at t i)) seen t.lists (begins_at (connection_at t i)) (identity_of i) (bearer_at t i).row) where
        abbrev its_row_sound : Bool
        its_row_sound = row_sound (bit_of (connection_at t i)) t.lists (begins_at (connection_at t i)) (identity_of i) (bearer_at t i).row seen place_count

        active_sound : bearer_sound i ≡ its_row_sound
        unfolding bearer_told bearer_fine bearer_stands place_told row_precedences
        active_sound =
            rw (head, link, d, so.leaves)
            (ap (λ (b : Bool). b && not (marked_with (bit_of (connection_at t i)) (marks_at t i).seen (row_precedences (bearer_at t i).row)).again)
            (sym (all_both (filter_fine false (bearer_at t i).row) (place_stands t.lists (begins_at (connection_at t i)) (identity_of i) (bearer_at t i).row) place_count)))

        pub active_never : i < bearer_count → o ≡ None → None ≡ uplinks_if_fine t
        active_never l e = turn_false l (active_sound ∙ row_none _ _ _ _ _ _ (sym e ∙ found))

        pub active_more : {n : ℕ} {after : List ℕ} → o ≡ Some n → after ≡ (marked_with (bit_of (connection_at t i)) seen (row_precedences (bearer_at t i).row)).seen
            → TableTold (i + 1) (uplinks + n) after
        unfolding walk bearer_marked uplinks_at
        active_more {n} e m =
            let row = row_some _ _ _ _ _ _ n (sym e ∙ found) in
            record {
              sound = ap table_sound (add-one i) ∙ table_next i ∙ ap₂ (λ (a b : Bool). a && b) so.sound (active_sound ∙ row.0);
              leaves = rw (add-one i, d) (m ∙ rw so.leaves (seen_alone (bit_of (connection_at t i)) (row_precedences (bearer_at t i).row) (marks_at t i).seen false (marks_at t i).again));
              counted = sum_more (uplinks_at t) i uplinks (uplinks + n) (rw d (ap (λ (k : ℕ). uplinks + k) row.1)) so.counted;
            }
