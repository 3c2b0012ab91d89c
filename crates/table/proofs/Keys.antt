-- The marks tell what the definition asks. A connection and a precedence are one number, the key; the filters of a table are walked once, and a key that is
-- there twice is a precedence that is there twice in its connection.
use mathlib.Core.Path.{◌≡◌, refl, sym, ◌∙◌, ap, ap₂, subst}
use mathlib.Core.Bool.{Bool, true, false, not, ◌&&◌, ◌||◌}
use mathlib.Core.List.{List, [], ◌∷◌, map}
use mathlib.Core.Logic.{⊎_elim}
use Prim.Native.Nat.{ℕ, zero, suc, ◌+◌, ◌*◌, ◌/◌, ◌%◌, ◌^◌, ◌≤◌, ◌<◌}
use native.Mathlib.Omega.{arith}
use lib.Dec.{eqb}
use lib.Bits.{bit_and, bit_or}
use lib.ListN.{length, get_or, length-set, replicate, length-replicate, get_or-replicate}
use borrow.Author.Tests.{eqb-true, eq-eqb, ne_eqb, eqb-false, not-true}
use Rattle.laws.specs.Says.{pick, Says}
use Rattle.laws.specs.Index.{SomeBelow, all_below, walk, joined}
use Rattle.laws.specs.Lists.{All, fold, is_in, repeats}
use Rattle.laws.proofs.Index.{set_seen}
use Rattle.laws.proofs.Bits.{bit_set}
use Rattle.laws.proofs.Lists.{fold_append}
use Rattle.laws.proofs.Marks.{again, Tells, again_repeats}
use Rattle.laws.proofs.Tests.{and_comm, either, or_left, or_right}
use Rattle.laws.proofs.Says.{says_eq, says_so, says_same, picked, never}
use Rattle.laws.proofs.Typed.{each_at}
use Rattle.laws.proofs.Joined.{Fresh, In, all_in, named_in, named_repeats, joined_all, joined_fresh, fresh_piece, fresh_single}
use Rattle.filter.specs.declared.component.Filter.{Filter}
use Rattle.filter.specs.Ranges.{FilterInRange}
use Rattle.filter.specs.Coding.{held}
use Rattle.filter.specs.Build.{empty_filter}
use Rattle.filter.specs.Sizes.{place_count, precedence_count}
use Rattle.table.specs.declared.bearer.Table.{Table}
use Rattle.table.specs.Bearers.{bearer_count, is_identity, index_of, no_bearer, in_row, bearer_at, filter_at, role_at, is_idle, connection_at}
use Rattle.table.specs.Ranges.{TableInRange}
use Rattle.table.specs.WellFormed.{precedence_in, row_precedences, bearer_fine, distinct_transactions, distinct_precedences, bearers_fine, Held}
use Rattle.table.specs.Inner.Walk.{bit_of, has_bit, with_bit, Marks, none_marked, marked, active_precedences, bearer_marked, marks_at}
use Rattle.table.proofs.Meaning.{range_says, Distinct, distinct_says, held_active, held_identity}
use Rattle.table.proofs.Within.{row_in, in_row_lem, fresh_row, row_fresh}

abbrev key : ℕ → ℕ → ℕ
key connection precedence = connection * precedence_count + precedence

-- ---- the marks of a key
has_key : List ℕ → ℕ → Bool
has_key seen x = has_bit (bit_of (x / precedence_count)) seen (x % precedence_count)

with_key : List ℕ → ℕ → List ℕ
with_key seen x = with_bit (bit_of (x / precedence_count)) seen (x % precedence_count)

-- the key of a connection that a default can have
abbrev Good : ℕ → Type 0
Good x = is_identity (x / precedence_count) ≡ true

abbrev Long : List ℕ → Type 0
Long seen = length seen ≡ precedence_count

keeps_long : (seen : List ℕ) (x : ℕ) → Long seen → Long (with_key seen x)
unfolding with_key with_bit
keeps_long seen x e = length-set seen (x % precedence_count) _ ∙ e

-- two keys of one precedence are one where their connections' indices are
same_index : (x y : ℕ) → Good x → Good y → x % precedence_count ≡ y % precedence_count → eqb (index_of (x / precedence_count)) (index_of (y / precedence_count)) ≡ eqb x y
same_index x y g h e =
    let a = (range_says (x / precedence_count)).to g in
    let b = (range_says (y / precedence_count)).to h in
    let low = a.0 in
    let other = b.0 in
    says_same (says_eq (index_of (x / precedence_count)) (index_of (y / precedence_count)))
    (says_so (says_eq x y) (λ q. ap (λ (z : ℕ). index_of (z / precedence_count)) q) (λ q. omega arith))

marks_key : (seen : List ℕ) (x y : ℕ) → Long seen → Good x → Good y → has_key (with_key seen x) y ≡ eqb x y || has_key seen y
unfolding has_key with_key has_bit with_bit bit_of
marks_key seen x y long g h =
    rw (g, h, set_seen seen (x % precedence_count) (y % precedence_count) (bit_or (get_or seen (x % precedence_count) 0) (2 ^ index_of (x / precedence_count))) 0 (λ e. omega (arith, long)))
    (go (eqb (x % precedence_count) (y % precedence_count)) refl)
  where
    a : ℕ
    a = index_of (x / precedence_count)

    b : ℕ
    b = index_of (y / precedence_count)

    off : Bool
    off = eqb (bit_and (get_or seen (y % precedence_count) 0) (2 ^ b)) 0

    either_bit : (p q : Bool) → not (not p && q) ≡ p || not q
    either_bit true q = refl
    either_bit false q = refl

    go : (p : Bool) → eqb (x % precedence_count) (y % precedence_count) ≡ p
        → not (eqb (bit_and (pick p (bit_or (get_or seen (x % precedence_count) 0) (2 ^ a)) (get_or seen (y % precedence_count) 0)) (2 ^ b)) 0) ≡ eqb x y || not off
    go true e =
        let q = eqb-true (x % precedence_count) (y % precedence_count) e in
        rw (q, bit_set a b (get_or seen (y % precedence_count) 0), ← same_index x y g h q) (either_bit (eqb a b) off)
    go false e = rw (ne_eqb x y (λ q. eqb-false (x % precedence_count) (y % precedence_count) e (ap (λ (z : ℕ). z % precedence_count) q)))

key_marks : Tells has_key with_key Long Good
key_marks = record { keeps = keeps_long; marks = marks_key }

none_has : (x : ℕ) → has_key (replicate precedence_count 0) x ≡ false
unfolding has_key has_bit
none_has x = rw (get_or-replicate {A = ℕ} precedence_count (x % precedence_count) 0 0 (omega arith))

-- ---- the walk, by keys
keyed : Marks → ℕ → Marks
keyed marks x = marked (bit_of (x / precedence_count)) marks (x % precedence_count)

keyed_again : (xs : List ℕ) (marks : Marks) → (fold keyed marks xs).again ≡ again has_key with_key xs marks.seen marks.again
unfolding fold keyed marked again has_key with_key
keyed_again [] marks = refl
keyed_again (x ∷ xs) marks = keyed_again xs (keyed marks x)

abbrev Small : List ℕ → Type 0
Small xs = All (λ x. x < precedence_count) xs

row_small : (row : List Filter) → ((j : ℕ) → j < place_count → FilterInRange (in_row row j)) → Small (row_precedences row)
unfolding row_precedences
row_small row ok = joined_all (precedence_in row) (λ x. x < precedence_count) place_count (λ j l. go (held (in_row row j)) (in_row row j).precedence (ok j l).precedence)
  where
    go : (b : Bool) (x : ℕ) → x < precedence_count → Small (pick b (x ∷ []) [])
    go true x l = (l, tt)
    go false x l = tt

keyed_one : (connection x : ℕ) (marks : Marks) → x < precedence_count → marked (bit_of connection) marks x ≡ keyed marks (key connection x)
unfolding keyed
keyed_one connection x marks l =
    let q : connection ≡ key connection x / precedence_count = omega arith in
    let p : x ≡ key connection x % precedence_count = omega arith in
    ap₂ (λ (c y : ℕ). marked (bit_of c) marks y) q p

keyed_row : (connection : ℕ) (xs : List ℕ) (marks : Marks) → Small xs → fold (marked (bit_of connection)) marks xs ≡ fold keyed marks (map (key connection) xs)
unfolding fold
keyed_row connection [] marks h = refl
keyed_row connection (x ∷ xs) marks h =
    keyed_row connection xs (marked (bit_of connection) marks x) h.1
    ∙ ap (λ (s : Marks). fold keyed s (map (key connection) xs)) (keyed_one connection x marks h.0)

-- the keys of an active bearer's filters
keys_of : Table → ℕ → List ℕ
keys_of t k = map (key (connection_at t k)) (active_precedences t k)

-- ---- keys in a list
same_key : (connection p q : ℕ) → eqb (key connection p) (key connection q) ≡ eqb p q
same_key connection p q = says_same (says_eq (key connection p) (key connection q)) (says_so (says_eq p q) (λ e. ap (key connection) e) (λ e. omega arith))

-- a number among the keys is the key of some precedence
keys_in : (connection y : ℕ) (xs : List ℕ) → Small xs → In y (map (key connection) xs) → (y / precedence_count ≡ connection) × In (y % precedence_count) xs
unfolding is_in
keys_in connection y [] h i = never i refl
keys_in connection y (x ∷ xs) h i =
    let l = h.0 in
    ⊎_elim
    (λ e. let q = eqb-true y (key connection x) e in
    (omega arith, or_left (eqb (y % precedence_count) x) (is_in (y % precedence_count) xs) (eq-eqb (y % precedence_count) x (omega arith))))
    (λ j. let r = keys_in connection y xs h.1 j in (r.0, or_right (eqb (y % precedence_count) x) (is_in (y % precedence_count) xs) r.1))
    (either (eqb y (key connection x)) (is_in y (map (key connection) xs)) i)

-- ---- the keys of a table
module _ (t : Table) (ok : TableInRange t) where
  active_small : (k : ℕ) → k < bearer_count → Small (active_precedences t k)
  active_small k l =
      picked Small (is_idle (role_at t k)) [] (row_precedences (bearer_at t k).row) tt
      (row_small (bearer_at t k).row (λ j m. each_at (each_at ok.bearers no_bearer k l).row empty_filter j m))

  marks_keyed : (n : ℕ) → n ≤ bearer_count → marks_at t n ≡ fold keyed none_marked (joined (keys_of t) n)
  unfolding walk joined fold bearer_marked keys_of
  marks_keyed zero l = refl
  marks_keyed (suc n) l =
      keyed_row (connection_at t n) (active_precedences t n) (marks_at t n) (active_small n (omega arith))
      ∙ ap (λ (s : Marks). fold keyed s (keys_of t n)) (marks_keyed n (omega arith))
      ∙ sym (fold_append keyed (joined (keys_of t) n) (keys_of t n) none_marked)

  module _ (fine : all_below (bearer_fine t) bearer_count ≡ true) where
    -- a number is among the keys of a bearer where a filter of it has that connection and that precedence
    abbrev KeyStands : ℕ → ℕ → Type 0
    KeyStands i x = (x / precedence_count ≡ connection_at t i) × SomeBelow place_count (λ j. Held (filter_at t i j) × ((filter_at t i j).precedence ≡ x % precedence_count))

    key_stands : (i x : ℕ) → i < bearer_count → In x (keys_of t i) → KeyStands i x
    unfolding keys_of is_in
    key_stands i x l h =
        let r = keys_in (connection_at t i) x (active_precedences t i) (active_small i l) h in
        (r.0, row_in (bearer_at t i).row (x % precedence_count) (among (is_idle (role_at t i)) r.1))
      where
        among : (b : Bool) → In (x % precedence_count) (pick b [] (row_precedences (bearer_at t i).row)) → In (x % precedence_count) (row_precedences (bearer_at t i).row)
        among true h = never h refl
        among false h = h

    key_in : (i j : ℕ) → i < bearer_count → j < place_count → Held (filter_at t i j) → In (key (connection_at t i) (filter_at t i j).precedence) (keys_of t i)
    unfolding keys_of
    key_in i j l m g =
        rw (held_active t ok fine i j l m g)
        (named_in (key (connection_at t i)) (same_key (connection_at t i)) (filter_at t i j).precedence (row_precedences (bearer_at t i).row) ∙ in_row_lem (bearer_at t i).row (filter_at t i j).precedence j m (g, refl))

    table_good : All Good (joined (keys_of t) bearer_count)
    table_good =
        joined_all (keys_of t) Good bearer_count
        (λ i l. all_in Good (keys_of t i) (λ x h.
        let r = key_stands i x l h in
        rw r.0 (held_identity t ok fine i r.1.at l r.1.below r.1.holds.0)))

    marks_repeat : (marks_at t bearer_count).again ≡ repeats (joined (keys_of t) bearer_count)
    unfolding none_marked
    marks_repeat =
        ap (λ (m : Marks). m.again) (marks_keyed bearer_count (omega arith))
        ∙ keyed_again (joined (keys_of t) bearer_count) none_marked
        ∙ again_repeats has_key with_key key_marks (joined (keys_of t) bearer_count) (replicate precedence_count 0) (length-replicate {A = ℕ} precedence_count 0) (λ x g. none_has x) table_good

    -- ---- a key that is there twice is a precedence that is there twice in its connection
    keys_fresh : Distinct t ok → (i : ℕ) → i < bearer_count → Fresh (keys_of t i)
    unfolding keys_of repeats
    keys_fresh d i l =
        named_repeats (key (connection_at t i)) (same_key (connection_at t i)) (active_precedences t i)
        ∙ picked Fresh (is_idle (role_at t i)) [] (row_precedences (bearer_at t i).row) refl (row_fresh (bearer_at t i).row (λ j k a b g h e. (d i i j k l l a b refl g h e).1))

    table_fresh : Distinct t ok → Fresh (joined (keys_of t) bearer_count)
    table_fresh d =
        joined_fresh (keys_of t) bearer_count (keys_fresh d)
        (λ i k l m x p q.
        let g = key_stands i x l p in
        let h = key_stands k x m q in
        (d i k g.1.at h.1.at l m g.1.below h.1.below (sym g.0 ∙ h.0) g.1.holds.0 h.1.holds.0 (g.1.holds.1 ∙ sym h.1.holds.1)).0)

    fresh_keys : (i j : ℕ) → i < bearer_count → j < place_count → Held (filter_at t i j) → Fresh (keys_of t i) → Fresh (row_precedences (bearer_at t i).row)
    unfolding keys_of
    fresh_keys i j l m g f = sym (named_repeats (key (connection_at t i)) (same_key (connection_at t i)) (row_precedences (bearer_at t i).row)) ∙ rw (held_active t ok fine i j l m g) at f

    fresh_table : Fresh (joined (keys_of t) bearer_count) → Distinct t ok
    fresh_table f i k j l a b c d o g h e =
        let x = key (connection_at t i) (filter_at t i j).precedence in
        let there : In x (keys_of t k) =
        subst (λ (z : ℕ). In z (keys_of t k)) (ap₂ key (sym o) (sym e)) (key_in k l b d h) in
        let one : i ≡ k = fresh_single (keys_of t) bearer_count f i k a b x (key_in i j a c g) there in
        let row = fresh_row (bearer_at t i).row (fresh_keys i j a c g (fresh_piece (keys_of t) bearer_count f i a)) in (
          one,
          row j l c d g (subst (λ (m : ℕ). Held (filter_at t m l)) (sym one) h)
              (e ∙ ap (λ (m : ℕ). (filter_at t m l).precedence) (sym one)),
        )

    fresh_says : Says (not (repeats (joined (keys_of t) bearer_count))) (Distinct t ok)
    fresh_says =
        record {
          to = λ e. fresh_table (not-true (repeats (joined (keys_of t) bearer_count)) e);
          from = λ d. rw (table_fresh d);
        }

    pub marks_tell : not (marks_at t bearer_count).again ≡ distinct_precedences t
    marks_tell = ap not marks_repeat ∙ says_same fresh_says (distinct_says t ok fine)

-- the tests that the code makes of the bearers are those of the definition
pub all_told : (t : Table) → TableInRange t
    → (all_below (bearer_fine t) bearer_count && not (marks_at t bearer_count).again) && distinct_transactions t ≡ bearers_fine t
unfolding bearers_fine
all_told t ok = go (all_below (bearer_fine t) bearer_count) refl
  where
    go : (fine : Bool) → all_below (bearer_fine t) bearer_count ≡ fine → (fine && not (marks_at t bearer_count).again) && distinct_transactions t ≡ fine && distinct_transactions t && distinct_precedences t
    go true e = rw (marks_tell t ok e) (and_comm (distinct_precedences t) (distinct_transactions t))
    go false e = refl
