-- What the test of distinct precedences says: filters of one precedence, in one row or in one connection, stand in one place.
use mathlib.Core.Path.{◌≡◌, refl, sym, ◌∙◌, ap, subst}
use mathlib.Core.Bool.{Bool, true, false, not, false≢true}
use mathlib.Core.List.{List, [], ◌∷◌}
use mathlib.Core.Logic.{⊎_elim}
use Prim.Native.Nat.{ℕ, ◌<◌}
use lib.Dec.{eqb}
use borrow.Author.Tests.{eqb-true, eq-eqb, not-true}
use Rattle.laws.specs.Says.{pick, Says}
use Rattle.laws.specs.Index.{SomeBelow}
use Rattle.laws.specs.Lists.{is_in, repeats}
use Rattle.laws.proofs.Tests.{either, or_left}
use Rattle.filter.specs.declared.component.Filter.{Filter}
use Rattle.filter.specs.Coding.{held}
use Rattle.table.specs.declared.bearer.Table.{Table}
use Rattle.filter.specs.Sizes.{place_count}
use Rattle.table.specs.Bearers.{bearer_count, in_row, bearer_at, filter_at, connection_at}
use Rattle.table.specs.WellFormed.{precedence_in, row_precedences, precedences_of, connection_precedences, Held}
use Rattle.laws.proofs.Joined.{Fresh, In, joined_in, in_joined, joined_fresh, fresh_piece, fresh_single}

fresh_not : (b : Bool) → b ≡ false → not b ≡ true
fresh_not b e = rw e

none_in : (x : ℕ) → In x [] → ⊥
unfolding is_in
none_in x h = false≢true h

none_fresh : Fresh []
unfolding repeats
none_fresh = refl

-- ---- a row
module _ (row : List Filter) where
  -- x is the precedence of the filter in place j
  abbrev Stands : ℕ → ℕ → Type 0
  Stands x j = Held (in_row row j) × ((in_row row j).precedence ≡ x)

  place_in : (x j : ℕ) → In x (precedence_in row j) → Stands x j
  unfolding is_in
  place_in x j = go (held (in_row row j)) refl
    where
      go : (b : Bool) → held (in_row row j) ≡ b → In x (pick b ((in_row row j).precedence ∷ []) []) → Stands x j
      go true e h = (e, ⊎_elim (λ q. sym (eqb-true x (in_row row j).precedence q)) (λ q. absurd (false≢true q)) (either (eqb x (in_row row j).precedence) false h))
      go false e h = absurd (none_in x h)

  in_place : (x j : ℕ) → Stands x j → In x (precedence_in row j)
  unfolding is_in
  in_place x j h = rw h.0 (or_left (eqb x (in_row row j).precedence) false (eq-eqb x (in_row row j).precedence (sym h.1)))

  place_fresh : (j : ℕ) → Fresh (precedence_in row j)
  unfolding repeats is_in
  place_fresh j = go (held (in_row row j))
    where
      go : (b : Bool) → Fresh (pick b ((in_row row j).precedence ∷ []) [])
      go true = refl
      go false = refl

  pub row_in : (x : ℕ) → In x (row_precedences row) → SomeBelow place_count (Stands x)
  unfolding row_precedences
  row_in x h = let r = joined_in (precedence_in row) place_count x h in record { at = r.at; below = r.below; holds = place_in x r.at r.holds }

  pub in_row_lem : (x j : ℕ) → j < place_count → Stands x j → In x (row_precedences row)
  unfolding row_precedences
  in_row_lem x j l h = in_joined (precedence_in row) place_count x j l (in_place x j h)

  abbrev pub RowDistinct : Type 0
  RowDistinct = (j l : ℕ) → j < place_count → l < place_count → Held (in_row row j) → Held (in_row row l) → (in_row row j).precedence ≡ (in_row row l).precedence → j ≡ l

  pub fresh_row : Fresh (row_precedences row) → RowDistinct
  unfolding row_precedences
  fresh_row f j l a b g h e =
      fresh_single (precedence_in row) place_count f j l a b (in_row row j).precedence (in_place _ j (g, refl)) (in_place _ l (h, sym e))

  pub row_fresh : RowDistinct → Fresh (row_precedences row)
  unfolding row_precedences
  row_fresh d =
      joined_fresh (precedence_in row) place_count (λ j l. place_fresh j)
      (λ j l a b x p q.
      let g = place_in x j p in
      let h = place_in x l q in
      d j l a b g.0 h.0 (g.1 ∙ sym h.1))

-- ---- a connection
module _ (t : Table) (connection : ℕ) where
  abbrev Of : ℕ → Type 0
  Of k = connection_at t k ≡ connection

  abbrev Row : ℕ → List Filter
  Row k = (bearer_at t k).row

  bearer_in_lem : (x k : ℕ) → In x (precedences_of t connection k) → Of k × SomeBelow place_count (Stands (Row k) x)
  bearer_in_lem x k = go (eqb (connection_at t k) connection) refl
    where
      go : (b : Bool) → eqb (connection_at t k) connection ≡ b → In x (pick b (row_precedences (Row k)) []) → Of k × SomeBelow place_count (Stands (Row k) x)
      go true e h = (eqb-true (connection_at t k) connection e, row_in (Row k) x h)
      go false e h = absurd (none_in x h)

  in_bearer : (x k j : ℕ) → j < place_count → Of k → Stands (Row k) x j → In x (precedences_of t connection k)
  in_bearer x k j l e h = rw (eq-eqb (connection_at t k) connection e) (in_row_lem (Row k) x j l h)

  bearer_fresh : (k : ℕ) → (Of k → RowDistinct (Row k)) → Fresh (precedences_of t connection k)
  bearer_fresh k d = go (eqb (connection_at t k) connection) refl
    where
      go : (b : Bool) → eqb (connection_at t k) connection ≡ b → Fresh (pick b (row_precedences (Row k)) [])
      go true e = row_fresh (Row k) (d (eqb-true (connection_at t k) connection e))
      go false e = none_fresh

  fresh_bearer : (k : ℕ) → Of k → Fresh (precedences_of t connection k) → RowDistinct (Row k)
  fresh_bearer k e f = fresh_row (Row k) (rw (eq-eqb (connection_at t k) connection e) at f)

  -- two filters of the connection with one precedence are the same
  abbrev pub Within : Type 0
  Within = (i k j l : ℕ) → i < bearer_count → k < bearer_count → j < place_count → l < place_count → Of i → Of k
      → Held (filter_at t i j) → Held (filter_at t k l) → (filter_at t i j).precedence ≡ (filter_at t k l).precedence → (i ≡ k) × (j ≡ l)

  within : Fresh (connection_precedences t connection) → Within
  unfolding connection_precedences
  within f i k j l a b c d o p g h e =
      let x = (filter_at t i j).precedence in
      let one : i ≡ k =
      fresh_single (precedences_of t connection) bearer_count f i k a b x (in_bearer x i j c o (g, refl)) (in_bearer x k l d p (h, sym e)) in
      let rows = fresh_bearer i o (fresh_piece (precedences_of t connection) bearer_count f i a) in (
        one,
        rows j l c d g (subst (λ (m : ℕ). Held (filter_at t m l)) (sym one) h)
            (e ∙ ap (λ (m : ℕ). (filter_at t m l).precedence) (sym one)),
      )

  fresh_within : Within → Fresh (connection_precedences t connection)
  unfolding connection_precedences
  fresh_within w =
      joined_fresh (precedences_of t connection) bearer_count
      (λ k m. bearer_fresh k (λ o j l a b g h e. (w k k j l m m a b o o g h e).1))
      (λ i k a b x p q.
      let g = bearer_in_lem x i p in
      let h = bearer_in_lem x k q in
      (w i k g.1.at h.1.at a b g.1.below h.1.below g.0 h.0 g.1.holds.0 h.1.holds.0 (g.1.holds.1 ∙ sym h.1.holds.1)).0)

  pub within_says : Says (not (repeats (connection_precedences t connection))) Within
  within_says =
      record {
        to = λ e. within (not-true (repeats (connection_precedences t connection)) e);
        from = λ w. fresh_not (repeats (connection_precedences t connection)) (fresh_within w);
      }
