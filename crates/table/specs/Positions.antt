-- What stands at position p of a connection's list, said of all its filters in no order.
use Rattle.std.specs.Prelude.{ℕ, ◌<◌, ◌≤◌, true, ◌≡◌, ◌⊎◌}
use Rattle.filter.specs.Sizes.{place_count}
use Rattle.table.specs.declared.bearer.Table.{Table}
use Rattle.table.specs.Bearers.{bearer_count, identity_of, filter_at, connection_at}
use Rattle.table.specs.declared.list.Entry.{Entry}
use Rattle.table.specs.Lists.{is_uplink, precedence_at, entry_of, nothing}

module _ (t : Table) (default : ℕ) where
  -- place j of the bearer at index i holds an uplink filter of the default's connection
  pub record Uplink (i j : ℕ) : Type 0 where
    pub bearer : i < bearer_count
    pub place : j < place_count
    pub of : connection_at t i ≡ default
    pub up : is_uplink (filter_at t i j) ≡ true

  -- "at each precedence its uplink filter of that precedence with the bearer, or nothing"
  pub record Named (p : ℕ) (e : Entry) : Type 0 where
    pub index : ℕ
    pub spot : ℕ
    pub uplink : Uplink index spot
    pub precedence : precedence_at t index spot ≡ p
    pub is : e ≡ entry_of (identity_of index) spot

  -- .. and nothing only where there is none
  pub record Vacant (p : ℕ) (e : Entry) : Type 0 where
    pub none : (i j : ℕ) → Uplink i j → precedence_at t i j ≡ p → ⊥
    pub is : e ≡ nothing

  abbrev pub Stands : ℕ → Entry → Type 0
  Stands p e = Named p e ⊎ Vacant p e

  -- where a table that is not well formed has several: none is of a higher bearer, nor of a higher identifier on the same bearer
  abbrev pub Highest : ℕ → Entry → Type 0
  Highest p e = (i j : ℕ) → Uplink i j → precedence_at t i j ≡ p → (identity_of i < e.bearer) ⊎ ((identity_of i ≡ e.bearer) × (j ≤ e.place))
