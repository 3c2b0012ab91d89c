-- The rule, over all filters of a connection in no order: "of the connection's uplink filters that fit, the one with the least
-- precedence gives its bearer. None fits: the default bearer if it has no uplink filter, else discard."
use Rattle.std.specs.Prelude.{ℕ, ◌<◌, ◌≤◌, Bool, true, ◌≡◌, ◌↔◌}
use Rattle.filter.specs.declared.component.Filter.{Filter}
use Rattle.filter.specs.declared.packet.Header.{Header}
use Rattle.filter.specs.Fit.{valid_header, fits}
use Rattle.table.specs.declared.bearer.Table.{Table}
use Rattle.filter.specs.Sizes.{place_count}
use Rattle.table.specs.Bearers.{index_of, identity_of, role_at, filter_at}
use Rattle.table.specs.WellFormed.{ActiveDefault, WellFormed}
use Rattle.table.specs.Lists.{is_uplink, precedence_at}
use Rattle.table.specs.Positions.{Uplink}
use Rattle.route.specs.declared.answer.Route.{Route}
use Rattle.route.specs.declared.answer.Route.TheVariants.{Bearer, Discard}

-- an uplink filter of the default bearer itself
abbrev pub OwnUplink : Table → ℕ → ℕ → Type 0
OwnUplink t default j = (j < place_count) × (is_uplink (filter_at t (index_of default) j) ≡ true)

-- the rule, where a test of fit says what fits
module _ (test : Filter → Header → Bool) (t : Table) where
  -- an uplink filter of the default's connection that fits the header
  pub record FittingBy (default : ℕ) (h : Header) (i j : ℕ) : Type 0 where
    pub uplink : Uplink t default i j
    pub fit : test (filter_at t i j) h ≡ true

  -- .. and none that fits has a lesser precedence
  pub record LeastBy (default : ℕ) (h : Header) (i j : ℕ) : Type 0 where
    pub fitting : FittingBy default h i j
    pub least : (k l : ℕ) → FittingBy default h k l → precedence_at t i j ≤ precedence_at t k l

  abbrev pub NoneFitsBy : ℕ → Header → Type 0
  NoneFitsBy default h = (i j : ℕ) → FittingBy default h i j → ⊥

  -- r is a right route of the header on the default's connection
  pub data RightBy (default : ℕ) (h : Header) (r : Route) : Type 0 where
    by_filter : (i j : ℕ) → LeastBy default h i j → r ≡ Bearer (identity_of i) → RightBy default h r
    by_default : NoneFitsBy default h → ((j : ℕ) → OwnUplink t default j → ⊥) → r ≡ Bearer default → RightBy default h r
    discarded : NoneFitsBy default h → (j : ℕ) → OwnUplink t default j → r ≡ Discard → RightBy default h r

-- ---- the rule as it is: what fits, `fits` says
abbrev pub Fitting : Table → ℕ → Header → ℕ → ℕ → Type 0
Fitting t default h i j = FittingBy fits t default h i j

abbrev pub Least : Table → ℕ → Header → ℕ → ℕ → Type 0
Least t default h i j = LeastBy fits t default h i j

abbrev pub NoneFits : Table → ℕ → Header → Type 0
NoneFits t default h = NoneFitsBy fits t default h

abbrev pub Right : Table → ℕ → Header → Route → Type 0
Right t default h r = RightBy fits t default h r

-- ---- "Route: 1, 8, 2.": each number is given exactly where its test refuses, and none before it
pub record RouteNumbered (t : Table) (default : ℕ) (h : Header) (number : ℕ) : Type 0 where
  pub is1 : (number ≡ 1) ↔ (WellFormed t → ⊥)
  -- "not an active default"
  pub is8 : (number ≡ 8) ↔ (WellFormed t × (ActiveDefault (role_at t) default → ⊥))
  -- "header version not 4 or 6, or version 6 label above 1048575"
  pub is2 : (number ≡ 2) ↔ (WellFormed t × (ActiveDefault (role_at t) default × (valid_header h ≡ true → ⊥)))
  pub is0 : (number ≡ 0) ↔ (WellFormed t × (ActiveDefault (role_at t) default × (valid_header h ≡ true)))
