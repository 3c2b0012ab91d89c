-- A table made from its bearers, and a table read as functions of indices.
use Rattle.std.specs.Prelude.{ℕ, ◌/◌, Bool, false, List, eqb, get_or, replicate}
use Rattle.laws.specs.Says.{pick}
use Rattle.laws.specs.Index.{tab}
use Rattle.filter.specs.declared.component.Filter.{Filter}
use Rattle.filter.specs.Sizes.{place_count, precedence_count}
use Rattle.filter.specs.Build.{empty_filter}
use Rattle.table.specs.declared.bearer.Role.{Role}
use Rattle.table.specs.declared.bearer.Role.TheVariants.{Idle}
use Rattle.table.specs.declared.bearer.Bearer.{Bearer}
use Rattle.table.specs.declared.bearer.Table.{Table}
use Rattle.table.specs.Bearers.{bearer_count, identity_of, role_at, transaction_at, filter_at}
use Rattle.table.specs.Lists.{held_count, cell_at, lists_of}

-- The held lists are those that the rule gives for the table then held: every table that a call makes is made so, and what a call does is said of its bearers
-- alone; a refusal hands back the table that came
abbrev pub table_of : List Bearer → Table
table_of bearers = record { bearers = bearers; lists = lists_of bearers }

-- a table read as functions of indices, and made from them
pub record View : Type 0 where
  pub role : ℕ → Role
  pub transaction : ℕ → ℕ
  pub filter : ℕ → ℕ → Filter

abbrev pub view : Table → View
view t = record { role = role_at t; transaction = transaction_at t; filter = filter_at t }

abbrev pub bearer_of : View → ℕ → Bearer
bearer_of v i = record { role = v.role i; transaction = v.transaction i; row = tab (v.filter i) place_count }

abbrev pub build : View → Table
build v = table_of (tab (bearer_of v) bearer_count)

-- "idle bearers hold nothing"
abbrev pub idle_bearer : Bearer
idle_bearer = record { role = Idle; transaction = 0; row = replicate place_count empty_filter }

unfoldable pub empty_table : Table
empty_table = table_of (replicate bearer_count idle_bearer)

-- ---- one list made anew
-- the list of one identity is touched, and no other
abbrev pub only_of : ℕ → List Bool
only_of identity = tab (λ i. eqb (identity_of i) identity) bearer_count

-- the lists of the identities that are touched as the rule gives them, the others as they are held
unfoldable pub relisted_at : Table → List Bool → ℕ → ℕ
relisted_at t touched n = pick (get_or touched (n / precedence_count) false) (cell_at t.bearers n) (get_or t.lists n 0)

unfoldable pub relisted_of : Table → List Bool → Table
relisted_of t touched = record { bearers = t.bearers; lists = tab (relisted_at t touched) held_count }
