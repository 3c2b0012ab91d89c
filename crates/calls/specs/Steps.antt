-- The steps that calls are made of, each a table made from a view of the one before.
use Rattle.std.specs.Prelude.{ℕ, Bool, false, not, ◌&&◌, List, eqb, leb, get_or}
use Rattle.laws.specs.Says.{pick}
use Rattle.laws.specs.Index.{any_below, last_below}
use Rattle.filter.specs.declared.component.Filter.{Filter}
use Rattle.filter.specs.Coding.{held}
use Rattle.table.specs.declared.bearer.Role.{Role}
use Rattle.table.specs.declared.bearer.Role.TheVariants.{Idle, Default, Dedicated}
use Rattle.table.specs.declared.bearer.Table.{Table}
use Rattle.filter.specs.Sizes.{place_count}
use Rattle.table.specs.Bearers.{bearer_count, last_transaction, index_of, identity_of, bearer_at, in_row}
use Rattle.table.specs.Bearers.{role_of, connection_at}
use Rattle.table.specs.Tables.{build}
use Rattle.table.specs.Changes.{opens_at, closed_view, cut_view, of_connection, is_at}

-- ---- transactions
-- "Transaction identity 1 to 254"
unfoldable pub is_open : Table → ℕ → Bool
is_open t x = not (eqb x 0) && leb x last_transaction && any_below (opens_at t x) bearer_count

-- the bearer that it is open on; 0 where there is none
unfoldable pub owner_of : Table → ℕ → ℕ
owner_of t x = last_below (opens_at t x) identity_of 0 bearer_count

-- "0 means none. A match is closed, whatever follows."
unfoldable pub closed : Table → ℕ → Table
closed t x = pick (eqb x 0) t (build (closed_view t x))

-- ---- bearers
-- the connection of a bearer
abbrev pub home : Table → ℕ → ℕ
home t bearer = connection_at t (index_of bearer)

-- "a default takes its connection along"
abbrev pub dropped_by : Role → Table → ℕ → Table
dropped_by Idle t bearer = t
dropped_by Default t bearer = build (cut_view t (of_connection t bearer))
dropped_by (Dedicated link) t bearer = build (cut_view t (is_at (index_of bearer)))

unfoldable pub dropped : Table → ℕ → Table
dropped t bearer = dropped_by (role_of t bearer) t bearer

-- ---- filters
unfoldable pub holds_in : List Filter → ℕ → Bool
holds_in row j = held (in_row row j)

unfoldable pub stays_in : List Bool → List Filter → ℕ → Bool
stays_in marks row j = held (in_row row j) && not (get_or marks j false)

-- "Delete filters that empties a TFT with filters"
unfoldable pub empties : Table → ℕ → List Bool → Bool
empties t k marks = any_below (holds_in (bearer_at t k).row) place_count && not (any_below (stays_in marks (bearer_at t k).row) place_count)
