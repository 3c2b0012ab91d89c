-- How the code makes and tests lists: what its inner functions give. Nothing here is claimed of a table; the proofs tie it to Lists and WellFormed.
use Rattle.std.specs.Prelude.{ℕ, ◌+◌, ◌*◌, Bool, false, not, ◌&&◌, ◌||◌, List, ◌++◌, eqb, get_or, take, drop, set, replicate, Option, None, Some}
use Rattle.laws.specs.Says.{pick}
use Rattle.laws.specs.Index.{imp, all_below, one, sum_below, count_below, walk}
use Rattle.filter.specs.declared.component.Filter.{Filter}
use Rattle.filter.specs.Fittable.{place_fine}
use Rattle.filter.specs.Sizes.{place_count, precedence_count}
use Rattle.table.specs.declared.bearer.Bearer.{Bearer}
use Rattle.table.specs.declared.bearer.Table.{Table}
use Rattle.table.specs.Bearers.{bearer_count, is_identity, index_of, identity_of, bearer_from, bearer_at, in_row, role_at, is_idle, connection_from, connection_at}
use Rattle.table.specs.Lists.{is_uplink, cell_of}
use Rattle.table.specs.WellFormed.{filter_fine, bearer_fine, row_precedences}
use Rattle.table.specs.Inner.Walk.{precedence_of, marked_with, marks_at}

-- where the list of a connection begins; 0 where no default can have that identity
unfoldable pub begins_at : ℕ → ℕ
begins_at connection = pick (is_identity connection) (index_of connection * precedence_count) 0

-- ---- lists made
-- one emptied
unfoldable pub cleared : ℕ → List ℕ → List ℕ
cleared from cells = take from cells ++ (replicate precedence_count 0 ++ drop precedence_count (drop from cells))

unfoldable pub cleared_by : List Bool → List ℕ → ℕ → List ℕ
cleared_by touched cells i = pick (get_or touched i false) (cleared (i * precedence_count) cells) cells

-- place j of the bearer's row, at its filter's precedence
unfoldable pub put_filter : List Filter → ℕ → ℕ → List ℕ → ℕ → List ℕ
put_filter row from bearer cells j = pick (is_uplink (in_row row j)) (set cells (from + (in_row row j).precedence) (cell_of bearer j)) cells

unfoldable pub put_row : List Filter → ℕ → ℕ → List ℕ → List ℕ
put_row row from bearer cells = walk (put_filter row from bearer) cells place_count

-- the row of the bearer at index i, where its connection's list is touched
abbrev pub touches : List Bool → ℕ → Bool
touches touched connection = is_identity connection && get_or touched (index_of connection) false

unfoldable pub put_bearer : List Bearer → List Bool → List ℕ → ℕ → List ℕ
put_bearer bs touched cells i =
    pick (touches touched (connection_from bs i)) (put_row (bearer_from bs i).row (begins_at (connection_from bs i)) (identity_of i) cells) cells

-- ---- lists tested
-- octet from + p names a filter
unfoldable pub names_at : List ℕ → ℕ → ℕ → Bool
names_at cells from p = not (eqb (get_or cells (from + p) 0) 0)

-- an uplink filter stands at its precedence
unfoldable pub stands_at : List ℕ → ℕ → ℕ → Filter → Bool
stands_at cells from cell f = imp (is_uplink f) (eqb (get_or cells (from + f.precedence) 0) cell)

-- a filter is fine in its place, stands, and its precedence was not marked
unfoldable pub filter_told : ℕ → List ℕ → List ℕ → ℕ → ℕ → Filter → Bool
filter_told bit seen cells from cell f = (place_fine f && stands_at cells from cell f) && not (marked_with bit seen (precedence_of f)).again

module _ (cells : List ℕ) (from bearer : ℕ) (row : List Filter) where
  unfoldable pub place_stands : ℕ → Bool
  place_stands j = stands_at cells from (cell_of bearer j) (in_row row j)

  -- a place of an active bearer is fine, and stands
  unfoldable pub place_told : ℕ → Bool
  place_told j = filter_fine false row j && place_stands j

-- the uplink filters of a row
unfoldable pub up_in : List Filter → ℕ → Bool
up_in row j = is_uplink (in_row row j)

-- those of an active bearer stand, each at its precedence; and how many they are
unfoldable pub bearer_stands : List ℕ → Table → ℕ → Bool
bearer_stands cells t i = is_idle (role_at t i) || all_below (place_stands cells (begins_at (connection_at t i)) (identity_of i) (bearer_at t i).row) place_count

unfoldable pub uplinks_at : Table → ℕ → ℕ
uplinks_at t i = pick (is_idle (role_at t i)) 0 (count_below (up_in (bearer_at t i).row) place_count)

-- a bearer is fine, and its filters stand
unfoldable pub bearer_told : Table → ℕ → Bool
bearer_told t i = bearer_fine t i && bearer_stands t.lists t i

-- how many uplink filters a place has, where its filter is fine, stands, and its precedence was not marked
unfoldable pub place_uplinks : ℕ → List ℕ → List ℕ → ℕ → ℕ → Filter → Option ℕ
place_uplinks bit seen cells from cell f = pick (filter_told bit seen cells from cell f) (Some (one (is_uplink f))) None

-- .. how many a row has
unfoldable pub row_uplinks : ℕ → List ℕ → List ℕ → ℕ → ℕ → List Filter → Option ℕ
row_uplinks bit seen cells from bearer row =
    pick (all_below (place_told cells from bearer row) place_count && not (marked_with bit seen (row_precedences row)).again) (Some (count_below (up_in row) place_count)) None

-- .. and how many all bearers have
unfoldable pub uplinks_if_fine : Table → Option ℕ
uplinks_if_fine t = pick (all_below (bearer_told t) bearer_count && not (marks_at t bearer_count).again) (Some (sum_below (uplinks_at t) bearer_count)) None
