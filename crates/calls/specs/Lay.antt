-- "A conflict is an old filter of the connection, remaining after the above, with a new filter's precedence."
use Rattle.std.specs.Prelude.{ℕ, Bool, true, false, not, ◌&&◌, ◌||◌, List, eqb}
use Rattle.laws.specs.Says.{pick}
use Rattle.laws.specs.Index.{any_below, picks}
use Rattle.filter.specs.declared.component.Filter.{Filter}
use Rattle.filter.specs.Coding.{held}
use Rattle.table.specs.declared.bearer.Table.{Table}
use Rattle.filter.specs.Sizes.{place_count}
use Rattle.filter.specs.Build.{empty_filter}
use Rattle.table.specs.Bearers.{bearer_count, index_of, identity_of, bearer_at, in_row, role_at, transaction_at, is_default, is_dedicated}
use Rattle.table.specs.Tables.{View, build}
use Rattle.calls.specs.declared.reply.Answer.TheVariants.{Accept, Release, Reattach}
use Rattle.calls.specs.declared.reply.Outcome.{Outcome}
use Rattle.calls.specs.declared.incoming.Standing.{Standing}
use Rattle.calls.specs.Reply.{outcome, answered}
use Rattle.calls.specs.Steps.{home}
use Rattle.table.specs.Changes.{cut_view, of_connection}

-- ---- one place of a bearer that is the named one or not, of its connection or not: n is the new filter of that place, f the old one
-- "create puts the new set in place of the old"; "Add and replace lay the new filters over the old by identifier": the old filter that remains
unfoldable pub old : Bool → Standing → Filter → Filter → Filter
old create s n f = pick (s.named && (create || held n)) empty_filter f

-- the new filter of place j has precedence p
unfoldable pub taken_by : List Filter → ℕ → ℕ → Bool
taken_by new p j = held (in_row new j) && eqb (in_row new j).precedence p

-- some new filter has it
unfoldable pub takes : List Filter → ℕ → Bool
takes new p = any_below (taken_by new p) place_count

unfoldable pub conflict : List Filter → Bool → Filter → Bool
conflict new connected f = connected && held f && takes new f.precedence

module _ (new : List Filter) (create : Bool) where
  -- the new filter; else nothing at a conflict; else the old one
  unfoldable pub placed : Standing → Filter → Filter → Filter
  placed s n f = pick (s.named && held n) n (pick (conflict new s.connected (old create s n f)) empty_filter (old create s n f))

  -- ---- one row
  unfoldable pub conflict_in : Standing → List Filter → ℕ → Bool
  conflict_in s row j = conflict new s.connected (old create s (in_row new j) (in_row row j))

  unfoldable pub loses : Standing → List Filter → Bool
  loses s row = any_below (conflict_in s row) place_count

  unfoldable pub placed_in : Standing → List Filter → ℕ → Filter
  placed_in s row j = placed s (in_row new j) (in_row row j)

  -- ---- the table: the bearer at k is named, and is of the connection
  module _ (t : Table) (k connection : ℕ) where
    abbrev pub standing : ℕ → Standing
    standing i = record { named = eqb i k; connected = of_connection t connection i }

    unfoldable pub loses_at : ℕ → Bool
    loses_at i = loses (standing i) (bearer_at t i).row

    unfoldable pub conflict_on_default : ℕ → Bool
    conflict_on_default i = is_default (role_at t i) && loses_at i

    unfoldable pub follows : ℕ → Bool
    follows i = is_dedicated (role_at t i) && loses_at i

    abbrev pub laid_view : View
    laid_view = record { role = role_at t; transaction = transaction_at t; filter = λ i. placed_in (standing i) (bearer_at t i).row }

    -- "Any conflict on the default"
    unfoldable pub released : Bool
    released = any_below conflict_on_default bearer_count

    -- "those bearers, the named one included, form the follow-up list in rising identity"
    unfoldable pub followers : List ℕ
    followers = picks follows identity_of bearer_count

-- "or "detach and re-attach" where it was the only connection"
unfoldable pub other_at : Table → ℕ → ℕ → Bool
other_at t connection i = is_default (role_at t i) && not (eqb (identity_of i) connection)

unfoldable pub only_connection : Table → ℕ → Bool
only_connection t connection = not (any_below (other_at t connection) bearer_count)

abbrev pub lay_or_release : Bool → Table → ℕ → ℕ → List Filter → Bool → Outcome
lay_or_release true t bearer connection new create =
    answered (build (cut_view t (of_connection t connection))) (pick (only_connection t connection) Reattach (Release connection))
lay_or_release false t bearer connection new create =
    outcome (build (laid_view new create t (index_of bearer) connection)) (Accept bearer) (followers new create t (index_of bearer) connection)

unfoldable pub lay_within : Table → ℕ → ℕ → List Filter → Bool → Outcome
lay_within t bearer connection new create = lay_or_release (released new create t (index_of bearer) connection) t bearer connection new create

-- new filters on a bearer, over the old ones or in their place
unfoldable pub lay_of : Table → ℕ → List Filter → Bool → Outcome
lay_of t bearer new create = lay_within t bearer (home t bearer) new create
