-- What can be done to a table: each change is a view of the table before, from which the table after is made.
use Rattle.std.specs.Prelude.{ℕ, Bool, false, ◌&&◌, List, eqb, get_or}
use Rattle.laws.specs.Says.{pick}
use Rattle.laws.specs.Index.{tab}
use Rattle.filter.specs.declared.component.Filter.{Filter}
use Rattle.filter.specs.Build.{empty_filter}
use Rattle.table.specs.declared.bearer.Role.{Role}
use Rattle.table.specs.declared.bearer.Role.TheVariants.{Idle}
use Rattle.table.specs.declared.bearer.Table.{Table}
use Rattle.table.specs.Bearers.{bearer_count, bearer_at, in_row, role_at, transaction_at, filter_at, in_connection}
use Rattle.table.specs.Tables.{View, bearer_of}

-- the bearers are the view's, and the lists stay as they are held: where they are no longer right, the list that changed is made anew after it
abbrev pub remade : Table → View → Table
remade t v = record { bearers = tab (bearer_of v) bearer_count; lists = t.lists }

-- ---- transactions
unfoldable pub opens_at : Table → ℕ → ℕ → Bool
opens_at t x i = eqb (transaction_at t i) x

abbrev pub closed_view : Table → ℕ → View
closed_view t x = record { role = role_at t; transaction = λ i. pick (opens_at t x i) 0 (transaction_at t i); filter = filter_at t }

abbrev pub started_view : Table → ℕ → ℕ → View
started_view t k x = record { role = role_at t; transaction = λ i. pick (eqb i k) x (transaction_at t i); filter = filter_at t }

-- ---- bearers: one more, and some gone with all they hold
abbrev pub opened_view : Table → ℕ → Role → View
opened_view t k role = record { role = λ i. pick (eqb i k) role (role_at t i); transaction = transaction_at t; filter = filter_at t }

abbrev pub cut_view : Table → (ℕ → Bool) → View
cut_view t gone =
    record {
      role = λ i. pick (gone i) Idle (role_at t i);
      transaction = λ i. pick (gone i) 0 (transaction_at t i);
      filter = λ i j. pick (gone i) empty_filter (filter_at t i j);
    }

unfoldable pub of_connection : Table → ℕ → ℕ → Bool
of_connection t connection i = in_connection connection i (role_at t i)

unfoldable pub is_at : ℕ → ℕ → Bool
is_at k i = eqb i k

-- ---- filters of one bearer, deleted by identifier
unfoldable pub deleted_in : Bool → List Bool → List Filter → ℕ → Filter
deleted_in named marks row j = pick (named && get_or marks j false) empty_filter (in_row row j)

abbrev pub deleted_view : Table → ℕ → List Bool → View
deleted_view t k marks = record { role = role_at t; transaction = transaction_at t; filter = λ i. deleted_in (eqb i k) marks (bearer_at t i).row }
