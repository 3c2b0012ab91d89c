-- What stands where in a table that is made from a view, and when two are the same.
use mathlib.Core.Path.{◌≡◌, ◌∙◌, ap}
use Prim.Native.Nat.{ℕ, ◌<◌}
use Rattle.laws.proofs.Index.{tab_at, tab_same}
use Rattle.table.specs.declared.bearer.Bearer.{Bearer}
use Rattle.filter.specs.Sizes.{place_count}
use Rattle.filter.specs.Build.{empty_filter}
use Rattle.table.specs.Bearers.{bearer_count, no_bearer, bearer_at, in_row, role_at, transaction_at, filter_at}
use Rattle.table.specs.Tables.{View, bearer_of, table_of, build}

module _ (v : View) (i : ℕ) (l : i < bearer_count) where
  pub bearer_built : bearer_at (build v) i ≡ bearer_of v i
  bearer_built = tab_at (bearer_of v) bearer_count i no_bearer l

  pub role_built : role_at (build v) i ≡ v.role i
  role_built = ap (λ (b : Bearer). b.role) bearer_built

  pub transaction_built : transaction_at (build v) i ≡ v.transaction i
  transaction_built = ap (λ (b : Bearer). b.transaction) bearer_built

  pub filter_built : (j : ℕ) → j < place_count → filter_at (build v) i j ≡ v.filter i j
  filter_built j m = ap (λ (b : Bearer). in_row b.row j) bearer_built ∙ tab_at (v.filter i) place_count j empty_filter m

pub views_same : (v w : View) → ((i : ℕ) → i < bearer_count → v.role i ≡ w.role i) → ((i : ℕ) → i < bearer_count → v.transaction i ≡ w.transaction i)
    → ((i j : ℕ) → i < bearer_count → j < place_count → v.filter i j ≡ w.filter i j) → build v ≡ build w
views_same v w role transaction filter =
    ap table_of (tab_same no_bearer (bearer_of v) (bearer_of w) bearer_count
    (λ i l. rw (role i l, transaction i l, tab_same empty_filter (v.filter i) (w.filter i) place_count (λ j m. filter i j l m))))
