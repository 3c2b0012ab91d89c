-- "A table is well formed if all that holds, idle bearers hold nothing, unused fields are zero, precedences are distinct within a connection,
-- and each filter is well coded .. and fits some packet."
use Rattle.std.specs.Prelude.{◌≡◌, ℕ, ◌≤◌, ◌<◌, Bool, true, not, ◌&&◌, ◌||◌, List, [], ◌∷◌, eqb, leb, get_or}
use Rattle.laws.specs.Says.{pick}
use Rattle.laws.specs.Index.{imp, all_below, joined}
use Rattle.laws.specs.Lists.{repeats}
use Rattle.filter.specs.declared.component.Filter.{Filter}
use Rattle.filter.specs.declared.packet.Header.{Header}
use Rattle.filter.specs.Coding.{held, well_coded, empty_place}
use Rattle.filter.specs.Fit.{fits}
use Rattle.filter.specs.Fittable.{place_fine, SomePacketFitsBy}
use Rattle.table.specs.declared.bearer.Role.{Role}
use Rattle.table.specs.declared.bearer.Role.TheVariants.{Idle, Default, Dedicated}
use Rattle.table.specs.declared.bearer.Table.{Table}
use Rattle.filter.specs.Sizes.{place_count}
use Rattle.filter.specs.Build.{empty_filter}
use Rattle.table.specs.Bearers.{first_identity, last_identity, bearer_count, last_transaction, index_of, identity_of, bearer_at, in_row}
use Rattle.table.specs.Bearers.{role_at, transaction_at, is_idle, is_default, role_of, connection_of, connection_at}
use Rattle.table.specs.Lists.{held_count, cell_at, lists_of}
use Rattle.table.specs.Tables.{View, view}

-- ---- The test, one bearer at a time
-- "dedicated and linked to an active default"
abbrev pub link_fine : Table → Role → Bool
link_fine t Idle = true
link_fine t Default = true
link_fine t (Dedicated link) = is_default (role_of t link)

-- "Each active bearer has at most one open transaction, identity 1 to 254"
abbrev pub transaction_fine : Bool → ℕ → Bool
transaction_fine idle x = imp idle (eqb x 0) && leb x last_transaction

-- "idle bearers hold nothing"
unfoldable pub filter_fine : Bool → List Filter → ℕ → Bool
filter_fine idle row j = imp idle (empty_place (in_row row j)) && place_fine (in_row row j)

unfoldable pub bearer_fine : Table → ℕ → Bool
bearer_fine t i =
    transaction_fine (is_idle (role_at t i)) (transaction_at t i) && link_fine t (role_at t i)
    && all_below (filter_fine (is_idle (role_at t i)) (bearer_at t i).row) place_count

-- ---- two bearers at a time
-- "all distinct", of open transactions
unfoldable pub transactions_apart : Table → ℕ → ℕ → Bool
transactions_apart t i k = eqb (transaction_at t i) 0 || imp (eqb (transaction_at t i) (transaction_at t k)) (eqb i k)

unfoldable pub transaction_from : Table → ℕ → Bool
transaction_from t i = all_below (transactions_apart t i) bearer_count

unfoldable pub distinct_transactions : Table → Bool
distinct_transactions t = all_below (transaction_from t) bearer_count

-- ---- one connection at a time
-- the precedence of the filter that a place holds, if it does, and those of a row
abbrev pub precedence_in : List Filter → ℕ → List ℕ
precedence_in row j = pick (held (in_row row j)) ((in_row row j).precedence ∷ []) []

unfoldable pub row_precedences : List Filter → List ℕ
row_precedences row = joined (precedence_in row) place_count

-- those of a bearer, if it is of the connection, and those of all its bearers
abbrev pub precedences_of : Table → ℕ → ℕ → List ℕ
precedences_of t connection k = pick (eqb (connection_at t k) connection) (row_precedences (bearer_at t k).row) []

unfoldable pub connection_precedences : Table → ℕ → List ℕ
connection_precedences t connection = joined (precedences_of t connection) bearer_count

-- "precedences are distinct within a connection", a default's: none is there twice
unfoldable pub distinct_at : Table → ℕ → Bool
distinct_at t i = imp (is_default (role_at t i)) (not (repeats (connection_precedences t (identity_of i))))

unfoldable pub distinct_precedences : Table → Bool
distinct_precedences t = all_below (distinct_at t) bearer_count

-- the bearers
unfoldable pub bearers_fine : Table → Bool
bearers_fine t = all_below (bearer_fine t) bearer_count && distinct_transactions t && distinct_precedences t

-- ---- the lists
-- "A table whose list is false is not well formed": octet n is the rule's
unfoldable pub cell_right : Table → ℕ → Bool
cell_right t n = eqb (get_or t.lists n 0) (cell_at t.bearers n)

unfoldable pub lists_right : Table → Bool
lists_right t = all_below (cell_right t) held_count

unfoldable pub well_formed : Table → Bool
well_formed t = bearers_fine t && lists_right t

-- ---- What `well_formed` says
abbrev pub Held : Filter → Type 0
Held f = held f ≡ true

-- the identity is that of an active default
abbrev pub ActiveDefault : (ℕ → Role) → ℕ → Type 0
ActiveDefault role identity = (first_identity ≤ identity) × (identity ≤ last_identity) × (role (index_of identity) ≡ Default)

-- the bearers well formed, where a test of fit says what fits; the table's is `fits`
pub record WellBy (test : Filter → Header → Bool) (v : View) : Type 0 where
  -- an idle bearer has no transaction and holds nothing
  pub silent : (i : ℕ) → i < bearer_count → v.role i ≡ Idle → v.transaction i ≡ 0
  pub empty : (i j : ℕ) → i < bearer_count → j < place_count → v.role i ≡ Idle → v.filter i j ≡ empty_filter
  -- a dedicated bearer is linked to an active default
  pub linked : (i link : ℕ) → i < bearer_count → v.role i ≡ Dedicated link → ActiveDefault v.role link
  -- transactions are at most 254, and each is open on one bearer
  pub small : (i : ℕ) → i < bearer_count → v.transaction i ≤ last_transaction
  pub single : (i k : ℕ) → i < bearer_count → k < bearer_count → (v.transaction i ≡ 0 → ⊥) → v.transaction i ≡ v.transaction k → i ≡ k
  -- a place that holds no filter is all zero; a filter is well coded, and there is a packet that fits it
  pub zeroed : (i j : ℕ) → i < bearer_count → j < place_count → (Held (v.filter i j) → ⊥) → v.filter i j ≡ empty_filter
  pub coded : (i j : ℕ) → i < bearer_count → j < place_count → Held (v.filter i j) → well_coded (v.filter i j) ≡ true
  pub fitted : (i j : ℕ) → i < bearer_count → j < place_count → Held (v.filter i j) → SomePacketFitsBy test (v.filter i j)
  -- two filters of one connection with one precedence are the same
  pub distinct : (i k j l : ℕ) → i < bearer_count → k < bearer_count → j < place_count → l < place_count
      → connection_of i (v.role i) ≡ connection_of k (v.role k) → Held (v.filter i j) → Held (v.filter k l)
      → (v.filter i j).precedence ≡ (v.filter k l).precedence → (i ≡ k) × (j ≡ l)

abbrev pub Well : View → Type 0
Well v = WellBy fits v

-- every held list is the rule's
abbrev pub RightLists : Table → Type 0
RightLists t = t.lists ≡ lists_of t.bearers

-- `well_formed` is true exactly of these: the theorem `well_says`
pub record WellFormed (t : Table) : Type 0 where
  pub bearers : Well (view t)
  pub lists : RightLists t
