-- The bearers of a table as a view tells them: one that keeps its row, and a loop that stores each in its turn.
use mathlib.Core.Path.{◌≡◌, refl, sym, ◌∙◌, ap}
use mathlib.Core.Bool.{Bool, true, false}
use mathlib.Core.List.{List}
use Prim.Native.Nat.{ℕ, ◌+◌, ◌<◌, ◌≤◌}
use native.Mathlib.Omega.{arith}
use lib.Dec.{eqb}
use lib.ListN.{length, get_or, set, length-set}
use Rattle.laws.specs.Says.{pick}
use Rattle.table.specs.Changes.{remade, opens_at, closed_view, started_view, opened_view, cut_view, of_connection, is_at, deleted_in, deleted_view}
use borrow.Author.Tests.{eqb-false, ne_eqb, eq-eqb}
use Rattle.laws.specs.Index.{tab}
use mathlib.Core.Logic.{⊎_elim}
use Rattle.laws.proofs.Index.{set_seen, tab_at, tab_is, stored, stored_start, stored_more, stored_rest, stored_skip, stored_done}
use Rattle.laws.proofs.Says.{never, which, says_eq, says_ne}
use Rattle.laws.proofs.Typed.{each_at}
use Rattle.filter.specs.declared.component.Filter.{Filter}
use Rattle.table.specs.declared.bearer.Role.{Role}
use Rattle.table.specs.declared.bearer.Role.TheVariants.{Idle}
use Rattle.table.specs.declared.bearer.Bearer.{Bearer}
use Rattle.table.specs.declared.bearer.Table.{Table}
use Rattle.filter.specs.Sizes.{place_count}
use Rattle.filter.specs.Build.{empty_filter}
use Rattle.filter.specs.Coding.{held}
use Rattle.table.specs.Bearers.{bearer_count, identity_of, no_bearer, bearer_at, in_row, role_at, transaction_at, filter_at, connection_of, connection_at, in_connection}
use Rattle.table.specs.Lists.{is_uplink, precedence_at}
use Rattle.table.specs.Positions.{Uplink}
use Rattle.table.specs.WellFormed.{RightLists}
use Rattle.table.proofs.Relisting.{Alike, relisted_right, kept_right}
use Rattle.table.specs.Tables.{idle_bearer, View, view, bearer_of, table_of, build, only_of, relisted_of}
use Rattle.table.specs.Ranges.{TableInRange}

-- bearers and the lists that are held with them
abbrev pub with_lists : List Bearer → List ℕ → Table
with_lists bs cells = record { bearers = bs; lists = cells }

-- a view's bearers, with the lists of the table before
abbrev pub unlisted : View → Table → Table
unlisted v t = with_lists (tab (bearer_of v) bearer_count) t.lists

-- a bearer that keeps its row
abbrev pub bearer_with : Role → ℕ → List Filter → Bearer
bearer_with role x row = record { role = role; transaction = x; row = row }

-- the idle bearer, place by place
pub idle_is : idle_bearer ≡ bearer_with Idle 0 (tab (λ j. empty_filter) place_count)
unfolding tab
idle_is = refl

pub row_kept_at : (t : Table) (i : ℕ) → TableInRange t → i < bearer_count → (role : Role) (x : ℕ)
    → bearer_with role x (bearer_at t i).row ≡ bearer_with role x (tab (filter_at t i) place_count)
row_kept_at t i ok l role x =
    ap (bearer_with role x) (tab_is empty_filter (filter_at t i) (bearer_at t i).row place_count (each_at ok.bearers no_bearer i l).row.count (λ j l. refl))

-- a table with right lists is made from its own view
pub self_built : (t : Table) → TableInRange t → RightLists t → t ≡ build (view t)
self_built t ok right =
    ap (with_lists t.bearers) right
    ∙ ap table_of (tab_is no_bearer (bearer_of (view t)) t.bearers bearer_count ok.bearers.count (λ i l. row_kept_at t i ok l (role_at t i) (transaction_at t i)))

-- ---- a loop that stores the view's bearers, the index i being next: t is the table before the loop, whose lists stay as they are held
module _ (v : View) (t : Table) where
  abbrev pub Stored : Table → ℕ → Type 0
  Stored s i = (i ≤ bearer_count) × (s.bearers ≡ stored (bearer_of v) t.bearers i) × (s.lists ≡ t.lists)

  pub store_start : Stored t 0
  store_start = (omega arith, stored_start (bearer_of v) t.bearers, refl)

  pub store_more : (s : Table) (i : ℕ) (b : Bearer) → i < bearer_count → b ≡ bearer_of v i → Stored s i → Stored (with_lists (set s.bearers i b) s.lists) (i + 1)
  store_more s i b l e h = (omega arith, stored_more (bearer_of v) t.bearers i s.bearers b e h.1, h.2)

  -- the bearers are the view's, and the lists are those of before
  pub store_done : (s : Table) (i : ℕ) → TableInRange t → bearer_count ≤ i → Stored s i → s ≡ unlisted v t
  store_done s i ok l h =
      ap (λ (bs : List Bearer). with_lists bs s.lists) (stored_done (bearer_of v) t.bearers no_bearer i bearer_count s.bearers ok.bearers.count l h.0 h.1)
      ∙ ap (with_lists (tab (bearer_of v) bearer_count)) h.2

  -- the bearer at the index still stands as it stood
  pub store_still : (s : Table) (i : ℕ) → Stored s i → bearer_at s i ≡ bearer_at t i
  store_still s i h = ap (λ (bs : List Bearer). get_or bs i no_bearer) h.1 ∙ stored_rest (bearer_of v) t.bearers no_bearer i i (omega arith)

  -- the bearer that stands there is the view's
  pub store_skip : (s : Table) (i : ℕ) → i < bearer_count → bearer_at t i ≡ bearer_of v i → Stored s i → Stored s (i + 1)
  store_skip s i l e h = (omega arith, stored_skip (bearer_of v) t.bearers no_bearer i s.bearers e h.1, h.2)

-- ---- Which lists are to be made anew
-- what becomes of the bearer at i leaves the connection's uplink filters as they were: it keeps its role and its filters, or it is of another connection
-- before and after, or it holds nothing before and after
pub data Keeps (t : Table) (v : View) (connection i : ℕ) : Type 0 where
  same : v.role i ≡ role_at t i → ((j : ℕ) → j < place_count → v.filter i j ≡ filter_at t i j) → Keeps t v connection i
  apart : (connection_at t i ≡ connection → ⊥) → (connection_of i (v.role i) ≡ connection → ⊥) → Keeps t v connection i
  bare : ((j : ℕ) → j < place_count → filter_at t i j ≡ empty_filter) → ((j : ℕ) → j < place_count → v.filter i j ≡ empty_filter) → Keeps t v connection i

module _ (t : Table) (v : View) (connection : ℕ) (keeps : (i : ℕ) → i < bearer_count → Keeps t v connection i) where
  abbrev s : Table
  s = unlisted v t

  role_there : (i : ℕ) → i < bearer_count → role_at s i ≡ v.role i
  role_there i l = ap (λ (b : Bearer). b.role) (tab_at (bearer_of v) bearer_count i no_bearer l)

  filter_there : (i j : ℕ) → i < bearer_count → j < place_count → filter_at s i j ≡ v.filter i j
  filter_there i j l m = ap (λ (b : Bearer). in_row b.row j) (tab_at (bearer_of v) bearer_count i no_bearer l) ∙ tab_at (v.filter i) place_count j empty_filter m

  -- nothing is no uplink filter
  no_uplink : {A : Type 0} (f : Filter) → f ≡ empty_filter → is_uplink f ≡ true → A
  unfolding held
  no_uplink f e h = never h (ap is_uplink e)

  to : (i j : ℕ) → Uplink t connection i j → Uplink s connection i j × (precedence_at s i j ≡ precedence_at t i j)
  to i j u = go (keeps i u.bearer)
    where
      l : i < bearer_count
      l = u.bearer

      m : j < place_count
      m = u.place

      go : Keeps t v connection i → Uplink s connection i j × (precedence_at s i j ≡ precedence_at t i j)
      go (same r f) = (
        record { bearer = l; place = m; of = ap (connection_of i) (role_there i l ∙ r) ∙ u.of; up = ap is_uplink (filter_there i j l m ∙ f j m) ∙ u.up },
        ap (λ (f : Filter). f.precedence) (filter_there i j l m ∙ f j m),
      )
      go (apart o n) = absurd (o u.of)
      go (bare o n) = no_uplink (filter_at t i j) (o j m) u.up

  from : (i j : ℕ) → Uplink s connection i j → Uplink t connection i j
  from i j u = go (keeps i u.bearer)
    where
      l : i < bearer_count
      l = u.bearer

      m : j < place_count
      m = u.place

      go : Keeps t v connection i → Uplink t connection i j
      go (same r f) =
          record {
            bearer = l;
            place = m;
            of = sym (ap (connection_of i) (role_there i l ∙ r)) ∙ u.of;
            up = sym (ap is_uplink (filter_there i j l m ∙ f j m)) ∙ u.up;
          }
      go (apart o n) = absurd (n (sym (ap (connection_of i) (role_there i l)) ∙ u.of))
      go (bare o n) = no_uplink (filter_at s i j) (filter_there i j l m ∙ n j m) u.up

  keeps_alike : Alike t s connection
  keeps_alike = record { to = λ i j u. (to i j u).0; from = from; same = λ i j u. (to i j u).1 }

-- the lists of a table were right, and the connections but one keep their uplink filters: that one's list made anew, every list is right
module _ (v : View) (t : Table) (right : RightLists t) where
  pub one_relisted : (s : Table) (connection : ℕ) → s ≡ unlisted v t → ((d : ℕ) → d < bearer_count → (identity_of d ≡ connection → ⊥) → (i : ℕ) → i < bearer_count → Keeps t v (identity_of d) i)
      → relisted_of s (only_of connection) ≡ build v
  one_relisted s connection e keeps =
      ap (λ (s : Table). relisted_of s (only_of connection)) e
      ∙ relisted_right t (unlisted v t) right refl (only_of connection)
      (λ d l h. keeps_alike t v (identity_of d)
      (keeps d l (eqb-false (identity_of d) connection (sym (tab_at (λ i. eqb (identity_of i) connection) bearer_count d false l) ∙ h))))

  -- all keep them: nothing is to be made anew
  pub none_relisted : (s : Table) → s ≡ unlisted v t → ((d : ℕ) → d < bearer_count → (i : ℕ) → i < bearer_count → Keeps t v (identity_of d) i) → s ≡ build v
  none_relisted s e keeps =
      e ∙ ap (with_lists (tab (bearer_of v) bearer_count)) (kept_right t (unlisted v t) right refl (λ d l. keeps_alike t v (identity_of d) (keeps d l)))

-- ---- a walk that turns each bearer into f of it, the index i being next
pub record Turned (f : ℕ → Bearer → Bearer) (before bs : List Bearer) (i : ℕ) : Type 0 where
  pub size : length bs ≡ bearer_count
  pub done : (k : ℕ) → k < i → get_or bs k no_bearer ≡ f k (get_or before k no_bearer)
  pub rest : (k : ℕ) → i ≤ k → get_or bs k no_bearer ≡ get_or before k no_bearer

module _ {f : ℕ → Bearer → Bearer} {before bs : List Bearer} (i : ℕ) (h : Turned f before bs i) where
  -- the bearer is written
  pub turned_put : (b : Bearer) → i < bearer_count → b ≡ f i (get_or before i no_bearer) → Turned f before (set bs i b) (i + 1)
  turned_put b l e =
      record {
        size = length-set bs i b ∙ h.size;
        done = λ k m. ⊎_elim (λ q. seen k ∙ rw q (e ∙ ap (λ (j : ℕ). f j (get_or before j no_bearer)) ((says_eq i k).to q))) (λ q. seen k ∙ rw q (h.done k (let n = says_ne (says_eq i k) q in omega arith))) (which (eqb i k));
        rest = λ k m. seen k ∙ rw (ne_eqb i k (λ z. omega (arith, z))) (h.rest k (omega arith));
      }
    where
      seen : (k : ℕ) → get_or (set bs i b) k no_bearer ≡ pick (eqb i k) b (get_or bs k no_bearer)
      seen k = set_seen bs i k b no_bearer (λ z. omega (arith, h.size))

-- .. makes the table of a view, where that is what f makes of each bearer
pub turned : (t : Table) (v : View) (f : ℕ → Bearer → Bearer) {bs : List Bearer} (i : ℕ) → bearer_count ≤ i → Turned f t.bearers bs i
    → ((k : ℕ) → k < bearer_count → f k (bearer_at t k) ≡ bearer_of v k) → with_lists bs t.lists ≡ remade t v
turned t v f {bs} i l h e =
    ap (λ (bs : List Bearer). with_lists bs t.lists) (tab_is no_bearer (bearer_of v) bs bearer_count h.size (λ k m. h.done k (omega arith) ∙ e k m))

-- the transaction of a bearer, closed where it is x
abbrev pub closing : ℕ → ℕ → Bearer → Bearer
closing x k b = bearer_with b.role (pick (eqb b.transaction x) 0 b.transaction) b.row

pub closed_made : (t : Table) → TableInRange t → (x : ℕ) {bs : List Bearer} (i : ℕ) → bearer_count ≤ i → Turned (closing x) t.bearers bs i
    → with_lists bs t.lists ≡ remade t (closed_view t x)
unfolding opens_at
closed_made t ok x i l h = turned t (closed_view t x) (closing x) i l h (λ k m. row_kept_at t k ok m (role_at t k) _)

-- .. a bearer of the connection, gone
abbrev pub cutting : ℕ → ℕ → Bearer → Bearer
cutting connection k b = pick (in_connection connection k b.role) idle_bearer b

pub cut_made : (t : Table) → TableInRange t → (connection : ℕ) {bs : List Bearer} (i : ℕ) → bearer_count ≤ i → Turned (cutting connection) t.bearers bs i
    → with_lists bs t.lists ≡ remade t (cut_view t (of_connection t connection))
unfolding of_connection
cut_made t ok connection i l h =
    turned t (cut_view t (of_connection t connection)) (cutting connection) i l h
    (λ k m. go k m (in_connection connection k (role_at t k)))
  where
    go : (k : ℕ) → k < bearer_count → (b : Bool) → pick b idle_bearer (bearer_at t k) ≡ bearer_with (pick b Idle (role_at t k)) (pick b 0 (transaction_at t k)) (tab (λ j. pick b empty_filter (filter_at t k j)) place_count)
    go k m true = idle_is
    go k m false = row_kept_at t k ok m (role_at t k) (transaction_at t k)

-- ---- one bearer turned, where there is one at the index k, into b
module _ (t : Table) (ok : TableInRange t) (v : View) (k : ℕ) (others : (i : ℕ) → (i ≡ k → ⊥) → bearer_of v i ≡ bearer_with (role_at t i) (transaction_at t i) (tab (filter_at t i) place_count)) where
  other_there : (i : ℕ) → i < bearer_count → (i ≡ k → ⊥) → bearer_at t i ≡ bearer_of v i
  other_there i l n = row_kept_at t i ok l (role_at t i) (transaction_at t i) ∙ sym (others i n)

  one_turned : (b : Bearer) → k < bearer_count → b ≡ bearer_of v k → with_lists (set t.bearers k b) t.lists ≡ remade t v
  one_turned b l e =
      ap (λ (bs : List Bearer). with_lists bs t.lists)
      (tab_is no_bearer (bearer_of v) (set t.bearers k b) bearer_count (length-set t.bearers k b ∙ ok.bearers.count)
      (λ i m. set_seen t.bearers k i b no_bearer (λ _. omega (arith, ok.bearers.count)) ∙ ⊎_elim (λ q. rw q (e ∙ ap (bearer_of v) ((says_eq k i).to q))) (λ q. rw q (other_there i m (λ z. says_ne (says_eq k i) q (sym z)))) (which (eqb k i))))

  -- .. and none where there is none
  none_turned : bearer_count ≤ k → t ≡ remade t v
  none_turned l =
      ap (λ (bs : List Bearer). with_lists bs t.lists)
      (tab_is no_bearer (bearer_of v) t.bearers bearer_count ok.bearers.count (λ i m. other_there i m (λ z. omega (arith, z))))

module _ (t : Table) (ok : TableInRange t) (k x : ℕ) where
  start_others : (i : ℕ) → (i ≡ k → ⊥) → bearer_of (started_view t k x) i ≡ bearer_with (role_at t i) (transaction_at t i) (tab (filter_at t i) place_count)
  start_others i n = rw (ne_eqb i k n)

  pub started_made : k < bearer_count → with_lists (set t.bearers k (bearer_with (role_at t k) x (bearer_at t k).row)) t.lists ≡ remade t (started_view t k x)
  started_made l = one_turned t ok (started_view t k x) k start_others _ l (row_kept_at t k ok l (role_at t k) x ∙ rw (eq-eqb k k refl))

  pub started_past : bearer_count ≤ k → t ≡ remade t (started_view t k x)
  started_past = none_turned t ok (started_view t k x) k start_others

module _ (t : Table) (ok : TableInRange t) (k : ℕ) (role : Role) where
  open_others : (i : ℕ) → (i ≡ k → ⊥) → bearer_of (opened_view t k role) i ≡ bearer_with (role_at t i) (transaction_at t i) (tab (filter_at t i) place_count)
  open_others i n = rw (ne_eqb i k n)

  pub opened_made : k < bearer_count → with_lists (set t.bearers k (bearer_with role (transaction_at t k) (bearer_at t k).row)) t.lists ≡ remade t (opened_view t k role)
  opened_made l = one_turned t ok (opened_view t k role) k open_others _ l (row_kept_at t k ok l role (transaction_at t k) ∙ rw (eq-eqb k k refl))

  pub opened_past : bearer_count ≤ k → t ≡ remade t (opened_view t k role)
  opened_past = none_turned t ok (opened_view t k role) k open_others

module _ (t : Table) (ok : TableInRange t) (k : ℕ) where
  abbrev gone : ℕ → Bool → Bearer
  gone i b = bearer_with (pick b Idle (role_at t i)) (pick b 0 (transaction_at t i)) (tab (λ j. pick b empty_filter (filter_at t i j)) place_count)

  end_others : (i : ℕ) → (i ≡ k → ⊥) → bearer_of (cut_view t (is_at k)) i ≡ bearer_with (role_at t i) (transaction_at t i) (tab (filter_at t i) place_count)
  unfolding is_at
  end_others i n = ap (gone i) (ne_eqb i k n)

  pub ended_made : k < bearer_count → with_lists (set t.bearers k idle_bearer) t.lists ≡ remade t (cut_view t (is_at k))
  unfolding is_at
  ended_made l = one_turned t ok (cut_view t (is_at k)) k end_others _ l (idle_is ∙ ap (gone k) (sym (eq-eqb k k refl)))

  pub ended_past : bearer_count ≤ k → t ≡ remade t (cut_view t (is_at k))
  ended_past = none_turned t ok (cut_view t (is_at k)) k end_others

module _ (t : Table) (ok : TableInRange t) (k : ℕ) (marks : List Bool) where
  delete_others : (i : ℕ) → (i ≡ k → ⊥) → bearer_of (deleted_view t k marks) i ≡ bearer_with (role_at t i) (transaction_at t i) (tab (filter_at t i) place_count)
  unfolding deleted_in
  delete_others i n = rw (ne_eqb i k n)

  pub deleted_made : k < bearer_count
      → with_lists (set t.bearers k (bearer_with (role_at t k) (transaction_at t k) (tab (deleted_in true marks (bearer_at t k).row) place_count))) t.lists
      ≡ remade t (deleted_view t k marks)
  deleted_made l = one_turned t ok (deleted_view t k marks) k delete_others _ l (rw (eq-eqb k k refl))

  pub deleted_past : bearer_count ≤ k → t ≡ remade t (deleted_view t k marks)
  deleted_past = none_turned t ok (deleted_view t k marks) k delete_others

-- ---- a row whose places become what g tells, the index i being next
pub record RowTurned (g : ℕ → Filter) (before row : List Filter) (i : ℕ) : Type 0 where
  pub size : length row ≡ place_count
  pub done : (j : ℕ) → j < i → in_row row j ≡ g j
  pub rest : (j : ℕ) → i ≤ j → in_row row j ≡ in_row before j

pub row_turned : (g : ℕ → Filter) (before : List Filter) {row : List Filter} (i : ℕ) → place_count ≤ i → RowTurned g before row i → row ≡ tab g place_count
row_turned g before {row} i l h = tab_is empty_filter g row place_count h.size (λ j m. h.done j (omega arith))

module _ {g : ℕ → Filter} {before row : List Filter} (i : ℕ) (h : RowTurned g before row i) where
  -- the place is written
  pub row_put : (v : Filter) → i < place_count → v ≡ g i → RowTurned g before (set row i v) (i + 1)
  row_put v l e =
      record {
        size = length-set row i v ∙ h.size;
        done = λ j m. ⊎_elim (λ q. seen j ∙ rw q (e ∙ ap g ((says_eq i j).to q))) (λ q. seen j ∙ rw q (h.done j (let n = says_ne (says_eq i j) q in omega arith))) (which (eqb i j));
        rest = λ j m. seen j ∙ rw (ne_eqb i j (λ z. omega (arith, z))) (h.rest j (omega arith));
      }
    where
      seen : (j : ℕ) → in_row (set row i v) j ≡ pick (eqb i j) v (in_row row j)
      seen j = set_seen row i j v empty_filter (λ z. omega (arith, h.size))
