-- The changes that the code makes to a table are the steps of the definitions, where its lists are right: the lists that a change leaves as they are held are
-- right after it, and the one list that it makes anew is the rule's.
use mathlib.Core.Path.{◌≡◌, refl, sym, ◌∙◌, ap}
use mathlib.Core.Bool.{Bool, true, false, ◌&&◌, ◌||◌}
use mathlib.Core.Logic.{⊎_elim}
use mathlib.Core.List.{List, []}
use Prim.Native.Nat.{ℕ, ◌<◌, ◌≤◌}
use native.Mathlib.Omega.{arith}
use lib.Dec.{eqb}
use lib.ListN.{length, get_or}
use borrow.Author.Tests.{ne_eqb}
use Rattle.std.specs.List.{list_any}
use Rattle.laws.specs.Says.{pick}
use Rattle.laws.specs.Index.{any_below, picks, tab}
use Rattle.laws.proofs.Index.{any_no, tab_same, any_of_list, any_none, any_same, picks_same, tab_at}
use Rattle.laws.proofs.Says.{which, never, says_eq}
use Rattle.laws.proofs.Tests.{neither}
use Rattle.filter.specs.declared.component.Filter.{Filter}
use Rattle.filter.specs.Sizes.{place_count}
use Rattle.filter.specs.Build.{empty_filter}
use Rattle.filter.specs.Coding.{held}
use Rattle.table.specs.declared.bearer.Role.{Role}
use Rattle.table.specs.declared.bearer.Role.TheVariants.{Idle, Default, Dedicated}
use Rattle.table.specs.declared.bearer.Bearer.{Bearer}
use Rattle.table.specs.declared.bearer.Table.{Table}
use Rattle.std.proofs.lemmas.List.{get_or_past}
use Rattle.table.specs.Bearers.{bearer_count, index_of, identity_of, no_bearer, bearer_at, in_row, role_at, transaction_at, filter_at, is_default, is_dedicated, role_of, connection_of, connection_at, in_connection}
use Rattle.table.specs.Tables.{View, build, only_of, relisted_of}
use Rattle.table.specs.Ranges.{TableInRange}
use Rattle.table.specs.WellFormed.{well_formed, RightLists, WellFormed}
use Rattle.table.specs.Changes.{remade, opens_at, closed_view, started_view, opened_view, of_connection, is_at, cut_view, deleted_in, deleted_view}
use Rattle.table.proofs.Meaning.{well_says}
use Rattle.table.proofs.Rows.{with_lists, bearer_with, row_kept_at, Turned, turned, Keeps, same, apart, bare, one_relisted, none_relisted}
use Rattle.calls.specs.declared.reply.Answer.TheVariants.{Accept, Release, Reattach}
use Rattle.calls.specs.Reply.{follow_of}
use Rattle.calls.specs.Steps.{closed, dropped, holds_in, empties}
use Rattle.calls.specs.Lay.{old, conflict, conflict_in, loses, placed, loses_at, placed_in, conflict_on_default, follows, laid_view, released, followers, only_connection, lay_within, lay_of}
use Rattle.calls.specs.Others.{available}
use Rattle.calls.proofs.Asked.{available_says}
use Rattle.calls.proofs.Conflicts.{so}
use Rattle.calls.proofs.Whole.{closed_sound}

-- ---- questions
pub opens_any_is : (t : Table) → TableInRange t → (x : ℕ) → list_any (λ b. eqb b.transaction x) t.bearers ≡ any_below (opens_at t x) bearer_count
unfolding opens_at
opens_any_is t ok x = any_of_list (opens_at t x) (λ b. eqb b.transaction x) no_bearer t.bearers bearer_count ok.bearers.count (λ i l. refl)

pub empties_past : (t : Table) (k : ℕ) (marks : List Bool) → length t.bearers ≡ bearer_count → bearer_count ≤ k → false ≡ empties t k marks
unfolding empties holds_in held
empties_past t k marks long l = rw (any_none (holds_in (bearer_at t k).row) place_count (λ j. ap (λ (b : Bearer). held (in_row b.row j)) (get_or_past t.bearers k no_bearer (omega (arith, long)))))

-- ---- a table that is well formed
module _ (t : Table) (ok : TableInRange t) (e : well_formed t ≡ true) where
  pub well : WellFormed t
  well = (well_says t ok).to e

  pub well_right : RightLists t
  well_right = well.lists

-- ---- no list changes
module _ (t : Table) (right : RightLists t) where
  -- the bearers keep roles and filters
  standing : (v : View) → ((i : ℕ) → v.role i ≡ role_at t i) → ((i j : ℕ) → v.filter i j ≡ filter_at t i j) → remade t v ≡ build v
  standing v role filter = none_relisted v t right (remade t v) refl (λ d l i m. same (role i) (λ j n. filter i j))

  pub closed_made : (x : ℕ) → (x ≡ 0 → ⊥) → remade t (closed_view t x) ≡ closed t x
  unfolding closed
  closed_made x n = standing (closed_view t x) (λ i. refl) (λ i j. refl) ∙ rw (ne_eqb x 0 n)

  pub started_made : (k x : ℕ) → remade t (started_view t k x) ≡ build (started_view t k x)
  started_made k x = standing (started_view t k x) (λ i. refl) (λ i j. refl)

  -- a bearer that holds nothing gets a role
  opened_made : (k : ℕ) (role : Role) → ((j : ℕ) → j < place_count → filter_at t k j ≡ empty_filter) → remade t (opened_view t k role) ≡ build (opened_view t k role)
  opened_made k role empty =
      none_relisted (opened_view t k role) t right (remade t (opened_view t k role)) refl
      (λ d l i m. ⊎_elim (λ q. let at : i ≡ k = (says_eq i k).to q in bare (λ j n. ap (λ (i : ℕ). filter_at t i j) at ∙ empty j n) (λ j n. ap (λ (i : ℕ). filter_at t i j) at ∙ empty j n))
      (λ q. same (rw q) (λ j n. refl)) (which (eqb i k)))

-- an identity that is available is that of a bearer that holds nothing
pub opened_empty : (t : Table) → WellFormed t → (bearer : ℕ) (role : Role) → available t bearer ≡ true
    → remade t (opened_view t (index_of bearer) role) ≡ build (opened_view t (index_of bearer) role)
opened_empty t w bearer role a =
    let at = (available_says t bearer).to a in
    let low = at.0.0 in
    let high = at.0.1 in
    opened_made t w.lists (index_of bearer) role (λ j l. w.bearers.empty (index_of bearer) j (omega arith) l at.1)

pub closed_zero : (t : Table) (x : ℕ) → x ≡ 0 → t ≡ closed t x
unfolding closed
closed_zero t x z = rw z

pub closed_right : (t : Table) (x : ℕ) → RightLists t → RightLists (closed t x)
unfolding closed
closed_right t x right = go (eqb x 0)
  where
    go : (b : Bool) → RightLists (pick b t (build (closed_view t x)))
    go true = right
    go false = refl

pub closed_well : (t : Table) (x : ℕ) → TableInRange t → WellFormed t → WellFormed (closed t x)
closed_well t x ok w = (closed_sound t (record { in_range = ok; well = w }) x).well

-- ---- the list of one connection changes
module _ (t : Table) (right : RightLists t) where
  -- bearers of the connection go
  cut_made : (gone : ℕ → Bool) (connection : ℕ) → ((i : ℕ) → gone i ≡ true → connection_at t i ≡ connection)
      → relisted_of (remade t (cut_view t gone)) (only_of connection) ≡ build (cut_view t gone)
  cut_made gone connection of =
      one_relisted (cut_view t gone) t right (remade t (cut_view t gone)) connection refl
      (λ d l other i m. ⊎_elim
      (λ q. apart (λ h. other (sym h ∙ of i q)) (λ h. let z : 0 ≡ identity_of d = sym (ap (λ (b : Bool). connection_of i (pick b Idle (role_at t i))) q) ∙ h in omega (arith, z)))
      (λ q. same (rw q) (λ j n. rw q)) (which (gone i)))

  pub released_made : (connection : ℕ) → relisted_of (remade t (cut_view t (of_connection t connection))) (only_of connection) ≡ build (cut_view t (of_connection t connection))
  unfolding of_connection
  released_made connection = cut_made (of_connection t connection) connection (λ i q. (says_eq (connection_at t i) connection).to q)

  ended_made : (k : ℕ) → relisted_of (remade t (cut_view t (is_at k))) (only_of (connection_at t k)) ≡ build (cut_view t (is_at k))
  unfolding is_at
  ended_made k = cut_made (is_at k) (connection_at t k) (λ i q. ap (connection_at t) ((says_eq i k).to q))

  module _ (bearer : ℕ) where
    pub dropped_idle : role_of t bearer ≡ Idle → t ≡ dropped t bearer
    unfolding dropped
    dropped_idle e = rw e

    pub dropped_default : role_of t bearer ≡ Default → relisted_of (remade t (cut_view t (of_connection t bearer))) (only_of bearer) ≡ dropped t bearer
    unfolding dropped
    dropped_default e = released_made bearer ∙ rw e

    pub dropped_dedicated : (link : ℕ) → role_of t bearer ≡ Dedicated link
        → relisted_of (remade t (cut_view t (is_at (index_of bearer)))) (only_of (connection_at t (index_of bearer))) ≡ dropped t bearer
    unfolding dropped
    dropped_dedicated link e = ended_made (index_of bearer) ∙ rw e

  -- filters of one bearer go
  pub deleted_made : (k : ℕ) (marks : List Bool) → relisted_of (remade t (deleted_view t k marks)) (only_of (connection_at t k)) ≡ build (deleted_view t k marks)
  unfolding deleted_in
  deleted_made k marks =
      one_relisted (deleted_view t k marks) t right (remade t (deleted_view t k marks)) (connection_at t k) refl
      (λ d l other i m. ⊎_elim
      (λ q. let at = ap (connection_at t) ((says_eq i k).to q) in apart (λ h. other (sym h ∙ at)) (λ h. other (sym h ∙ at)))
      (λ q. same refl (λ j n. rw q)) (which (eqb i k)))

  -- filters are laid on one bearer, and those in conflict go
  module _ (new : List Filter) (create : Bool) (k : ℕ) where
    abbrev c : ℕ
    c = connection_at t k

    -- a bearer that is neither the named one nor of the connection keeps its filters
    untouched : (d i : ℕ) → eqb i k ≡ false → of_connection t c i ≡ false → Keeps t (laid_view new create t k c) d i
    unfolding placed_in placed old conflict
    untouched d i q o = same refl (λ j n. rw (q, o))

    pub laid_made : relisted_of (remade t (laid_view new create t k c)) (only_of c) ≡ build (laid_view new create t k c)
    unfolding of_connection
    laid_made =
        one_relisted (laid_view new create t k c) t right (remade t (laid_view new create t k c)) c refl
        (λ d l other i m.
        let away : connection_at t i ≡ c → Keeps t (laid_view new create t k c) (identity_of d) i = λ at. apart (λ h. other (sym h ∙ at)) (λ h. other (sym h ∙ at)) in
        ⊎_elim (λ q. away (ap (connection_at t) ((says_eq i k).to q)))
        (λ q. ⊎_elim (λ o. away ((says_eq (connection_at t i) c).to o)) (untouched (identity_of d) i q) (which (of_connection t c i))) (which (eqb i k)))

-- ---- filters laid, bearer by bearer
abbrev pub laying : List Filter → Bool → ℕ → ℕ → ℕ → Bearer → Bearer
laying new create k connection i b =
    record { role = b.role; transaction = b.transaction; row = tab (placed_in new create (record { named = eqb i k; connected = in_connection connection i b.role }) b.row) place_count }

pub all_laid : (t : Table) (new : List Filter) (create : Bool) (k connection : ℕ) {bs : List Bearer} (i : ℕ) → bearer_count ≤ i
    → Turned (laying new create k connection) t.bearers bs i → with_lists bs t.lists ≡ remade t (laid_view new create t k connection)
unfolding of_connection
all_laid t new create k connection i l h = turned t (laid_view new create t k connection) (laying new create k connection) i l h (λ j m. refl)

-- a bearer that is not the named one and loses nothing is as it was
spared_place : (new row : List Filter) (create named connected : Bool) (j : ℕ) → named ≡ false → conflict_in new create (so named connected) row j ≡ false
    → in_row row j ≡ placed_in new create (so named connected) row j
unfolding conflict_in placed_in placed old
spared_place new row create true connected j e h = never refl e
spared_place new row create false connected j e h = rw h

pub spared : (t : Table) → TableInRange t → (new : List Filter) (create : Bool) (k connection i : ℕ) → i < bearer_count → eqb i k || loses_at new create t k connection i ≡ false
    → bearer_at t i ≡ laying new create k connection i (bearer_at t i)
unfolding loses_at loses of_connection
spared t ok new create k connection i l e =
    let no = neither (eqb i k) _ e in
    let s = so (eqb i k) (in_connection connection i (role_at t i)) in
    row_kept_at t i ok l (role_at t i) (transaction_at t i)
    ∙ ap (bearer_with (role_at t i) (transaction_at t i))
    (tab_same empty_filter (filter_at t i) (placed_in new create s (bearer_at t i).row) place_count
    (λ j m. spared_place new (bearer_at t i).row create (eqb i k) _ j no.0 (any_no (conflict_in new create s (bearer_at t i).row) place_count j m no.1)))

-- ---- the outcome of a lay
module _ (t : Table) (right : RightLists t) (bearer : ℕ) (new : List Filter) (create : Bool) where
  abbrev k : ℕ
  k = index_of bearer

  abbrev d : ℕ
  d = connection_at t k

  -- what is found of the bearers that lose, by the list of them
  found : (losers : List Bool) → losers ≡ tab (loses_at new create t k d) bearer_count → (test : Role → Bool) (i : ℕ) → i < bearer_count
      → test (role_at t i) && get_or losers i false ≡ test (role_at t i) && loses_at new create t k d i
  found losers e test i l = ap (λ (b : Bool). test (role_at t i) && b) (ap (λ (xs : List Bool). get_or xs i false) e ∙ tab_at (loses_at new create t k d) bearer_count i false l)

  module _ (losers : List Bool) (e : losers ≡ tab (loses_at new create t k d) bearer_count) where
    released_is : any_below (λ i. is_default (role_at t i) && get_or losers i false) bearer_count ≡ released new create t k d
    unfolding released conflict_on_default
    released_is = any_same _ _ bearer_count (found losers e is_default)

    followers_is : picks (λ i. is_dedicated (role_at t i) && get_or losers i false) identity_of bearer_count ≡ followers new create t k d
    unfolding followers follows
    followers_is = picks_same _ _ identity_of bearer_count (found losers e is_dedicated)

    pub released_means : any_below (λ i. is_default (role_at t i) && get_or losers i false) bearer_count ≡ true
        → record { table = relisted_of (remade t (cut_view t (of_connection t d))) (only_of d); reply = record { answer = pick (only_connection t d) Reattach (Release d); follow = follow_of [] } } ≡ lay_of t bearer new create
    unfolding lay_of lay_within
    released_means h = rw (sym released_is ∙ h, released_made t right d)

    pub laid_means : any_below (λ i. is_default (role_at t i) && get_or losers i false) bearer_count ≡ false
        → record { table = relisted_of (remade t (laid_view new create t k d)) (only_of d); reply = record { answer = Accept bearer; follow = follow_of (picks (λ i. is_dedicated (role_at t i) && get_or losers i false) identity_of bearer_count) } } ≡ lay_of t bearer new create
    unfolding lay_of lay_within
    laid_means h = rw (sym released_is ∙ h, laid_made t right new create k, followers_is)
