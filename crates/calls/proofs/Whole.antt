-- "Well formed in, well formed out": every call takes a well-formed table to a well-formed table, every number in its type's range.
use mathlib.Core.Path.{◌≡◌, refl, sym, ◌∙◌, ap, subst}
use mathlib.Core.Bool.{Bool, true, false, ◌&&◌, ◌||◌}
use mathlib.Core.Logic.{⊎_elim}
use mathlib.Core.List.{List}
use Prim.Native.Nat.{ℕ, ◌^◌, ◌<◌, ◌≤◌}
use native.Mathlib.Omega.{arith}
use lib.Dec.{eqb}
use lib.ListN.{length, get_or, replicate}
use borrow.Author.Tests.{eqb-true, eq-eqb, eqb-false, ne_eqb, le-leb}
use Rattle.laws.specs.Index.{any_below, tab}
use Rattle.laws.specs.Lists.{every, All, Each}
use Rattle.laws.proofs.Lists.{each_tab}
use Rattle.laws.proofs.Loops.{every_at}
use Rattle.laws.proofs.Tests.{both, neither}
use Rattle.laws.proofs.Typed.{each_at}
use Rattle.laws.proofs.Says.{never, by_test, picked}
use Rattle.filter.specs.declared.component.Filter.{Filter}
use Rattle.filter.specs.Ranges.{FilterInRange}
use Rattle.filter.specs.Fittable.{place_fine}
use Rattle.filter.proofs.Ranges.{nothing_in_range}
use Rattle.element.specs.declared.answer.SetOperation.{SetOperation}
use Rattle.element.specs.declared.answer.SetOperation.TheVariants.{Create}
use Rattle.element.specs.declared.answer.BareOperation.TheVariants.{DeleteTft, NoOperation}
use Rattle.element.specs.declared.answer.Answer.{Answer as ReadAnswer}
use Rattle.element.specs.declared.answer.Answer.TheVariants.{Filters, Identifiers, Bare, Refused as read_refused}
use Rattle.element.specs.Numbers.{number_of, verdict_on}
use Rattle.element.specs.Read.{read_element}
use Rattle.element.specs.Write.{row_given, given_by, given}
use Rattle.element.specs.Meaning.{Octet}
use Rattle.element.proofs.Theorems.{create_reads}
use Rattle.element.proofs.Given.{element_given, row_distinct, read_in_range}
use Rattle.table.specs.declared.bearer.Role.{Role}
use Rattle.table.specs.declared.bearer.Role.TheVariants.{Idle, Default, Dedicated}
use Rattle.table.specs.declared.bearer.Table.{Table}
use Rattle.filter.specs.Sizes.{place_count}
use Rattle.filter.specs.Build.{empty_filter}
use Rattle.table.specs.Bearers.{bearer_count, last_transaction, index_of, no_bearer, in_row, role_at, transaction_at, filter_at, is_idle, is_default, is_dedicated, role_of, connection_at}
use Rattle.table.specs.Tables.{View, view, bearer_of, build}
use Rattle.table.specs.Ranges.{RoleInRange, BearerInRange, TableInRange}
use Rattle.table.specs.Lists.{held_count, cell_at, lists_of}
use Rattle.table.proofs.Listing.{cell_small}
use Rattle.table.specs.WellFormed.{well_formed, ActiveDefault, Well}
use Rattle.table.proofs.Meaning.{Fine, default_of, place_says, well_says}
use Rattle.calls.specs.declared.reply.Outcome.{Outcome}
use Rattle.calls.specs.Steps.{is_open, owner_of, closed, dropped_by, dropped, empties}
use Rattle.table.specs.Changes.{opens_at, closed_view, started_view, opened_view, cut_view, of_connection, is_at, deleted_in, deleted_view}
use Rattle.calls.specs.Lay.{placed_in, laid_view, released, lay_or_release, lay_within, lay_of}
use Rattle.element.specs.Head.{create, operation_of, head_fine}
use Rattle.calls.specs.Modify.{creates, mismatch, deleted_filters, deleted_tft, modified_by, modify_read, modify_named, modify_of}
use Rattle.calls.specs.Others.{available, activate_default_of, activated_by, activate_read, activate_named, activate_dedicated_of, deactivate_of, after_reject, reject_of, start_of}
use Rattle.calls.specs.Changes.{Sound}
use Rattle.calls.proofs.Views.{role_built}
use Rattle.calls.proofs.Preserved.{Along, well_built, well_cut, closed_well, well_started, not_open, well_default, well_dedicated, dropped_well, well_deleted, WellSet, laid_cases, laid_well}
use Rattle.calls.specs.Checks.{Available}
use Rattle.calls.proofs.Asked.{available_says, active_at}

-- ---- The filters that are read may be laid
row_well : (row : List Filter) → Each FilterInRange place_count row → row_given row ≡ true → WellSet row
unfolding row_given
row_well row ok g =
    record {
      distinct = λ j l a b. row_distinct row g j l (within j a) (within l b);
      zeroed = λ j l. (fine j l).zeroed;
      coded = λ j l. (fine j l).coded;
      fitted = λ j l. (fine j l).fitted;
    }
  where
    within : (j : ℕ) → j < place_count → j < length row
    within j l = let n = ok.count in omega arith

    fine : (j : ℕ) → j < place_count → Fine (in_row row j)
    fine j l =
        (place_says (in_row row j) (each_at ok empty_filter j l)).to
        (every_at place_fine row (both (every place_fine row) _ (both _ _ g).0).0 empty_filter j (within j l))

pub set_well : (xs : List ℕ) → All Octet xs → (operation : SetOperation) → (read_element xs).answer ≡ Filters operation → WellSet (read_element xs).filters
unfolding given
set_well xs octets operation q =
    let e = read_element xs in
    let g = subst (λ (a : ReadAnswer). given_by a e.filters e.marks ≡ true) q (element_given xs octets (ap number_of q)) in
    row_well e.filters (read_in_range xs octets).filters (both (row_given e.filters) _ g).0

-- ---- Ranges
-- every number of a view in its type's range
pub record ViewInRange (v : View) : Type 0 where
  pub role : (i : ℕ) → i < bearer_count → RoleInRange (v.role i)
  pub transaction : (i : ℕ) → i < bearer_count → v.transaction i < 2 ^ 8
  pub filter : (i j : ℕ) → i < bearer_count → j < place_count → FilterInRange (v.filter i j)

pub built_in_range : (v : View) → ViewInRange v → TableInRange (build v)
unfolding lists_of
built_in_range v r =
    record {
      bearers = each_tab BearerInRange (bearer_of v) bearer_count (λ i l.
          record { role = r.role i l; transaction = r.transaction i l; row = each_tab FilterInRange (v.filter i) place_count (λ j m. r.filter i j l m) });
      lists = each_tab (λ n. n < 2 ^ 8) (cell_at (tab (bearer_of v) bearer_count)) held_count (λ n l. cell_small (tab (bearer_of v) bearer_count) n);
    }

pub view_in_range : (t : Table) → TableInRange t → ViewInRange (view t)
view_in_range t r =
    record {
      role = λ i l. (each_at r.bearers no_bearer i l).role;
      transaction = λ i l. (each_at r.bearers no_bearer i l).transaction;
      filter = λ i j l m. each_at (each_at r.bearers no_bearer i l).row empty_filter j m;
    }

abbrev Small : ℕ → Type 0
Small x = x < 2 ^ 8

module _ (t : Table) (r : TableInRange t) where
  closed_in_range : (x : ℕ) → ViewInRange (closed_view t x)
  closed_in_range x =
      let v = view_in_range t r in
      record {
        role = v.role;
        transaction = λ i l. picked Small (opens_at t x i) 0 (transaction_at t i) (omega arith) (v.transaction i l);
        filter = v.filter;
      }

  started_in_range : (k x : ℕ) → x < 2 ^ 8 → ViewInRange (started_view t k x)
  started_in_range k x s =
      let v = view_in_range t r in
      record { role = v.role; transaction = λ i l. picked Small (eqb i k) x (transaction_at t i) s (v.transaction i l); filter = v.filter }

  opened_in_range : (k : ℕ) (role : Role) → RoleInRange role → ViewInRange (opened_view t k role)
  opened_in_range k role s =
      let v = view_in_range t r in
      record { role = λ i l. picked RoleInRange (eqb i k) role (role_at t i) s (v.role i l); transaction = v.transaction; filter = v.filter }

  cut_in_range : (gone : ℕ → Bool) → ViewInRange (cut_view t gone)
  cut_in_range gone =
      let v = view_in_range t r in
      record {
        role = λ i l. picked RoleInRange (gone i) Idle (role_at t i) tt (v.role i l);
        transaction = λ i l. picked Small (gone i) 0 (transaction_at t i) (omega arith) (v.transaction i l);
        filter = λ i j l m. picked FilterInRange (gone i) empty_filter (filter_at t i j) nothing_in_range (v.filter i j l m);
      }

  deleted_in_range : (k : ℕ) (marks : List Bool) → ViewInRange (deleted_view t k marks)
  unfolding deleted_in
  deleted_in_range k marks =
      let v = view_in_range t r in
      record {
        role = v.role;
        transaction = v.transaction;
        filter = λ i j l m. picked FilterInRange (eqb i k && get_or marks j false) empty_filter (filter_at t i j) nothing_in_range (v.filter i j l m);
      }

  laid_in_range : (new : List Filter) (create : Bool) (k connection : ℕ) → Each FilterInRange place_count new → ViewInRange (laid_view new create t k connection)
  unfolding placed_in
  laid_in_range new create k connection n =
      let v = view_in_range t r in
      record {
        role = v.role;
        transaction = v.transaction;
        filter = λ i j l m.
            ⊎_elim (λ x. subst FilterInRange (sym x.is) (each_at n empty_filter j m))
            (⊎_elim (λ x. subst FilterInRange (sym x.is) (v.filter i j l m)) (λ z. subst FilterInRange (sym z) nothing_in_range))
            (laid_cases new create t k connection i j);
      }

-- ---- The steps
sound_built : (v : View) → ViewInRange v → Well v → Sound (build v)
sound_built v r w = record { in_range = built_in_range v r; well = well_built v w }

module _ (t : Table) (sound : Sound t) where
  pub closed_sound : (x : ℕ) → Sound (closed t x)
  unfolding closed
  closed_sound x =
      record {
        in_range = picked TableInRange (eqb x 0) t (build (closed_view t x)) sound.in_range (built_in_range (closed_view t x) (closed_in_range t sound.in_range x));
        well = closed_well t sound.well x;
      }

  cut_in : (gone : ℕ → Bool) → TableInRange (build (cut_view t gone))
  cut_in gone = built_in_range (cut_view t gone) (cut_in_range t sound.in_range gone)

  pub cut_sound : (gone : ℕ → Bool) → Along t gone → Sound (build (cut_view t gone))
  cut_sound gone along = sound_built (cut_view t gone) (cut_in_range t sound.in_range gone) (well_cut t sound.well gone along)

  dropped_sound : (bearer : ℕ) → Sound (dropped t bearer)
  unfolding dropped
  dropped_sound bearer = record { in_range = go (role_of t bearer); well = dropped_well t sound.well bearer }
    where
      go : (r : Role) → TableInRange (dropped_by r t bearer)
      go Idle = sound.in_range
      go Default = cut_in (of_connection t bearer)
      go (Dedicated link) = cut_in (is_at (index_of bearer))

  deleted_sound : (k : ℕ) (marks : List Bool) → Sound (build (deleted_view t k marks))
  deleted_sound k marks = sound_built (deleted_view t k marks) (deleted_in_range t sound.in_range k marks) (well_deleted t sound.well k marks)

  laid_sound : (bearer : ℕ) (new : List Filter) (create : Bool) → (role_at t (index_of bearer) ≡ Idle → ⊥) → Each FilterInRange place_count new → WellSet new
      → Sound (lay_of t bearer new create).table
  unfolding lay_of lay_within
  laid_sound bearer new create active n ok =
      record { in_range = go (released new create t (index_of bearer) (connection_at t (index_of bearer))); well = laid_well t bearer new create sound.well active ok }
    where
      go : (b : Bool) → TableInRange (lay_or_release b t bearer (connection_at t (index_of bearer)) new create).table
      go true = cut_in (of_connection t (connection_at t (index_of bearer)))
      go false =
          built_in_range (laid_view new create t (index_of bearer) (connection_at t (index_of bearer)))
          (laid_in_range t sound.in_range new create (index_of bearer) (connection_at t (index_of bearer)) n)

-- ---- The calls
-- the table of an outcome is sound
abbrev LeavesSound : Outcome → Type 0
LeavesSound o = Sound o.table

-- the new dedicated bearer, before its filters
abbrev linked_view : Table → ℕ → ℕ → View
linked_view t bearer link = opened_view t (index_of bearer) (Dedicated link)

-- by what the reader says, on a table whose transaction is closed
module _ (t : Table) (sound : Sound t) (value : List ℕ) (octets : All Octet value) where
  modified_sound : (bearer : ℕ) → is_idle (role_of t bearer) ≡ false → (a : ReadAnswer) → (read_element value).answer ≡ a
      → Sound (modified_by a t bearer (read_element value)).table
  unfolding deleted_filters deleted_tft
  modified_sound bearer h (read_refused refusal) e = sound
  modified_sound bearer h (Filters operation) e =
      laid_sound t sound bearer (read_element value).filters (creates operation) (active_at t bearer h).1 (read_in_range value octets).filters
      (set_well value octets operation e)
  modified_sound bearer h Identifiers e =
      by_test LeavesSound (is_dedicated (role_of t bearer) && empties t (index_of bearer) (read_element value).marks) _ _ (λ _. sound)
      (λ _. deleted_sound t sound (index_of bearer) (read_element value).marks)
  modified_sound bearer h (Bare DeleteTft) e = deleted_sound t sound (index_of bearer) (replicate place_count true)
  modified_sound bearer h (Bare NoOperation) e = sound

  modify_named_lem : (bearer : ℕ) → Sound (modify_named t bearer value).table
  unfolding modify_named modify_read
  modify_named_lem bearer =
      by_test LeavesSound (is_idle (role_of t bearer)) _ _ (λ _. sound) (λ h.
      by_test LeavesSound (head_fine value) _ _ (λ _.
      by_test LeavesSound (is_dedicated (role_of t bearer) && eqb (operation_of value) 2) _ _ (λ _. sound) (λ _. modified_sound bearer h (read_element value).answer refl)) (λ _. sound))

  module _ (bearer link : ℕ) (idle : Available t bearer) (default : ActiveDefault (role_at t) link) where
    linked_sound : Sound (build (linked_view t bearer link))
    linked_sound =
        sound_built (linked_view t bearer link) (opened_in_range t sound.in_range (index_of bearer) (Dedicated link) (omega arith))
        (well_dedicated t sound.well (index_of bearer) idle.1 link default)

    linked_active : role_at (build (linked_view t bearer link)) (index_of bearer) ≡ Idle → ⊥
    linked_active h =
        let q : (linked_view t bearer link).role (index_of bearer) ≡ Dedicated link = rw (eq-eqb (index_of bearer) (index_of bearer) refl) in
        never (ap is_idle h) (ap is_idle (role_built (linked_view t bearer link) (index_of bearer) (omega arith) ∙ q))

    -- the cause, or laying the filters of a create
    activated_sound : operation_of value ≡ create → Sound (activated_by (verdict_on (read_element value).answer) t bearer link (read_element value).filters).table
    activated_sound h =
        ⊎_elim (λ e. subst Activated (sym e)
        (laid_sound (build (linked_view t bearer link)) linked_sound bearer (read_element value).filters true linked_active (read_in_range value octets).filters
        (set_well value octets Create e)))
        (λ c. subst Activated (sym c.is) sound) (create_reads value h)
      where
        Activated : ReadAnswer → Type 0
        Activated a = Sound (activated_by (verdict_on a) t bearer link (read_element value).filters).table

  activate_named_lem : (bearer link : ℕ) → Sound (activate_named t bearer link value).table
  unfolding activate_named activate_read
  activate_named_lem bearer link =
      by_test LeavesSound (available t bearer && is_default (role_of t link)) _ _ (λ h.
      let f = both (available t bearer) (is_default (role_of t link)) h in
      by_test LeavesSound (head_fine value) _ _ (λ _.
      by_test LeavesSound (eqb (operation_of value) create) _ _
      (λ e. activated_sound bearer link ((available_says t bearer).to f.0) ((default_of t link).to f.1) (eqb-true (operation_of value) create e)) (λ _. sound)) (λ _. sound)) (λ _. sound)

-- a transaction that is not open, of an identity that may be
unopened : (t : Table) (x : ℕ) → (x ≡ 0 → ⊥) → x ≤ last_transaction → is_open t x ≡ false → any_below (opens_at t x) bearer_count ≡ false
unfolding is_open
unopened t x n l e = rw (ne_eqb x 0 n, le-leb x last_transaction l) at e

module _ (t : Table) (sound : Sound t) where
  pub activate_default_sound : (bearer : ℕ) → Sound (activate_default_of t bearer).table
  unfolding activate_default_of
  activate_default_sound bearer =
      by_test LeavesSound (well_formed t) _ _ (λ _. by_test LeavesSound (available t bearer) _ _ opened (λ _. sound)) (λ _. sound)
    where
      opened : available t bearer ≡ true → Sound (build (opened_view t (index_of bearer) Default))
      opened e =
          sound_built (opened_view t (index_of bearer) Default) (opened_in_range t sound.in_range (index_of bearer) Default tt)
          (well_default t sound.well (index_of bearer) ((available_says t bearer).to e).1)

  pub activate_dedicated_sound : (bearer link x : ℕ) (value : List ℕ) → All Octet value → Sound (activate_dedicated_of t bearer link x value).table
  unfolding activate_dedicated_of
  activate_dedicated_sound bearer link x value octets =
      by_test LeavesSound (well_formed t) _ _ (λ _.
      by_test LeavesSound (mismatch t x) _ _ (λ _. sound) (λ _. activate_named_lem (closed t x) (closed_sound t sound x) value octets bearer link)) (λ _. sound)

  pub modify_sound : (bearer x : ℕ) (value : List ℕ) → All Octet value → Sound (modify_of t bearer x value).table
  unfolding modify_of
  modify_sound bearer x value octets =
      by_test LeavesSound (well_formed t) _ _ (λ _.
      by_test LeavesSound (mismatch t x) _ _ (λ _. sound) (λ _. modify_named_lem (closed t x) (closed_sound t sound x) value octets bearer)) (λ _. sound)

  pub deactivate_sound : (bearer x : ℕ) → Sound (deactivate_of t bearer x).table
  unfolding deactivate_of
  deactivate_sound bearer x = by_test LeavesSound (well_formed t) _ _ (λ _. dropped_sound (closed t x) (closed_sound t sound x) bearer) (λ _. sound)

  pub reject_sound : (x cause : ℕ) → Sound (reject_of t x cause).table
  unfolding reject_of
  reject_sound x cause = by_test LeavesSound (well_formed t) _ _ (λ _. by_test LeavesSound (is_open t x) _ _ (λ _. rejected_with) (λ _. sound)) (λ _. sound)
    where
      rejected_with : Sound (after_reject (eqb cause 43) t x)
      rejected_with =
          let c = closed_sound t sound x in
          picked Sound (eqb cause 43) (dropped (closed t x) (owner_of t x)) (closed t x) (dropped_sound (closed t x) c (owner_of t x)) c

  pub start_sound : (x bearer : ℕ) → x < 2 ^ 8 → Sound (start_of t x bearer).table
  unfolding start_of
  start_sound x bearer s =
      by_test LeavesSound (well_formed t) _ _ (λ _.
      by_test LeavesSound (eqb x 0 || eqb x 255) _ _ (λ _. sound) (λ e.
      by_test LeavesSound (is_idle (role_of t bearer)) _ _ (λ _. sound) (λ h.
      by_test LeavesSound (eqb (transaction_at t (index_of bearer)) 0) _ _ (λ _. by_test LeavesSound (is_open t x) _ _ (λ _. sound) (started e h)) (λ _. sound)))) (λ _. sound)
    where
      started : eqb x 0 || eqb x 255 ≡ false → is_idle (role_of t bearer) ≡ false → is_open t x ≡ false → Sound (build (started_view t (index_of bearer) x))
      started e h o =
          let n = neither (eqb x 0) (eqb x 255) e in
          let some : x ≡ 0 → ⊥ = eqb-false x 0 n.0 in
          let other : x ≡ 255 → ⊥ = eqb-false x 255 n.1 in
          let few : x ≤ last_transaction = omega arith in
          sound_built (started_view t (index_of bearer) x) (started_in_range t sound.in_range (index_of bearer) x s)
          (well_started t sound.well x (index_of bearer) (active_at t bearer h).1 few (not_open t x (unopened t x some few o)))

-- ---- The same of the test
module _ (t : Table) (r : TableInRange t) (e : well_formed t ≡ true) where
  before : Sound t
  before = record { in_range = r; well = (well_says t r).to e }

  after : (s : Table) → Sound s → well_formed s ≡ true
  after s k = (well_says s k.in_range).from k.well

  pub activate_default_well : (bearer : ℕ) → well_formed (activate_default_of t bearer).table ≡ true
  activate_default_well bearer = after (activate_default_of t bearer).table (activate_default_sound t before bearer)

  pub activate_dedicated_well : (bearer link x : ℕ) (value : List ℕ) → All Octet value → well_formed (activate_dedicated_of t bearer link x value).table ≡ true
  activate_dedicated_well bearer link x value octets =
      after (activate_dedicated_of t bearer link x value).table (activate_dedicated_sound t before bearer link x value octets)

  pub modify_well : (bearer x : ℕ) (value : List ℕ) → All Octet value → well_formed (modify_of t bearer x value).table ≡ true
  modify_well bearer x value octets = after (modify_of t bearer x value).table (modify_sound t before bearer x value octets)

  pub deactivate_well : (bearer x : ℕ) → well_formed (deactivate_of t bearer x).table ≡ true
  deactivate_well bearer x = after (deactivate_of t bearer x).table (deactivate_sound t before bearer x)

  pub reject_well : (x cause : ℕ) → well_formed (reject_of t x cause).table ≡ true
  reject_well x cause = after (reject_of t x cause).table (reject_sound t before x cause)

  pub start_well : (x bearer : ℕ) → x < 2 ^ 8 → well_formed (start_of t x bearer).table ≡ true
  start_well x bearer s = after (start_of t x bearer).table (start_sound t before x bearer s)
