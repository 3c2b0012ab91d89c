-- The messages that bring filters, modify and dedicated activation, have the same ends: a refusal, an accept without filters, or filters laid on a table
-- that stands to the message's table as `Ready` says. What holds of these holds of both messages.
use Rattle.std.specs.Prelude.{Option}
use mathlib.Core.Path.{◌≡◌, refl, sym, ◌∙◌, ap, subst}
use mathlib.Core.Bool.{Bool, true, false, ◌&&◌}
use mathlib.Core.Logic.{◌⊎◌, inl, inr, ⊎_elim}
use mathlib.Core.List.{List}
use Prim.Native.Nat.{ℕ, ◌<◌, ◌≤◌}
use native.Mathlib.Omega.{arith}
use lib.Dec.{eqb}
use lib.ListN.{length, get_or, replicate, get_or-replicate}
use borrow.Author.Tests.{eqb-true, eq-eqb, not-true}
use Rattle.laws.specs.Says.{pick, Says}
use Rattle.laws.proofs.Says.{which, never, by_test, picked, says_it, says_eq, says_no, says_ne}
use Rattle.laws.proofs.Tests.{both}
use Rattle.laws.proofs.Typed.{each_at}
use Rattle.filter.specs.declared.component.Filter.{Filter}
use Rattle.filter.specs.Sizes.{place_count}
use Rattle.element.specs.declared.answer.Answer.{Answer as ReadAnswer}
use Rattle.element.specs.declared.answer.Answer.TheVariants.{Filters, Identifiers, Bare, Refused as read_refused}
use Rattle.element.specs.declared.answer.SetOperation.{SetOperation}
use Rattle.element.specs.declared.answer.SetOperation.TheVariants.{Create}
use Rattle.element.specs.declared.answer.BareOperation.TheVariants.{DeleteTft, NoOperation}
use Rattle.element.specs.Head.{create, delete_tft, operation_of, head_fine}
use Rattle.element.specs.Numbers.{Verdict, accepted, refused_for, verdict_on}
use Rattle.element.specs.Read.{read_element}
use Rattle.table.specs.declared.bearer.Role.{Role}
use Rattle.table.specs.declared.bearer.Role.TheVariants.{Idle, Dedicated}
use Rattle.table.specs.declared.bearer.Bearer.{Bearer}
use Rattle.table.specs.declared.bearer.Table.{Table}
use Rattle.table.specs.Bearers.{first_identity, bearer_count, index_of, identity_of, no_bearer, bearer_at, in_row, role_at, transaction_at, filter_at}
use Rattle.table.specs.Bearers.{is_idle, is_default, is_dedicated, role_of, connection_of}
use Rattle.table.specs.Tables.{View, view, build}
use Rattle.table.specs.WellFormed.{well_formed, ActiveDefault, WellFormed}
use Rattle.table.specs.Ranges.{TableInRange}
use Rattle.table.proofs.Meaning.{default_of, well_says}
use Rattle.calls.specs.declared.reply.Answer.{Answer}
use Rattle.calls.specs.declared.reply.Answer.TheVariants.{Accept, Reject}
use Rattle.calls.specs.declared.reply.Cause.{Cause}
use Rattle.calls.specs.declared.reply.Cause.TheVariants.{TftSemantics, TftSyntax, BearerIdentity, FilterSemantics, FilterSyntax, Transaction}
use Rattle.calls.specs.declared.reply.Outcome.{Outcome}
use Rattle.calls.specs.Reply.{cause_number, cause_of, number_of, answered, rejected_with}
use Rattle.calls.specs.Steps.{closed, empties, home}
use Rattle.table.specs.Changes.{opens_at, closed_view, opened_view, deleted_in, deleted_view}
use Rattle.calls.specs.Lay.{lay_of}
use Rattle.calls.specs.Modify.{malformed, mismatch, creates, deleted_filters, deleted_tft, modified_by, modify_read, modify_named, modify_of}
use Rattle.calls.specs.Others.{available, activated_by, activate_read, activate_named, activate_dedicated_of}
use Rattle.calls.specs.Checks.{Available}
use Rattle.calls.specs.Changes.{Rejects, Closing, Stays, Void, Brings, Overlaid, Deleted, NamedBearer}
use Rattle.calls.proofs.Views.{role_built, transaction_built, filter_built}
use Rattle.calls.proofs.Asked.{matched_says, available_says, active_at}
use Rattle.calls.proofs.Preserved.{closed_well, well_built, well_dedicated}
use Rattle.calls.proofs.Theorems.{activates_create}
use Rattle.calls.proofs.Laying.{row_as, bearer_as}

-- ---- bearers as they were, but perhaps for a transaction that is closed
stays_self : (t : Table) (x i : ℕ) → (WellFormed t → transaction_at t i ≡ x → transaction_at t i ≡ 0) → Stays t t x i
stays_self t x i closed = record { role = refl; transaction = (λ n. refl, closed); row = refl }

pub closing_on : (t s u : Table) (x i : ℕ) → transaction_at u i ≡ transaction_at s i → Closing t s x i → Closing t u x i
closing_on t s u x i h c = (λ n. h ∙ c.0 n, λ w e. h ∙ c.1 w e)

pub stays_on : (t s u : Table) (x i : ℕ) → bearer_at u i ≡ bearer_at s i → Stays t s x i → Stays t u x i
stays_on t s u x i h k =
    record {
      role = ap (λ (b : Bearer). b.role) h ∙ k.role;
      transaction = closing_on t s u x i (ap (λ (b : Bearer). b.transaction) h) k.transaction;
      row = ap (λ (b : Bearer). b.row) h ∙ k.row;
    }

pub filter_as : (t s : Table) (i j : ℕ) → (bearer_at s i).row ≡ (bearer_at t i).row → filter_at s i j ≡ filter_at t i j
filter_as t s i j h = ap (λ (row : List Filter). in_row row j) h

-- the transaction that a message closes
pub closed_stays : (t : Table) (x i : ℕ) → i < bearer_count → length (bearer_at t i).row ≡ place_count → Stays t (closed t x) x i
unfolding closed opens_at
closed_stays t x i l long = go (eqb x 0) refl
  where
    go : (b : Bool) → eqb x 0 ≡ b → Stays t (pick b t (build (closed_view t x))) x i
    go true z = stays_self t x i (λ w e. e ∙ (says_eq x 0).to z)
    go false z =
        let at = transaction_built (closed_view t x) i l in
        let is = says_eq (transaction_at t i) x in
        record {
          role = role_built (closed_view t x) i l;
          transaction = (λ n. at ∙ rw (says_no is n), λ w e. at ∙ rw (is.from e));
          row = row_as t (closed_view t x) i l long (λ j m. refl);
        }

-- the bearers that filters are not deleted from
deleted_as : (s : Table) (k : ℕ) (marks : List Bool) (i : ℕ) → i < bearer_count → length (bearer_at s i).row ≡ place_count → (i ≡ k → ⊥)
    → bearer_at (build (deleted_view s k marks)) i ≡ bearer_at s i
unfolding deleted_in
deleted_as s k marks i l long n = bearer_as s (deleted_view s k marks) i l long (λ j m. rw (says_no (says_eq i k) n)) refl refl

-- .. and the one that they are deleted from: of those of t, which are those of s, exactly the marked ones are gone
deleted : (t s : Table) (bearer : ℕ) (marks : List Bool) (P : ℕ → Type 0) → index_of bearer < bearer_count
    → (bearer_at s (index_of bearer)).row ≡ (bearer_at t (index_of bearer)).row → ((j : ℕ) → j < place_count → Says (get_or marks j false) (P j))
    → Deleted t bearer P (build (deleted_view s (index_of bearer) marks))
unfolding deleted_in
deleted t s bearer marks P l row says =
    let k = index_of bearer in
    let at = filter_built (deleted_view s k marks) k l in
    let here = eq-eqb k k refl in
    record {
      gone = λ j m q. at j m ∙ rw (here, (says j m).from q);
      stays = λ j m q. at j m ∙ rw (here, says_no (says j m) q) (filter_as t s k j row);
    }

-- ---- the named bearer, by what the reader gives
module _ (t : Table) (role : Role) (connection bearer x : ℕ) (value : List ℕ) where
  abbrev pub By : ReadAnswer → Table → Type 0
  By (Filters operation) s = Overlaid t connection bearer (read_element value).filters (creates operation) s
  By Identifiers s = Deleted t bearer (λ j. get_or (read_element value).marks j false ≡ true) s
  By (Bare DeleteTft) s = Deleted t bearer (λ j. Unit {0}) s
  By (Bare NoOperation) s = Deleted t bearer (λ j. ⊥) s
  By (read_refused refusal) s = Unit {0}

  pub named_by : (s : Table) → role_at s (index_of bearer) ≡ role → Closing t s x (index_of bearer) → (a : ReadAnswer) → (read_element value).answer ≡ a → By a s
      → NamedBearer t role connection bearer x value s
  named_by s has closing a e h =
      let by : (b : ReadAnswer) → (read_element value).answer ≡ b → By b s = λ b z. subst (λ (a : ReadAnswer). By a s) (sym e ∙ z) h in
      record {
        has = has;
        transaction = closing;
        brings = λ operation. by (Filters operation);
        deletes = by Identifiers;
        removes = by (Bare DeleteTft);
        leaves = by (Bare NoOperation);
      }

-- ---- t is the table of the message, s the one that its filters are laid on
module _ (t : Table) (connection bearer x : ℕ) where
  -- the bearer that an activation opens: it had nothing, and is of the connection
  pub record Opened (s : Table) (i : ℕ) : Type 0 where
    pub named : identity_of i ≡ bearer
    pub void : Void (view t) i
    pub role : role_at s i ≡ Dedicated connection
    pub transaction : Closing t s x i
    pub row : (bearer_at s i).row ≡ (bearer_at t i).row

  -- s is t, but perhaps for a transaction that is closed, and for the named bearer, where it is opened
  pub record Ready (s : Table) : Type 0 where
    pub well : WellFormed s
    pub low : first_identity ≤ bearer
    pub inside : index_of bearer < bearer_count
    pub of : home s bearer ≡ connection
    pub long : (i : ℕ) → i < bearer_count → length (bearer_at t i).row ≡ place_count
    pub bearers : (i : ℕ) → i < bearer_count → Stays t s x i ⊎ Opened s i

  -- the named bearer has the role, once the message is accepted
  pub record Ends (role : Role) (value : List ℕ) (P : Outcome → Type 0) : Type 0 where
    pub refused : (u : Table) (a : Answer) → Rejects bearer a → ((i : ℕ) → i < bearer_count → Stays t u x i) → P (answered u a)
    pub without : (u : Table) → ((operation : SetOperation) → Brings value operation → ⊥)
        → ((i : ℕ) → i < bearer_count → (identity_of i ≡ bearer → ⊥) → Stays t u x i) → NamedBearer t role connection bearer x value u
        → P (answered u (Accept bearer))
    pub laid : (s : Table) → Ready s → role_at s (index_of bearer) ≡ role → (operation : SetOperation) → Brings value operation
        → P (lay_of s bearer (read_element value).filters (creates operation))

cause_number_lem : (c : Cause) → cause_number c ≡ 0 → ⊥
cause_number_lem TftSemantics e = omega arith
cause_number_lem TftSyntax e = omega arith
cause_number_lem BearerIdentity e = omega arith
cause_number_lem FilterSemantics e = omega arith
cause_number_lem FilterSyntax e = omega arith
cause_number_lem Transaction e = omega arith

pub rejects_number : {bearer : ℕ} (a : Answer) → Rejects bearer a → number_of a ≡ 0 → ⊥
rejects_number a h z = ⊎_elim (λ e. let q : ◌≡◌ {A = ℕ} 1 0 = sym (ap number_of e) ∙ z in omega arith) (λ q. cause_number_lem q.0 (sym (ap number_of q.1.1) ∙ z)) h

module _ (t : Table) (ok : TableInRange t) (connection bearer x : ℕ) {role : Role} (value : List ℕ) (P : Outcome → Type 0)
    (ends : Ends t connection bearer x role value P) where
  -- after step 2
  abbrev between : Table
  between = closed t x

  long : (i : ℕ) → i < bearer_count → length (bearer_at t i).row ≡ place_count
  long i l = (each_at ok.bearers no_bearer i l).row.count

  closes : (i : ℕ) → i < bearer_count → Stays t between x i
  closes i l = closed_stays t x i l (long i l)

  between_long : (i : ℕ) → i < bearer_count → length (bearer_at between i).row ≡ place_count
  between_long i l = ap length (closes i l).row ∙ long i l

  rejects : (cause : Cause) {place : Option ℕ} → P (answered between (Reject bearer cause place))
  rejects cause {place} = ends.refused between (Reject bearer cause place) (inr (cause, (place, refl))) closes

  -- no bearer has a transaction that step 2 refuses
  unmatched : mismatch t x ≡ true → (i : ℕ) → i < bearer_count → WellFormed t → transaction_at t i ≡ x → transaction_at t i ≡ 0
  unmatched m i l w e =
      ⊎_elim (λ z. e ∙ (says_eq x 0).to z) (λ z. let some : x ≡ 0 → ⊥ = says_ne (says_eq x 0) z in
      let few = w.bearers.small i l in
      never m (not-true (mismatch t x) ((matched_says t x).from (inr (omega arith, omega (arith, e), record { at = i; below = l; holds = e })))))
      (which (eqb x 0))

  -- steps 1 and 2
  checked : (o : Outcome) → (WellFormed t → P o) → P (pick (well_formed t) (pick (mismatch t x) (rejected_with t bearer Transaction) o) (malformed t))
  checked o h =
      let well = well_says t ok in
      by_test P (well_formed t) _ _ (λ w.
      by_test P (mismatch t x) _ _ (λ m. ends.refused t _ (inr (Transaction, (_, refl))) (λ i l. stays_self t x i (unmatched m i l))) (λ _. h (well.to w)))
      (λ e. ends.refused t _ (inl refl) (λ i l. stays_self t x i (λ w. absurd (says_ne well e w))))

  -- ---- modify
  module _ (of : home t bearer ≡ connection) (has : role_at t (index_of bearer) ≡ role) where
    closed_ready : WellFormed t → is_idle (role_of between bearer) ≡ false → Ready t connection bearer x between
    closed_ready w h =
        let a = active_at between bearer h in
        let l : index_of bearer < bearer_count = omega (arith, a.0.0, a.0.1) in
        record {
          well = closed_well t w x;
          low = a.0.0;
          inside = l;
          of = ap (connection_of (index_of bearer)) (closes (index_of bearer) l).role ∙ of;
          long = long;
          bearers = λ i l. inl (closes i l);
        }

    module _ (k : Ready t connection bearer x between) where
      named : Stays t between x (index_of bearer)
      named = closes (index_of bearer) k.inside

      deletes : (marks : List Bool) (r : ReadAnswer) → (read_element value).answer ≡ r
          → By t role connection bearer x value r (build (deleted_view between (index_of bearer) marks))
          → ((operation : SetOperation) → Brings value operation → ⊥) → P (answered (build (deleted_view between (index_of bearer) marks)) (Accept bearer))
      deletes marks r e by none =
          let v = deleted_view between (index_of bearer) marks in
          ends.without (build v) none
          (λ i l other. let n : i ≡ index_of bearer → ⊥ = λ e. other (omega (arith, k.low)) in
          stays_on t between (build v) x i (deleted_as between (index_of bearer) marks i l (between_long i l) n) (closes i l))
          (named_by t role connection bearer x value (build v) (role_built v (index_of bearer) k.inside ∙ named.role ∙ has)
          (closing_on t between (build v) x (index_of bearer) (transaction_built v (index_of bearer) k.inside) named.transaction) r e by)

      modify_read_lem : (r : ReadAnswer) → (read_element value).answer ≡ r → P (modified_by r between bearer (read_element value))
      unfolding deleted_tft deleted_filters
      modify_read_lem (read_refused refusal) e = rejects (cause_of refusal.cause)
      modify_read_lem (Filters operation) e = ends.laid between k (named.role ∙ has) operation e
      modify_read_lem Identifiers e =
          let marks = (read_element value).marks in
          picked P (is_dedicated (role_of between bearer) && empties between (index_of bearer) marks) _ _ (rejects TftSemantics)
          (deletes marks Identifiers e
          (deleted t between bearer marks (λ j. get_or marks j false ≡ true) k.inside named.row (λ j m. says_it (get_or marks j false)))
          (λ operation h. let z : ◌≡◌ {A = ℕ} 0 1 = cc in omega arith))
      modify_read_lem (Bare DeleteTft) e =
          deletes (replicate place_count true) (Bare DeleteTft) e
          (deleted t between bearer (replicate place_count true) (λ j. Unit {0}) k.inside named.row
          (λ j m. record { to = λ e. tt; from = λ q. get_or-replicate place_count j true false m })) (λ operation h. let z : ◌≡◌ {A = ℕ} 0 1 = cc in omega arith)
      modify_read_lem (Bare NoOperation) e =
          ends.without between (λ operation h. let z : ◌≡◌ {A = ℕ} 0 1 = cc in omega arith) (λ i l _. closes i l)
          (named_by t role connection bearer x value between (named.role ∙ has) named.transaction (Bare NoOperation) e
          (record { gone = λ j m q. absurd q; stays = λ j m q. filter_as t between (index_of bearer) j named.row }))

    pub modify_ends : P (modify_of t bearer x value)
    unfolding modify_of modify_named modify_read
    modify_ends =
        checked (modify_named between bearer value) (λ w.
        by_test P (is_idle (role_of between bearer)) _ _ (λ _. rejects BearerIdentity) (λ h.
        picked P (head_fine value) _ _
        (picked P (is_dedicated (role_of between bearer) && eqb (operation_of value) delete_tft) _ _ (rejects TftSemantics)
        (modify_read_lem (closed_ready w h) (read_element value).answer refl)) (rejects TftSyntax)))

  -- ---- dedicated activation, linked to the connection
  abbrev opened : View
  opened = opened_view between (index_of bearer) (Dedicated connection)

  opened_at : (i : ℕ) → i < bearer_count → eqb i (index_of bearer) ≡ true → role_at (build opened) i ≡ Dedicated connection
  opened_at i l e = role_built opened i l ∙ rw e

  opened_has : index_of bearer < bearer_count → role_at (build opened) (index_of bearer) ≡ Dedicated connection
  opened_has l = opened_at (index_of bearer) l (eq-eqb (index_of bearer) (index_of bearer) refl)

  opened_ready : WellFormed t → Available between bearer → ActiveDefault (role_at between) connection → Ready t connection bearer x (build opened)
  opened_ready w a default =
      let inside : index_of bearer < bearer_count = omega (arith, a.0.0, a.0.1) in
      record {
        well = well_built opened (well_dedicated between (closed_well t w x) (index_of bearer) a.1 connection default);
        low = a.0.0;
        inside = inside;
        of = ap (connection_of (index_of bearer)) (opened_has inside);
        long = long;
        bearers = λ i l.
            ⊎_elim (λ e.
            let q = eqb-true i (index_of bearer) e in
            let idle : role_at t i ≡ Idle = sym (closes i l).role ∙ ap (role_at between) q ∙ a.1 in
            inr (record {
              named = omega (arith, a.0.0, q);
              void = record { role = idle; transaction = w.bearers.silent i l idle; filter = λ j m. w.bearers.empty i j l m idle };
              role = opened_at i l e;
              transaction = closing_on t between (build opened) x i (transaction_built opened i l) (closes i l).transaction;
              row = row_as between opened i l (between_long i l) (λ j m. refl) ∙ (closes i l).row;
            }))
            (λ e. inl (stays_on t between (build opened) x i (bearer_as between opened i l (between_long i l) (λ j m. refl) (rw e) refl) (closes i l)))
            (which (eqb i (index_of bearer)));
      }

  activate_read_lem : Dedicated connection ≡ role → Ready t connection bearer x (build opened) → operation_of value ≡ create → (v : Verdict)
      → verdict_on (read_element value).answer ≡ v → P (activated_by v between bearer connection (read_element value).filters)
  activate_read_lem has k h (refused_for refusal) e = rejects (cause_of refusal.cause)
  activate_read_lem has k h accepted e = ends.laid (build opened) k (opened_has k.inside ∙ has) Create (activates_create value h e)

  pub activate_ends : Dedicated connection ≡ role → P (activate_dedicated_of t bearer connection x value)
  unfolding activate_dedicated_of activate_named activate_read
  activate_ends has =
      checked (activate_named between bearer connection value) (λ w.
      by_test P (available between bearer && is_default (role_of between connection)) _ _ (λ h.
      let f = both (available between bearer) (is_default (role_of between connection)) h in
      let k = opened_ready w ((available_says between bearer).to f.0) ((default_of between connection).to f.1) in
      picked P (head_fine value) _ _
      (by_test P (eqb (operation_of value) create) _ _
      (λ e. activate_read_lem has k (eqb-true (operation_of value) create e) (verdict_on (read_element value).answer) refl) (λ _. rejects TftSemantics))
      (rejects TftSyntax)) (λ _. rejects BearerIdentity))
