-- The theorems of the layer.
use mathlib.Core.Path.{◌≡◌, refl, sym, ◌∙◌, ap, subst}
use mathlib.Core.Logic.{⊎_elim}
use mathlib.Core.Bool.{Bool, true, false, not, ◌&&◌, ◌||◌}
use mathlib.Core.List.{List}
use Prim.Native.Nat.{ℕ}
use lib.Dec.{eqb}
use Rattle.laws.specs.Says.{pick}
use Rattle.filter.specs.declared.component.Filter.{Filter}
use Rattle.element.specs.declared.answer.SetOperation.TheVariants.{Create}
use Rattle.element.specs.declared.answer.Refusal.{Refusal}
use Rattle.element.specs.declared.answer.BareOperation.TheVariants.{DeleteTft, NoOperation}
use Rattle.element.specs.declared.answer.Answer.{Answer as ReadAnswer}
use Rattle.element.specs.declared.answer.Answer.TheVariants.{Filters, Identifiers, Bare, Refused as read_refused}
use Rattle.element.specs.declared.answer.Element.{Element}
use Rattle.laws.proofs.Says.{picked}
use Rattle.element.specs.Numbers.{Verdict, accepted, refused_for, verdict_on}
use Rattle.element.specs.Read.{read_element}
use Rattle.element.proofs.Theorems.{create_reads}
use Rattle.table.specs.declared.bearer.Role.TheVariants.{Dedicated}
use Rattle.table.specs.declared.bearer.Table.{Table}
use Rattle.table.specs.Bearers.{index_of, transaction_at, is_idle, is_default, is_dedicated, role_of, connection_at}
use Rattle.table.specs.Tables.{build}
use Rattle.table.specs.WellFormed.{well_formed}
use Rattle.calls.specs.declared.reply.Cause.TheVariants.{Transaction}
use Rattle.calls.specs.declared.reply.Answer.TheVariants.{Release, Reattach}
use Rattle.calls.specs.declared.reply.Outcome.{Outcome}
use Rattle.calls.specs.Reply.{number_of, rejected_with}
use Rattle.calls.specs.Changes.{Refuses, RefusalLeaves}
use Rattle.calls.specs.Steps.{is_open, closed, empties}
use Rattle.table.specs.Changes.{opened_view}
use Rattle.calls.specs.Lay.{released, only_connection, lay_or_release, lay_within, lay_of}
use Rattle.element.specs.Head.{create, delete_tft, operation_of, head_fine}
use Rattle.calls.specs.Modify.{malformed, mismatch, creates, deleted_filters, deleted_tft, modified_by, modify_read, modify_named, modify_of}
use Rattle.calls.specs.Others.{available, activate_default_of, activated_by, activate_read, activate_named, activate_dedicated_of, deactivate_of, reject_of, start_of}

-- ---- a table that is not well formed: every call gives 1 and hands it back as it was
module _ (t : Table) (e : well_formed t ≡ false) where
  pub activate_default_malformed : (bearer : ℕ) → activate_default_of t bearer ≡ malformed t
  unfolding activate_default_of
  activate_default_malformed bearer = rw e

  pub activate_dedicated_malformed : (bearer link x : ℕ) (value : List ℕ) → activate_dedicated_of t bearer link x value ≡ malformed t
  unfolding activate_dedicated_of
  activate_dedicated_malformed bearer link x value = rw e

  pub modify_malformed : (bearer x : ℕ) (value : List ℕ) → modify_of t bearer x value ≡ malformed t
  unfolding modify_of
  modify_malformed bearer x value = rw e

  pub deactivate_malformed : (bearer x : ℕ) → deactivate_of t bearer x ≡ malformed t
  unfolding deactivate_of
  deactivate_malformed bearer x = rw e

  pub reject_malformed : (x cause : ℕ) → reject_of t x cause ≡ malformed t
  unfolding reject_of
  reject_malformed x cause = rw e

  pub start_malformed : (x bearer : ℕ) → start_of t x bearer ≡ malformed t
  unfolding start_of
  start_malformed x bearer = rw e

-- ---- every refusal leaves the table as it was, but for the transaction matched at step 2
-- laying filters refuses nothing
release_number : (b : Bool) (connection : ℕ) → number_of (pick b Reattach (Release connection)) ≡ 0
release_number true connection = refl
release_number false connection = refl

laid_by_number : (b : Bool) (t : Table) (bearer connection : ℕ) (new : List Filter) (create : Bool)
    → number_of (lay_or_release b t bearer connection new create).reply.answer ≡ 0
laid_by_number true t bearer connection new create = release_number (only_connection t connection) connection
laid_by_number false t bearer connection new create = refl

pub laid_number : (t : Table) (bearer : ℕ) (new : List Filter) (create : Bool) → number_of (lay_of t bearer new create).reply.answer ≡ 0
unfolding lay_of lay_within
laid_number t bearer new create =
    let connection = connection_at t (index_of bearer) in
    laid_by_number (released new create t (index_of bearer) connection) t bearer connection new create

-- modify, from the last step to the first
delete_filters_leaves : (t : Table) (bearer : ℕ) (marks : List Bool) → RefusalLeaves t (deleted_filters t bearer marks)
unfolding deleted_filters
delete_filters_leaves t bearer marks =
    picked (RefusalLeaves t) (is_dedicated (role_of t bearer) && empties t (index_of bearer) marks) _ _ (λ r. refl) (λ r. absurd (r refl))

modified_by_leaves : (a : ReadAnswer) (t : Table) (bearer : ℕ) (e : Element) → RefusalLeaves t (modified_by a t bearer e)
unfolding deleted_tft
modified_by_leaves (read_refused refusal) t bearer e r = refl
modified_by_leaves (Filters operation) t bearer e r = absurd (r (laid_number t bearer e.filters (creates operation)))
modified_by_leaves Identifiers t bearer e r = delete_filters_leaves t bearer e.marks r
modified_by_leaves (Bare DeleteTft) t bearer e r = absurd (r refl)
modified_by_leaves (Bare NoOperation) t bearer e r = refl

modify_read_leaves : (t : Table) (bearer : ℕ) (value : List ℕ) → RefusalLeaves t (modify_read t bearer value)
unfolding modify_read
modify_read_leaves t bearer value =
    picked (RefusalLeaves t) (is_dedicated (role_of t bearer) && eqb (operation_of value) delete_tft) _ _ (λ r. refl)
    (modified_by_leaves (read_element value).answer t bearer (read_element value))

pub modify_named_leaves : (t : Table) (bearer : ℕ) (value : List ℕ) → RefusalLeaves t (modify_named t bearer value)
unfolding modify_named
modify_named_leaves t bearer value =
    picked (RefusalLeaves t) (is_idle (role_of t bearer)) _ _ (λ r. refl) (picked (RefusalLeaves t) (head_fine value) _ _ (modify_read_leaves t bearer value) (λ r. refl))

-- dedicated activation, likewise
abbrev Accepted : Verdict → Type 0
Accepted accepted = Unit {0}
Accepted (refused_for refusal) = ⊥

activated_by_leaves : (v : Verdict) (t : Table) (bearer link : ℕ) (new : List Filter) → RefusalLeaves t (activated_by v t bearer link new)
activated_by_leaves (refused_for refusal) t bearer link new r = refl
activated_by_leaves accepted t bearer link new r = absurd (r (laid_number (build (opened_view t (index_of bearer) (Dedicated link))) bearer new true))

-- what a dedicated activation lays after step 5 is a create's: such an element reads as nothing else, but for a cause
pub activates_create : (value : List ℕ) → operation_of value ≡ create → verdict_on (read_element value).answer ≡ accepted → (read_element value).answer ≡ Filters Create
activates_create value h v = ⊎_elim (λ e. e) (λ c. absurd (refused c.refusal (ap verdict_on (sym c.is) ∙ v))) (create_reads value h)
  where
    refused : (refusal : Refusal) → refused_for refusal ≡ accepted → ⊥
    refused refusal e = subst Accepted (sym e) tt

activate_read_leaves : (t : Table) (bearer link : ℕ) (value : List ℕ) → RefusalLeaves t (activate_read t bearer link value)
unfolding activate_read
activate_read_leaves t bearer link value =
    picked (RefusalLeaves t) (eqb (operation_of value) create) _ _ (activated_by_leaves (verdict_on (read_element value).answer) t bearer link (read_element value).filters) (λ r. refl)

pub activate_named_leaves : (t : Table) (bearer link : ℕ) (value : List ℕ) → RefusalLeaves t (activate_named t bearer link value)
unfolding activate_named
activate_named_leaves t bearer link value =
    picked (RefusalLeaves t) (available t bearer && is_default (role_of t link)) _ _
    (picked (RefusalLeaves t) (head_fine value) _ _ (activate_read_leaves t bearer link value) (λ r. refl)) (λ r. refl)

-- steps 1 and 2 of both: t before the transaction is closed, s after
matched : (w m : Bool) (t s : Table) (bearer : ℕ) (o : Outcome) → RefusalLeaves s o
    → let out = pick w (pick m (rejected_with t bearer Transaction) o) (malformed t) in Refuses out → out.table ≡ pick (w && not m) s t
matched true true t s bearer o k r = refl
matched true false t s bearer o k r = k r
matched false m t s bearer o k r = refl

module _ (t : Table) where
  -- a transaction that is matched at step 2 is closed, whatever follows
  pub modify_refused : (bearer x : ℕ) (value : List ℕ) → RefusalLeaves (pick (well_formed t && not (mismatch t x)) (closed t x) t) (modify_of t bearer x value)
  unfolding modify_of
  modify_refused bearer x value =
      matched (well_formed t) (mismatch t x) t (closed t x) bearer (modify_named (closed t x) bearer value) (modify_named_leaves (closed t x) bearer value)

  pub activate_dedicated_refused : (bearer link x : ℕ) (value : List ℕ)
      → RefusalLeaves (pick (well_formed t && not (mismatch t x)) (closed t x) t) (activate_dedicated_of t bearer link x value)
  unfolding activate_dedicated_of
  activate_dedicated_refused bearer link x value =
      matched
      (well_formed t) (mismatch t x) t (closed t x) bearer (activate_named (closed t x) bearer link value)
      (activate_named_leaves (closed t x) bearer link value)

  pub activate_default_refused : (bearer : ℕ) → RefusalLeaves t (activate_default_of t bearer)
  unfolding activate_default_of
  activate_default_refused bearer =
      picked (RefusalLeaves t) (well_formed t) _ _ (picked (RefusalLeaves t) (available t bearer) _ _ (λ r. absurd (r refl)) (λ r. refl)) (λ r. refl)

  pub deactivate_refused : (bearer x : ℕ) → RefusalLeaves t (deactivate_of t bearer x)
  unfolding deactivate_of
  deactivate_refused bearer x = picked (RefusalLeaves t) (well_formed t) _ _ (λ r. absurd (r refl)) (λ r. refl)

  pub reject_refused : (x cause : ℕ) → RefusalLeaves t (reject_of t x cause)
  unfolding reject_of
  reject_refused x cause =
      picked (RefusalLeaves t) (well_formed t) _ _ (picked (RefusalLeaves t) (is_open t x) _ _ (λ r. absurd (r refl)) (λ r. refl)) (λ r. refl)

  pub start_refused : (x bearer : ℕ) → RefusalLeaves t (start_of t x bearer)
  unfolding start_of
  start_refused x bearer =
      picked (RefusalLeaves t) (well_formed t) _ _
      (picked (RefusalLeaves t) (eqb x 0 || eqb x 255) _ _ (λ r. refl)
      (picked (RefusalLeaves t) (is_idle (role_of t bearer)) _ _ (λ r. refl)
      (picked (RefusalLeaves t) (eqb (transaction_at t (index_of bearer)) 0) _ _
      (picked (RefusalLeaves t) (is_open t x) _ _ (λ r. refl) (λ r. absurd (r refl))) (λ r. refl)))) (λ r. refl)
