-- Each call gives a number of those that are its own; 0 where nothing is refused.
-- Assumes nothing.
use mathlib.Core.Path.{◌≡◌, refl, sym, subst}
use mathlib.Core.Bool.{Bool, true, ◌&&◌, ◌||◌}
use mathlib.Core.List.{List, [], ◌∷◌}
use Prim.Native.Nat.{ℕ}
use lib.Dec.{eqb}
use Rattle.laws.specs.Lists.{is_in}
use Rattle.filter.specs.declared.component.Filter.{Filter}
use Rattle.element.specs.declared.answer.Cause.{Cause as ReadCause}
use Rattle.element.specs.declared.answer.Cause.TheVariants.{Operation, Semantics, Coding}
use Rattle.element.specs.declared.answer.BareOperation.TheVariants.{DeleteTft, NoOperation}
use Rattle.element.specs.declared.answer.Answer.{Answer as ReadAnswer}
use Rattle.element.specs.declared.answer.Answer.TheVariants.{Filters, Identifiers, Bare, Refused as read_refused}
use Rattle.element.specs.declared.answer.Element.{Element}
use Rattle.laws.proofs.Says.{picked}
use Rattle.element.specs.Numbers.{cause_number as read_number, Verdict, accepted, refused_for, verdict_on}
use Rattle.element.specs.Read.{read_element}
use Rattle.table.specs.declared.bearer.Role.TheVariants.{Dedicated}
use Rattle.table.specs.declared.bearer.Table.{Table}
use Rattle.table.specs.Bearers.{index_of, transaction_at, is_idle, is_default, is_dedicated, role_of}
use Rattle.table.specs.Tables.{build}
use Rattle.table.specs.WellFormed.{well_formed}
use Rattle.calls.specs.Reply.{cause_number, cause_of}
use Rattle.calls.specs.Steps.{is_open, closed, empties}
use Rattle.table.specs.Changes.{opened_view}
use Rattle.calls.specs.Lay.{lay_of}
use Rattle.element.specs.Head.{create, delete_tft, operation_of, head_fine}
use Rattle.calls.specs.Modify.{mismatch, creates, deleted_filters, deleted_tft, modified_by, modify_read, modify_named, modify_of}
use Rattle.calls.specs.Others.{available, activate_default_of, activated_by, activate_read, activate_named, activate_dedicated_of, deactivate_of, reject_of, start_of}
use Rattle.calls.specs.Changes.{Gives}
use Rattle.calls.proofs.Theorems.{laid_number}

-- modify and dedicated activation
abbrev pub causes : List ℕ
causes = 0 ∷ 1 ∷ 41 ∷ 42 ∷ 43 ∷ 44 ∷ 45 ∷ 47 ∷ []

-- the reader's cause has the same number in the reply
pub same_number : (cause : ReadCause) → cause_number (cause_of cause) ≡ read_number cause
same_number Operation = refl
same_number Semantics = refl
same_number Coding = refl

cause_in_lem : (cause : ReadCause) → is_in (cause_number (cause_of cause)) causes ≡ true
unfolding is_in
cause_in_lem Operation = refl
cause_in_lem Semantics = refl
cause_in_lem Coding = refl

laid_gives : (t : Table) (bearer : ℕ) (new : List Filter) (create : Bool) → Gives causes (lay_of t bearer new create)
unfolding is_in
laid_gives t bearer new create = subst (λ (n : ℕ). is_in n causes ≡ true) (sym (laid_number t bearer new create)) refl

modified_gives : (a : ReadAnswer) (t : Table) (bearer : ℕ) (e : Element) → Gives causes (modified_by a t bearer e)
unfolding is_in deleted_filters deleted_tft
modified_gives (read_refused refusal) t bearer e = cause_in_lem refusal.cause
modified_gives (Filters operation) t bearer e = laid_gives t bearer e.filters (creates operation)
modified_gives Identifiers t bearer e = picked (Gives causes) (is_dedicated (role_of t bearer) && empties t (index_of bearer) e.marks) _ _ refl refl
modified_gives (Bare DeleteTft) t bearer e = refl
modified_gives (Bare NoOperation) t bearer e = refl

activated_gives : (v : Verdict) (t : Table) (bearer link : ℕ) (new : List Filter) → Gives causes (activated_by v t bearer link new)
activated_gives (refused_for refusal) t bearer link new = cause_in_lem refusal.cause
activated_gives accepted t bearer link new = laid_gives (build (opened_view t (index_of bearer) (Dedicated link))) bearer new true

module _ (t : Table) where
  pub modify_gives : (bearer x : ℕ) (value : List ℕ) → Gives causes (modify_of t bearer x value)
  unfolding is_in modify_of modify_named modify_read
  modify_gives bearer x value =
      let s = closed t x in
      picked (Gives causes) (well_formed t) _ _
      (picked (Gives causes) (mismatch t x) _ _ refl
      (picked (Gives causes) (is_idle (role_of s bearer)) _ _ refl
      (picked (Gives causes) (head_fine value) _ _
      (picked (Gives causes) (is_dedicated (role_of s bearer) && eqb (operation_of value) delete_tft) _ _ refl
      (modified_gives (read_element value).answer s bearer (read_element value))) refl))) refl

  pub activate_dedicated_gives : (bearer link x : ℕ) (value : List ℕ) → Gives causes (activate_dedicated_of t bearer link x value)
  unfolding is_in activate_dedicated_of activate_named activate_read
  activate_dedicated_gives bearer link x value =
      let s = closed t x in
      picked (Gives causes) (well_formed t) _ _
      (picked (Gives causes) (mismatch t x) _ _ refl
      (picked (Gives causes) (available s bearer && is_default (role_of s link)) _ _
      (picked (Gives causes) (head_fine value) _ _
      (picked (Gives causes) (eqb (operation_of value) create) _ _ (activated_gives (verdict_on (read_element value).answer) s bearer link (read_element value).filters) refl) refl) refl)) refl

  pub activate_default_gives : (bearer : ℕ) → Gives (0 ∷ 1 ∷ 43 ∷ []) (activate_default_of t bearer)
  unfolding is_in activate_default_of
  activate_default_gives bearer =
      let ns : List ℕ = 0 ∷ 1 ∷ 43 ∷ [] in
      picked (Gives ns) (well_formed t) _ _ (picked (Gives ns) (available t bearer) _ _ refl refl) refl

  pub deactivate_gives : (bearer x : ℕ) → Gives (0 ∷ 1 ∷ []) (deactivate_of t bearer x)
  unfolding is_in deactivate_of
  deactivate_gives bearer x = picked (Gives (0 ∷ 1 ∷ [])) (well_formed t) _ _ refl refl

  pub reject_gives : (x cause : ℕ) → Gives (0 ∷ 1 ∷ 3 ∷ []) (reject_of t x cause)
  unfolding is_in reject_of
  reject_gives x cause =
      let ns : List ℕ = 0 ∷ 1 ∷ 3 ∷ [] in
      picked (Gives ns) (well_formed t) _ _ (picked (Gives ns) (is_open t x) _ _ refl refl) refl

  pub start_gives : (x bearer : ℕ) → Gives (0 ∷ 1 ∷ 4 ∷ 5 ∷ 6 ∷ 7 ∷ []) (start_of t x bearer)
  unfolding is_in start_of
  start_gives x bearer =
      let ns : List ℕ = 0 ∷ 1 ∷ 4 ∷ 5 ∷ 6 ∷ 7 ∷ [] in
      picked (Gives ns) (well_formed t) _ _
      (picked (Gives ns) (eqb x 0 || eqb x 255) _ _ refl
      (picked (Gives ns) (is_idle (role_of t bearer)) _ _ refl
      (picked (Gives ns) (eqb (transaction_at t (index_of bearer)) 0) _ _ (picked (Gives ns) (is_open t x) _ _ refl refl) refl))) refl
