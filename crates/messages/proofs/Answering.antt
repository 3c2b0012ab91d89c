-- What calls answer to a message: an accept or a reject with the bearer received, or nothing that is sent.
use Rattle.std.specs.Prelude.{Option}
use mathlib.Core.Path.{◌≡◌, refl}
use mathlib.Core.Bool.{Bool, true, false, ◌&&◌}
use mathlib.Core.List.{List, [], ◌∷◌}
use Prim.Native.Nat.{ℕ}
use lib.Dec.{eqb}
use Rattle.laws.proofs.Says.{picked}
use Rattle.filter.specs.declared.component.Filter.{Filter}
use Rattle.element.specs.declared.answer.BareOperation.TheVariants.{DeleteTft, NoOperation}
use Rattle.element.specs.declared.answer.Answer.{Answer as ReadAnswer}
use Rattle.element.specs.declared.answer.Answer.TheVariants.{Filters, Identifiers, Bare, Refused as read_refused}
use Rattle.element.specs.declared.answer.Element.{Element}
use Rattle.element.specs.Numbers.{Verdict, accepted, refused_for, verdict_on}
use Rattle.element.specs.Head.{create, delete_tft, operation_of, head_fine}
use Rattle.element.specs.Read.{read_element}
use Rattle.table.specs.declared.bearer.Role.TheVariants.{Dedicated}
use Rattle.table.specs.declared.bearer.Table.{Table}
use Rattle.table.specs.Bearers.{index_of, is_idle, is_default, is_dedicated, role_of}
use Rattle.table.specs.Tables.{build}
use Rattle.table.specs.WellFormed.{well_formed}
use Rattle.calls.specs.declared.reply.Cause.{Cause}
use Rattle.calls.specs.declared.reply.Cause.TheVariants.{TftSemantics, TftSyntax, BearerIdentity, Transaction}
use Rattle.calls.specs.declared.reply.Refusal.TheVariants.{NotWellFormed}
use Rattle.calls.specs.declared.reply.Answer.{Answer}
use Rattle.calls.specs.declared.reply.Answer.TheVariants.{Accept, Reject, Release, Reattach, Started, Closed, Synchronised, Refused}
use Rattle.calls.specs.declared.reply.Outcome.{Outcome}
use Rattle.calls.specs.Reply.{cause_of}
use Rattle.calls.specs.Steps.{is_open, closed, empties, home}
use Rattle.table.specs.Changes.{opened_view}
use Rattle.calls.specs.Lay.{released, only_connection, lay_or_release, lay_within, lay_of}
use Rattle.calls.specs.Modify.{mismatch, creates, deleted_filters, deleted_tft, modified_by, modify_read, modify_named, modify_of}
use Rattle.calls.specs.Others.{available, activated_by, activate_read, activate_named, activate_dedicated_of, deactivate_of, reject_of}
use Rattle.calls.specs.Changes.{SendsReply, EndsConnection}
use Rattle.messages.specs.Handle.{accept_of}
use Rattle.messages.specs.Meaning.{bearer_of}
use Rattle.messages.proofs.Accepting.{no_operation_lem}

-- ---- what holds of 1, of the bearer's rejects and accept, and of the end of a connection holds of each answer of modify and of dedicated activation
module _ (P : Answer → Type 0) (bearer : ℕ) (malformed : P (Refused NotWellFormed)) (rejects : (cause : Cause) (place : Option ℕ) → P (Reject bearer cause place)) (accepts : P (Accept bearer))
    (ends : (a : Answer) → EndsConnection a → P a) where
  abbrev Gives : Outcome → Type 0
  Gives o = P o.reply.answer

  laid_by : (gone : Bool) (t : Table) (connection : ℕ) (new : List Filter) (create : Bool) → Gives (lay_or_release gone t bearer connection new create)
  laid_by true t connection new create = picked P (only_connection t connection) Reattach (Release connection) (ends Reattach tt) (ends (Release connection) tt)
  laid_by false t connection new create = accepts

  laid : (t : Table) (new : List Filter) (create : Bool) → Gives (lay_of t bearer new create)
  unfolding lay_of lay_within
  laid t new create = laid_by (released new create t (index_of bearer) (home t bearer)) t (home t bearer) new create

  modified : (a : ReadAnswer) (t : Table) (e : Element) → Gives (modified_by a t bearer e)
  unfolding deleted_filters deleted_tft
  modified (read_refused refusal) t e = rejects (cause_of refusal.cause) _
  modified (Filters operation) t e = laid t e.filters (creates operation)
  modified Identifiers t e = picked Gives (is_dedicated (role_of t bearer) && empties t (index_of bearer) e.marks) _ _ (rejects TftSemantics _) accepts
  modified (Bare DeleteTft) t e = accepts
  modified (Bare NoOperation) t e = accepts

  activated : (v : Verdict) (t : Table) (link : ℕ) (new : List Filter) → Gives (activated_by v t bearer link new)
  activated (refused_for refusal) t link new = rejects (cause_of refusal.cause) _
  activated accepted t link new = laid (build (opened_view t (index_of bearer) (Dedicated link))) new true

  module _ (t : Table) (x : ℕ) where
    pub modify_answers : (value : List ℕ) → Gives (modify_of t bearer x value)
    unfolding modify_of modify_named modify_read
    modify_answers value =
        let s = closed t x in
        picked Gives (well_formed t) _ _
        (picked Gives (mismatch t x) _ _ (rejects Transaction _)
        (picked Gives (is_idle (role_of s bearer)) _ _ (rejects BearerIdentity _)
        (picked Gives (head_fine value) _ _
        (picked Gives (is_dedicated (role_of s bearer) && eqb (operation_of value) delete_tft) _ _ (rejects TftSemantics _)
        (modified (read_element value).answer s (read_element value))) (rejects TftSyntax _)))) malformed

    pub activate_answers : (link : ℕ) (value : List ℕ) → Gives (activate_dedicated_of t bearer link x value)
    unfolding activate_dedicated_of activate_named activate_read
    activate_answers link value =
        let s = closed t x in
        picked Gives (well_formed t) _ _
        (picked Gives (mismatch t x) _ _ (rejects Transaction _)
        (picked Gives (available s bearer && is_default (role_of s link)) _ _
        (picked Gives (head_fine value) _ _
        (picked Gives (eqb (operation_of value) create) _ _ (activated (verdict_on (read_element value).answer) s link (read_element value).filters) (rejects TftSemantics _))
        (rejects TftSyntax _)) (rejects BearerIdentity _))) malformed

    pub accept_answers : Gives (accept_of t bearer x)
    accept_answers = rw (← (no_operation_lem t bearer x)) (modify_answers (0xC0 ∷ []))

-- ---- deactivation: the accept, or 1
pub deactivate_answers : (P : Answer → Type 0) (t : Table) (bearer x : ℕ) → P (Refused NotWellFormed) → P (Accept bearer) → P (deactivate_of t bearer x).reply.answer
unfolding deactivate_of
deactivate_answers P t bearer x malformed accepts = picked (λ (o : Outcome). P o.reply.answer) (well_formed t) _ _ accepts malformed

-- ---- resource modification reject: nothing that is sent
pub reject_silent : (t : Table) (x cause : ℕ) → SendsReply (reject_of t x cause).reply.answer → ⊥
unfolding reject_of
reject_silent t x cause =
    let Silent : Outcome → Type 0 = λ o. SendsReply o.reply.answer → ⊥ in
    picked Silent (well_formed t) _ _ (picked Silent (is_open t x) _ _ (λ s. s) (λ s. s)) (λ s. s)

-- ---- the bearer of what is sent is the one received
abbrev pub Answers : ℕ → Answer → Type 0
Answers bearer a = SendsReply a → bearer_of a ≡ bearer

pub end_silent : (bearer : ℕ) (a : Answer) → EndsConnection a → Answers bearer a
end_silent bearer (Accept x) e s = absurd e
end_silent bearer (Reject x cause place) e s = absurd e
end_silent bearer (Release default) e s = absurd s
end_silent bearer Reattach e s = absurd s
end_silent bearer (Started transaction) e s = absurd s
end_silent bearer (Closed transaction) e s = absurd s
end_silent bearer Synchronised e s = absurd s
end_silent bearer (Refused refusal) e s = absurd s

module _ (t : Table) (bearer x : ℕ) where
  pub modify_bearer : (value : List ℕ) → Answers bearer (modify_of t bearer x value).reply.answer
  modify_bearer = modify_answers (Answers bearer) bearer (λ s. absurd s) (λ cause place s. refl) (λ s. refl) (end_silent bearer) t x

  pub activate_bearer : (link : ℕ) (value : List ℕ) → Answers bearer (activate_dedicated_of t bearer link x value).reply.answer
  activate_bearer = activate_answers (Answers bearer) bearer (λ s. absurd s) (λ cause place s. refl) (λ s. refl) (end_silent bearer) t x

  pub accept_bearer : Answers bearer (accept_of t bearer x).reply.answer
  accept_bearer = accept_answers (Answers bearer) bearer (λ s. absurd s) (λ cause place s. refl) (λ s. refl) (end_silent bearer) t x

  pub deactivate_bearer : Answers bearer (deactivate_of t bearer x).reply.answer
  deactivate_bearer = deactivate_answers (Answers bearer) t bearer x (λ s. absurd s) (λ s. refl)
