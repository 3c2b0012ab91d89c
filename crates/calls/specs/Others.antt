-- "Other calls"
use Rattle.std.specs.Prelude.{ℕ, Bool, true, ◌&&◌, ◌||◌, List, eqb}
use Rattle.laws.specs.Says.{pick}
use Rattle.filter.specs.declared.component.Filter.{Filter}
use Rattle.element.specs.Numbers.{Verdict, accepted, refused_for, verdict_on}
use Rattle.element.specs.Head.{create, operation_of, head_fine}
use Rattle.element.specs.Read.{read_element}
use Rattle.table.specs.declared.bearer.Role.TheVariants.{Default, Dedicated}
use Rattle.table.specs.declared.bearer.Table.{Table}
use Rattle.table.specs.Bearers.{is_identity, index_of, transaction_at, is_idle, is_default, role_of}
use Rattle.table.specs.Tables.{build}
use Rattle.table.specs.WellFormed.{well_formed}
use Rattle.calls.specs.declared.reply.Cause.TheVariants.{TftSemantics, BearerIdentity, Transaction}
use Rattle.calls.specs.declared.reply.Refusal.TheVariants.{NotOpen, NoIdentity, AlreadyOpen, NoBearer, BearerBusy}
use Rattle.calls.specs.declared.reply.Answer.TheVariants.{Accept, Started, Closed, Refused}
use Rattle.calls.specs.declared.reply.Outcome.{Outcome}
use Rattle.calls.specs.Reply.{cause_number, reject_for, reject_head, answered, rejected_with}
use Rattle.calls.specs.Steps.{is_open, owner_of, closed, dropped}
use Rattle.table.specs.Changes.{started_view, opened_view}
use Rattle.calls.specs.Lay.{lay_of}
use Rattle.calls.specs.Modify.{malformed, mismatch}

-- "Default activation: 1, then 43 for an identity outside 5 to 15 or in use (house); else accept, and the bearer is a default without TFT."
abbrev pub available : Table → ℕ → Bool
available t bearer = is_identity bearer && is_idle (role_of t bearer)

unfoldable pub activate_default_of : Table → ℕ → Outcome
activate_default_of t bearer =
    pick (well_formed t)
    (pick (available t bearer) (answered (build (opened_view t (index_of bearer) Default)) (Accept bearer)) (rejected_with t bearer BearerIdentity)) (malformed t)

-- "Dedicated activation: as above, but step 3 refuses an identity outside 5 to 15 or in use (house) or a link to no active default with 43, and
-- step 5 refuses any operation but create with 41; a conflict on the default releases the connection, and the new bearer stays idle."
-- after step 5 the value is a create, which reads as a create or as a cause (`create_reads`): the cause, or laying the filters
abbrev pub activated_by : Verdict → Table → ℕ → ℕ → List Filter → Outcome
activated_by (refused_for refusal) t bearer link new = answered t (reject_for bearer refusal)
activated_by accepted t bearer link new = lay_of (build (opened_view t (index_of bearer) (Dedicated link))) bearer new true

unfoldable pub activate_read : Table → ℕ → ℕ → List ℕ → Outcome
activate_read t bearer link value =
    pick (eqb (operation_of value) create) (activated_by (verdict_on (read_element value).answer) t bearer link (read_element value).filters)
    (rejected_with t bearer TftSemantics)

unfoldable pub activate_named : Table → ℕ → ℕ → List ℕ → Outcome
activate_named t bearer link value =
    pick (available t bearer && is_default (role_of t link))
    (pick (head_fine value) (activate_read t bearer link value) (answered t (reject_head bearer))) (rejected_with t bearer BearerIdentity)

unfoldable pub activate_dedicated_of : Table → ℕ → ℕ → ℕ → List ℕ → Outcome
activate_dedicated_of t bearer link x value =
    pick (well_formed t) (pick (mismatch t x) (rejected_with t bearer Transaction) (activate_named (closed t x) bearer link value)) (malformed t)

-- "Deactivate: always accept with the received identity once the table is well formed; a default takes its connection along; a matching
-- transaction and those of bearers gone are closed; an unmatched identity is ignored (house)."
unfoldable pub deactivate_of : Table → ℕ → ℕ → Outcome
deactivate_of t bearer x = pick (well_formed t) (answered (dropped (closed t x) bearer) (Accept bearer)) (malformed t)

-- "Resource modification reject: closes the transaction; cause 43 also deactivates its bearer, and a default's connection." "Reject: 1, 3."
abbrev pub after_reject : Bool → Table → ℕ → Table
after_reject gone t x = pick gone (dropped (closed t x) (owner_of t x)) (closed t x)

unfoldable pub reject_of : Table → ℕ → ℕ → Outcome
reject_of t x cause =
    pick (well_formed t)
    (pick (is_open t x) (answered (after_reject (eqb cause (cause_number BearerIdentity)) t x) (Closed x)) (answered t (Refused NotOpen))) (malformed t)

-- "Start of a transaction records identity and bearer." "Start: 1, 4, 6, 7, 5."
unfoldable pub start_of : Table → ℕ → ℕ → Outcome
start_of t x bearer =
    pick (well_formed t)
    (pick (eqb x 0 || eqb x 255) (answered t (Refused NoIdentity))
    (pick (is_idle (role_of t bearer)) (answered t (Refused NoBearer))
    (pick (eqb (transaction_at t (index_of bearer)) 0)
    (pick (is_open t x) (answered t (Refused AlreadyOpen)) (answered (build (started_view t (index_of bearer) x)) (Started x)))
    (answered t (Refused BearerBusy))))) (malformed t)
