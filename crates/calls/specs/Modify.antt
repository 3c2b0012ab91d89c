-- "Order of checks for a modify message"
use Rattle.std.specs.Prelude.{ℕ, Bool, true, false, not, ◌&&◌, List, eqb, replicate}
use Rattle.laws.specs.Says.{pick}
use Rattle.element.specs.declared.answer.SetOperation.{SetOperation}
use Rattle.element.specs.declared.answer.SetOperation.TheVariants.{Create, Add, Replace}
use Rattle.element.specs.declared.answer.BareOperation.TheVariants.{DeleteTft, NoOperation}
use Rattle.element.specs.declared.answer.Answer.{Answer as ReadAnswer}
use Rattle.element.specs.declared.answer.Answer.TheVariants.{Filters, Identifiers, Bare, Refused as read_refused}
use Rattle.element.specs.declared.answer.Element.{Element}
use Rattle.element.specs.Head.{delete_tft, operation_of, head_fine}
use Rattle.element.specs.Read.{read_element}
use Rattle.table.specs.declared.bearer.Table.{Table}
use Rattle.filter.specs.Sizes.{place_count}
use Rattle.table.specs.Bearers.{index_of, is_idle, is_dedicated, role_of}
use Rattle.table.specs.Tables.{build}
use Rattle.table.specs.WellFormed.{well_formed}
use Rattle.calls.specs.declared.reply.Cause.TheVariants.{TftSemantics, BearerIdentity, Transaction}
use Rattle.calls.specs.declared.reply.Refusal.TheVariants.{NotWellFormed}
use Rattle.calls.specs.declared.reply.Answer.TheVariants.{Accept, Refused}
use Rattle.calls.specs.declared.reply.Outcome.{Outcome}
use Rattle.calls.specs.Reply.{reject_for, reject_head, answered, rejected_with}
use Rattle.calls.specs.Steps.{is_open, closed, empties}
use Rattle.table.specs.Changes.{deleted_view}
use Rattle.calls.specs.Lay.{lay_of}

-- Step 1: "Table not well formed: 1."
abbrev pub malformed : Table → Outcome
malformed t = answered t (Refused NotWellFormed)

-- Step 2: "Transaction identity 1 to 254 not open, or 255 (house): 47. 0 means none."
abbrev pub mismatch : Table → ℕ → Bool
mismatch t x = not (eqb x 0) && not (is_open t x)

-- ---- Then: "create puts the new set in place of the old. .. Add and replace lay the new filters over the old by identifier"
abbrev pub creates : SetOperation → Bool
creates Create = true
creates Add = false
creates Replace = false

-- Step 10: "Delete filters that empties a TFT with filters, dedicated bearer: 41."
unfoldable pub deleted_filters : Table → ℕ → List Bool → Outcome
deleted_filters t bearer marks =
    pick (is_dedicated (role_of t bearer) && empties t (index_of bearer) marks) (rejected_with t bearer TftSemantics)
    (answered (build (deleted_view t (index_of bearer) marks)) (Accept bearer))

-- "Delete TFT removes a default's TFT."
unfoldable pub deleted_tft : Table → ℕ → Outcome
deleted_tft t bearer = answered (build (deleted_view t (index_of bearer) (replicate place_count true))) (Accept bearer)

-- Steps 6 to 9 are the reader's
abbrev pub modified_by : ReadAnswer → Table → ℕ → Element → Outcome
modified_by (read_refused refusal) t bearer e = answered t (reject_for bearer refusal)
modified_by (Filters operation) t bearer e = lay_of t bearer e.filters (creates operation)
modified_by Identifiers t bearer e = deleted_filters t bearer e.marks
modified_by (Bare DeleteTft) t bearer e = deleted_tft t bearer
modified_by (Bare NoOperation) t bearer e = answered t (Accept bearer)

-- Step 5: "Delete TFT on a dedicated bearer, with or without a TFT: 41."
unfoldable pub modify_read : Table → ℕ → List ℕ → Outcome
modify_read t bearer value =
    pick (is_dedicated (role_of t bearer) && eqb (operation_of value) delete_tft) (rejected_with t bearer TftSemantics)
    (modified_by (read_element value).answer t bearer (read_element value))

-- Step 3: "Bearer not 5 to 15, or idle: 43." Step 4: "Value length 0 or above 255, operation 0 or 7: 42."
unfoldable pub modify_named : Table → ℕ → List ℕ → Outcome
modify_named t bearer value =
    pick (is_idle (role_of t bearer)) (rejected_with t bearer BearerIdentity)
    (pick (head_fine value) (modify_read t bearer value) (answered t (reject_head bearer)))

unfoldable pub modify_of : Table → ℕ → ℕ → List ℕ → Outcome
modify_of t bearer x value =
    pick (well_formed t) (pick (mismatch t x) (rejected_with t bearer Transaction) (modify_named (closed t x) bearer value)) (malformed t)
