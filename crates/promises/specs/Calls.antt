-- The calls on a table, as values, and a sequence of them: the six, the taking of a status and the handling of a message. The numbers that may be given.
use Rattle.std.specs.Prelude.{ℕ, ◌^◌, ◌<◌, not, ◌&&◌, List, [], ◌∷◌, Result, Ok, Err}
use Rattle.laws.specs.Says.{pick}
use Rattle.laws.specs.Lists.{All}
use Rattle.element.specs.Meaning.{Octet}
use Rattle.element.specs.Portions.{PortionCall, announce, feed, finish}
use Rattle.table.specs.declared.bearer.Table.{Table}
use Rattle.table.specs.Tables.{empty_table}
use Rattle.table.specs.WellFormed.{well_formed}
use Rattle.calls.specs.declared.reply.Reply.{Reply}
use Rattle.calls.specs.declared.reply.Outcome.{Outcome}
use Rattle.calls.specs.Steps.{closed}
use Rattle.calls.specs.Modify.{mismatch, modify_of}
use Rattle.calls.specs.Others.{activate_default_of, activate_dedicated_of, deactivate_of, reject_of, start_of}
use Rattle.status.specs.Take.{synchronise_of}
use Rattle.messages.specs.declared.layout.Kind.{Kind}
use Rattle.messages.specs.declared.layout.Kind.TheVariants.{DedicatedRequest, DedicatedAccept, DedicatedReject, ModifyRequest, ModifyAccept}
use Rattle.messages.specs.declared.layout.Kind.TheVariants.{ModifyReject, DeactivateRequest, DeactivateAccept, ModificationReject}
use Rattle.messages.specs.declared.layout.Fault.{Fault}
use Rattle.messages.specs.Read.{Fields}
use Rattle.messages.specs.Handle.{asked_by, handle_of}

-- a call, with any arguments
pub data Call : Type 0 where
  activate_default : (bearer : ℕ) → Call
  activate_dedicated : (bearer link transaction : ℕ) → (value : List ℕ) → Call
  modify : (bearer transaction : ℕ) → (value : List ℕ) → Call
  deactivate : (bearer transaction : ℕ) → Call
  reject : (transaction cause : ℕ) → Call
  start : (transaction bearer : ℕ) → Call
  synchronise : (value : List ℕ) → Call
  handle : (message : List ℕ) → Call

-- what the eight functions give on a table ..
pub record Outcomes : Type 0 where
  pub default : (bearer : ℕ) → Outcome
  pub dedicated : (bearer link transaction : ℕ) → (value : List ℕ) → Outcome
  pub modified : (bearer transaction : ℕ) → (value : List ℕ) → Outcome
  pub deactivated : (bearer transaction : ℕ) → Outcome
  pub rejected : (transaction cause : ℕ) → Outcome
  pub started : (transaction bearer : ℕ) → Outcome
  pub synchronised : (value : List ℕ) → Outcome
  pub handled : (message : List ℕ) → Outcome

-- .. by the definition that the contract of the function cites
abbrev pub outcomes : Table → Outcomes
outcomes t =
    record {
      default = activate_default_of t;
      dedicated = activate_dedicated_of t;
      modified = modify_of t;
      deactivated = deactivate_of t;
      rejected = reject_of t;
      started = start_of t;
      synchronised = synchronise_of t;
      handled = λ message. (handle_of t message).outcome;
    }

module _ (give : Table → Outcomes) where
  -- the outcome of a call
  abbrev pub outcome_by : Table → Call → Outcome
  outcome_by t (activate_default bearer) = (give t).default bearer
  outcome_by t (activate_dedicated bearer link transaction value) = (give t).dedicated bearer link transaction value
  outcome_by t (modify bearer transaction value) = (give t).modified bearer transaction value
  outcome_by t (deactivate bearer transaction) = (give t).deactivated bearer transaction
  outcome_by t (reject transaction cause) = (give t).rejected transaction cause
  outcome_by t (start transaction bearer) = (give t).started transaction bearer
  outcome_by t (synchronise value) = (give t).synchronised value
  outcome_by t (handle message) = (give t).handled message

  -- each table is fed into the next call; refused calls are in the list like any other
  unfoldable pub run_by : Table → List Call → Table
  run_by t [] = t
  run_by t (c ∷ cs) = run_by (outcome_by t c).table cs

  -- what each call of a sequence replies, on the table that the calls before it left: the answer, and the follow-up list
  unfoldable pub replies_by : Table → List Call → List Reply
  replies_by t [] = []
  replies_by t (c ∷ cs) = (outcome_by t c).reply ∷ replies_by (outcome_by t c).table cs

abbrev pub outcome_of : Table → Call → Outcome
outcome_of = outcome_by outcomes

abbrev pub run : Table → List Call → Table
run = run_by outcomes

abbrev pub replies : Table → List Call → List Reply
replies = replies_by outcomes

abbrev pub reached : List Call → Table
reached cs = run empty_table cs

-- what is asked of a call's arguments, and no more: an element's or a message's octets are octets, and a transaction that is started is a number of its type
abbrev pub Sent : Call → Type 0
Sent (activate_default bearer) = Unit {0}
Sent (activate_dedicated bearer link transaction value) = All Octet value
Sent (modify bearer transaction value) = All Octet value
Sent (deactivate bearer transaction) = Unit {0}
Sent (reject transaction cause) = Unit {0}
Sent (start transaction bearer) = transaction < 2 ^ 8
Sent (synchronise value) = Unit {0}
Sent (handle message) = All Octet message

-- "Numbers given", and 12 to 16: of these, those that a message may give; 0 where nothing is refused
abbrev pub message_numbers : List ℕ
message_numbers = 0 ∷ 1 ∷ 41 ∷ 42 ∷ 43 ∷ 44 ∷ 45 ∷ 47 ∷ []

-- .. and any call
abbrev pub numbers_of : Call → List ℕ
numbers_of (activate_default bearer) = 0 ∷ 1 ∷ 43 ∷ []
numbers_of (activate_dedicated bearer link transaction value) = message_numbers
numbers_of (modify bearer transaction value) = message_numbers
numbers_of (deactivate bearer transaction) = 0 ∷ 1 ∷ []
numbers_of (reject transaction cause) = 0 ∷ 1 ∷ 3 ∷ []
numbers_of (start transaction bearer) = 0 ∷ 1 ∷ 4 ∷ 5 ∷ 6 ∷ 7 ∷ []
numbers_of (synchronise value) = 0 ∷ 1 ∷ 12 ∷ []
numbers_of (handle message) = 0 ∷ 1 ∷ 3 ∷ 15 ∷ 16 ∷ 41 ∷ 42 ∷ 43 ∷ 44 ∷ 45 ∷ 47 ∷ []

-- .. those that the reader, the writer, the answer to any call, a route and the writing of a status may have
abbrev pub reader_numbers : List ℕ
reader_numbers = 0 ∷ 42 ∷ 44 ∷ 45 ∷ []

abbrev pub writer_numbers : List ℕ
writer_numbers = 0 ∷ 10 ∷ 11 ∷ 9 ∷ []

abbrev pub reply_numbers : List ℕ
reply_numbers = 0 ∷ 1 ∷ 3 ∷ 4 ∷ 5 ∷ 6 ∷ 7 ∷ 12 ∷ 15 ∷ 16 ∷ 41 ∷ 42 ∷ 43 ∷ 44 ∷ 45 ∷ 47 ∷ []

abbrev pub route_numbers : List ℕ
route_numbers = 0 ∷ 1 ∷ 8 ∷ 2 ∷ []

abbrev pub status_numbers : List ℕ
status_numbers = 0 ∷ 1 ∷ 9 ∷ []

-- .. and an announcement, a portion and a finish
abbrev pub portion_numbers : PortionCall → List ℕ
portion_numbers (announce n) = 0 ∷ 42 ∷ []
portion_numbers (feed portion) = 0 ∷ 13 ∷ []
portion_numbers finish = 0 ∷ 13 ∷ 14 ∷ 42 ∷ 44 ∷ 45 ∷ []

-- .. and, of 5/14, the reader of a message and its writer
abbrev pub parsed_numbers : List ℕ
parsed_numbers = 0 ∷ 15 ∷ 16 ∷ []

abbrev pub assembled_numbers : List ℕ
assembled_numbers = 0 ∷ 15 ∷ 9 ∷ []

-- the table as a refusal leaves it: "A match is closed, whatever follows."
abbrev pub matched_in : Table → ℕ → Table
matched_in t transaction = pick (well_formed t && not (mismatch t transaction)) (closed t transaction) t

-- by the kind of a message: an activation and a modify match their transaction at step 2
abbrev pub left_by_kind : Kind → Table → ℕ → Table
left_by_kind (DedicatedRequest link) t transaction = matched_in t transaction
left_by_kind ModifyRequest t transaction = matched_in t transaction
left_by_kind (DeactivateRequest why) t transaction = t
left_by_kind (ModificationReject why) t transaction = t
left_by_kind DedicatedAccept t transaction = t
left_by_kind (DedicatedReject why) t transaction = t
left_by_kind ModifyAccept t transaction = t
left_by_kind (ModifyReject why) t transaction = t
left_by_kind DeactivateAccept t transaction = t

abbrev pub left_by_said : Result Fields Fault → Table → Table
left_by_said (Err fault) t = t
left_by_said (Ok f) t = left_by_kind f.kind t f.transaction

abbrev pub left_by : Table → Call → Table
left_by t (activate_default bearer) = t
left_by t (activate_dedicated bearer link transaction value) = matched_in t transaction
left_by t (modify bearer transaction value) = matched_in t transaction
left_by t (deactivate bearer transaction) = t
left_by t (reject transaction cause) = t
left_by t (start transaction bearer) = t
left_by t (synchronise value) = t
left_by t (handle message) = left_by_said (asked_by message) t
