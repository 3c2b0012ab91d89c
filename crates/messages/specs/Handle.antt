-- A message handled: the call that it makes, and the answer as a message.
use Rattle.std.specs.Prelude.{ℕ, List, [], ◌∷◌, length, get_or, Option, Some, None, Result, Ok, Err}
use Rattle.laws.specs.Says.{pick}
use Rattle.laws.specs.Index.{pad}
use Rattle.laws.specs.Lists.{is_in}
use Rattle.table.specs.declared.bearer.Table.{Table}
use Rattle.table.specs.Bearers.{is_idle, role_of}
use Rattle.table.specs.WellFormed.{well_formed}
use Rattle.calls.specs.declared.reply.Cause.TheVariants.{BearerIdentity, Transaction}
use Rattle.calls.specs.declared.reply.Refusal.{Refusal}
use Rattle.calls.specs.declared.reply.Refusal.TheVariants.{UnknownMessage, MessageFraming}
use Rattle.calls.specs.declared.reply.Answer.{Answer}
use Rattle.calls.specs.declared.reply.Answer.TheVariants.{Accept, Reject, Refused}
use Rattle.calls.specs.declared.reply.Outcome.{Outcome}
use Rattle.calls.specs.Reply.{cause_number, answered, rejected_with}
use Rattle.calls.specs.Steps.{closed}
use Rattle.calls.specs.Modify.{malformed, mismatch, modify_of}
use Rattle.calls.specs.Others.{activate_dedicated_of, deactivate_of, reject_of}
use Rattle.messages.specs.declared.layout.Kind.{Kind}
use Rattle.messages.specs.declared.layout.Kind.TheVariants.{DedicatedRequest, DedicatedAccept, DedicatedReject, ModifyRequest, ModifyAccept}
use Rattle.messages.specs.declared.layout.Kind.TheVariants.{ModifyReject, DeactivateRequest, DeactivateAccept, ModificationReject}
use Rattle.messages.specs.declared.layout.Message.{Message}
use Rattle.messages.specs.declared.layout.Fault.{Fault}
use Rattle.messages.specs.declared.layout.Fault.TheVariants.{Unknown, Framing}
use Rattle.messages.specs.declared.handle.AnswerMessage.{AnswerMessage}
use Rattle.messages.specs.declared.handle.Answered.{Answered}
use Rattle.messages.specs.declared.handle.Handled.{Handled}
use Rattle.messages.specs.Read.{read_of, Fields, said_by}
use Rattle.messages.specs.Write.{value_of, octets_of}

-- ---- "15 for another discriminator or type, and for a reply type (C6, C7, CA, CB, CE) where a message is handled": before its framing is looked at
abbrev pub reply_types : List ℕ
reply_types = 0xC6 ∷ 0xC7 ∷ 0xCA ∷ 0xCB ∷ 0xCE ∷ []

unfoldable pub request_of : List ℕ → Result Message Fault
request_of message = pick (is_in (get_or message 2 0) reply_types) (Err Unknown) (read_of message)

abbrev pub asked_by : List ℕ → Result Fields Fault
asked_by message = said_by (request_of message) message

-- ---- The call
-- "A modify without a TFT is accepted after steps 1 to 3 and changes nothing but a closed transaction."
unfoldable pub accept_of : Table → ℕ → ℕ → Outcome
accept_of t bearer x =
    pick (well_formed t)
    (pick (mismatch t x) (rejected_with t bearer Transaction)
    (pick (is_idle (role_of (closed t x) bearer)) (rejected_with (closed t x) bearer BearerIdentity) (answered (closed t x) (Accept bearer)))) (malformed t)

abbrev pub modify_by : Option (List ℕ) → Table → ℕ → ℕ → Outcome
modify_by None t bearer x = accept_of t bearer x
modify_by (Some value) t bearer x = modify_of t bearer x value

-- "Refusals, before any check" but the one that gives 1
abbrev pub refusal_of : Fault → Refusal
refusal_of Unknown = UnknownMessage
refusal_of Framing = MessageFraming

abbrev pub refused_of : Fault → Table → Outcome
refused_of fault t = pick (well_formed t) (answered t (Refused (refusal_of fault))) (malformed t)

-- a dedicated request always has a TFT; a reply is never asked here
abbrev pub call_by : Kind → Option (List ℕ) → Table → ℕ → ℕ → Outcome
call_by (DedicatedRequest link) tft t bearer x = activate_dedicated_of t bearer link x (value_of tft)
call_by ModifyRequest tft t bearer x = modify_by tft t bearer x
call_by (DeactivateRequest why) tft t bearer x = deactivate_of t bearer x
call_by (ModificationReject why) tft t bearer x = reject_of t x why
call_by DedicatedAccept tft t bearer x = refused_of Unknown t
call_by (DedicatedReject why) tft t bearer x = refused_of Unknown t
call_by ModifyAccept tft t bearer x = refused_of Unknown t
call_by (ModifyReject why) tft t bearer x = refused_of Unknown t
call_by DeactivateAccept tft t bearer x = refused_of Unknown t

abbrev pub call_of : Fields → Table → Outcome
call_of f t = call_by f.kind f.tft t f.bearer f.transaction

-- ---- The answer as a message: accept gives C6, CA, CE, reject gives C7, CB with the cause; of the others nothing is sent
abbrev pub accepting : Kind → Option Kind
accepting (DedicatedRequest link) = Some DedicatedAccept
accepting ModifyRequest = Some ModifyAccept
accepting (DeactivateRequest why) = Some DeactivateAccept
accepting _ = None

abbrev pub rejecting : Kind → ℕ → Option Kind
rejecting (DedicatedRequest link) number = Some (DedicatedReject number)
rejecting ModifyRequest number = Some (ModifyReject number)
rejecting _ number = None

abbrev pub sending_of : Kind → Answer → Option Kind
sending_of kind (Accept bearer) = accepting kind
sending_of kind (Reject bearer cause place) = rejecting kind (cause_number cause)
sending_of kind _ = None

-- bearer identity as received, transaction identity 0: "no procedure transaction identity assigned"
abbrev pub reply_fields : Kind → ℕ → Fields
reply_fields kind bearer = record { kind = kind; bearer = bearer; transaction = 0; tft = None }

abbrev pub sent_by : Option Kind → ℕ → List ℕ
sent_by None bearer = []
sent_by (Some kind) bearer = octets_of (reply_fields kind bearer)

-- a count, and zero beyond it
abbrev pub answer_octets : ℕ
answer_octets = 4

abbrev pub message_of : List ℕ → AnswerMessage
message_of xs = record { count = length xs; octets = pad answer_octets xs }

abbrev pub answer_to : Fields → Outcome → AnswerMessage
answer_to f o = message_of (sent_by (sending_of f.kind o.reply.answer) f.bearer)

-- a lent table as it is left, and what came of the message
abbrev pub handled : Table → Answered → Handled
handled t a = record { outcome = record { table = t; reply = a.reply }; answer = a.answer }

abbrev pub handled_by : Result Fields Fault → Table → Handled
handled_by (Err fault) t = record { outcome = refused_of fault t; answer = message_of [] }
handled_by (Ok f) t = record { outcome = call_of f t; answer = answer_to f (call_of f t) }

unfoldable pub handle_of : Table → List ℕ → Handled
handle_of t message = handled_by (asked_by message) t
