-- What a call gives: the new table, the answer, and the follow-up list.
use Rattle.std.specs.Prelude.{ℕ, List, [], length, None, Some}
use Rattle.laws.specs.Index.{pad}
use Rattle.table.specs.declared.bearer.Table.{Table}
use Rattle.table.specs.Bearers.{bearer_count}
use Rattle.element.specs.declared.answer.Refusal.{Refusal as ReadRefusal}
use Rattle.element.specs.declared.answer.Cause.{Cause as ReadCause}
use Rattle.element.specs.declared.answer.Cause.TheVariants.{Operation, Semantics, Coding}
use Rattle.calls.specs.declared.reply.Cause.{Cause}
use Rattle.calls.specs.declared.reply.Cause.TheVariants.{TftSemantics, TftSyntax, BearerIdentity, FilterSemantics, FilterSyntax, Transaction}
use Rattle.calls.specs.declared.reply.Refusal.{Refusal}
use Rattle.calls.specs.declared.reply.Refusal.TheVariants.{NotWellFormed, NotOpen, NoIdentity, AlreadyOpen, NoBearer, BearerBusy, StatusLength, UnknownMessage, MessageFraming}
use Rattle.calls.specs.declared.reply.Answer.{Answer}
use Rattle.calls.specs.declared.reply.Answer.TheVariants.{Accept, Reject, Release, Reattach, Started, Closed, Synchronised, Refused}
use Rattle.calls.specs.declared.reply.FollowUps.{FollowUps}
use Rattle.calls.specs.declared.reply.Outcome.{Outcome}

-- ---- "Numbers given"
abbrev pub cause_number : Cause → ℕ
cause_number TftSemantics = 41
cause_number TftSyntax = 42
cause_number BearerIdentity = 43
cause_number FilterSemantics = 44
cause_number FilterSyntax = 45
cause_number Transaction = 47

abbrev pub refusal_number : Refusal → ℕ
refusal_number NotWellFormed = 1
refusal_number NotOpen = 3
refusal_number NoIdentity = 4
refusal_number AlreadyOpen = 5
refusal_number NoBearer = 6
refusal_number BearerBusy = 7
refusal_number StatusLength = 12
refusal_number UnknownMessage = 15
refusal_number MessageFraming = 16

-- 0 where nothing is refused
abbrev pub number_of : Answer → ℕ
number_of (Accept bearer) = 0
number_of (Reject bearer cause place) = cause_number cause
number_of (Release default) = 0
number_of Reattach = 0
number_of (Started transaction) = 0
number_of (Closed transaction) = 0
number_of Synchronised = 0
number_of (Refused refusal) = refusal_number refusal

-- the reader's cause, in the reply
abbrev pub cause_of : ReadCause → Cause
cause_of Operation = TftSyntax
cause_of Semantics = FilterSemantics
cause_of Coding = FilterSyntax

-- ---- The place of a reject, counted in the element's value
-- "Every refusal of the element reader should carry a place": the reader's, passed on
abbrev pub reject_for : ℕ → ReadRefusal → Answer
reject_for bearer refusal = Reject bearer (cause_of refusal.cause) (Some refusal.place)

-- step 4: "Length, operation or count wrong: 0."
abbrev pub reject_head : ℕ → Answer
reject_head bearer = Reject bearer TftSyntax (Some 0)

-- what is not the reader's to say, 41, 43 and 47, has none
abbrev pub reject : ℕ → Cause → Answer
reject bearer cause = Reject bearer cause None

-- "the follow-up list in rising identity": a count, and zero beyond it
abbrev pub follow_of : List ℕ → FollowUps
follow_of xs = record { count = length xs; bearers = pad bearer_count xs }

abbrev pub outcome : Table → Answer → List ℕ → Outcome
outcome t answer xs = record { table = t; reply = record { answer = answer; follow = follow_of xs } }

abbrev pub answered : Table → Answer → Outcome
answered t answer = outcome t answer []

abbrev pub rejected_with : Table → ℕ → Cause → Outcome
rejected_with t bearer cause = answered t (reject bearer cause)
