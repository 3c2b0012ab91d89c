-- DEMAND 1. Every table, message, header and byte string gets an answer from the list. A refusal gives its number and leaves the table
-- and lent bytes unchanged (a transaction matched at step 2 is still closed). No caller has to check first.
-- Assumes nothing.
use mathlib.Core.Path.{◌≡◌, refl, ◌∙◌, ap, subst}
use mathlib.Core.Bool.{Bool, true, false}
use mathlib.Core.List.{List, [], ◌∷◌, ◌++◌}
use Prim.Native.Nat.{ℕ, ◌+◌, ◌≤◌}
use lib.Dec.{leb}
use lib.ListN.{length}
use Rattle.std.specs.Prelude.{Option, Some, None, Result, Ok, Err}
use Rattle.laws.specs.Lists.{is_in}
use Rattle.laws.proofs.Says.{picked}
use Rattle.laws.proofs.Joined.{in_holds}
use Rattle.filter.specs.declared.packet.Header.{Header}
use Rattle.element.specs.declared.answer.Cause.{Cause}
use Rattle.element.specs.declared.answer.Cause.TheVariants.{Operation, Semantics, Coding}
use Rattle.element.specs.declared.answer.Answer.{Answer}
use Rattle.element.specs.declared.answer.Answer.TheVariants.{Filters, Identifiers, Bare, Refused}
use Rattle.element.specs.declared.answer.Element.{Element}
use Rattle.element.specs.declared.entries.Handed.{Handed}
use Rattle.element.specs.declared.entries.Handed.TheVariants.{Filter, Identifier, Refused as refused_at_once, End}
use Rattle.element.specs.declared.write.Unwritten.{Unwritten}
use Rattle.element.specs.declared.write.Unwritten.TheVariants.{NotGiven, TooLong, NoRoom}
use Rattle.element.specs.declared.portions.Portions.{Portions}
use Rattle.element.specs.declared.portions.Finished.{Finished}
use Rattle.element.specs.Head.{longest}
use Rattle.element.specs.Numbers.{cause_number, number_of, handed_number, written_number, portions_number, finish_number}
use Rattle.element.specs.Read.{read_element}
use Rattle.element.specs.Entries.{nth_of, first_offset, look_at, after_all}
use Rattle.element.specs.Write.{octets_of, given, written_by, write_of}
use Rattle.element.specs.Portions.{PortionsOutcome, fed_of, sound, takes, announce_of, feed_of, finish_of, PortionCall, announce, feed, finish, state_after, number_at}
use Rattle.element.proofs.Divided.{refused_stays, refused_anywhere, finish_anywhere, announce_gives}
use Rattle.element.proofs.Stepping.{nth_steps, nth_number}
use Rattle.table.specs.declared.bearer.Table.{Table}
use Rattle.table.specs.Ranges.{TableInRange}
use Rattle.table.specs.WellFormed.{well_formed}
use Rattle.calls.specs.declared.reply.Cause.TheVariants.{TftSemantics, TftSyntax, BearerIdentity, FilterSemantics, FilterSyntax, Transaction}
use Rattle.calls.specs.declared.reply.Refusal.TheVariants.{NotWellFormed as not_well_formed, NotOpen, NoIdentity, AlreadyOpen, NoBearer, BearerBusy, StatusLength, UnknownMessage, MessageFraming}
use Rattle.calls.specs.declared.reply.Answer.{Answer as CallAnswer}
use Rattle.calls.specs.declared.reply.Answer.TheVariants.{Accept, Reject, Release, Reattach, Started, Closed, Synchronised, Refused as call_refused}
use Rattle.calls.specs.declared.reply.Outcome.{Outcome}
use Rattle.calls.specs.Reply.{number_of as call_number, answered}
use Rattle.calls.specs.Modify.{malformed, modify_of}
use Rattle.calls.specs.Others.{activate_dedicated_of, deactivate_of, reject_of}
use Rattle.calls.specs.Changes.{Sound, RefusalLeaves, Gives, MatchClosed}
use Rattle.calls.specs.Checks.{Open, LeftBy}
use Rattle.calls.proofs.Closing.{modify_match, activate_match, left_says}
use Rattle.calls.proofs.Answers.{modify_gives, activate_dedicated_gives, activate_default_gives, deactivate_gives, reject_gives, start_gives}
use Rattle.calls.proofs.Theorems.{activate_default_malformed, activate_dedicated_malformed, modify_malformed, deactivate_malformed, reject_malformed, start_malformed, modify_refused, activate_dedicated_refused, activate_default_refused, deactivate_refused, reject_refused, start_refused}
use Rattle.status.specs.declared.write.StatusUnwritten.{StatusUnwritten}
use Rattle.status.specs.declared.write.StatusUnwritten.TheVariants.{NotWellFormed as status_malformed, NoRoom as status_no_room}
use Rattle.status.specs.Write.{status_number, write_status_of}
use Rattle.status.proofs.Taking.{synchronise_malformed}
use Rattle.status.proofs.Theorems.{status_leaves, synchronise_gives, synchronise_refused}
use Rattle.messages.specs.declared.layout.Kind.{Kind}
use Rattle.messages.specs.declared.layout.Kind.TheVariants.{DedicatedRequest, DedicatedAccept, DedicatedReject, ModifyRequest, ModifyAccept}
use Rattle.messages.specs.declared.layout.Kind.TheVariants.{ModifyReject, DeactivateRequest, DeactivateAccept, ModificationReject}
use Rattle.messages.specs.declared.layout.Fault.{Fault}
use Rattle.messages.specs.declared.layout.Fault.TheVariants.{Unknown, Framing}
use Rattle.messages.specs.declared.layout.Part.{Part}
use Rattle.messages.specs.declared.layout.Message.{Message as WholeMessage}
use Rattle.messages.specs.declared.write.MessageUnwritten.{MessageUnwritten}
use Rattle.messages.specs.declared.write.MessageUnwritten.TheVariants.{Unreadable, NoRoom as message_no_room}
use Rattle.messages.specs.Read.{parsed_number, read_of, Fields}
use Rattle.messages.specs.Write.{writable, value_of, octets_of as message_octets, message_number, MessageOutcome, write_of as write_message_of}
use Rattle.messages.specs.Handle.{asked_by, refusal_of, refused_of, call_by, handled_by, handle_of}
use Rattle.messages.specs.Inner.Walk.{Inside}
use Rattle.messages.proofs.Inside.{tft_inside}
use Rattle.messages.proofs.Accepting.{no_operation_lem}
use Rattle.messages.proofs.Carried.{carried}
use Rattle.std.specs.Prelude.{Result, Ok, Err}
use Rattle.route.specs.declared.answer.Route.{Route}
use Rattle.route.specs.declared.answer.Refusal.{Refusal as RouteRefusal}
use Rattle.route.specs.declared.answer.Refusal.TheVariants.{NotWellFormed, NoDefault, InvalidHeader}
use Rattle.route.specs.declared.answer.Why.{Why}
use Rattle.route.specs.Routes.{number_of as route_number, route_of}
use Rattle.route.specs.Why.{why_number, why_of, routed_by}
use Rattle.route.proofs.Whys.{number_same}
use Rattle.promises.specs.Calls.{Call, activate_default, activate_dedicated, modify, deactivate, reject, start, synchronise, handle, outcome_of, matched_in, left_by_kind, left_by_said, left_by}
use Rattle.promises.specs.Messages.{Message, modifies, activates, transaction_of, without_transaction, handled}
use Rattle.promises.specs.Calls.{numbers_of, reader_numbers, writer_numbers, reply_numbers, route_numbers, status_numbers, portion_numbers, message_numbers, parsed_numbers, assembled_numbers}

-- a message that is handled has the numbers of the calls, and its own refusals
message_answers : (t : Table) (message : List ℕ) → Gives (numbers_of (handle message)) (handle_of t message).outcome
unfolding is_in
message_answers t message =
    carried t (Gives numbers)
    (λ fault. picked (Gives numbers) (well_formed t) _ _ (by fault) refl)
    (λ bearer link x value. in_holds Among message_numbers (refl, (refl, (refl, (refl, (refl, (refl, (refl, (refl, tt)))))))) (number (activate_dedicated_of t bearer link x value)) (activate_dedicated_gives t bearer link x value))
    (λ bearer x value. in_holds Among message_numbers (refl, (refl, (refl, (refl, (refl, (refl, (refl, (refl, tt)))))))) (number (modify_of t bearer x value)) (modify_gives t bearer x value))
    (λ bearer x. in_holds Among (0 ∷ 1 ∷ []) (refl, (refl, tt)) (number (deactivate_of t bearer x)) (deactivate_gives t bearer x))
    (λ x why. in_holds Among (0 ∷ 1 ∷ 3 ∷ []) (refl, (refl, (refl, tt))) (number (reject_of t x why)) (reject_gives t x why)) message
  where
    numbers : List ℕ
    numbers = numbers_of (handle message)

    Among : ℕ → Type 0
    Among n = is_in n numbers ≡ true

    number : Outcome → ℕ
    number o = call_number o.reply.answer

    by : (fault : Fault) → Gives numbers (answered t (call_refused (refusal_of fault)))
    by Unknown = refl
    by Framing = refl

-- "Every table, message .. gets an answer from the list": of the numbers given, those of the call
pub call_answers : (t : Table) (c : Call) → Gives (numbers_of c) (outcome_of t c)
call_answers t (activate_default bearer) = activate_default_gives t bearer
call_answers t (activate_dedicated bearer link transaction value) = activate_dedicated_gives t bearer link transaction value
call_answers t (modify bearer transaction value) = modify_gives t bearer transaction value
call_answers t (deactivate bearer transaction) = deactivate_gives t bearer transaction
call_answers t (reject transaction cause) = reject_gives t transaction cause
call_answers t (start transaction bearer) = start_gives t transaction bearer
call_answers t (synchronise value) = synchronise_gives t value
call_answers t (handle message) = message_answers t message

-- ---- "an answer from the list": every value of an answer's type has a number of the list, so no function that gives an answer, or the number
-- of one, gives any other
cause_numbers : (c : Cause) → is_in (cause_number c) reader_numbers ≡ true
unfolding is_in
cause_numbers Operation = refl
cause_numbers Semantics = refl
cause_numbers Coding = refl

pub read_numbers : (a : Answer) → is_in (number_of a) reader_numbers ≡ true
unfolding is_in
read_numbers (Filters operation) = refl
read_numbers Identifiers = refl
read_numbers (Bare operation) = refl
read_numbers (Refused refusal) = cause_numbers refusal.cause

pub handed_numbers : (h : Handed) → is_in (handed_number h) reader_numbers ≡ true
unfolding is_in
handed_numbers (Filter identifier f) = refl
handed_numbers (Identifier identifier) = refl
handed_numbers (refused_at_once refusal) = cause_numbers refusal.cause
handed_numbers End = refl

pub written_numbers : (w : Result ℕ Unwritten) → is_in (written_number w) writer_numbers ≡ true
unfolding is_in
written_numbers (Ok n) = refl
written_numbers (Err NotGiven) = refl
written_numbers (Err TooLong) = refl
written_numbers (Err NoRoom) = refl

pub reply_numbers_lem : (a : CallAnswer) → is_in (call_number a) reply_numbers ≡ true
unfolding is_in
reply_numbers_lem (Accept bearer) = refl
reply_numbers_lem (Reject bearer TftSemantics place) = refl
reply_numbers_lem (Reject bearer TftSyntax place) = refl
reply_numbers_lem (Reject bearer BearerIdentity place) = refl
reply_numbers_lem (Reject bearer FilterSemantics place) = refl
reply_numbers_lem (Reject bearer FilterSyntax place) = refl
reply_numbers_lem (Reject bearer Transaction place) = refl
reply_numbers_lem (Release default) = refl
reply_numbers_lem Reattach = refl
reply_numbers_lem (Started transaction) = refl
reply_numbers_lem (Closed transaction) = refl
reply_numbers_lem Synchronised = refl
reply_numbers_lem (call_refused not_well_formed) = refl
reply_numbers_lem (call_refused NotOpen) = refl
reply_numbers_lem (call_refused NoIdentity) = refl
reply_numbers_lem (call_refused AlreadyOpen) = refl
reply_numbers_lem (call_refused NoBearer) = refl
reply_numbers_lem (call_refused BearerBusy) = refl
reply_numbers_lem (call_refused StatusLength) = refl
reply_numbers_lem (call_refused UnknownMessage) = refl
reply_numbers_lem (call_refused MessageFraming) = refl

pub routed_numbers : (a : Result Route RouteRefusal) → is_in (route_number a) route_numbers ≡ true
unfolding is_in
routed_numbers (Ok route) = refl
routed_numbers (Err NotWellFormed) = refl
routed_numbers (Err NoDefault) = refl
routed_numbers (Err InvalidHeader) = refl

pub why_tells : (a : Result Why RouteRefusal) → is_in (why_number a) route_numbers ≡ true
why_tells a = ap (λ (n : ℕ). is_in n route_numbers) (number_same a) ∙ routed_numbers (routed_by a)

pub status_written_numbers : (w : Result (Unit {0}) StatusUnwritten) → is_in (status_number w) status_numbers ≡ true
unfolding is_in
status_written_numbers (Ok done) = refl
status_written_numbers (Err status_malformed) = refl
status_written_numbers (Err status_no_room) = refl

-- ".. header .."
pub why_answers : (t : Table) (default : ℕ) (h : Header) → is_in (why_number (why_of t default h)) route_numbers ≡ true
why_answers t default h = why_tells (why_of t default h)

pub route_answers : (t : Table) (default : ℕ) (h : Header) → is_in (route_number (route_of t default h)) route_numbers ≡ true
route_answers t default h = routed_numbers (route_of t default h)

-- ".. and byte string": the reader's causes
pub element_answers : (value : List ℕ) → is_in (number_of (read_element value).answer) reader_numbers ≡ true
element_answers value = read_numbers (read_element value).answer

-- .. the reader that hands out entries, at whatever offset; entry n, and what comes after n steps from the beginning, has the number that the reader gives
pub entry_answers : (value : List ℕ) (at : ℕ) → is_in (handed_number (look_at value at)) reader_numbers ≡ true
entry_answers value at = handed_numbers (look_at value at)

pub nth_answers : (value : List ℕ) (n : ℕ) → is_in (handed_number (nth_of value n)) reader_numbers ≡ true
nth_answers value n = handed_numbers (nth_of value n)

pub nth_is_readers : (value : List ℕ) (n : ℕ) → handed_number (nth_of value n) ≡ number_of (read_element value).answer
nth_is_readers = nth_number

pub stepped_is_readers : (value : List ℕ) (n : ℕ) → handed_number (look_at value (after_all value (first_offset value) n)) ≡ number_of (read_element value).answer
stepped_is_readers value n = ap handed_number (nth_steps value n) ∙ nth_number value n

-- .. the calls by which an element arrives split, on every state
reader_too : (a : Answer) → is_in (number_of a) (portion_numbers finish) ≡ true
unfolding is_in
reader_too (Filters operation) = refl
reader_too Identifiers = refl
reader_too (Bare operation) = refl
reader_too (Refused refusal) = go refusal.cause
  where
    go : (c : Cause) → is_in (cause_number c) (portion_numbers finish) ≡ true
    go Operation = refl
    go Semantics = refl
    go Coding = refl

pub portions_answers : (p : Portions) (c : PortionCall) → is_in (number_at p c) (portion_numbers c) ≡ true
unfolding is_in announce_of feed_of finish_of
portions_answers p (announce n) = picked (λ (o : PortionsOutcome). is_in (portions_number o.answer) (0 ∷ 42 ∷ []) ≡ true) (leb n longest) _ _ refl refl
portions_answers p (feed portion) =
    picked (λ (o : PortionsOutcome). is_in (portions_number o.answer) (0 ∷ 13 ∷ []) ≡ true) (takes p (length portion)) _ _ refl refl
portions_answers p finish =
    picked Given (sound p) _ _ (picked Given (leb p.announced p.fed) _ _ (reader_too (read_element (fed_of p)).answer) refl) refl
  where
    Given : Finished → Type 0
    Given f = is_in (finish_number f) (portion_numbers finish) ≡ true

-- .. and the writer, which is lent a buffer
pub writer_answers : (e : Element) (buffer : List ℕ) → is_in (written_number (write_of e buffer).written) writer_numbers ≡ true
writer_answers e buffer = written_numbers (write_of e buffer).written

-- .. and the writing of a status, which is lent one too
pub status_answers : (t : Table) (buffer : List ℕ) → is_in (status_number (write_status_of t buffer).written) status_numbers ≡ true
status_answers t buffer = status_written_numbers (write_status_of t buffer).written

-- .. and the reader of a message, whatever the octets, and its writer
pub parsed_numbers_lem : (p : Result WholeMessage Fault) → is_in (parsed_number p) parsed_numbers ≡ true
unfolding is_in
parsed_numbers_lem (Ok m) = refl
parsed_numbers_lem (Err Unknown) = refl
parsed_numbers_lem (Err Framing) = refl

pub message_reader_answers : (message : List ℕ) → is_in (parsed_number (read_of message)) parsed_numbers ≡ true
message_reader_answers message = parsed_numbers_lem (read_of message)

-- .. which reads nothing past the end: the TFT that it tells of lies in the message
pub message_tft_inside : (message : List ℕ) (m : WholeMessage) (part : Part) → read_of message ≡ Ok m → m.tft ≡ Some part → part.from + part.octets ≤ length message
message_tft_inside message m part e a = subst (λ (tft : Option Part). Inside tft message) a (tft_inside message m e)

pub assembled_numbers_lem : (w : Result ℕ MessageUnwritten) → is_in (message_number w) assembled_numbers ≡ true
unfolding is_in
assembled_numbers_lem (Ok n) = refl
assembled_numbers_lem (Err Unreadable) = refl
assembled_numbers_lem (Err message_no_room) = refl

pub message_writer_answers : (f : Fields) (buffer : List ℕ) → is_in (message_number (write_message_of f buffer).written) assembled_numbers ≡ true
message_writer_answers f buffer = assembled_numbers_lem (write_message_of f buffer).written

-- of a message: as the call that it makes leaves it
message_leaves : (t : Table) (message : List ℕ) → RefusalLeaves (left_by_said (asked_by message) t) (handle_of t message).outcome
unfolding handle_of
message_leaves t message = by (asked_by message)
  where
    not_asked : (fault : Fault) → RefusalLeaves t (refused_of fault t)
    not_asked fault = picked (RefusalLeaves t) (well_formed t) _ _ (λ r. refl) (λ r. refl)

    by_kind : (kind : Kind) (tft : Option (List ℕ)) (bearer x : ℕ) → RefusalLeaves (left_by_kind kind t x) (call_by kind tft t bearer x)
    by_kind (DedicatedRequest link) tft bearer x = activate_dedicated_refused t bearer link x (value_of tft)
    by_kind ModifyRequest None bearer x = subst (RefusalLeaves (matched_in t x)) (no_operation_lem t bearer x) (modify_refused t bearer x (0xC0 ∷ []))
    by_kind ModifyRequest (Some value) bearer x = modify_refused t bearer x value
    by_kind (DeactivateRequest why) tft bearer x = deactivate_refused t bearer x
    by_kind (ModificationReject why) tft bearer x = reject_refused t x why
    by_kind DedicatedAccept tft bearer x = not_asked Unknown
    by_kind (DedicatedReject why) tft bearer x = not_asked Unknown
    by_kind ModifyAccept tft bearer x = not_asked Unknown
    by_kind (ModifyReject why) tft bearer x = not_asked Unknown
    by_kind DeactivateAccept tft bearer x = not_asked Unknown

    by : (s : Result Fields Fault) → RefusalLeaves (left_by_said s t) (handled_by s t).outcome
    by (Err fault) = not_asked fault
    by (Ok f) = by_kind f.kind f.tft f.bearer f.transaction

-- "A refusal gives its number and leaves the table .. unchanged (a transaction matched at step 2 is still closed)"
pub refusal_leaves : (t : Table) (c : Call) → RefusalLeaves (left_by t c) (outcome_of t c)
refusal_leaves t (activate_default bearer) = activate_default_refused t bearer
refusal_leaves t (activate_dedicated bearer link transaction value) = activate_dedicated_refused t bearer link transaction value
refusal_leaves t (modify bearer transaction value) = modify_refused t bearer transaction value
refusal_leaves t (deactivate bearer transaction) = deactivate_refused t bearer transaction
refusal_leaves t (reject transaction cause) = reject_refused t transaction cause
refusal_leaves t (start transaction bearer) = start_refused t transaction bearer
refusal_leaves t (synchronise value) = synchronise_refused t value
refusal_leaves t (handle message) = message_leaves t message

-- "A match is closed, whatever follows", of a message that is refused or is not: no bearer has the transaction open afterwards, and closing changed
-- nothing else, since what follows is what the message does without a transaction in a table that is the same but for it
pub match_closed : (t : Table) → Sound t → (m : Message) → Open t (transaction_of m)
    → MatchClosed t (transaction_of m) (handled m t) (handled (without_transaction m))
match_closed t k (modifies bearer transaction value) = modify_match t k bearer transaction value
match_closed t k (activates bearer link transaction value) = activate_match t k bearer link transaction value

-- what `left_by` computes for a message, in types: the match is closed and nothing else changed, or there is none and the table is as it came
pub left_by_types : (t : Table) → TableInRange t → (transaction : ℕ) → LeftBy t transaction (matched_in t transaction)
left_by_types = left_says

-- 1: "table not well formed"; it leaves "all"
pub malformed_leaves : (t : Table) (c : Call) → well_formed t ≡ false → outcome_of t c ≡ malformed t
malformed_leaves t (activate_default bearer) e = activate_default_malformed t e bearer
malformed_leaves t (activate_dedicated bearer link transaction value) e = activate_dedicated_malformed t e bearer link transaction value
malformed_leaves t (modify bearer transaction value) e = modify_malformed t e bearer transaction value
malformed_leaves t (deactivate bearer transaction) e = deactivate_malformed t e bearer transaction
malformed_leaves t (reject transaction cause) e = reject_malformed t e transaction cause
malformed_leaves t (start transaction bearer) e = start_malformed t e transaction bearer
malformed_leaves t (synchronise value) e = synchronise_malformed t value e
malformed_leaves t (handle message) e =
    carried t (λ (o : Outcome). o ≡ malformed t) (λ fault. rw e) (activate_dedicated_malformed t e) (modify_malformed t e) (deactivate_malformed t e) (reject_malformed t e) message

-- "A refused portion or finish leaves everything fed before as it stood", to the octet
pub portions_leave : (p : Portions) (portion : List ℕ) → number_at p (feed portion) ≡ 13 → (feed_of p portion).state ≡ p
portions_leave = refused_stays

-- .. anywhere in a sequence of calls on any state. Of a finish, refused or not, this is how `after` is said: it is handed the state by value
pub portions_leave_anywhere : (p : Portions) (before rest : List PortionCall) (portion : List ℕ) → number_at (state_after p before) (feed portion) ≡ 13
    → state_after p (before ++ feed portion ∷ rest) ≡ state_after p (before ++ rest)
portions_leave_anywhere = refused_anywhere

pub finish_leaves_anywhere : (p : Portions) (before rest : List PortionCall) → state_after p (before ++ finish ∷ rest) ≡ state_after p (before ++ rest)
finish_leaves_anywhere = finish_anywhere

-- .. but a refused length does not leave it: the state is then the one that announcing 0 gives
pub refused_length : (n : ℕ) → portions_number (announce_of n).answer ≡ 42 → (announce_of n).state ≡ (announce_of 0).state
refused_length n q = (announce_gives n).refused ((announce_gives n).is42.0 q)

-- ".. and lent bytes unchanged": where the writer refuses, the buffer is as it was
pub writer_leaves : (e : Element) (buffer : List ℕ) → (written_number (write_of e buffer).written ≡ 0 → ⊥) → (write_of e buffer).buffer ≡ buffer
unfolding write_of
writer_leaves e buffer = go (given e) (leb (length (octets_of e)) 255) (leb (length (octets_of e)) (length buffer))
  where
    go : (b c d : Bool) → (written_number (written_by b c d e buffer).written ≡ 0 → ⊥) → (written_by b c d e buffer).buffer ≡ buffer
    go true true true r = absurd (r refl)
    go true true false r = refl
    go true false d r = refl
    go false c d r = refl

pub status_writing_leaves : (t : Table) (buffer : List ℕ) → (status_number (write_status_of t buffer).written ≡ 0 → ⊥) → (write_status_of t buffer).buffer ≡ buffer
status_writing_leaves = status_leaves

pub message_writing_leaves : (f : Fields) (buffer : List ℕ) → (message_number (write_message_of f buffer).written ≡ 0 → ⊥) → (write_message_of f buffer).buffer ≡ buffer
unfolding write_message_of
message_writing_leaves f buffer =
    picked Leaves (writable f) _ _ (picked Leaves (leb (length (message_octets f)) (length buffer)) _ _ (λ r. absurd (r refl)) (λ r. refl)) (λ r. refl)
  where
    Leaves : MessageOutcome → Type 0
    Leaves o = (message_number o.written ≡ 0 → ⊥) → o.buffer ≡ buffer
