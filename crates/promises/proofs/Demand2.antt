-- DEMAND 2. The new table, reply, cause and follow-up list are those of the rules; bytes are read as TS 24.008 lays them out; an operation written
-- and read again is the same; cause 44 exactly when some well-coded filter fits no packet.
-- That a function's outcome is its definition's is the function's contract; crates/*/specs has the definitions, under the sentences that they write down.
-- Assumes nothing.
use Rattle.std.specs.Prelude.{None, Some}
use mathlib.Core.Path.{◌≡◌, sym, ◌∙◌}
use mathlib.Core.Logic.{◌⊎◌, ⊎_elim, ◌↔◌}
use mathlib.Core.Bool.{Bool, true, false}
use mathlib.Core.List.{List, [], ◌∷◌, ◌++◌, map, flatten}
use Prim.Native.Nat.{ℕ, ◌<◌, ◌≤◌}
use lib.ListN.{length, take, drop, get_or}
use Rattle.std.specs.Prelude.{Some, None, Ok, Err}
use Rattle.laws.specs.Says.{Says}
use Rattle.laws.specs.Lists.{All, is_in}
use Rattle.filter.specs.declared.component.Filter.{Filter}
use Rattle.filter.specs.declared.packet.Header.{Header}
use Rattle.filter.specs.Sizes.{place_count}
use Rattle.filter.specs.Fit.{valid_header, fits, fits_by}
use Rattle.filter.specs.Fittable.{fittable, SomePacketFits}
use Rattle.filter.specs.Ranges.{FilterInRange}
use Rattle.filter.specs.Before.{tcp, sctp, tcp_or_udp, fits_before, SomePacketFitted, NoPort, PortNoProtocol, PortOfSctp, naming, of_protocol, FitsSctpToo}
use Rattle.filter.proofs.Theorems.{fittable_says}
use Rattle.filter.proofs.Rules.{fits_same}
use Rattle.filter.proofs.Sctp.{sctp_named, sctp_alike, other_packets, fits_still, other_filters, portless_packets, port_before, sctp_too, named_held, still_fitted, sctp_unfitted, fitted_now}
use Rattle.element.specs.declared.answer.Refusal.{Refusal as ReadRefusal}
use Rattle.element.specs.declared.answer.Answer.TheVariants.{Refused as ReadRefused}
use Rattle.element.specs.declared.answer.Element.{Element}
use Rattle.element.specs.Head.{longest}
use Rattle.element.specs.declared.portions.Portions.{Portions}
use Rattle.element.specs.Numbers.{number_of as read_number, placed_number, written_number, finish_number}
use Rattle.element.specs.Framing.{framed_of}
use Rattle.element.specs.Places.{place_of}
use Rattle.element.specs.Read.{read_element}
use Rattle.element.specs.Write.{octets_of, write_of}
use Rattle.element.specs.Meaning.{Octet, ElementInRange, ReadsAs, TooLongOrUnframed, SomeFilterBadlyCoded, SomeFilterUnfit, SomethingTwice, PlaceSays, TakenApart}
use Rattle.element.specs.Order.{InOrder}
use Rattle.element.specs.Portions.{holding, fed_of, sound, leaving, announce_of, feed_of, finished, finish_of, PortionsInRange}
use Rattle.element.specs.Portions.{PortionCall, feed, state_after, Reached, Feeds, AnnounceGives, FeedGives, FinishGives}
use Rattle.element.proofs.Divided.{divided_reads, divided_between, divided_fed, state_so_far, portion_taken, announced_nothing, sound_says, one_portion}
use Rattle.element.proofs.Divided.{announce_gives, feed_gives, finish_gives}
use Rattle.element.proofs.Examples.{Places, places}
use Rattle.element.proofs.Theorems.{reader_42, reader_44, reader_45, place_says, refusal_placed, refusal_apart, writer_10, writer_11, writer_9, written_reads, writer_order}
use Rattle.table.specs.declared.bearer.Table.{Table}
use Rattle.table.specs.Ranges.{TableInRange}
use Rattle.table.specs.Bearers.{bearer_count, filter_at, is_default, role_of}
use Rattle.table.specs.Tables.{view}
use Rattle.table.specs.WellFormed.{well_formed, RightLists, WellFormed, WellBy}
use Rattle.table.proofs.Meaning.{well_says}
use Rattle.table.proofs.Rules.{well_more}
use Rattle.calls.specs.declared.reply.Answer.TheVariants.{Accept}
use Rattle.calls.specs.Changes.{FollowUpList, Releases, NamedBearer, SendsReply}
use Rattle.calls.specs.Reply.{number_of}
use Rattle.calls.proofs.Checks.{modify_numbers, activate_numbers, activate_default_numbers, deactivate_numbers, reject_numbers, start_numbers}
use Rattle.calls.proofs.Places.{modify_placed, activate_placed, default_placed}
use Rattle.calls.proofs.Release.{modify_releases, activate_releases, modify_follow, activate_follow}
use Rattle.calls.proofs.Named.{modify_named_bearer, activate_named_bearer}
use Rattle.calls.specs.declared.reply.Refusal.TheVariants.{UnknownMessage}
use Rattle.calls.specs.declared.reply.Answer.TheVariants.{Synchronised, Refused}
use Rattle.calls.specs.Reply.{answered}
use Rattle.calls.specs.Checks.{Identity, Active, Placed, Unplaced}
use Rattle.status.specs.Value.{status_octets, shown_active}
use Rattle.status.specs.Write.{status_number, write_status_of, StatusNumbered}
use Rattle.status.specs.Take.{synchronise_of, StatusTaken}
use Rattle.status.proofs.Theorems.{written_shows, status_written, status_numbers_lem, synchronise_numbers, synchronise_takes, own_status, synchronise_again, spare_ignored}
use Rattle.status.proofs.Examples.{Examples, examples}
use Rattle.messages.specs.declared.layout.Kind.{Kind}
use Rattle.messages.specs.declared.layout.Kind.TheVariants.{DedicatedRequest, ModifyRequest, DeactivateRequest, ModificationReject}
use Rattle.messages.specs.declared.layout.Fault.{Fault}
use Rattle.messages.specs.Layout.{head_octets, type_of}
use Rattle.messages.specs.Read.{parsed_number, read_of, Fields, said_of}
use Rattle.messages.specs.Write.{message_number, write_of as write_message_of}
use Rattle.messages.specs.Handle.{reply_types, asked_by, accept_of, sending_of, handle_of}
use Rattle.messages.specs.Meaning.{Ours, ReadNumbered, Composed, Skipped, FieldsInRange, WriteNumbered, AnswerReads, PlacedIn, ReadsAs as SentAs}
use Rattle.messages.proofs.Accepting.{no_operation_lem}
use Rattle.messages.proofs.Examples.{Examples as MessageExamples, examples as examples_of_messages}
use Rattle.messages.proofs.Exactly.{reads_exactly, framing_exactly, handle_numbers}
use Rattle.messages.proofs.RoundTrip.{written_back, write_numbers, written_stays}
use Rattle.messages.proofs.Skipping.{skipped_changes_nothing, skipped_handled, skipped_alike}
use Rattle.messages.proofs.Theorems.{read_numbers as message_numbers_read, asked_said, said_asked, message_modifies, message_accepts, message_activates, message_deactivates, message_rejects}
use Rattle.messages.proofs.Theorems.{activation_has_tft, message_placed, reply_refused, answer_sent, answer_reads, refused_silent}
use Rattle.promises.specs.Messages.{Message, modifies, activates, bearer_named, transaction_of, value_of, handled, number_given, Passes, MessageNumbered, CallNumbered, connection_for, role_for}
use Rattle.promises.specs.Calls.{Call, activate_default, activate_dedicated, modify, deactivate, reject, start, synchronise, handle, outcome_of}
use Rattle.route.specs.Routes.{number_of as route_number, route_of}
use Rattle.route.specs.declared.answer.Route.{Route}
use Rattle.std.specs.Prelude.{Ok}
use Rattle.route.specs.Rule.{Fitting, Right, RightBy, RouteNumbered}
use Rattle.route.specs.Why.{why_number, why_of}
use Rattle.route.proofs.Theorems.{route_numbers_lem, route_says, why_numbers}
use Rattle.route.proofs.Rules.{right_same}

-- "Any other table is refused": the test is true exactly for the well-formed tables, said as a type
pub well_formed_tables : (t : Table) → TableInRange t → Says (well_formed t) (WellFormed t)
well_formed_tables = well_says

-- ---- Of a modify message and of a dedicated activation, on any table
-- "cause": each number of the order of checks is given exactly where its step refuses, and no step before it does
pub message_numbers_lem : (t : Table) → TableInRange t → (m : Message) → MessageNumbered t m (number_given t m)
message_numbers_lem t r (modifies bearer transaction value) = modify_numbers t r bearer transaction value
message_numbers_lem t r (activates bearer link transaction value) = activate_numbers t r bearer link transaction value

-- .. and so of the other calls, and of a route
pub numbers_given : (t : Table) → TableInRange t → (c : Call) → CallNumbered t c (number_of (outcome_of t c).reply.answer)
numbers_given t r (activate_default bearer) = activate_default_numbers t r bearer
numbers_given t r (activate_dedicated bearer link transaction value) = message_numbers_lem t r (activates bearer link transaction value)
numbers_given t r (modify bearer transaction value) = message_numbers_lem t r (modifies bearer transaction value)
numbers_given t r (deactivate bearer transaction) = deactivate_numbers t r bearer transaction
numbers_given t r (reject transaction cause) = reject_numbers t r transaction cause
numbers_given t r (start transaction bearer) = start_numbers t r transaction bearer
numbers_given t r (synchronise value) = synchronise_numbers t value r
numbers_given t r (handle message) = handle_numbers t r message

pub route_numbers_given : (t : Table) → TableInRange t → (default : ℕ) (h : Header) → RouteNumbered t default h (route_number (route_of t default h))
route_numbers_given t r default h = route_numbers_lem t default h r

pub why_numbers_given : (t : Table) → TableInRange t → (default : ℕ) (h : Header) → RouteNumbered t default h (why_number (why_of t default h))
why_numbers_given t r default h = why_numbers t default h r

-- "pass the place on, counted in the element's value": a reject with 42, 44 or 45 has the place of the value (`values_placed`), at step 4 too;
-- one with 41, 43 or 47 has none, and nor has any of a default activation, which brings no element
pub places_passed_on : (t : Table) (m : Message) → Placed (value_of m) (handled m t).reply.answer
places_passed_on t (modifies bearer transaction value) = modify_placed t bearer transaction value
places_passed_on t (activates bearer link transaction value) = activate_placed t bearer link transaction value

pub default_without_place : (t : Table) (bearer : ℕ) → Unplaced (outcome_of t (activate_default bearer)).reply.answer
default_without_place = default_placed

-- "cause 44 exactly when some well-coded filter fits no packet", where no earlier check refuses: the table is well formed, steps 2 to 5 pass, the value is
-- framed, every filter in it is well coded, and some filter of it fits no packet
pub cause_44 : (t : Table) → TableInRange t → (m : Message) → All Octet (value_of m) → (number_given t m ≡ 44) ↔ (Passes t m × SomeFilterUnfit (value_of m))
cause_44 t r m octets =
    let number = (message_numbers_lem t r m).is44 in
    let reader = reader_44 (value_of m) octets in
    (λ e. let h = number.0 e in (h.0, reader.0 h.1), λ h. number.1 (h.0, reader.1 h.1))

-- a filter is told fittable exactly when there is a valid header, every number in its type's range, that it fits
pub some_packet : (f : Filter) → FilterInRange f → Says (fittable f) (SomePacketFits f)
some_packet = fittable_says

-- "new table", of the bearer that an accepted message names; of the others it is `unnamed_bearer` (Demand3)
pub named_bearer : (t : Table) → TableInRange t → (m : Message) → (handled m t).reply.answer ≡ Accept (bearer_named m)
    → NamedBearer t (role_for t m) (connection_for t m) (bearer_named m) (transaction_of m) (value_of m) (handled m t).table
named_bearer t r (modifies bearer transaction value) = modify_named_bearer t r bearer transaction value
named_bearer t r (activates bearer link transaction value) = activate_named_bearer t r bearer link transaction value

-- "follow-up list": exactly the dedicated bearers of the connection that lose a filter to a conflict, the named one included, in rising identity
pub follow_up_list : (t : Table) → TableInRange t → (m : Message) → FollowUpList t (connection_for t m) (bearer_named m) (value_of m) (handled m t)
follow_up_list t r (modifies bearer transaction value) = modify_follow t r bearer transaction value
follow_up_list t r (activates bearer link transaction value) = activate_follow t r bearer link transaction value

-- "reply": a refusal is a reject with the received identity, or 1 without a reply; what is not refused releases exactly at a conflict on the default, and
-- else is accepted. And what a release does to the connection and to the others
pub message_releases : (t : Table) → TableInRange t → (m : Message)
    → Releases t (connection_for t m) (bearer_named m) (transaction_of m) (value_of m) (handled m t)
message_releases t r (modifies bearer transaction value) = modify_releases t r bearer transaction value
message_releases t r (activates bearer link transaction value) = activate_releases t r bearer link transaction value

-- ---- Of the reader
-- its numbers, over all octets: steps 4 and 6; steps 7 and 9; step 8
pub reads_42 : (value : List ℕ) → (read_number (read_element value).answer ≡ 42) ↔ TooLongOrUnframed value
reads_42 = reader_42

pub reads_45 : (value : List ℕ) → All Octet value → (read_number (read_element value).answer ≡ 45) ↔ (SomeFilterBadlyCoded value ⊎ SomethingTwice value)
reads_45 = reader_45

pub reads_44 : (value : List ℕ) → All Octet value → (read_number (read_element value).answer ≡ 44) ↔ SomeFilterUnfit value
reads_44 = reader_44

-- "Every refusal of the element reader should carry a place, the offset from 0": where it is, for whichever reason the value is refused
pub refusals_placed : (value : List ℕ) → All Octet value → (refusal : ReadRefusal) → (read_element value).answer ≡ ReadRefused refusal
    → PlaceSays value refusal.place
refusals_placed value octets refusal is = refusal_placed value refusal is octets

-- the place of a value, which rejects pass on too (`places_passed_on`), in the same words; and some computed
pub values_placed : (value : List ℕ) → All Octet value → PlaceSays value (place_of value)
values_placed = place_says

pub place_examples : Places
place_examples = places

-- "the C side": the one number that it is given is 0, or the cause and the place
pub refusals_apart : (value : List ℕ) → TakenApart (placed_number (read_element value).answer) (read_element value).answer
refusals_apart = refusal_apart

-- ---- Of the writer
-- "an operation written and read again is the same"
pub written_and_read : (e : Element) → ElementInRange e → (buffer : List ℕ) (n : ℕ) → (write_of e buffer).written ≡ Ok n
    → read_element (take n (write_of e buffer).buffer) ≡ e
written_and_read e r buffer n = written_reads e r buffer n

-- "The writer puts filters in rising identifier and components in rising type."
pub written_in_order : (e : Element) → ElementInRange e → (buffer : List ℕ) (n : ℕ) → (write_of e buffer).written ≡ Ok n
    → InOrder (framed_of (take n (write_of e buffer).buffer))
written_in_order = writer_order

module _ (e : Element) (r : ElementInRange e) (buffer : List ℕ) where
  -- 10: "operation that the reader could not give, its length in octets aside"
  pub writes_10 : (written_number (write_of e buffer).written ≡ 10) ↔ (ReadsAs e → ⊥)
  writes_10 = writer_10 e r buffer

  -- 11: "value above 255 octets", of an operation that the reader gives
  pub writes_11 : (written_number (write_of e buffer).written ≡ 11) ↔ (ReadsAs e × (longest < length (octets_of e)))
  writes_11 = writer_11 e r buffer

  -- 9: "buffer too short", where neither holds
  pub writes_9 : (written_number (write_of e buffer).written ≡ 9) ↔ ((ReadsAs e × (length (octets_of e) ≤ longest)) × (length buffer < length (octets_of e)))
  writes_9 = writer_9 e r buffer

-- ---- Of the bearer status
-- "Refusals: 1 first, .. then 9 on writing"; those of taking one are in `numbers_given`
pub status_numbers_given : (t : Table) → TableInRange t → (buffer : List ℕ) → StatusNumbered t buffer (status_number (write_status_of t buffer).written)
status_numbers_given = status_numbers_lem

-- "1 for active": of every identity, and so "identities 0 to 4 written 0"
pub status_shows_active : (t : Table) (buffer : List ℕ) → (write_status_of t buffer).written ≡ Ok tt
    → (n : ℕ) → Says (shown_active (take status_octets (write_status_of t buffer).buffer) n) (Active t n)
status_shows_active = written_shows

-- "every active bearer shown inactive is deactivated locally, and a default takes its connection, transactions included, even where a dedicated one is shown
-- active. Bearers active only at the network change nothing": a bearer is as it was where it and its default are shown active, and else idle with nothing.
-- No reply is sent, and nobody follows
pub status_taken : (t : Table) (value : List ℕ) → TableInRange t → WellFormed t → length value ≡ status_octets → StatusTaken t value (synchronise_of t value)
status_taken = synchronise_takes

-- "Octets after those written stay"
pub status_others_stay : (t : Table) (buffer : List ℕ) → (write_status_of t buffer).written ≡ Ok tt
    → drop status_octets (write_status_of t buffer).buffer ≡ drop status_octets buffer
status_others_stay t buffer e = (status_written t buffer e).rest

-- what was written, taken, changes nothing; and what was taken, taken again, gives the same table and reply
pub status_own : (t : Table) → TableInRange t → (buffer : List ℕ) → (write_status_of t buffer).written ≡ Ok tt
    → synchronise_of t (take status_octets (write_status_of t buffer).buffer) ≡ answered t Synchronised
status_own = own_status

pub status_twice : (t : Table) (value : List ℕ) → TableInRange t → synchronise_of (synchronise_of t value).table value ≡ synchronise_of t value
status_twice = synchronise_again

-- "identities 0 to 4 .. ignored on reading": two values of one length that show the same of bearers' identities do the same
pub status_spare : (t : Table) → TableInRange t → (value other : List ℕ) → length value ≡ length other
    → ((n : ℕ) → Identity n → shown_active value n ≡ shown_active other n) → synchronise_of t value ≡ synchronise_of t other
status_spare = spare_ignored

-- "Bearers 5 and 6 give `60 00`", and more, computed
pub status_examples : Examples
status_examples = examples

-- ---- Of an element that arrives split
-- "However it was divided, the reading or cause is the one for the whole string": for every list of at most 255 octets and every way to cut it, empty portions
-- among them
pub portions_reads : (xs : List ℕ) → length xs ≤ longest → (portions : List (List ℕ)) → flatten portions ≡ xs
    → finish_of (state_after (announce_of (length xs)).state (map feed portions)) ≡ finished (Ok tt) xs
portions_reads = divided_reads

-- .. and with refused portions, and finishes, anywhere between
pub portions_reads_between : (xs : List ℕ) → length xs ≤ longest → (portions : List (List ℕ)) → flatten portions ≡ xs
    → (calls : List PortionCall) → Feeds (announce_of (length xs)).state calls portions
    → finish_of (state_after (announce_of (length xs)).state calls) ≡ finished (Ok tt) xs
portions_reads_between = divided_between

-- what was fed, the first `fed` octets of the state, is then the whole string, whatever call it is handed to
pub portions_handed : (xs : List ℕ) → length xs ≤ longest → (portions : List (List ℕ)) → flatten portions ≡ xs
    → (calls : List PortionCall) → Feeds (announce_of (length xs)).state calls portions
    → fed_of (state_after (announce_of (length xs)).state calls) ≡ xs
portions_handed = divided_fed

-- .. and so far, before all was fed: what was fed is the portions so far, and one that still fits is taken
pub portions_so_far : (n : ℕ) → n ≤ longest → (calls : List PortionCall) (portions : List (List ℕ)) → Feeds (announce_of n).state calls portions
    → length (flatten portions) ≤ n → state_after (announce_of n).state calls ≡ holding n (flatten portions)
portions_so_far = state_so_far

pub portions_taken : (n : ℕ) → n ≤ longest → (calls : List PortionCall) (portions : List (List ℕ)) → Feeds (announce_of n).state calls portions
    → (portion : List ℕ) → length (flatten portions ++ portion) ≤ n
    → feed_of (state_after (announce_of n).state calls) portion ≡ leaving (holding n (flatten portions ++ portion)) (Ok tt)
portions_taken = portion_taken

-- "Announcing 0 finishes with 42."
pub portions_nothing : finish_number (finish_of (announce_of 0).state) ≡ 42
portions_nothing = announced_nothing

-- "a state no calls give": the test is true exactly of the states that some calls give; an announcement and one portion are enough
pub portions_states : (p : Portions) → PortionsInRange p → Says (sound p) (Reached p)
portions_states = sound_says

pub portions_one : (p : Portions) → PortionsInRange p → sound p ≡ true → state_after (announce_of p.announced).state (feed (fed_of p) ∷ []) ≡ p
portions_one = one_portion

-- "Refusals: 42 on announcing above 255; 13 when a portion would pass the announced length, or on a state no calls give; 14 when finishing early": each exactly
-- there, and the whole outcome of each call
pub portions_announced : (n : ℕ) → AnnounceGives n (announce_of n)
portions_announced = announce_gives

pub portions_fed : (p : Portions) → PortionsInRange p → (portion : List ℕ) → FeedGives p portion (feed_of p portion)
portions_fed = feed_gives

pub portions_finished : (p : Portions) → PortionsInRange p → FinishGives p (finish_of p)
portions_finished = finish_gives

-- ---- Of SCTP: "132 carries both ports as well." By `fits_before` only TCP and UDP do
-- by two answers to which protocols carry ports that agree at a header's protocol, a filter fits the same there ..
pub fit_by_protocol : (a b : ℕ → Bool) (f : Filter) (h : Header) → a h.protocol ≡ b h.protocol → fits_by a f h ≡ fits_by b f h
fit_by_protocol = fits_same

-- .. so packets of another protocol are fitted as they were. A filter that names SCTP fits an SCTP packet exactly where it fitted, naming TCP or UDP, the same
-- packet of that protocol
pub other_packets_as_before : (f : Filter) (h : Header) → (h.protocol ≡ sctp → ⊥) → fits f h ≡ fits_before f h
other_packets_as_before = other_packets

pub sctp_as_named : (f : Filter) (h : Header) (p : ℕ) → tcp_or_udp p ≡ true
    → fits (naming (Some sctp) f) (of_protocol sctp h) ≡ fits_before (naming (Some p) f) (of_protocol p h)
sctp_as_named = sctp_named

-- "Held filters with a port and no protocol now fit SCTP packets too": each fits some SCTP packet, and no filter with a port fitted any; and it fits an SCTP
-- packet exactly where it fitted the same packet of TCP or UDP
pub sctp_fitted_too : (f : Filter) → PortNoProtocol f → SomePacketFitted f → FitsSctpToo f
sctp_fitted_too = sctp_too

pub port_fitted_no_sctp : (f : Filter) → (NoPort f → ⊥) → (h : Header) → h.protocol ≡ sctp → fits_before f h ≡ false
port_fitted_no_sctp = port_before

pub sctp_as_open : (f : Filter) → f.protocol ≡ None → (h : Header) (p : ℕ) → tcp_or_udp p ≡ true
    → fits f (of_protocol sctp h) ≡ fits_before f (of_protocol p h)
sctp_as_open = sctp_alike

-- "every other held filter fits what it fitted before", and nothing else. Every filter fits all that it fitted
pub other_filters_as_before : (f : Filter) → SomePacketFitted f → (PortNoProtocol f → ⊥) → (h : Header) → fits f h ≡ fits_before f h
other_filters_as_before = other_filters

pub fits_as_before : (f : Filter) (h : Header) → fits_before f h ≡ true → fits f h ≡ true
fits_as_before = fits_still

-- "cause 44 .. follow", by `some_packet` and `cause_44`: some packet fits exactly the filters that some packet fitted, and those with a port and SCTP that some
-- would have fitted with TCP in the place of SCTP. None fitted these
pub fitted_from_now_on : (f : Filter) → SomePacketFits f ↔ (SomePacketFitted f ⊎ (PortOfSctp f × SomePacketFitted (naming (Some tcp) f)))
fitted_from_now_on = fitted_now

pub sctp_unfitted_before : (f : Filter) → PortOfSctp f → SomePacketFitted f → ⊥
sctp_unfitted_before = sctp_unfitted

-- a table that was well formed is, with the lists that are held since 7/14, and so no call refuses it with 1; and one that is was well formed exactly where it
-- holds no filter with a port and SCTP
pub well_formed_stays : (t : Table) → TableInRange t → WellBy fits_before (view t) → RightLists t → well_formed t ≡ true
well_formed_stays t r w right = (well_says t r).from (record { bearers = well_more fits_before fits (view t) (λ i j l m. still_fitted (filter_at t i j)) w; lists = right })

pub well_formed_was : (t : Table) → TableInRange t → well_formed t ≡ true
    → WellBy fits_before (view t) ↔ ((i j : ℕ) → i < bearer_count → j < place_count → PortOfSctp (filter_at t i j) → ⊥)
well_formed_was t r e = (
  λ w i j l m a. sctp_unfitted (filter_at t i j) a (w.fitted i j l m (named_held (filter_at t i j) sctp a.protocol)),
  λ none. well_more fits fits_before (view t) (λ i j l m s. ⊎_elim (λ b. b) (λ b. absurd (none i j l m b.0)) ((fitted_now (filter_at t i j)).0 s)) ((well_says t r).to e).bearers,
)

-- "the routes follow": the right ones are the same for every header of another protocol, whatever the table ..
pub routes_stay : (t : Table) (default : ℕ) (h : Header) → (h.protocol ≡ sctp → ⊥) → (r : Route) → RightBy fits_before t default h r ↔ Right t default h r
routes_stay t default h n = right_same t default h fits_before fits (λ i j u. sym (other_packets (filter_at t i j) h n))

-- .. and for every header that no uplink filter of the connection with a port fits. So a route is another only for a packet of SCTP that such a filter fits
pub sctp_routes_stay : (t : Table) (default : ℕ) (h : Header) → ((i j : ℕ) → Fitting t default h i j → NoPort (filter_at t i j))
    → (r : Route) → RightBy fits_before t default h r ↔ Right t default h r
sctp_routes_stay t default h none =
    right_same t default h fits_before fits (λ i j u. sym (portless_packets (filter_at t i j) h (λ e. none i j (record { uplink = u; fit = e }))))

-- .. so that in either case, on a well-formed table, for an active default and a valid header, the call gives the route that was right before
pub route_given_stays : (t : Table) → TableInRange t → well_formed t ≡ true → (default : ℕ) → is_default (role_of t default) ≡ true
    → (h : Header) → valid_header h ≡ true → (h.protocol ≡ sctp → ⊥) ⊎ ((i j : ℕ) → Fitting t default h i j → NoPort (filter_at t i j))
    → (r : Route) → (route_of t default h ≡ Ok r) ↔ RightBy fits_before t default h r
route_given_stays t k w default d h v case r =
    let same = ⊎_elim (λ n. routes_stay t default h n r) (λ none. sctp_routes_stay t default h none r) case in
    let given = route_says t default h k w d v r in
    (λ e. same.1 (given.0 e), λ x. given.1 (same.0 x))

-- ---- Of whole messages
-- "What our writer produces reads back the same."
pub messages_read_back : (f : Fields) (buffer : List ℕ) (n : ℕ) → (write_message_of f buffer).written ≡ Ok n
    → said_of (take n (write_message_of f buffer).buffer) ≡ Ok f
messages_read_back = written_back

-- "Octets after those written stay"
pub messages_others_stay : (f : Fields) (buffer : List ℕ) (n : ℕ) → (write_message_of f buffer).written ≡ Ok n
    → drop n (write_message_of f buffer).buffer ≡ drop n buffer
messages_others_stay = written_stays

-- "The writer gives 15 for a message that cannot be read back, then 9": 15 exactly where no octets, however many, read as the message
pub messages_written : (f : Fields) → FieldsInRange f → (buffer : List ℕ) → WriteNumbered f buffer (message_number (write_message_of f buffer).written)
messages_written = write_numbers

-- "16 under three octets; 15 for another discriminator or type .. 16 for framing, an unlisted element or a second TFT"
pub messages_read : (message : List ℕ) → ReadNumbered message (parsed_number (read_of message))
messages_read = message_numbers_read

-- "QoS and optional elements other than the TFT are framed as that standard lists them": octets say a message exactly where they are its parts, one after the other
-- (`Composed`); and "16 for framing" exactly where they are no message's
pub messages_composed : (message : List ℕ) (f : Fields) → (said_of message ≡ Ok f) ↔ Composed f message
messages_composed = reads_exactly

pub messages_framing : (message : List ℕ)
    → (parsed_number (read_of message) ≡ 16) ↔ ((length message < head_octets) ⊎ ((head_octets ≤ length message) × (Ours message × ((f : Fields) → Composed f message → ⊥))))
messages_framing = framing_exactly

-- ".. and skipped": where a message reads, after any octets that it begins with
-- and that are a message by themselves, one element more that is listed, whatever it holds, changes nothing of what the octets say, whatever octets follow; nor of
-- what is done and answered
pub messages_skip : (front e tail : List ℕ) (f : Fields) → said_of front ≡ Ok f → Skipped f.kind e → said_of (front ++ (e ++ tail)) ≡ said_of (front ++ tail)
messages_skip = skipped_changes_nothing

pub messages_skip_handled : (front e tail : List ℕ) (f : Fields) → said_of front ≡ Ok f → Skipped f.kind e
    → (t : Table) → handle_of t (front ++ (e ++ tail)) ≡ handle_of t (front ++ tail)
messages_skip_handled = skipped_handled

-- so two messages that differ in skipped elements alone say the same
pub messages_alike : (front tail : List ℕ) (f : Fields) → said_of front ≡ Ok f → (es fs : List (List ℕ)) → All (Skipped f.kind) es → All (Skipped f.kind) fs
    → said_of (front ++ (flatten es ++ tail)) ≡ said_of (front ++ (flatten fs ++ tail))
messages_alike = skipped_alike

-- a message is handled exactly as the call of its fields, on any table, so that every promise on the calls is one on messages; those over `Call` are said of both.
-- "A modify without a TFT is accepted after steps 1 to 3 and changes nothing but a closed transaction": it is as one with no operation
module _ (t : Table) (message : List ℕ) (f : Fields) (asked : asked_by message ≡ Ok f) where
  pub whole_modify : (value : List ℕ) → f.kind ≡ ModifyRequest → f.tft ≡ Some value → (handle_of t message).outcome ≡ outcome_of t (modify f.bearer f.transaction value)
  whole_modify = message_modifies t message f asked

  pub whole_modify_without : f.kind ≡ ModifyRequest → f.tft ≡ None
      → ((handle_of t message).outcome ≡ accept_of t f.bearer f.transaction) × ((handle_of t message).outcome ≡ outcome_of t (modify f.bearer f.transaction (0xC0 ∷ [])))
  whole_modify_without k n =
      let e = message_accepts t message f asked k n in
      (e, e ∙ sym (no_operation_lem t f.bearer f.transaction))

  pub whole_dedicated : (link : ℕ) (value : List ℕ) → f.kind ≡ DedicatedRequest link → f.tft ≡ Some value
      → (handle_of t message).outcome ≡ outcome_of t (activate_dedicated f.bearer link f.transaction value)
  whole_dedicated = message_activates t message f asked

  pub whole_deactivate : (why : ℕ) → f.kind ≡ DeactivateRequest why → (handle_of t message).outcome ≡ outcome_of t (deactivate f.bearer f.transaction)
  whole_deactivate = message_deactivates t message f asked

  pub whole_reject : (why : ℕ) → f.kind ≡ ModificationReject why → (handle_of t message).outcome ≡ outcome_of t (reject f.transaction why)
  whole_reject = message_rejects t message f asked

  -- the place is counted in the TFT's value, wherever it stands in the message; without a TFT there is none
  pub whole_places_passed_on : PlacedIn f.tft (handle_of t message).outcome.reply.answer
  whole_places_passed_on = message_placed t message f asked

  -- the answer's octets read as the accept or the reject that the reply is, with the bearer's identity as received, and 0 for the transaction; none are sent where the
  -- reply is neither
  pub whole_answer : All Octet message → AnswerReads f.kind (handle_of t message).outcome.reply.answer (handle_of t message).answer
  whole_answer = answer_reads t message f asked

  pub whole_answered : SendsReply (handle_of t message).outcome.reply.answer → (reply : Kind) × (sending_of f.kind (handle_of t message).outcome.reply.answer ≡ Some reply)
  whole_answered = answer_sent t message f asked

-- a dedicated request always has its TFT
pub whole_dedicated_tft : (message : List ℕ) (f : Fields) (link : ℕ) → said_of message ≡ Ok f → f.kind ≡ DedicatedRequest link → (value : List ℕ) × (f.tft ≡ Some value)
whole_dedicated_tft = activation_has_tft

-- what is asked is what the octets say, but for the replies: "15 .. for a reply type (C6, C7, CA, CB, CE) where a message is handled"
pub whole_asked : (message : List ℕ) (f : Fields) → is_in (type_of f.kind) reply_types ≡ false → (asked_by message ≡ Ok f) ↔ (said_of message ≡ Ok f)
whole_asked message f n = (asked_said message f, said_asked message f n)

pub whole_replies : (t : Table) (message : List ℕ) → well_formed t ≡ true → is_in (get_or message 2 0) reply_types ≡ true
    → (handle_of t message).outcome ≡ answered t (Refused UnknownMessage)
whole_replies = reply_refused

-- and to a message that is refused itself nothing is sent
pub whole_refused : (t : Table) (message : List ℕ) (fault : Fault) → asked_by message ≡ Err fault → SentAs None 0 (handle_of t message).answer
whole_refused = refused_silent

-- kinds, framings, offsets, refusals and answers, computed
pub message_examples : MessageExamples
message_examples = examples_of_messages
