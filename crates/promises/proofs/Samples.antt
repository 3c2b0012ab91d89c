-- The sample elements, and one more with SCTP: a single list under a single claim about the written definitions,
-- computed; and a sequence of calls with two routes, and ten routes of SCTP and its like, computed too. Of each sample the whole outcome is shown: reply,
-- follow-up list, and all eleven bearers with their rows; of the sequence every reply, and the whole table after eight calls and at the end.
-- Assumes nothing.
use Rattle.std.specs.Prelude.{None, Option, Some}
use mathlib.Core.Path.{◌≡◌, refl, ◌∙◌, ap, ap₂, fun_ext}
use mathlib.Core.Logic.{◌↔◌}
use mathlib.Core.Bool.{Bool, true, not, ◌&&◌}
use mathlib.Core.List.{List, [], ◌∷◌, ◌++◌, map}
use Prim.Native.Nat.{ℕ}
use lib.Dec.{eqb}
use lib.ListN.{take, get_or}
use Rattle.laws.specs.Says.{pick}
use Rattle.laws.specs.Index.{all_below, any_below, last_below, picks, tab, pad, joined}
use Rattle.laws.specs.Lists.{All, every, is_in, repeats}
use Rattle.laws.specs.Numbers.{same_under}
use Rattle.laws.specs.Octets.{be_from}
use Rattle.laws.proofs.Says.{says_not, says_it, says_all}
use Rattle.filter.specs.declared.component.RemoteAddress.TheVariants.{Absent as no_address}
use Rattle.filter.specs.declared.component.Port.{Port}
use Rattle.filter.specs.declared.component.Port.TheVariants.{Absent as no_port, Is as is_port}
use Rattle.filter.specs.declared.component.Filter.{Filter}
use Rattle.filter.specs.Build.{excluded, added, empty_filter}
use Rattle.filter.specs.declared.packet.Header.{Header}
use Rattle.filter.specs.Coding.{held, well_coded, empty_place, uplink}
use Rattle.filter.specs.Fit.{valid_header, agrees_network, fits}
use Rattle.filter.specs.Fittable.{sample, fittable}
use Rattle.filter.specs.Sizes.{place_count}
use Rattle.filter.specs.Before.{fits_before}
use Rattle.element.specs.Contents.{length_of, component_of, contents_from, contents_of, coded_of}
use Rattle.element.specs.Framing.{split_of, parameters, rest_fits, framed_by, framed_of}
use Rattle.element.specs.Places.{unframed_place, earliest, repeats_one, filters_place, place_of}
use Rattle.element.specs.Read.{no_filters, no_marks, entries_of as element_entries, twice, in_places, marked, read_value, unplaced, read_element}
use Rattle.table.specs.declared.bearer.Role.{Role}
use Rattle.table.specs.declared.bearer.Role.TheVariants.{Idle, Default, Dedicated}
use Rattle.table.specs.declared.bearer.Table.{Table}
use Rattle.table.specs.Bearers.{bearer_count, identity_of, filter_at}
use Rattle.table.specs.Lists.{is_uplink, place_has, bearer_has, entry_in, entry_at, entry_of, cell_at, decoded}
use Rattle.table.specs.Tables.{empty_table, build}
use Rattle.table.specs.WellFormed.{filter_fine, bearer_fine, transactions_apart, transaction_from, distinct_transactions, row_precedences, connection_precedences, distinct_at, distinct_precedences, bearers_fine, well_formed}
use Rattle.calls.specs.declared.reply.Answer.{Answer}
use Rattle.calls.specs.declared.reply.Answer.TheVariants.{Accept, Reject, Release, Reattach, Started, Closed, Synchronised, Refused}
use Rattle.calls.specs.declared.reply.FollowUps.{FollowUps}
use Rattle.calls.specs.declared.reply.Reply.{Reply}
use Rattle.calls.specs.declared.reply.Outcome.{Outcome}
use Rattle.calls.specs.Reply.{cause_number, refusal_number, follow_of}
use Rattle.calls.specs.Steps.{is_open, owner_of, closed, dropped, holds_in, stays_in, empties}
use Rattle.table.specs.Changes.{opens_at, of_connection, is_at, deleted_in}
use Rattle.calls.specs.Lay.{old, taken_by, takes, conflict, placed, conflict_in, loses, placed_in, loses_at, conflict_on_default, follows, released, followers, other_at, only_connection, lay_within, lay_of}
use Rattle.element.specs.Head.{head_fine}
use Rattle.calls.specs.Modify.{deleted_filters, deleted_tft, modify_read, modify_named}
use Rattle.calls.specs.Others.{activate_read, activate_named}
use Rattle.status.specs.Value.{shown_active}
use Rattle.status.specs.Take.{gone_by}
use Rattle.messages.specs.Layout.{kind_of, form_in}
use Rattle.messages.specs.Read.{elements, activation_start, read_of}
use Rattle.messages.specs.Handle.{request_of}
use Rattle.route.specs.declared.answer.Route.{Route}
use Rattle.route.specs.declared.answer.Route.TheVariants.{Bearer}
use Rattle.std.specs.Prelude.{Result, Ok}
use Rattle.route.specs.declared.answer.Refusal.{Refusal as RouteRefusal}
use Rattle.route.specs.Routes.{filter_of, entry_fits, first_fit, has_uplink, otherwise_of, route_on, route_of}
use Rattle.route.specs.Rule.{OwnUplink, FittingBy, RightBy, by_filter, by_default, discarded}
use Rattle.promises.specs.Calls.{Call, activate_default, activate_dedicated, modify, deactivate, reject, start, synchronise, handle, outcome_by, run_by, replies_by, outcome_of, replies, reached}
use Rattle.promises.proofs.Demand3.{empty_sound}
use Rattle.promises.proofs.Fine.{built_well, fine_outcomes, fine_outcome, fine_run, fine_replies, sent, all_sent, fine_route, fine_route_lem}

-- ---- Tables and filters of the samples
-- bearers 5, 6, .. in these roles, the others idle; no transaction is open
abbrev table_in : List Role → (ℕ → ℕ → Filter) → Table
table_in roles filters = build (record { role = λ i. get_or roles i Idle; transaction = λ i. 0; filter = filters })

-- no filter is held
abbrev with : List Role → Table
with roles = table_in roles (λ i j. empty_filter)

-- one filter is held, by this bearer with this identifier
abbrev holding : List Role → ℕ → ℕ → Filter → Table
holding roles bearer identifier f = table_in roles (λ i j. pick (eqb (identity_of i) bearer && eqb j identifier) f empty_filter)

-- "Bearer 5 default without TFT; 6 dedicated, linked to 5."
abbrev five_and_six : List Role
five_and_six = Default ∷ Dedicated 5 ∷ []

-- ".. while dedicated 7 of that connection .."
abbrev and_seven : List Role
and_seven = Default ∷ Dedicated 5 ∷ Dedicated 5 ∷ []

-- ".. where a second default is active": 7; and 7 alone, when the connection of 5 is gone
abbrev and_second : List Role
and_second = Default ∷ Dedicated 5 ∷ Default ∷ []

abbrev second_alone : List Role
second_alone = Idle ∷ Idle ∷ Default ∷ []

-- precedence 10, with this protocol and these ports; direction 3, as octet 31 has it; every other component is absent
abbrev over : Option ℕ → Port → Port → Filter
over protocol local remote =
    record {
      precedence = 10;
      direction = 3;
      address = no_address;
      protocol = protocol;
      local = local;
      remote = remote;
      index = None;
      class = None;
      label = None;
    }

-- "precedence 10, UDP"
abbrev udp : Port → Filter
udp remote = over (Some 17) no_port remote

abbrev sip : List ℕ
sip = 0x21 ∷ 0x31 ∷ 0x0A ∷ 0x05 ∷ 0x30 ∷ 0x11 ∷ 0x50 ∷ 0x13 ∷ 0xC4 ∷ []

-- add of filter 1, precedence 10, UDP
abbrev add : List ℕ
add = 0x61 ∷ 0x31 ∷ 0x0A ∷ 0x02 ∷ 0x30 ∷ 0x11 ∷ []

-- ---- What is shown of an outcome, and that is all of it but for a reject's place: the answer in its numbers, the follow-up list, and the table
pub data Said : Type 0 where
  accepts : (bearer : ℕ) → Said
  rejects : (bearer cause : ℕ) → Said
  releases : (default : ℕ) → Said
  reattaches : Said
  starts : (transaction : ℕ) → Said
  closes : (transaction : ℕ) → Said
  synchronises : Said
  refuses : (number : ℕ) → Said

abbrev said : Answer → Said
said (Accept bearer) = accepts bearer
said (Reject bearer cause place) = rejects bearer (cause_number cause)
said (Release default) = releases default
said Reattach = reattaches
said (Started transaction) = starts transaction
said (Closed transaction) = closes transaction
said Synchronised = synchronises
said (Refused refusal) = refuses (refusal_number refusal)

pub record Told : Type 0 where
  pub answer : Said
  pub follow : FollowUps

abbrev told : Reply → Told
told r = record { answer = said r.answer; follow = r.follow }

pub record Shown : Type 0 where
  pub reply : Told
  pub table : Table

-- ---- The samples
-- a modify without transaction, and what it is to give
pub data Sample : Type 0 where
  gives : (before : Table) (bearer : ℕ) (value : List ℕ) (answer : Said) (follow : List ℕ) (after : Table) → Sample

-- .. where nobody follows and the table is as it was
abbrev keeps : Table → ℕ → List ℕ → Said → Sample
keeps t bearer value answer = gives t bearer value answer [] t

abbrev shown : Sample → Shown
shown (gives t bearer value answer follow after) =
    let o = outcome_of t (modify bearer 0 value) in
    record { reply = told o.reply; table = o.table }

abbrev due : Sample → Shown
due (gives t bearer value answer follow after) = record { reply = record { answer = answer; follow = follow_of follow }; table = after }

abbrev sample_elements : List Sample
sample_elements =
    -- "`21 31 0A 05 30 11 50 13 C4` on 6: filter 1, precedence 10, UDP, remote port 5060; accept."
    gives (with five_and_six) 6 sip (accepts 6) [] (holding five_and_six 6 1 (udp (is_port 5060)))
    -- "The same without its last octet: 42." "`20`: 42." "`C0`: accept."
    ∷ keeps (with five_and_six) 6 (take 8 sip) (rejects 6 42)
    ∷ keeps (with five_and_six) 6 (0x20 ∷ []) (rejects 6 42)
    ∷ keeps (with five_and_six) 6 (0xC0 ∷ []) (accepts 6)
    -- "`40` on 6: 41." "`41 01` on 6: 41, on 5: 42."
    ∷ keeps (with five_and_six) 6 (0x40 ∷ []) (rejects 6 41)
    ∷ keeps (with five_and_six) 6 (0x41 ∷ 0x01 ∷ []) (rejects 6 41)
    ∷ keeps (with five_and_six) 5 (0x41 ∷ 0x01 ∷ []) (rejects 5 42)
    -- "`A1 01` where 6 holds only filter 1: 41; where 5 does, its TFT goes."
    ∷ keeps (holding five_and_six 6 1 (udp no_port)) 6 (0xA1 ∷ 0x01 ∷ []) (rejects 6 41)
    ∷ gives (holding five_and_six 5 1 (udp no_port)) 5 (0xA1 ∷ 0x01 ∷ []) (accepts 5) [] (with five_and_six)
    -- "`21 31 0A 05 30 01 50 13 C4` (ICMP with a port): 44." "`21 31 0A 05 41 00 02 00 01`: 44."
    ∷ keeps (with five_and_six) 6 (0x21 ∷ 0x31 ∷ 0x0A ∷ 0x05 ∷ 0x30 ∷ 0x01 ∷ 0x50 ∷ 0x13 ∷ 0xC4 ∷ []) (rejects 6 44)
    ∷ keeps (with five_and_six) 6 (0x21 ∷ 0x31 ∷ 0x0A ∷ 0x05 ∷ 0x41 ∷ 0x00 ∷ 0x02 ∷ 0x00 ∷ 0x01 ∷ []) (rejects 6 44)
    -- "`21 31 0A 05 30 84 50 13 C4` is accepted from now on."
    ∷ gives (with five_and_six) 6 (0x21 ∷ 0x31 ∷ 0x0A ∷ 0x05 ∷ 0x30 ∷ 0x84 ∷ 0x50 ∷ 0x13 ∷ 0xC4 ∷ []) (accepts 6) [] (holding five_and_six 6 1 (over (Some 132) no_port (is_port 5060)))
    -- "`21 31 0A 02 31 11`: 45."
    ∷ keeps (with five_and_six) 6 (0x21 ∷ 0x31 ∷ 0x0A ∷ 0x02 ∷ 0x31 ∷ 0x11 ∷ []) (rejects 6 45)
    -- "Add of precedence 10 on 6 while dedicated 7 of that connection holds it: accept, 7 loses it, follow-up 7."
    ∷ gives (holding and_seven 7 4 (udp no_port)) 6 add (accepts 6) (7 ∷ []) (holding and_seven 6 1 (udp no_port))
    -- "If 5 holds it: no reply, detach and re-attach; 'release' where a second default is active."
    ∷ gives (holding five_and_six 5 4 (udp no_port)) 6 add reattaches [] empty_table
    ∷ gives (holding and_second 5 4 (udp no_port)) 6 add (releases 5) [] (with second_alone)
    -- not marked: "Add of filter 1, precedence 10, over filter 1, precedence 10: no follow-up."
    ∷ gives (holding five_and_six 6 1 (udp (is_port 5060))) 6 add (accepts 6) [] (holding five_and_six 6 1 (udp no_port))
    ∷ []

abbrev Samples : Type 0
Samples = map shown sample_elements ≡ map due sample_elements

-- ---- A sequence of calls from the empty table, refused ones among them. Each of the eight kinds is called twice or more, with different replies, so that
-- none may refuse everything or always reply the same
-- a call, and what it is to reply
pub data Turn : Type 0 where
  turn : (call : Call) (answer : Said) (follow : List ℕ) → Turn

abbrev called : Turn → Call
called (turn c answer follow) = c

abbrev awaited : Turn → Told
awaited (turn c answer follow) = record { answer = answer; follow = follow_of follow }

-- to the table of the first sample: 6 comes with another filter, and the message of the sample puts its own in the place of that
abbrev opening : List Turn
opening =
    turn (activate_default 5) (accepts 5) []
    -- "43 for an identity .. in use"; "refuses any operation but create with 41"
    ∷ turn (activate_default 5) (rejects 5 43) []
    ∷ turn (activate_dedicated 6 5 0 add) (rejects 6 41) []
    ∷ turn (activate_dedicated 6 5 0 (0x21 ∷ 0x32 ∷ 0x14 ∷ 0x02 ∷ 0x30 ∷ 0x06 ∷ [])) (accepts 6) []
    -- 7: "start: bearer has a transaction"
    ∷ turn (start 9 6) (starts 9) []
    ∷ turn (start 10 6) (refuses 7) []
    -- "A match is closed": when the message comes again, 9 is not open
    ∷ turn (modify 6 9 sip) (accepts 6) []
    ∷ turn (modify 6 9 sip) (rejects 6 47) []
    ∷ []

-- from there until a second default alone is left
abbrev ending : List Turn
ending =
    -- 8 takes the precedence from 6
    turn (activate_dedicated 8 5 0 sip) (accepts 8) (6 ∷ [])
    -- 3: "reject with an identity not open"
    ∷ turn (reject 9 43) (refuses 3) []
    ∷ turn (start 9 6) (starts 9) []
    -- "closes the transaction; cause 43 also deactivates its bearer", and so 6 is idle
    ∷ turn (reject 9 43) (closes 9) []
    ∷ turn (start 9 6) (refuses 6) []
    ∷ turn (activate_default 7) (accepts 7) []
    -- "always accept with the received identity"; "a default takes its connection along", here 8
    ∷ turn (deactivate 6 0) (accepts 6) []
    ∷ turn (deactivate 5 0) (accepts 5) []
    -- "12 for a value that isn't two octets"; 9 is shown inactive and goes with its transaction, and identities 0 to 4 are ignored
    ∷ turn (activate_default 9) (accepts 9) []
    ∷ turn (start 9 9) (starts 9) []
    ∷ turn (synchronise (0x80 ∷ [])) (refuses 12) []
    ∷ turn (synchronise (0x9F ∷ 0x00 ∷ [])) synchronises []
    -- whole messages: 8 is activated, linked to 7; "15 .. for a reply type", whatever follows it; "16 for framing"; "A modify without a TFT is accepted", here with
    -- an element that is skipped; "A TFT of length 0 gets step 4's 42"; and 8 is deactivated
    ∷ turn (handle (0x82 ∷ 0x00 ∷ 0xC5 ∷ 0x07 ∷ 0x01 ∷ 0x09 ∷ 0x09 ∷ sip)) (accepts 8) []
    ∷ turn (handle (0x82 ∷ 0x00 ∷ 0xCA ∷ 0x36 ∷ [])) (refuses 15) []
    ∷ turn (handle (0x82 ∷ 0x00 ∷ 0xC9 ∷ 0x36 ∷ [])) (refuses 16) []
    ∷ turn (handle (0x82 ∷ 0x00 ∷ 0xC9 ∷ 0x7B ∷ 0x00 ∷ 0x01 ∷ 0x36 ∷ [])) (accepts 8) []
    ∷ turn (handle (0x82 ∷ 0x00 ∷ 0xC9 ∷ 0x36 ∷ 0x00 ∷ [])) (rejects 8 42) []
    ∷ turn (handle (0x82 ∷ 0x00 ∷ 0xCD ∷ 0x24 ∷ [])) (accepts 8) []
    ∷ []

-- version 4, of this protocol, with these ports
abbrev packet : ℕ → ℕ → ℕ → Header
packet protocol local remote =
    record { version = 4; address = record { high = 0; low = 0 }; protocol = protocol; local = local; remote = remote; index = 0; class = 0; label = 0 }

abbrev Sequence : Type 0
Sequence =
    let turns = opening ++ ending in
    let sampled = reached (map called opening) in
    (map told (replies empty_table (map called turns)) ≡ map awaited turns)
    -- "After the first sample, header version 4, protocol 17, remote port 5060 routes to 6; 5061 to 5."
    × (sampled ≡ holding five_and_six 6 1 (udp (is_port 5060)))
    × (route_of sampled 5 (packet 17 0 5060) ≡ Ok (Bearer 6))
    × (route_of sampled 5 (packet 17 0 5061) ≡ Ok (Bearer 5))
    × (reached (map called turns) ≡ with second_alone)

-- ---- Of SCTP: where 6 holds a filter with this protocol and both ports, local 2905 and remote 5060, the routes of packets with these ports: of TCP, UDP, SCTP,
-- and UDP-Lite, which carries no ports here
abbrev both_ports : Option ℕ → Table
both_ports protocol = holding five_and_six 6 1 (over protocol (is_port 2905) (is_port 5060))

abbrev routes_of : Option ℕ → List (Result Route RouteRefusal)
routes_of protocol = map (λ (n : ℕ). route_of (both_ports protocol) 5 (packet n 2905 5060)) (6 ∷ 17 ∷ 132 ∷ 136 ∷ [])

abbrev sent_on : List ℕ → List (Result Route RouteRefusal)
sent_on bearers = map (λ (b : ℕ). Ok (Bearer b)) bearers

abbrev SctpRoutes : Type 0
SctpRoutes =
    (routes_of (Some 132) ≡ sent_on (5 ∷ 5 ∷ 6 ∷ 5 ∷ []))
    × (routes_of None ≡ sent_on (6 ∷ 6 ∷ 6 ∷ 5 ∷ []))
    -- each of the two ports counts
    × (route_of (both_ports (Some 132)) 5 (packet 132 2905 5061) ≡ Ok (Bearer 5))
    × (route_of (both_ports (Some 132)) 5 (packet 132 2906 5060) ≡ Ok (Bearer 5))

-- ---- All are computed, by opening the definitions that they are said in, but for one thing: that a table is well formed is computed of its bearers alone, and of its
-- lists a law says it. So the eight functions are computed past that test (`fine_outcomes`), in the same calls and sequences, and `Fine` says that on well-formed tables
-- this is what the definitions give
-- each sample begins with a well-formed table
abbrev Starts : Sample → Type 0
Starts (gives t bearer value answer follow after) = well_formed t ≡ true

abbrev shown_fine : Sample → Shown
shown_fine (gives t bearer value answer follow after) =
    let o = outcome_by fine_outcomes t (modify bearer 0 value) in
    record { reply = told o.reply; table = o.table }

shown_fine_lem : (ss : List Sample) → All Starts ss → map shown ss ≡ map shown_fine ss
shown_fine_lem [] s = refl
shown_fine_lem (gives t bearer value answer follow after ∷ ss) s =
    ap₂ (λ (o : Outcome) (rest : List Shown). record { reply = told o.reply; table = o.table } ∷ rest) (fine_outcome t s.0 (modify bearer 0 value)) (shown_fine_lem ss s.1)

all_start : All Starts sample_elements
unfolding all_below tab every is_in repeats same_under held well_coded empty_place valid_header agrees_network fits sample fittable filter_fine bearer_fine transactions_apart transaction_from distinct_transactions joined row_precedences connection_precedences distinct_at distinct_precedences bearers_fine
all_start = (built_well _ refl, (built_well _ refl, (built_well _ refl, (built_well _ refl, (built_well _ refl, (built_well _ refl, (built_well _ refl, (built_well _ refl, (built_well _ refl, (built_well _ refl, (built_well _ refl, (built_well _ refl, (built_well _ refl, (built_well _ refl, (built_well _ refl, (built_well _ refl, (built_well _ refl, tt)))))))))))))))))

-- the calls past that
computed : (map shown_fine sample_elements ≡ map due sample_elements)
    × (map told (replies_by fine_outcomes empty_table (map called (opening ++ ending))) ≡ map awaited (opening ++ ending))
    × (run_by fine_outcomes empty_table (map called opening) ≡ holding five_and_six 6 1 (udp (is_port 5060)))
    × (run_by fine_outcomes empty_table (map called (opening ++ ending)) ≡ with second_alone)
    × (every sent (map called opening) ≡ true)
    × (every sent (map called (opening ++ ending)) ≡ true)
unfolding all_below any_below picks tab pad every is_in repeats same_under be_from excluded added held well_coded empty_place valid_header agrees_network fits sample fittable length_of component_of contents_from contents_of split_of parameters rest_fits framed_by framed_of no_filters no_marks coded_of element_entries twice in_places marked read_value unframed_place earliest repeats_one filters_place place_of unplaced read_element opens_at is_open closed of_connection deleted_in holds_in stays_in empties old taken_by takes conflict placed conflict_in loses placed_in loses_at conflict_on_default follows released followers other_at only_connection lay_within lay_of head_fine deleted_filters deleted_tft modify_read modify_named dropped is_at owner_of run_by replies_by sent empty_table activate_read activate_named last_below shown_active gone_by kind_of form_in elements activation_start read_of request_of
computed = (refl, refl, refl, refl, refl, refl)

-- the routes, on these tables
abbrev sampled_table : Table
sampled_table = holding five_and_six 6 1 (udp (is_port 5060))

abbrev RoutesTo : Table → Header → ℕ → Type 0
RoutesTo t h bearer = fine_route t.bearers h ≡ Ok (Bearer bearer)

abbrev fine_routes : Option ℕ → List (Result Route RouteRefusal)
fine_routes protocol = map (λ (n : ℕ). fine_route (both_ports protocol).bearers (packet n 2905 5060)) (6 ∷ 17 ∷ 132 ∷ 136 ∷ [])

routed : (bearers_fine sampled_table ≡ true)
    × (bearers_fine (both_ports (Some 132)) ≡ true)
    × (bearers_fine (both_ports None) ≡ true)
    × RoutesTo sampled_table (packet 17 0 5060) 6
    × RoutesTo sampled_table (packet 17 0 5061) 5
    × (fine_routes (Some 132) ≡ sent_on (5 ∷ 5 ∷ 6 ∷ 5 ∷ []))
    × (fine_routes None ≡ sent_on (6 ∷ 6 ∷ 6 ∷ 5 ∷ []))
    × RoutesTo (both_ports (Some 132)) (packet 132 2905 5061) 5
    × RoutesTo (both_ports (Some 132)) (packet 132 2906 5060) 5
unfolding all_below any_below last_below tab same_under held well_coded empty_place valid_header agrees_network fits sample fittable uplink place_has bearer_has entry_in entry_at filter_of entry_fits first_fit has_uplink otherwise_of route_on filter_fine bearer_fine transactions_apart transaction_from distinct_transactions every is_in repeats joined row_precedences connection_precedences distinct_at distinct_precedences bearers_fine
routed = (refl, refl, refl, refl, refl, refl, refl, refl, refl)

-- ---- so they are as claimed
pub samples : Samples
samples = shown_fine_lem sample_elements all_start ∙ computed.0

pub sequence : Sequence
sequence = (
  ap (map told) (fine_replies empty_table empty_sound (map called (opening ++ ending)) (all_sent (map called (opening ++ ending)) computed.5)) ∙ computed.1,
  is,
  ap (λ (t : Table). route_of t 5 (packet 17 0 5060)) is ∙ fine_route_lem sampled_table.bearers routed.0 (packet 17 0 5060) ∙ routed.3,
  ap (λ (t : Table). route_of t 5 (packet 17 0 5061)) is ∙ fine_route_lem sampled_table.bearers routed.0 (packet 17 0 5061) ∙ routed.4,
  fine_run empty_table empty_sound (map called (opening ++ ending)) (all_sent (map called (opening ++ ending)) computed.5) ∙ computed.3,
)
  where
    is : reached (map called opening) ≡ sampled_table
    is = fine_run empty_table empty_sound (map called opening) (all_sent (map called opening) computed.4) ∙ computed.2

pub sctp_routes : SctpRoutes
sctp_routes = (
  alike (Some 132) routed.1 ∙ routed.5,
  alike None routed.2 ∙ routed.6,
  fine_route_lem (both_ports (Some 132)).bearers routed.1 (packet 132 2905 5061) ∙ routed.7,
  fine_route_lem (both_ports (Some 132)).bearers routed.1 (packet 132 2906 5060) ∙ routed.8,
)
  where
    alike : (protocol : Option ℕ) → bearers_fine (both_ports protocol) ≡ true → routes_of protocol ≡ fine_routes protocol
    alike protocol e = ap (λ (f : ℕ → Result Route RouteRefusal). map f (6 ∷ 17 ∷ 132 ∷ 136 ∷ [])) (fun_ext (λ (n : ℕ). fine_route_lem (both_ports protocol).bearers e (packet n 2905 5060)))

-- ---- Before SCTP carried ports, the packet of SCTP that the filter without a protocol sends on 6 was right on 5, and nowhere else
abbrev sctp_packet : Header
sctp_packet = packet 132 2905 5060

abbrev up_at : ℕ → ℕ → Bool
up_at i j = is_uplink (filter_at (both_ports None) i j)

abbrev fitted_at : ℕ → ℕ → Bool
fitted_at i j = up_at i j && fits_before (filter_at (both_ports None) i j) sctp_packet

none_of_default : all_below (λ (j : ℕ). not (up_at 0 j)) place_count ≡ true
unfolding all_below tab held uplink
none_of_default = refl

none_fitted : all_below (λ (i : ℕ). all_below (λ (j : ℕ). not (fitted_at i j)) place_count) bearer_count ≡ true
unfolding all_below tab held uplink agrees_network
none_fitted = refl

pub sctp_route_before : (r : Route) → RightBy fits_before (both_ports None) 5 sctp_packet r ↔ (r ≡ Bearer 5)
sctp_route_before r = (to, by_default none own)
  where
    none : (i j : ℕ) → FittingBy fits_before (both_ports None) 5 sctp_packet i j → ⊥
    none i j g =
        (says_all bearer_count (λ k l. says_all place_count (λ m n. says_not (says_it (fitted_at k m))))).to none_fitted i g.uplink.bearer j g.uplink.place
        (rw g.uplink.up g.fit)

    own : (j : ℕ) → OwnUplink (both_ports None) 5 j → ⊥
    own j o = (says_all place_count (λ m n. says_not (says_it (up_at 0 m)))).to none_of_default j o.0 o.1

    to : RightBy fits_before (both_ports None) 5 sctp_packet r → r ≡ Bearer 5
    to (by_filter i j l e) = absurd (none i j l.fitting)
    to (by_default empty bare e) = e
    to (discarded empty j o e) = absurd (own j o)

-- ---- the lists of the table after the first sample, computed: position 10 of 5's list names filter 1 of bearer 6, as octet 97; its neighbours, and the list of 6, name nothing
pub listed : let bs = (holding five_and_six 6 1 (udp (is_port 5060))).bearers in
    (entry_at bs 5 10 ≡ entry_of 6 1) × (cell_at bs 10 ≡ 97) × (cell_at bs 9 ≡ 0) × (cell_at bs 11 ≡ 0) × (cell_at bs 266 ≡ 0) × (decoded 97 ≡ entry_of 6 1)
unfolding tab any_below last_below held uplink place_has bearer_has entry_in entry_at cell_at decoded
listed = (refl, refl, refl, refl, refl, refl)
