-- Samples of messages read, written and handled, as a single claim about the written definitions, computed.
-- Assumes nothing.
use mathlib.Core.Path.{◌≡◌, refl}
use mathlib.Core.List.{List, [], ◌∷◌}
use Prim.Native.Nat.{ℕ}
use lib.ListN.{get_or, replicate}
use Rattle.std.specs.Prelude.{Option, Some, None, Ok, Err}
use Rattle.laws.specs.Index.{all_below, any_below, tab, joined, pad}
use Rattle.laws.specs.Lists.{is_in, repeats}
use Rattle.laws.specs.Octets.{be_from}
use Rattle.filter.specs.Build.{excluded, added, empty_filter}
use Rattle.filter.specs.Coding.{held, empty_place}
use Rattle.element.specs.Head.{head_fine}
use Rattle.element.specs.Framing.{split_of, rest_fits, framed_by, framed_of}
use Rattle.element.specs.Contents.{length_of, component_of, contents_from, contents_of, coded_of}
use Rattle.element.specs.Places.{unframed_place, earliest, filters_place, place_of}
use Rattle.element.specs.Read.{entries_of, read_value, unplaced, read_element}
use Rattle.table.specs.declared.bearer.Role.{Role}
use Rattle.table.specs.declared.bearer.Role.TheVariants.{Idle, Default, Dedicated}
use Rattle.table.specs.declared.bearer.Table.{Table}
use Rattle.table.specs.Tables.{build}
use Rattle.table.specs.WellFormed.{filter_fine, bearer_fine, transactions_apart, transaction_from, distinct_transactions, row_precedences, connection_precedences, distinct_at, distinct_precedences, bearers_fine, well_formed}
use Rattle.table.proofs.Meaning.{built_right}
use Rattle.calls.specs.declared.reply.Cause.{Cause}
use Rattle.calls.specs.declared.reply.Cause.TheVariants.{TftSyntax, BearerIdentity, FilterSyntax, Transaction}
use Rattle.calls.specs.declared.reply.Refusal.TheVariants.{NotWellFormed, NotOpen, UnknownMessage, MessageFraming}
use Rattle.calls.specs.declared.reply.Answer.TheVariants.{Accept, Reject, Release, Refused}
use Rattle.calls.specs.declared.reply.Outcome.{Outcome}
use Rattle.calls.specs.Reply.{answered, rejected_with}
use Rattle.calls.specs.Steps.{is_open, closed, dropped}
use Rattle.table.specs.Changes.{opens_at, is_at}
use Rattle.calls.specs.Modify.{modify_read, modify_named, modify_of}
use Rattle.calls.specs.Others.{activate_read, activate_named, activate_dedicated_of, deactivate_of, reject_of}
use Rattle.messages.specs.declared.layout.Kind.{Kind}
use Rattle.messages.specs.declared.layout.Kind.TheVariants.{DedicatedRequest, DedicatedAccept, DedicatedReject, ModifyRequest, ModifyAccept}
use Rattle.messages.specs.declared.layout.Kind.TheVariants.{ModifyReject, DeactivateRequest, DeactivateAccept, ModificationReject}
use Rattle.messages.specs.declared.layout.Fault.TheVariants.{Unknown, Framing}
use Rattle.messages.specs.Layout.{kind_of, form_in}
use Rattle.messages.specs.declared.write.MessageUnwritten.{MessageUnwritten}
use Rattle.messages.specs.declared.write.MessageUnwritten.TheVariants.{Unreadable, NoRoom}
use Rattle.messages.specs.Read.{part, elements, activation_start, read_of, Fields, said_of}
use Rattle.messages.specs.Write.{writable, octets_of, MessageOutcome, write_of, fields_of}
use Rattle.messages.specs.Handle.{request_of, asked_by, accept_of, message_of, answer_to, handle_of}

-- bearer 6, transaction 7
abbrev fields : Kind → Option (List ℕ) → Fields
fields kind tft = record { kind = kind; bearer = 6; transaction = 7; tft = tft }

-- such a message, from its type on
abbrev message : List ℕ → List ℕ
message xs = 0x62 ∷ 0x07 ∷ xs

abbrev Reads : List ℕ → Kind → Option (List ℕ) → Type 0
Reads xs kind tft = said_of (message xs) ≡ Ok (fields kind tft)

-- 15 and 16
abbrev Is15 : List ℕ → Type 0
Is15 xs = said_of xs ≡ Err Unknown

abbrev Is16 : List ℕ → Type 0
Is16 xs = said_of xs ≡ Err Framing

-- what is not written leaves the buffer
abbrev buffer : List ℕ
buffer = 0xEE ∷ 0xEE ∷ 0xEE ∷ 0xEE ∷ 0xEE ∷ []

abbrev left_for : MessageOutcome → MessageUnwritten → Type 0
left_for o why = o ≡ record { written = Err why; buffer = buffer }

-- bearers 5, 6, .. in these roles; the others idle, no transaction open and no filter held
abbrev with : List Role → Table
with roles = build (record { role = λ i. get_or roles i Idle; transaction = λ i. 0; filter = λ i j. empty_filter })

abbrev two : Table
two = with (Default ∷ Dedicated 5 ∷ [])

-- not well formed: a dedicated bearer without its default
abbrev lone : Table
lone = with (Dedicated 6 ∷ [])

-- rejected, at this place in the value of the TFT
abbrev rejected_at : ℕ → Cause → ℕ → Outcome
rejected_at bearer cause place = answered two (Reject bearer cause (Some place))

-- the call's outcome, and the octets that are sent
abbrev Handles : Table → List ℕ → Outcome → List ℕ → Type 0
Handles t xs o answer = handle_of t xs ≡ record { outcome = o; answer = message_of answer }

abbrev pub Examples : Type 0
Examples =
    -- "activate dedicated (C5, C6, C7 hex)": a link with spare bits, QoS of one octet and of three
    Reads (0xC5 ∷ 0xF5 ∷ 0x01 ∷ 0x09 ∷ 0x02 ∷ 0x21 ∷ 0x00 ∷ []) (DedicatedRequest 5) (Some (0x21 ∷ 0x00 ∷ []))
    × Reads (0xC5 ∷ 0x05 ∷ 0x03 ∷ 0x09 ∷ 0x01 ∷ 0x02 ∷ 0x01 ∷ 0x21 ∷ []) (DedicatedRequest 5) (Some (0x21 ∷ []))
    × Reads (0xC6 ∷ []) DedicatedAccept None
    × Reads (0xC7 ∷ 0x2A ∷ []) (DedicatedReject 42) None
    -- "modify (C9, CA, CB)": with and without a TFT
    × Reads (0xC9 ∷ []) ModifyRequest None
    × Reads (0xC9 ∷ 0x36 ∷ 0x01 ∷ 0xC0 ∷ []) ModifyRequest (Some (0xC0 ∷ []))
    × Reads (0xCA ∷ []) ModifyAccept None
    × Reads (0xCB ∷ 0x2B ∷ []) (ModifyReject 43) None
    -- "deactivate (CD, CE) and bearer resource modification reject (D7)"
    × Reads (0xCD ∷ 0x24 ∷ []) (DeactivateRequest 36) None
    × Reads (0xCE ∷ []) DeactivateAccept None
    × Reads (0xD7 ∷ 0x2B ∷ []) (ModificationReject 43) None
    -- an element of each framing, before and after the TFT
    × Reads (0xC9 ∷ 0x5B ∷ 0x01 ∷ 0x09 ∷ 0x32 ∷ 0x05 ∷ 0x81 ∷ 0x36 ∷ 0x01 ∷ 0xC0 ∷ 0xC1 ∷ 0x7B ∷ 0x00 ∷ 0x02 ∷ 0xAA ∷ 0xBB ∷ []) ModifyRequest (Some (0xC0 ∷ []))
    × Reads (0xC5 ∷ 0x05 ∷ 0x01 ∷ 0x09 ∷ 0x01 ∷ 0x21 ∷ 0x5D ∷ 0x00 ∷ 0x7B ∷ 0x00 ∷ 0x00 ∷ []) (DedicatedRequest 5) (Some (0x21 ∷ []))
    -- 7B has two length octets: of `7B 00 02 36 00` the last two are its value, and no TFT; read with one, 02 would be an element. Of `7B 01 00` 256 are missing
    × Reads (0xC9 ∷ 0x7B ∷ 0x00 ∷ 0x02 ∷ 0x36 ∷ 0x00 ∷ []) ModifyRequest None
    × Is16 (message (0xC9 ∷ 0x7B ∷ 0x01 ∷ 0x00 ∷ []))
    -- "an unlisted element or a second TFT": 36 among the elements of a C5, 5D among those of a C9, 36 twice
    × Is16 (message (0xC5 ∷ 0x05 ∷ 0x01 ∷ 0x09 ∷ 0x01 ∷ 0x21 ∷ 0x36 ∷ 0x01 ∷ 0xC0 ∷ []))
    × Is16 (message (0xC9 ∷ 0x5D ∷ 0x00 ∷ []))
    × Is16 (message (0xC9 ∷ 0x36 ∷ 0x01 ∷ 0xC0 ∷ 0x36 ∷ 0x01 ∷ 0xC0 ∷ []))
    -- "a TFT of length 0"
    × Reads (0xC9 ∷ 0x36 ∷ 0x00 ∷ []) ModifyRequest (Some [])
    × Reads (0xC5 ∷ 0x05 ∷ 0x01 ∷ 0x09 ∷ 0x00 ∷ []) (DedicatedRequest 5) (Some [])
    -- "16 for framing": a length or a value that is cut short, in each place
    × Is16 (message (0xC9 ∷ 0x36 ∷ []))
    × Is16 (message (0xC9 ∷ 0x36 ∷ 0x02 ∷ 0xC0 ∷ []))
    × Is16 (message (0xC9 ∷ 0x32 ∷ []))
    × Is16 (message (0xC9 ∷ 0x7B ∷ 0x00 ∷ []))
    × Is16 (message (0xC5 ∷ []))
    × Is16 (message (0xC5 ∷ 0x05 ∷ 0x01 ∷ 0x09 ∷ []))
    × Is16 (message (0xC5 ∷ 0x05 ∷ 0x01 ∷ 0x09 ∷ 0x02 ∷ 0x21 ∷ []))
    × Is16 (message (0xC7 ∷ []))
    -- "16 under three octets; 15 for another discriminator or type ..; 16 for framing", in that order
    × Is16 []
    × Is16 (0x61 ∷ 0x07 ∷ [])
    × Is15 (0x61 ∷ 0x07 ∷ 0xC9 ∷ [])
    × Is15 (message (0xC8 ∷ []))
    × Is15 (0x67 ∷ 0x07 ∷ 0xC7 ∷ [])
    -- "and for a reply type .. where a message is handled": before its framing
    × (asked_by (message (0xC7 ∷ [])) ≡ Err Unknown)
    × (asked_by (message (0xCA ∷ [])) ≡ Err Unknown)
    × (asked_by (message (0xC6 ∷ 0x36 ∷ [])) ≡ Err Unknown)
    × (asked_by (message (0xCB ∷ [])) ≡ Err Unknown)
    × (asked_by (message (0xCE ∷ 0x36 ∷ [])) ≡ Err Unknown)
    × (asked_by (0x62 ∷ 0x07 ∷ []) ≡ Err Framing)
    × (asked_by (message (0xD7 ∷ 0x2B ∷ [])) ≡ Ok (fields (ModificationReject 43) None))
    -- "QoS is written as the one octet 09 (house)"
    × (octets_of (fields (DedicatedRequest 5) (Some (0x21 ∷ 0x00 ∷ []))) ≡ message (0xC5 ∷ 0x05 ∷ 0x01 ∷ 0x09 ∷ 0x02 ∷ 0x21 ∷ 0x00 ∷ []))
    × (octets_of (fields ModifyRequest (Some (0xC0 ∷ []))) ≡ message (0xC9 ∷ 0x36 ∷ 0x01 ∷ 0xC0 ∷ []))
    -- what stands behind stays
    × (write_of (fields_of ModifyRequest 6 7 None) buffer ≡ record { written = Ok 3; buffer = 0x62 ∷ 0x07 ∷ 0xC9 ∷ 0xEE ∷ 0xEE ∷ [] })
    × (fields_of ModifyRequest 6 7 (Some (0xC0 ∷ [])) ≡ fields ModifyRequest (Some (0xC0 ∷ [])))
    -- where a TFT stands, also one without octets
    × (read_of (message (0xC9 ∷ 0x81 ∷ 0x36 ∷ 0x01 ∷ 0xC0 ∷ [])) ≡ Ok (record { kind = ModifyRequest; bearer = 6; transaction = 7; tft = Some (part 6 1) }))
    × (read_of (message (0xC9 ∷ 0x36 ∷ 0x00 ∷ [])) ≡ Ok (record { kind = ModifyRequest; bearer = 6; transaction = 7; tft = Some (part 5 0) }))
    × (read_of (message (0xC5 ∷ 0x05 ∷ 0x01 ∷ 0x09 ∷ 0x00 ∷ [])) ≡ Ok (record { kind = DedicatedRequest 5; bearer = 6; transaction = 7; tft = Some (part 7 0) }))
    -- elements of the other kinds, and that are not theirs: 8- is none of a CD's, 33 none of a CE's
    × Reads (0xC6 ∷ 0x33 ∷ 0x00 ∷ 0x27 ∷ 0x00 ∷ []) DedicatedAccept None
    × Reads (0xCD ∷ 0x24 ∷ 0x37 ∷ 0x00 ∷ 0xC1 ∷ []) (DeactivateRequest 36) None
    × Is16 (message (0xCD ∷ 0x24 ∷ 0x81 ∷ []))
    × Reads (0xCE ∷ 0x27 ∷ 0x00 ∷ []) DeactivateAccept None
    × Is16 (message (0xCE ∷ 0x33 ∷ 0x00 ∷ []))
    × Reads (0xD7 ∷ 0x2B ∷ 0x6B ∷ 0x00 ∷ 0x37 ∷ 0x00 ∷ []) (ModificationReject 43) None
    × Reads (0xC9 ∷ 0x30 ∷ 0x00 ∷ 0x34 ∷ 0x00 ∷ 0x5E ∷ 0x00 ∷ 0x27 ∷ 0x00 ∷ 0x33 ∷ 0x00 ∷ 0x66 ∷ 0x00 ∷ []) ModifyRequest None
    -- what stands behind stays
    × (write_of (fields (ModifyReject 43) None) buffer ≡ record { written = Ok 4; buffer = 0x62 ∷ 0x07 ∷ 0xCB ∷ 0x2B ∷ 0xEE ∷ [] })
    -- "15 for a message that cannot be read back, then 9": a link of five bits, none or one TFT too many, then the room
    × left_for (write_of (fields (DedicatedRequest 16) (Some [])) buffer) Unreadable
    × left_for (write_of (fields (DedicatedRequest 5) None) buffer) Unreadable
    × left_for (write_of (fields ModifyAccept (Some [])) buffer) Unreadable
    × left_for (write_of (fields (DedicatedRequest 5) (Some [])) buffer) NoRoom
    -- an identity of five bits, and a TFT of 256 octets
    × left_for (write_of (record { kind = ModifyAccept; bearer = 16; transaction = 7; tft = None }) buffer) Unreadable
    × left_for (write_of (fields ModifyRequest (Some (replicate 256 0))) buffer) Unreadable
    -- what is sent, octet for octet: an accepted activation, a reject of one, and nothing
    × (answer_to (fields (DedicatedRequest 5) (Some [])) (answered two (Accept 6)) ≡ record { count = 3; octets = 0x62 ∷ 0x00 ∷ 0xC6 ∷ 0x00 ∷ [] })
    × (answer_to (fields (DedicatedRequest 5) (Some [])) (rejected_at 6 TftSyntax 0) ≡ record { count = 4; octets = 0x62 ∷ 0x00 ∷ 0xC7 ∷ 0x2A ∷ [] })
    × (answer_to (fields ModifyRequest None) (answered two (Release 5)) ≡ record { count = 0; octets = 0x00 ∷ 0x00 ∷ 0x00 ∷ 0x00 ∷ [] })
    -- "A modify without a TFT is accepted after steps 1 to 3", a TFT of length 0 "gets step 4's 42", and a transaction that is not open 47
    × Handles two (0x62 ∷ 0x00 ∷ 0xC9 ∷ []) (answered two (Accept 6)) (0x62 ∷ 0x00 ∷ 0xCA ∷ [])
    × Handles two (0x62 ∷ 0x00 ∷ 0xC9 ∷ 0x36 ∷ 0x00 ∷ []) (rejected_at 6 TftSyntax 0) (0x62 ∷ 0x00 ∷ 0xCB ∷ 0x2A ∷ [])
    × Handles two (message (0xC9 ∷ [])) (rejected_with two 6 Transaction) (0x62 ∷ 0x00 ∷ 0xCB ∷ 0x2F ∷ [])
    × Handles two (0x62 ∷ 0x00 ∷ 0xC9 ∷ 0x36 ∷ 0x01 ∷ 0xC0 ∷ []) (answered two (Accept 6)) (0x62 ∷ 0x00 ∷ 0xCA ∷ [])
    -- "counted in the element's value", here of operation 7 behind a skipped element, and of length 0 in an activation
    × Handles two (0x62 ∷ 0x00 ∷ 0xC9 ∷ 0x5B ∷ 0x01 ∷ 0x09 ∷ 0x36 ∷ 0x01 ∷ 0xE0 ∷ []) (rejected_at 6 TftSyntax 0) (0x62 ∷ 0x00 ∷ 0xCB ∷ 0x2A ∷ [])
    × Handles two (0x72 ∷ 0x00 ∷ 0xC5 ∷ 0x05 ∷ 0x01 ∷ 0x09 ∷ 0x00 ∷ []) (rejected_at 7 TftSyntax 0) (0x72 ∷ 0x00 ∷ 0xC7 ∷ 0x2A ∷ [])
    -- .. of an octet left over, which is the eleventh of the message, and of the second filter, which is badly coded
    × Handles two (0x62 ∷ 0x00 ∷ 0xC9 ∷ 0x5B ∷ 0x01 ∷ 0x09 ∷ 0x36 ∷ 0x03 ∷ 0xA1 ∷ 0x01 ∷ 0xFF ∷ []) (rejected_at 6 TftSyntax 2) (0x62 ∷ 0x00 ∷ 0xCB ∷ 0x2A ∷ [])
    × Handles two (0x72 ∷ 0x00 ∷ 0xC5 ∷ 0x05 ∷ 0x01 ∷ 0x09 ∷ 0x09 ∷ 0x22 ∷ 0x31 ∷ 0x0A ∷ 0x02 ∷ 0x30 ∷ 0x11 ∷ 0x32 ∷ 0x0B ∷ 0x00 ∷ []) (rejected_at 7 FilterSyntax 6) (0x72 ∷ 0x00 ∷ 0xC7 ∷ 0x2D ∷ [])
    -- a bearer in use is not activated; 6 is deactivated; to a modification reject nothing is sent
    × Handles two (0x62 ∷ 0x00 ∷ 0xC5 ∷ 0x05 ∷ 0x01 ∷ 0x09 ∷ 0x00 ∷ []) (rejected_with two 6 BearerIdentity) (0x62 ∷ 0x00 ∷ 0xC7 ∷ 0x2B ∷ [])
    × Handles two (message (0xCD ∷ 0x24 ∷ [])) (answered (with (Default ∷ [])) (Accept 6)) (0x62 ∷ 0x00 ∷ 0xCE ∷ [])
    × Handles two (message (0xD7 ∷ 0x2B ∷ [])) (answered two (Refused NotOpen)) []
    -- "before any check" but the one that gives 1
    × Handles two (message (0xC6 ∷ [])) (answered two (Refused UnknownMessage)) []
    × Handles two (message []) (answered two (Refused MessageFraming)) []
    × Handles lone (message []) (answered lone (Refused NotWellFormed)) []

-- the lists of a table that is made from its bearers are right by a law; everything else is computed
pub examples : Examples
unfolding all_below any_below tab joined pad is_in repeats held empty_place be_from excluded added head_fine split_of rest_fits framed_by framed_of length_of component_of contents_from contents_of coded_of unframed_place earliest filters_place place_of entries_of read_value unplaced read_element filter_fine bearer_fine transactions_apart transaction_from distinct_transactions row_precedences connection_precedences distinct_at distinct_precedences bearers_fine well_formed opens_at is_open closed is_at dropped modify_read modify_named modify_of activate_read activate_named activate_dedicated_of deactivate_of reject_of kind_of form_in elements activation_start read_of said_of writable octets_of write_of request_of accept_of handle_of
examples = (refl, refl, refl, refl, refl, refl, refl, refl, refl, refl, refl, refl, refl, refl, refl, refl, refl, refl, refl, refl, refl, refl, refl, refl, refl, refl, refl, refl, refl, refl, refl, refl, refl, refl, refl, refl, refl, refl, refl, refl, refl, refl, refl, refl, refl, refl, refl, refl, refl, refl, refl, refl, refl, refl, refl, refl, refl, refl, refl, refl, refl, refl, refl, refl, rw (built_right _) refl, rw (built_right _) refl, rw (built_right _) refl, rw (built_right _) refl, rw (built_right _) refl, rw (built_right _) refl, rw (built_right _) refl, rw (built_right _) refl, rw (built_right _) refl, rw (built_right _) refl, rw (built_right _) refl, rw (built_right _) refl, rw (built_right _) refl, refl)
