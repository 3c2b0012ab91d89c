-- What the theorems on messages say, where that is no computation.
use Rattle.std.specs.Prelude.{◌≡◌, ◌⊎◌, ◌↔◌, Bool, true, ℕ, ◌+◌, ◌*◌, ◌/◌, ◌%◌, ◌<◌, ◌≤◌, eqb, length, take, drop, get_or, Option, Some, None, Ok}
use mathlib.Core.List.{List, [], ◌∷◌, ◌++◌, flatten}
use Rattle.laws.specs.Lists.{All, every, is_in}
use Rattle.element.specs.Meaning.{Octet}
use Rattle.table.specs.declared.bearer.Table.{Table}
use Rattle.table.specs.WellFormed.{WellFormed}
use Rattle.calls.specs.declared.reply.Answer.{Answer}
use Rattle.calls.specs.declared.reply.Answer.TheVariants.{Accept, Reject}
use Rattle.calls.specs.Checks.{Placed, Unplaced}
use Rattle.messages.specs.declared.layout.Kind.{Kind}
use Rattle.messages.specs.declared.layout.Mandatory.{Mandatory}
use Rattle.messages.specs.declared.layout.Mandatory.TheVariants.{Nothing, Cause, Activation}
use Rattle.messages.specs.declared.listed.Form.{Form}
use Rattle.messages.specs.declared.listed.Form.TheVariants.{Half, Two, Tlv, TlvE, Template}
use Rattle.messages.specs.declared.handle.AnswerMessage.{AnswerMessage}
use Rattle.messages.specs.Layout.{discriminator, head_octets, tft_identifier, row_of, carried, type_of, form_in, optional}
use Rattle.messages.specs.Read.{Fields, said_of}
use Rattle.messages.specs.Write.{octets_of}
use Rattle.messages.specs.Handle.{sending_of}

-- ---- Each number of the reader: the theorem `read_numbers`
-- the discriminator is 2, and the type is one of the nine
abbrev pub types : List ℕ
types = 0xC5 ∷ 0xC6 ∷ 0xC7 ∷ 0xC9 ∷ 0xCA ∷ 0xCB ∷ 0xCD ∷ 0xCE ∷ 0xD7 ∷ []

abbrev pub Ours : List ℕ → Type 0
Ours message = (get_or message 0 0 % 16 ≡ discriminator) × (is_in (get_or message 2 0) types ≡ true)

pub record ReadNumbered (message : List ℕ) (number : ℕ) : Type 0 where
  pub is15 : (number ≡ 15) ↔ ((head_octets ≤ length message) × (Ours message → ⊥))
  pub is0 : (number ≡ 0) ↔ ((f : Fields) × (said_of message ≡ Ok f))
  pub given : (number ≡ 0) ⊎ ((number ≡ 15) ⊎ (number ≡ 16))

-- ---- An element that is skipped: the theorem `skipped_changes_nothing`
-- the octets after an element's identifier are all of it, whatever they hold
abbrev pub Whole : Form → List ℕ → Type 0
Whole Half xs = xs ≡ []
Whole Two xs = (x : ℕ) × (xs ≡ x ∷ [])
Whole Tlv xs = (value : List ℕ) × (xs ≡ length value ∷ value)
Whole TlvE xs = (high : ℕ) × ((low : ℕ) × ((value : List ℕ) × ((xs ≡ high ∷ low ∷ value) × (length value ≡ high * 256 + low))))
Whole Template xs = ⊥

-- a message of this kind lists it, and it is not the TFT
pub record Skipped (kind : Kind) (e : List ℕ) : Type 0 where
  pub identifier : ℕ
  pub rest : List ℕ
  pub form : Form
  pub is : e ≡ identifier ∷ rest
  pub listed : form_in (optional kind) identifier ≡ Some form
  pub whole : Whole form rest

-- ---- Each number of the writer: the theorem `write_numbers`
-- every number in its type's range
abbrev pub OctetsInRange : Option (List ℕ) → Type 0
OctetsInRange None = Unit {0}
OctetsInRange (Some value) = All Octet value

pub record FieldsInRange (f : Fields) : Type 0 where
  pub bearer : f.bearer < 256
  pub transaction : f.transaction < 256
  pub carried : carried f.kind < 256
  pub tft : OctetsInRange f.tft

-- some octets, however many, read as the message
pub record Readable (f : Fields) : Type 0 where
  pub message : List ℕ
  pub octets : All Octet message
  pub reads : said_of message ≡ Ok f

pub record WriteNumbered (f : Fields) (buffer : List ℕ) (number : ℕ) : Type 0 where
  pub is15 : (number ≡ 15) ↔ (Readable f → ⊥)
  pub is9 : (number ≡ 9) ↔ (Readable f × (length buffer < length (octets_of f)))
  pub is0 : (number ≡ 0) ↔ (Readable f × (length (octets_of f) ≤ length buffer))

-- ---- The answer: the theorem `answer_reads`
abbrev pub sent : AnswerMessage → List ℕ
sent m = take m.count m.octets

-- "a count (0, 3 or 4) and four octets, zero beyond the count": what is sent reads as a message of this kind to this bearer, transaction 0 and no TFT; or nothing is sent
abbrev pub is_zero : ℕ → Bool
is_zero x = eqb x 0

abbrev pub ReadsAs : Option Kind → ℕ → AnswerMessage → Type 0
ReadsAs None bearer m = (m.count ≡ 0) × (m.octets ≡ 0 ∷ 0 ∷ 0 ∷ 0 ∷ [])
ReadsAs (Some kind) bearer m =
    (said_of (sent m) ≡ Ok (record { kind = kind; bearer = bearer; transaction = 0; tft = None }))
    × ((length m.octets ≡ 4) × (every is_zero (drop m.count m.octets) ≡ true))

-- the identity of an accept or a reject
abbrev pub bearer_of : Answer → ℕ
bearer_of (Accept bearer) = bearer
bearer_of (Reject bearer cause place) = bearer
bearer_of _ = 0

abbrev pub AnswerReads : Kind → Answer → AnswerMessage → Type 0
AnswerReads kind a m = ReadsAs (sending_of kind a) (bearer_of a) m

-- ---- "Counted in the element's value": the theorem `message_placed`
-- a reject's place is the reader's for the TFT's octets; a message without a TFT has none
abbrev pub PlacedIn : Option (List ℕ) → Answer → Type 0
PlacedIn None a = Unplaced a
PlacedIn (Some value) a = Placed value a

-- ---- The octets of a message, part after part, with no word of how they are walked: the theorem `reads_exactly`
-- what stands between the type and the optional elements, by the octet that it carries and the TFT that it holds
abbrev pub MandatoryPart : Mandatory → ℕ → Option (List ℕ) → List ℕ → Type 0
MandatoryPart Nothing x tft xs = (tft ≡ None) × (xs ≡ [])
MandatoryPart Cause x tft xs = (tft ≡ None) × (xs ≡ x ∷ [])
MandatoryPart Activation x tft xs =
    (octet : ℕ) × ((qos : List ℕ) × ((value : List ℕ) × (((octet % 16 ≡ x) × (tft ≡ Some value)) × (xs ≡ octet ∷ length qos ∷ qos ++ (length value ∷ value)))))

-- optional elements one after the other, in any order: each is skipped, or it is the TFT, where there was none before it
abbrev pub OptionalPart : Kind → Option (List ℕ) → Option (List ℕ) → List (List ℕ) → Type 0
OptionalPart kind before tft [] = before ≡ tft
OptionalPart kind before tft (e ∷ es) =
    (Skipped kind e × OptionalPart kind before tft es)
    ⊎ (((before ≡ None) × (form_in (optional kind) tft_identifier ≡ Some Template))
    × ((value : List ℕ) × ((e ≡ tft_identifier ∷ length value ∷ value) × OptionalPart kind (Some value) tft es)))

pub record Composed (f : Fields) (message : List ℕ) : Type 0 where
  pub first : ℕ
  pub mandatory : List ℕ
  pub elements : List (List ℕ)
  pub before : Option (List ℕ)
  pub is : message ≡ first ∷ f.transaction ∷ type_of f.kind ∷ mandatory ++ flatten elements
  pub bearer : first / 16 ≡ f.bearer
  pub ours : first % 16 ≡ discriminator
  pub start : MandatoryPart (row_of f.kind).mandatory (carried f.kind) before mandatory
  pub rest : OptionalPart f.kind before f.tft elements

-- ---- Each number that a message itself is refused with: the theorem `handle_numbers`
-- the discriminator is 2, and the type is one of the four that are handled
abbrev pub requests : List ℕ
requests = 0xC5 ∷ 0xC9 ∷ 0xCD ∷ 0xD7 ∷ []

abbrev pub Request : List ℕ → Type 0
Request message = (get_or message 0 0 % 16 ≡ discriminator) × (is_in (get_or message 2 0) requests ≡ true)

pub record HandleNumbered (t : Table) (message : List ℕ) (number : ℕ) : Type 0 where
  pub is1 : (number ≡ 1) ↔ (WellFormed t → ⊥)
  pub is15 : (number ≡ 15) ↔ (WellFormed t × ((head_octets ≤ length message) × (Request message → ⊥)))
  pub is16 : (number ≡ 16) ↔ (WellFormed t × ((length message < head_octets) ⊎ (Request message × ((f : Fields) → Composed f message → ⊥))))
