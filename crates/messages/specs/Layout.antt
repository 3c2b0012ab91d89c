-- "Read and write the plain messages of TS 24.301". The layout is that of V13.8.0; another edition is another table.
use Rattle.std.specs.Prelude.{ℕ, ◌/◌, ◌%◌, Bool, List, [], ◌∷◌, eqb, Option, Some, None}
use Rattle.laws.specs.Says.{pick}
use Rattle.messages.specs.declared.layout.Kind.{Kind}
use Rattle.messages.specs.declared.layout.Kind.TheVariants.{DedicatedRequest, DedicatedAccept, DedicatedReject, ModifyRequest, ModifyAccept}
use Rattle.messages.specs.declared.layout.Kind.TheVariants.{ModifyReject, DeactivateRequest, DeactivateAccept, ModificationReject}
use Rattle.messages.specs.declared.layout.Mandatory.{Mandatory}
use Rattle.messages.specs.declared.layout.Mandatory.TheVariants.{Nothing, Cause, Activation}
use Rattle.messages.specs.declared.layout.Carries.{Carries}
use Rattle.messages.specs.declared.layout.Carries.TheVariants.{Always, Maybe, Never}
use Rattle.messages.specs.declared.listed.Form.{Form}
use Rattle.messages.specs.declared.listed.Form.TheVariants.{Half, Two, Tlv, TlvE, Template}

-- "The protocol discriminator is 2."
abbrev pub discriminator : ℕ
discriminator = 2

-- Octet 1: bearer identity in bits 8 to 5, discriminator in bits 4 to 1. Octet 2: transaction identity. Octet 3: type.
abbrev pub head_octets : ℕ
head_octets = 3

-- ---- An optional element that a message lists: how it is framed, and its identifier (of a half-octet element, the upper half of its octet)
pub record Listed : Type 0 where
  pub form : Form
  pub identifier : ℕ

-- identifier, length, value
abbrev pub tlv : ℕ → Listed
tlv identifier = record { form = Tlv; identifier = identifier }

-- identifier, two length octets, value
abbrev pub tlv_e : ℕ → Listed
tlv_e identifier = record { form = TlvE; identifier = identifier }

-- identifier, one octet
abbrev pub two : ℕ → Listed
two identifier = record { form = Two; identifier = identifier }

-- identifier in the upper half, value in the lower
abbrev pub half : ℕ → Listed
half identifier = record { form = Half; identifier = identifier }

-- the TFT: identifier, length, value
abbrev pub template : ℕ → Listed
template identifier = record { form = Template; identifier = identifier }

-- ---- A message's row: its type, what stands between the type and the optional elements, whether it has a TFT, and what it lists
-- (that a row with Activation, or that lists a template, has a TFT, and no other: the theorem `write_numbers`)
-- Nothing; Cause: one octet; Activation: one octet, the linked identity in bits 4 to 1 and the rest spare, then QoS and TFT, each a length octet and its value
pub record Row : Type 0 where
  pub type : ℕ
  pub mandatory : Mandatory
  pub tft : Carries
  pub optional : List Listed

abbrev pub row : ℕ → Mandatory → Carries → List Listed → Row
row type mandatory tft optional = record { type = type; mandatory = mandatory; tft = tft; optional = optional }

-- ---- The table: "activate dedicated (C5, C6, C7 hex), modify (C9, CA, CB), deactivate (CD, CE) and bearer resource modification reject (D7)"
abbrev pub dedicated_request_lists : List Listed
dedicated_request_lists = tlv 0x5D ∷ tlv 0x30 ∷ tlv 0x34 ∷ tlv 0x27 ∷ tlv 0x33 ∷ two 0x32 ∷ half 0x8 ∷ half 0xC ∷ tlv_e 0x7B ∷ []

-- the TFT of a modify request
abbrev pub tft_identifier : ℕ
tft_identifier = 0x36

abbrev pub modify_request_lists : List Listed
modify_request_lists =
    template tft_identifier ∷ tlv 0x5B ∷ tlv 0x30 ∷ tlv 0x34 ∷ tlv 0x5E ∷ tlv 0x27 ∷ tlv 0x33 ∷ tlv 0x66 ∷ two 0x32 ∷ half 0x8 ∷ half 0xC ∷ tlv_e 0x7B ∷ []

-- C6, C7, CA and CB
abbrev pub reply_lists : List Listed
reply_lists = tlv 0x27 ∷ tlv 0x33 ∷ tlv_e 0x7B ∷ []

abbrev pub deactivate_request_lists : List Listed
deactivate_request_lists = tlv 0x27 ∷ tlv 0x37 ∷ tlv 0x33 ∷ half 0xC ∷ tlv_e 0x7B ∷ []

abbrev pub deactivate_accept_lists : List Listed
deactivate_accept_lists = tlv 0x27 ∷ tlv_e 0x7B ∷ []

abbrev pub modification_reject_lists : List Listed
modification_reject_lists = tlv 0x27 ∷ tlv 0x37 ∷ tlv 0x6B ∷ tlv 0x33 ∷ tlv_e 0x7B ∷ []

abbrev pub row_of : Kind → Row
row_of (DedicatedRequest link) = row 0xC5 Activation Always dedicated_request_lists
row_of DedicatedAccept = row 0xC6 Nothing Never reply_lists
row_of (DedicatedReject why) = row 0xC7 Cause Never reply_lists
row_of ModifyRequest = row 0xC9 Nothing Maybe modify_request_lists
row_of ModifyAccept = row 0xCA Nothing Never reply_lists
row_of (ModifyReject why) = row 0xCB Cause Never reply_lists
row_of (DeactivateRequest why) = row 0xCD Cause Never deactivate_request_lists
row_of DeactivateAccept = row 0xCE Nothing Never deactivate_accept_lists
row_of (ModificationReject why) = row 0xD7 Cause Never modification_reject_lists

-- the linked identity or the cause; 0 where it has neither
abbrev pub carried : Kind → ℕ
carried (DedicatedRequest link) = link
carried DedicatedAccept = 0
carried (DedicatedReject why) = why
carried ModifyRequest = 0
carried ModifyAccept = 0
carried (ModifyReject why) = why
carried (DeactivateRequest why) = why
carried DeactivateAccept = 0
carried (ModificationReject why) = why

-- the nine, where the octet after the type is x: it is the cause, or the linked identity in bits 4 to 1
abbrev pub kinds_with : ℕ → List Kind
kinds_with x =
    DedicatedRequest (x % 16) ∷ DedicatedAccept ∷ DedicatedReject x ∷ ModifyRequest ∷ ModifyAccept ∷ ModifyReject x ∷ DeactivateRequest x ∷ DeactivateAccept
    ∷ ModificationReject x ∷ []

abbrev pub type_of : Kind → ℕ
type_of kind = (row_of kind).type

-- the one with this type
abbrev pub named_in : List Kind → ℕ → Option Kind
named_in [] type = None
named_in (kind ∷ kinds) type = pick (eqb type (type_of kind)) (Some kind) (named_in kinds type)

unfoldable pub kind_of : ℕ → ℕ → Option Kind
kind_of type x = named_in (kinds_with x) type

-- ---- How the element of an identifier octet is framed
abbrev pub begins_with : Form → ℕ → ℕ → Bool
begins_with Half identifier x = eqb (x / 16) identifier
begins_with _ identifier x = eqb x identifier

abbrev pub is_of : Listed → ℕ → Bool
is_of l x = begins_with l.form l.identifier x

abbrev pub framing : Listed → Form
framing l = l.form

unfoldable pub form_in : List Listed → ℕ → Option Form
form_in [] x = None
form_in (l ∷ ls) x = pick (is_of l x) (Some (framing l)) (form_in ls x)

abbrev pub optional : Kind → List Listed
optional kind = (row_of kind).optional
