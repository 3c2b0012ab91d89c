-- The reader: "QoS and optional elements other than the TFT are framed as that standard lists them and skipped".
use Rattle.std.specs.Prelude.{ℕ, zero, suc, ◌+◌, ◌*◌, ◌/◌, ◌%◌, Bool, true, false, List, [], ◌∷◌, eqb, leb, length, take, drop, get_or, Option, Some, None, ok_or, Result, Ok, Err}
use Rattle.laws.specs.Says.{pick}
use Rattle.messages.specs.declared.layout.Kind.{Kind}
use Rattle.messages.specs.declared.layout.Part.{Part}
use Rattle.messages.specs.declared.layout.Message.{Message}
use Rattle.messages.specs.declared.read.Reached.{Reached}
use Rattle.messages.specs.declared.layout.Fault.{Fault}
use Rattle.messages.specs.declared.layout.Fault.TheVariants.{Unknown, Framing}
use Rattle.messages.specs.declared.layout.Mandatory.{Mandatory}
use Rattle.messages.specs.declared.layout.Mandatory.TheVariants.{Nothing, Cause, Activation}
use Rattle.messages.specs.declared.listed.Form.{Form}
use Rattle.messages.specs.declared.listed.Form.TheVariants.{Half, Two, Tlv, TlvE, Template}
use Rattle.messages.specs.Layout.{Listed, discriminator, head_octets, row_of, kind_of, form_in, optional}

-- where a TFT's octets stand in the message, and how many they are
abbrev pub part : ℕ → ℕ → Part
part from octets = record { from = from; octets = octets }

-- where the next optional element begins, and the TFT before it
abbrev pub reached : ℕ → Option Part → Reached
reached at tft = record { at = at; tft = tft }

-- the first fault, or what is made of a part that has none
infixl 10 ◌>>=◌
abbrev pub ◌>>=◌ : {A B : Type 0} → Result A Fault → (A → Result B Fault) → Result B Fault
(Err fault) >>= f = Err fault
(Ok x) >>= f = f x

-- ---- Optional elements, in any order
-- how many octets follow an element's identifier, by the octets after it; of a length octet that is past the end the element is past it too
abbrev pub tail_of : Form → List ℕ → ℕ
tail_of Half xs = 0
tail_of Two xs = 1
tail_of Tlv xs = 1 + get_or xs 0 0
tail_of TlvE xs = 2 + (get_or xs 0 0 * 256 + get_or xs 1 0)
tail_of Template xs = 1 + get_or xs 0 0

-- "a second TFT"
abbrev pub is_barred : Form → Option Part → Bool
is_barred Half tft = false
is_barred Two tft = false
is_barred Tlv tft = false
is_barred TlvE tft = false
is_barred Template None = false
is_barred Template (Some p) = true

-- the TFT so far, after an element at this offset with these octets after its identifier: the TFT's own stand after identifier and length
abbrev pub with_element : Form → ℕ → List ℕ → Option Part → Option Part
with_element Half at xs tft = tft
with_element Two at xs tft = tft
with_element Tlv at xs tft = tft
with_element TlvE at xs tft = tft
with_element Template at xs tft = Some (part (at + 2) (get_or xs 0 0))

-- what the octets from an offset on say after the TFT so far, where k octets of the last element are still to pass; "an unlisted element" is a fault
unfoldable pub elements : List Listed → ℕ → ℕ → Option Part → List ℕ → Result (Option Part) Fault
elements listed zero at tft [] = Ok tft
elements listed (suc k) at tft [] = Err Framing
elements listed zero at tft (x ∷ xs) =
    ok_or (form_in listed x) Framing
    >>= λ form. pick (is_barred form tft) (Err Framing) (elements listed (tail_of form xs) (suc at) (with_element form at xs tft) xs)
elements listed (suc k) at tft (x ∷ xs) = elements listed k (suc at) tft xs

-- ---- The mandatory part: where the optional elements begin, and the TFT that stands before them; or something is missing
abbrev pub template_start : ℕ → ℕ → List ℕ → Result Reached Fault
template_start from octets message = pick (leb (from + octets) (length message)) (Ok (reached (from + octets) (Some (part from octets)))) (Err Framing)

-- the link at 3, QoS with its length at 4, and then the TFT with its length
unfoldable pub activation_start : ℕ → List ℕ → Result Reached Fault
activation_start qos message = template_start (6 + qos) (get_or message (5 + qos) 0) message

abbrev pub start_by : Mandatory → List ℕ → Result Reached Fault
start_by Nothing message = Ok (reached head_octets None)
start_by Cause message = pick (leb (head_octets + 1) (length message)) (Ok (reached (head_octets + 1) None)) (Err Framing)
start_by Activation message = activation_start (get_or message 4 0) message

-- ---- The message: "16 under three octets; 15 for another discriminator or type ..; 16 for framing, an unlisted element or a second TFT"
abbrev pub read_elements : Result (Option Part) Fault → Kind → List ℕ → Result Message Fault
read_elements (Err fault) kind message = Err fault
read_elements (Ok tft) kind message = Ok (record { kind = kind; bearer = get_or message 0 0 / 16; transaction = get_or message 1 0; tft = tft })

abbrev pub read_from : Result Reached Fault → Kind → List ℕ → Result Message Fault
read_from (Err fault) kind message = Err fault
read_from (Ok start) kind message = read_elements (elements (optional kind) 0 start.at start.tft (drop start.at message)) kind message

abbrev pub read_named : Option Kind → List ℕ → Result Message Fault
read_named None message = Err Unknown
read_named (Some kind) message = read_from (start_by (row_of kind).mandatory message) kind message

unfoldable pub read_of : List ℕ → Result Message Fault
read_of message =
    pick (leb head_octets (length message))
    (pick (eqb (get_or message 0 0 % 16) discriminator) (read_named (kind_of (get_or message 2 0) (get_or message 3 0)) message) (Err Unknown)) (Err Framing)

abbrev pub fault_number : Fault → ℕ
fault_number Unknown = 15
fault_number Framing = 16

-- 0 where the message was read
abbrev pub parsed_number : Result Message Fault → ℕ
parsed_number (Ok message) = 0
parsed_number (Err fault) = fault_number fault

-- ---- What a message says, wherever its TFT stands
abbrev pub octets_at : List ℕ → Option Part → Option (List ℕ)
octets_at message None = None
octets_at message (Some p) = Some (take p.octets (drop p.from message))

pub record Fields : Type 0 where
  pub kind : Kind
  pub bearer : ℕ
  pub transaction : ℕ
  pub tft : Option (List ℕ)

abbrev pub said_by : Result Message Fault → List ℕ → Result Fields Fault
said_by (Err fault) message = Err fault
said_by (Ok m) message = Ok (record { kind = m.kind; bearer = m.bearer; transaction = m.transaction; tft = octets_at message m.tft })

unfoldable pub said_of : List ℕ → Result Fields Fault
said_of message = said_by (read_of message) message
