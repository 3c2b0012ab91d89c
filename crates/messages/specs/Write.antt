-- The writer: "What our writer produces reads back the same."
use Rattle.std.specs.Prelude.{ℕ, ◌+◌, ◌*◌, Bool, true, false, ◌&&◌, List, [], ◌∷◌, ◌++◌, leb, length, drop, Option, Some, None, option_map, unwrap_or, Result, Ok, Err}
use Rattle.laws.specs.Says.{pick}
use Rattle.messages.specs.declared.layout.Kind.{Kind}
use Rattle.messages.specs.declared.layout.Mandatory.{Mandatory}
use Rattle.messages.specs.declared.layout.Mandatory.TheVariants.{Nothing, Cause, Activation}
use Rattle.messages.specs.declared.layout.Carries.{Carries}
use Rattle.messages.specs.declared.layout.Carries.TheVariants.{Always, Maybe, Never}
use Rattle.messages.specs.declared.write.MessageUnwritten.{MessageUnwritten}
use Rattle.messages.specs.declared.write.MessageUnwritten.TheVariants.{Unreadable, NoRoom}
use Rattle.messages.specs.Layout.{discriminator, tft_identifier, row_of, carried, type_of}
use Rattle.messages.specs.Read.{Fields}

-- ---- "The writer gives 15 for a message that cannot be read back": an identity or a link of over four bits ..
abbrev pub largest_identity : ℕ
largest_identity = 15

abbrev pub carried_fine : Mandatory → ℕ → Bool
carried_fine Nothing x = true
carried_fine Cause x = true
carried_fine Activation x = leb x largest_identity

-- .. a TFT whose length takes more than an octet, one where the kind has none, a dedicated request without one
abbrev pub longest_tft : ℕ
longest_tft = 255

abbrev pub tft_fine : Carries → Option (List ℕ) → Bool
tft_fine Always None = false
tft_fine Always (Some value) = leb (length value) longest_tft
tft_fine Maybe None = true
tft_fine Maybe (Some value) = leb (length value) longest_tft
tft_fine Never None = true
tft_fine Never (Some value) = false

abbrev pub writable_by : Kind → ℕ → Option (List ℕ) → Bool
writable_by kind bearer tft = leb bearer largest_identity && carried_fine (row_of kind).mandatory (carried kind) && tft_fine (row_of kind).tft tft

unfoldable pub writable : Fields → Bool
writable f = writable_by f.kind f.bearer f.tft

-- ---- The octets
abbrev pub value_of : Option (List ℕ) → List ℕ
value_of tft = unwrap_or tft []

-- what stands before the value of a modify request's TFT, which has so many octets
abbrev pub identified : Option ℕ → List ℕ
identified None = []
identified (Some octets) = tft_identifier ∷ octets ∷ []

-- from the type up to the TFT's value, which has so many octets; "QoS is written as the one octet 09 (house)"
abbrev pub body_of : Mandatory → ℕ → Option ℕ → List ℕ
body_of Nothing x octets = identified octets
body_of Cause x octets = x ∷ []
body_of Activation x octets = x ∷ 1 ∷ 9 ∷ unwrap_or octets 0 ∷ []

abbrev pub head_of : ℕ → ℕ → ℕ → List ℕ → List ℕ
head_of bearer transaction type body = (bearer * 16 + discriminator) ∷ transaction ∷ type ∷ body

abbrev pub front_by : Kind → ℕ → ℕ → Option ℕ → List ℕ
front_by kind bearer transaction octets = head_of bearer transaction (type_of kind) (body_of (row_of kind).mandatory (carried kind) octets)

abbrev pub front_of : Fields → List ℕ
front_of f = front_by f.kind f.bearer f.transaction (option_map length f.tft)

unfoldable pub octets_of : Fields → List ℕ
octets_of f = front_of f ++ value_of f.tft

-- ---- "The writer gives 15 .., then 9." Octets after those written stay, and a refusal leaves them all
abbrev pub unwritten_number : MessageUnwritten → ℕ
unwritten_number Unreadable = 15
unwritten_number NoRoom = 9

abbrev pub message_number : Result ℕ MessageUnwritten → ℕ
message_number (Ok octets) = 0
message_number (Err why) = unwritten_number why

pub record MessageOutcome : Type 0 where
  pub written : Result ℕ MessageUnwritten
  pub buffer : List ℕ

abbrev pub leaves : MessageUnwritten → List ℕ → MessageOutcome
leaves why buffer = record { written = Err why; buffer = buffer }

abbrev pub wrote : List ℕ → List ℕ → MessageOutcome
wrote xs buffer = record { written = Ok (length xs); buffer = xs ++ drop (length xs) buffer }

unfoldable pub write_of : Fields → List ℕ → MessageOutcome
write_of f buffer =
    pick (writable f) (pick (leb (length (octets_of f)) (length buffer)) (wrote (octets_of f) buffer) (leaves NoRoom buffer)) (leaves Unreadable buffer)

abbrev pub fields_of : Kind → ℕ → ℕ → Option (List ℕ) → Fields
fields_of kind bearer transaction tft = record { kind = kind; bearer = bearer; transaction = transaction; tft = tft }
