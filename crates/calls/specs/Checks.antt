-- Where each call is refused, and with which number, said as types: "Order of checks for a modify message" and "Numbers given".
use Rattle.std.specs.Prelude.{◌≡◌, true, false, ◌⊎◌, ◌↔◌, List, ℕ, ◌<◌, ◌≤◌, length, get_or, None, Option, Some}
use Rattle.laws.specs.Index.{SomeBelow}
use Rattle.filter.specs.Sizes.{place_count}
use Rattle.element.specs.declared.answer.Answer.TheVariants.{Identifiers}
use Rattle.element.specs.Numbers.{number_of}
use Rattle.element.specs.Head.{longest, operation_of, create, delete_tft, no_operation}
use Rattle.element.specs.Places.{place_of}
use Rattle.element.specs.Read.{read_element}
use Rattle.table.specs.declared.bearer.Role.TheVariants.{Idle}
use Rattle.table.specs.declared.bearer.Table.{Table}
use Rattle.table.specs.Bearers.{first_identity, last_identity, bearer_count, last_transaction, index_of, role_at, transaction_at, filter_at}
use Rattle.table.specs.WellFormed.{Held, ActiveDefault, WellFormed}
use Rattle.calls.specs.declared.reply.Cause.{Cause}
use Rattle.calls.specs.declared.reply.Cause.TheVariants.{TftSemantics, TftSyntax, BearerIdentity, FilterSemantics, FilterSyntax, Transaction}
use Rattle.calls.specs.declared.reply.Answer.{Answer}
use Rattle.calls.specs.declared.reply.Answer.TheVariants.{Accept, Reject, Release, Reattach, Started, Closed, Synchronised, Refused}
use Rattle.calls.specs.Changes.{IsDedicated, ButClosed}

-- ---- The steps, each as what holds where it refuses nothing
-- Step 2. "Transaction identity 1 to 254 not open, or 255 (house): 47. 0 means none."
abbrev pub Open : Table → ℕ → Type 0
Open t x = (1 ≤ x) × (x ≤ last_transaction) × SomeBelow bearer_count (λ i. transaction_at t i ≡ x)

abbrev pub Matched : Table → ℕ → Type 0
Matched t x = (x ≡ 0) ⊎ Open t x

-- Step 3. "Bearer not 5 to 15, or idle: 43."
abbrev pub Identity : ℕ → Type 0
Identity bearer = (first_identity ≤ bearer) × (bearer ≤ last_identity)

abbrev pub Active : Table → ℕ → Type 0
Active t bearer = Identity bearer × (role_at t (index_of bearer) ≡ Idle → ⊥)

-- of an activation: "an identity outside 5 to 15 or in use (house)", and of a dedicated one "or a link to no active default"
abbrev pub Available : Table → ℕ → Type 0
Available t bearer = Identity bearer × (role_at t (index_of bearer) ≡ Idle)

abbrev pub Linkable : Table → ℕ → ℕ → Type 0
Linkable t bearer link = Available t bearer × ActiveDefault (role_at t) link

-- Step 4. "Value length 0 or above 255, operation 0 or 7: 42."
abbrev pub Headed : List ℕ → Type 0
Headed value = ((1 ≤ length value) × (length value ≤ longest)) × ((create ≤ operation_of value) × (operation_of value ≤ no_operation))

-- Step 5. "Delete TFT on a dedicated bearer, with or without a TFT: 41."
abbrev pub Permitted : Table → ℕ → List ℕ → Type 0
Permitted t bearer value = (IsDedicated t (index_of bearer) × (operation_of value ≡ delete_tft)) → ⊥

-- of a dedicated activation: "refuses any operation but create with 41"
abbrev pub IsCreate : List ℕ → Type 0
IsCreate value = operation_of value ≡ create

-- ---- Step 10. "Delete filters that empties a TFT with filters, dedicated bearer: 41."
pub record Empties (t : Table) (bearer : ℕ) (value : List ℕ) : Type 0 where
  pub dedicated : IsDedicated t (index_of bearer)
  pub deletes : (read_element value).answer ≡ Identifiers
  pub had : SomeBelow place_count (λ j. Held (filter_at t (index_of bearer) j))
  pub each : (j : ℕ) → j < place_count → Held (filter_at t (index_of bearer) j) → get_or (read_element value).marks j false ≡ true

-- ---- The numbers, of a message: Named is what its step 3 asks, Allowed its step 5; Emptied is where its step 10 refuses
-- steps 1 to 3 refuse nothing
pub record Found (t : Table) (x : ℕ) (Named : Type 0) : Type 0 where
  pub well : WellFormed t
  pub matched : Matched t x
  pub named : Named

-- steps 1 to 5 refuse nothing
pub record Passed (t : Table) (x : ℕ) (value : List ℕ) (Named Allowed : Type 0) : Type 0 where
  pub found : Found t x Named
  pub head : Headed value
  pub allowed : Allowed

-- steps 6 to 9 are the reader's: it gives this number
abbrev pub Reads : List ℕ → ℕ → Type 0
Reads value number = number_of (read_element value).answer ≡ number

-- each number is given exactly where a step with that number refuses, and those before it do not
pub record Numbered (t : Table) (x : ℕ) (value : List ℕ) (Named Allowed Emptied : Type 0) (number : ℕ) : Type 0 where
  pub is1 : (number ≡ 1) ↔ (WellFormed t → ⊥)
  pub is47 : (number ≡ 47) ↔ (WellFormed t × (Matched t x → ⊥))
  pub is43 : (number ≡ 43) ↔ ((WellFormed t × Matched t x) × (Named → ⊥))
  pub is42 : (number ≡ 42) ↔ ((Found t x Named × (Headed value → ⊥)) ⊎ (Passed t x value Named Allowed × Reads value 42))
  pub is41 : (number ≡ 41) ↔ (((Found t x Named × Headed value) × (Allowed → ⊥)) ⊎ (Passed t x value Named Allowed × Emptied))
  pub is44 : (number ≡ 44) ↔ (Passed t x value Named Allowed × Reads value 44)
  pub is45 : (number ≡ 45) ↔ (Passed t x value Named Allowed × Reads value 45)
  -- no step refuses
  pub is0 : (number ≡ 0) ↔ ((Passed t x value Named Allowed × Reads value 0) × (Emptied → ⊥))

-- the table that a message with this transaction leaves where it is refused: "table, but for a closed transaction"
pub record LeftBy (t : Table) (x : ℕ) (s : Table) : Type 0 where
  pub matched : WellFormed t → Open t x → ButClosed t x s
  pub unmatched : ((WellFormed t × Open t x) → ⊥) → s ≡ t

-- ---- The other calls, likewise
-- "Default activation: 1, then 43"
pub record DefaultNumbered (t : Table) (bearer number : ℕ) : Type 0 where
  pub is1 : (number ≡ 1) ↔ (WellFormed t → ⊥)
  pub is43 : (number ≡ 43) ↔ (WellFormed t × (Available t bearer → ⊥))
  pub is0 : (number ≡ 0) ↔ (WellFormed t × Available t bearer)

-- "Deactivate: always accept .. once the table is well formed"
pub record DeactivateNumbered (t : Table) (number : ℕ) : Type 0 where
  pub is1 : (number ≡ 1) ↔ (WellFormed t → ⊥)
  pub is0 : (number ≡ 0) ↔ WellFormed t

-- "Reject: 1, 3." 3: "an identity not open"
pub record RejectNumbered (t : Table) (x number : ℕ) : Type 0 where
  pub is1 : (number ≡ 1) ↔ (WellFormed t → ⊥)
  pub is3 : (number ≡ 3) ↔ (WellFormed t × (Open t x → ⊥))
  pub is0 : (number ≡ 0) ↔ (WellFormed t × Open t x)

-- "Start: 1, 4, 6, 7, 5."
abbrev pub NoIdentity : ℕ → Type 0
NoIdentity x = (x ≡ 0) ⊎ (x ≡ 255)

pub record StartNumbered (t : Table) (x bearer number : ℕ) : Type 0 where
  pub is1 : (number ≡ 1) ↔ (WellFormed t → ⊥)
  -- "identity 0 or 255"
  pub is4 : (number ≡ 4) ↔ (WellFormed t × NoIdentity x)
  -- "bearer idle or outside 5 to 15"
  pub is6 : (number ≡ 6) ↔ (WellFormed t × ((NoIdentity x → ⊥) × (Active t bearer → ⊥)))
  -- "bearer has a transaction"
  pub is7 : (number ≡ 7) ↔ (WellFormed t × ((NoIdentity x → ⊥) × (Active t bearer × (transaction_at t (index_of bearer) ≡ 0 → ⊥))))
  -- "identity already open"
  pub is5 : (number ≡ 5) ↔ (WellFormed t × ((NoIdentity x → ⊥) × (Active t bearer × ((transaction_at t (index_of bearer) ≡ 0) × Open t x))))
  pub is0 : (number ≡ 0) ↔ (WellFormed t × ((NoIdentity x → ⊥) × (Active t bearer × ((transaction_at t (index_of bearer) ≡ 0) × (Open t x → ⊥)))))

-- ---- The place of a reject. 42, 44 and 45 have that of the element, which is 0 where step 4 refuses; 41, 43 and 47 have none
abbrev pub place_for : Cause → List ℕ → Option ℕ
place_for TftSemantics value = None
place_for TftSyntax value = Some (place_of value)
place_for BearerIdentity value = None
place_for FilterSemantics value = Some (place_of value)
place_for FilterSyntax value = Some (place_of value)
place_for Transaction value = None

-- of the answer to a message with this element
abbrev pub Placed : List ℕ → Answer → Type 0
Placed value (Accept bearer) = Unit {0}
Placed value (Reject bearer cause place) = place ≡ place_for cause value
Placed value (Release default) = Unit {0}
Placed value Reattach = Unit {0}
Placed value (Started transaction) = Unit {0}
Placed value (Closed transaction) = Unit {0}
Placed value Synchronised = Unit {0}
Placed value (Refused refusal) = Unit {0}

-- of the answer to a message without an element: no reject has a place
abbrev pub Unplaced : Answer → Type 0
Unplaced (Accept bearer) = Unit {0}
Unplaced (Reject bearer cause place) = place ≡ None
Unplaced (Release default) = Unit {0}
Unplaced Reattach = Unit {0}
Unplaced (Started transaction) = Unit {0}
Unplaced (Closed transaction) = Unit {0}
Unplaced Synchronised = Unit {0}
Unplaced (Refused refusal) = Unit {0}
