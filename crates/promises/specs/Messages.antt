-- The two messages that bring an element: a modify, and a dedicated activation, which is described by the modify: "as above, but ..".
use Rattle.std.specs.Prelude.{ℕ, List}
use Rattle.table.specs.declared.bearer.Role.{Role}
use Rattle.table.specs.declared.bearer.Role.TheVariants.{Dedicated}
use Rattle.table.specs.declared.bearer.Table.{Table}
use Rattle.table.specs.Bearers.{index_of, role_at}
use Rattle.calls.specs.declared.reply.Outcome.{Outcome}
use Rattle.calls.specs.Reply.{number_of}
use Rattle.calls.specs.Steps.{home}
use Rattle.calls.specs.Checks.{DefaultNumbered, DeactivateNumbered, RejectNumbered, StartNumbered}
use Rattle.calls.specs.Checks.{Active, Linkable, Permitted, IsCreate, Empties, Passed, Numbered}
use Rattle.status.specs.Take.{SynchroniseNumbered}
use Rattle.messages.specs.Meaning.{HandleNumbered}
use Rattle.promises.specs.Calls.{Call, activate_default, activate_dedicated, modify, deactivate, reject, start, synchronise, handle, outcome_of}

pub data Message : Type 0 where
  modifies : (bearer transaction : ℕ) → (value : List ℕ) → Message
  activates : (bearer link transaction : ℕ) → (value : List ℕ) → Message

abbrev pub call_of : Message → Call
call_of (modifies bearer transaction value) = modify bearer transaction value
call_of (activates bearer link transaction value) = activate_dedicated bearer link transaction value

abbrev pub bearer_named : Message → ℕ
bearer_named (modifies bearer transaction value) = bearer
bearer_named (activates bearer link transaction value) = bearer

abbrev pub transaction_of : Message → ℕ
transaction_of (modifies bearer transaction value) = transaction
transaction_of (activates bearer link transaction value) = transaction

abbrev pub value_of : Message → List ℕ
value_of (modifies bearer transaction value) = value
value_of (activates bearer link transaction value) = value

abbrev pub without_transaction : Message → Message
without_transaction (modifies bearer transaction value) = modifies bearer 0 value
without_transaction (activates bearer link transaction value) = activates bearer link 0 value

abbrev pub handled : Message → Table → Outcome
handled m t = outcome_of t (call_of m)

abbrev pub number_given : Table → Message → ℕ
number_given t m = number_of (handled m t).reply.answer

-- ---- What the steps say, where the two differ
-- step 3 refuses nothing
abbrev pub NamedIn : Table → Message → Type 0
NamedIn t (modifies bearer transaction value) = Active t bearer
NamedIn t (activates bearer link transaction value) = Linkable t bearer link

-- step 5 refuses nothing
abbrev pub AllowedIn : Table → Message → Type 0
AllowedIn t (modifies bearer transaction value) = Permitted t bearer value
AllowedIn t (activates bearer link transaction value) = IsCreate value

-- step 10 refuses
abbrev pub EmptiedIn : Table → Message → Type 0
EmptiedIn t (modifies bearer transaction value) = Empties t bearer value
EmptiedIn t (activates bearer link transaction value) = ⊥

-- the table is well formed, and steps 2 to 5 pass
abbrev pub Passes : Table → Message → Type 0
Passes t m = Passed t (transaction_of m) (value_of m) (NamedIn t m) (AllowedIn t m)

-- each of its numbers is given exactly where its step gives it
abbrev pub MessageNumbered : Table → Message → ℕ → Type 0
MessageNumbered t m = Numbered t (transaction_of m) (value_of m) (NamedIn t m) (AllowedIn t m) (EmptiedIn t m)

-- ---- The connection: that of the bearer (it means nothing of an identity outside 5 to 15, which is refused), or that which the bearer is linked to; and the
-- bearer's role after an accept
abbrev pub connection_for : Table → Message → ℕ
connection_for t (modifies bearer transaction value) = home t bearer
connection_for t (activates bearer link transaction value) = link

abbrev pub role_for : Table → Message → Role
role_for t (modifies bearer transaction value) = role_at t (index_of bearer)
role_for t (activates bearer link transaction value) = Dedicated link

-- ---- The numbers of every call, the messages among them
abbrev pub CallNumbered : Table → Call → ℕ → Type 0
CallNumbered t (activate_default bearer) = DefaultNumbered t bearer
CallNumbered t (activate_dedicated bearer link transaction value) = MessageNumbered t (activates bearer link transaction value)
CallNumbered t (modify bearer transaction value) = MessageNumbered t (modifies bearer transaction value)
CallNumbered t (deactivate bearer transaction) = DeactivateNumbered t
CallNumbered t (reject transaction cause) = RejectNumbered t transaction
CallNumbered t (start transaction bearer) = StartNumbered t transaction bearer
CallNumbered t (synchronise value) = SynchroniseNumbered t value
CallNumbered t (handle message) = HandleNumbered t message
