-- What the theorems on the calls say, where that is no computation.
use Rattle.std.specs.Prelude.{◌≡◌, Bool, true, false, ◌⊎◌, ◌↔◌, List, [], ℕ, ◌<◌, ◌≤◌, get_or, Option}
use Rattle.laws.specs.Index.{SomeBelow}
use Rattle.laws.specs.Lists.{is_in}
use Rattle.filter.specs.declared.component.Filter.{Filter}
use Rattle.element.specs.declared.answer.BareOperation.TheVariants.{DeleteTft, NoOperation}
use Rattle.element.specs.declared.answer.Answer.TheVariants.{Filters, Identifiers, Bare}
use Rattle.element.specs.declared.answer.SetOperation.{SetOperation}
use Rattle.element.specs.Read.{read_element}
use Rattle.table.specs.declared.bearer.Role.{Role}
use Rattle.table.specs.declared.bearer.Role.TheVariants.{Idle, Default, Dedicated}
use Rattle.table.specs.declared.bearer.Table.{Table}
use Rattle.filter.specs.Sizes.{place_count}
use Rattle.filter.specs.Build.{empty_filter}
use Rattle.table.specs.Bearers.{bearer_count, index_of, identity_of, bearer_at, in_row, role_at, transaction_at, filter_at, connection_at}
use Rattle.table.specs.Tables.{View, view}
use Rattle.table.specs.Ranges.{TableInRange}
use Rattle.table.specs.WellFormed.{Held, WellFormed}
use Rattle.calls.specs.declared.reply.Cause.{Cause}
use Rattle.calls.specs.declared.reply.Refusal.TheVariants.{NotWellFormed}
use Rattle.calls.specs.declared.reply.Answer.{Answer}
use Rattle.calls.specs.declared.reply.Answer.TheVariants.{Accept, Reject, Release, Reattach, Started, Closed, Synchronised, Refused}
use Rattle.calls.specs.declared.reply.FollowUps.{FollowUps}
use Rattle.calls.specs.declared.reply.Outcome.{Outcome}
use Rattle.calls.specs.Reply.{number_of, follow_of}
use Rattle.calls.specs.Modify.{creates}

-- a table that is well formed, every number in its type's range
pub record Sound (s : Table) : Type 0 where
  pub in_range : TableInRange s
  pub well : WellFormed s

-- ---- refusals
abbrev pub Refuses : Outcome → Type 0
Refuses o = number_of o.reply.answer ≡ 0 → ⊥

-- a message is refused by a reject with the received identity, or with 1 and no reply
abbrev pub Rejects : ℕ → Answer → Type 0
Rejects bearer a = (a ≡ Refused NotWellFormed) ⊎ ((cause : Cause) × ((place : Option ℕ) × (a ≡ Reject bearer cause place)))

-- the number given is one of these
abbrev pub Gives : List ℕ → Outcome → Type 0
Gives numbers o = is_in (number_of o.reply.answer) numbers ≡ true

-- where it refuses, the table is t
abbrev pub RefusalLeaves : Table → Outcome → Type 0
RefusalLeaves t o = Refuses o → o.table ≡ t

-- ---- a follow-up list
-- the bearer at i is in the list
abbrev pub Listed : FollowUps → ℕ → Type 0
Listed f i = SomeBelow f.count (λ m. get_or f.bearers m 0 ≡ identity_of i)

-- the list is exactly the bearers with P, in rising identity, zero beyond the count
pub record Lists (P : ℕ → Type 0) (f : FollowUps) : Type 0 where
  pub few : f.count ≤ bearer_count
  pub each : (m : ℕ) → m < f.count → SomeBelow bearer_count (λ i. P i × (get_or f.bearers m 0 ≡ identity_of i))
  pub all : (i : ℕ) → i < bearer_count → P i → Listed f i
  pub rising : (m n : ℕ) → m < n → n < f.count → get_or f.bearers m 0 < get_or f.bearers n 0
  pub rest : (m : ℕ) → f.count ≤ m → get_or f.bearers m 0 ≡ 0

-- ---- the answer where a connection is released
-- it is the only one: no default is of another
abbrev pub Only : Table → ℕ → Type 0
Only t connection = (i : ℕ) → i < bearer_count → role_at t i ≡ Default → identity_of i ≡ connection

abbrev pub IsRelease : Table → ℕ → Answer → Type 0
IsRelease t connection a = (Only t connection × (a ≡ Reattach)) ⊎ ((Only t connection → ⊥) × (a ≡ Release connection))

-- ---- old and new filters
abbrev pub IsDedicated : Table → ℕ → Type 0
IsDedicated t i = (link : ℕ) × (role_at t i ≡ Dedicated link)

-- some new filter has the precedence
abbrev pub Taken : List Filter → ℕ → Type 0
Taken new p = SomeBelow place_count (λ l. Held (in_row new l) × ((in_row new l).precedence ≡ p))

module _ (t : Table) (connection : ℕ) (new : List Filter) where
  -- the old filter at (i, j) is of the connection, and a new one has its precedence
  abbrev pub TakenAt : ℕ → ℕ → Type 0
  TakenAt i j = ((connection_at t i ≡ connection) × Held (filter_at t i j)) × Taken new (filter_at t i j).precedence

  -- of the bearer's filters exactly those are gone
  pub record Trimmed (s : Table) (i : ℕ) : Type 0 where
    pub lost : (j : ℕ) → j < place_count → TakenAt i j → filter_at s i j ≡ empty_filter
    pub stays : (j : ℕ) → j < place_count → (TakenAt i j → ⊥) → filter_at s i j ≡ filter_at t i j

  module _ (bearer : ℕ) (create : Bool) where
    -- the old filter at (i, j) does not remain: the bearer is the named one, and a create takes its filters away, or a new one comes in the place
    abbrev pub Replaced : ℕ → ℕ → Type 0
    Replaced i j = (i ≡ index_of bearer) × ((create ≡ true) ⊎ Held (in_row new j))

    -- "A conflict is an old filter of the connection, remaining after the above, with a new filter's precedence."
    abbrev pub Conflict : ℕ → ℕ → Type 0
    Conflict i j = (Replaced i j → ⊥) × TakenAt i j

    -- a dedicated bearer with a conflict
    abbrev pub Follows : ℕ → Type 0
    Follows i = IsDedicated t i × SomeBelow place_count (Conflict i)

    -- a default with a conflict: it is the connection's
    abbrev pub DefaultLoses : Type 0
    DefaultLoses = SomeBelow bearer_count (λ i. (role_at t i ≡ Default) × SomeBelow place_count (Conflict i))

-- ---- the ways of a bearer that a message does not name
-- the transaction is as before; in a well-formed table it is closed where it was x (one that is not well formed is handed back whole: `malformed`)
abbrev pub Closing : Table → Table → ℕ → ℕ → Type 0
Closing t s x i = ((transaction_at t i ≡ x → ⊥) → transaction_at s i ≡ transaction_at t i) × (WellFormed t → transaction_at t i ≡ x → transaction_at s i ≡ 0)

-- the bearer is as before, but for the transaction
pub record Stays (t s : Table) (x i : ℕ) : Type 0 where
  pub role : role_at s i ≡ role_at t i
  pub transaction : Closing t s x i
  pub row : (bearer_at s i).row ≡ (bearer_at t i).row

-- its role is as before; it has lost exactly its filters whose precedence a new filter has; it is dedicated, and in the follow-up list
pub record Shortened (t : Table) (connection bearer x : ℕ) (new : List Filter) (o : Outcome) (i : ℕ) : Type 0 where
  pub role : role_at o.table i ≡ role_at t i
  pub transaction : Closing t o.table x i
  pub filters : Trimmed t connection new o.table i
  pub some : SomeBelow place_count (TakenAt t connection new i)
  pub dedicated : IsDedicated t i
  pub listed : Listed o.reply.follow i
  pub answer : o.reply.answer ≡ Accept bearer

-- idle, with nothing
pub record Void (u : View) (i : ℕ) : Type 0 where
  pub role : u.role i ≡ Idle
  pub transaction : u.transaction i ≡ 0
  pub filter : (j : ℕ) → j < place_count → u.filter i j ≡ empty_filter

-- it is idle with nothing, since its connection is released
pub record Gone (t : Table) (connection : ℕ) (o : Outcome) (i : ℕ) : Type 0 where
  pub connected : connection_at t i ≡ connection
  pub void : Void (view o.table) i
  pub answer : IsRelease t connection o.reply.answer

pub data Unnamed (t : Table) (connection bearer x : ℕ) (new : List Filter) (o : Outcome) (i : ℕ) : Type 0 where
  stays : Stays t o.table x i → (Listed o.reply.follow i → ⊥) → Unnamed t connection bearer x new o i
  shortened : Shortened t connection bearer x new o i → Unnamed t connection bearer x new o i
  gone : Gone t connection o i → Unnamed t connection bearer x new o i

-- ---- the follow-up list of a message, and the release
-- the operation brings filters
abbrev pub Brings : List ℕ → SetOperation → Type 0
Brings value operation = (read_element value).answer ≡ Filters operation

-- .. and the message is accepted
abbrev pub Lays : ℕ → List ℕ → Outcome → SetOperation → Type 0
Lays bearer value o operation = Brings value operation × (o.reply.answer ≡ Accept bearer)

pub record FollowUpList (t : Table) (connection bearer : ℕ) (value : List ℕ) (o : Outcome) : Type 0 where
  -- then the list is exactly the dedicated bearers of the connection that lose a filter to a conflict, the named one included ..
  pub listed : (operation : SetOperation) → Lays bearer value o operation
      → Lists (Follows t connection (read_element value).filters bearer (creates operation)) o.reply.follow
  -- .. and else nobody
  pub none : ((operation : SetOperation) → Lays bearer value o operation → ⊥) → o.reply.follow ≡ follow_of []

-- an accept or a reject is sent; else there is no reply
abbrev pub SendsReply : Answer → Type 0
SendsReply (Accept bearer) = Unit {0}
SendsReply (Reject bearer cause place) = Unit {0}
SendsReply (Release default) = ⊥
SendsReply Reattach = ⊥
SendsReply (Started transaction) = ⊥
SendsReply (Closed transaction) = ⊥
SendsReply Synchronised = ⊥
SendsReply (Refused refusal) = ⊥

-- "release", or "detach and re-attach"
abbrev pub EndsConnection : Answer → Type 0
EndsConnection (Accept bearer) = ⊥
EndsConnection (Reject bearer cause place) = ⊥
EndsConnection (Release default) = Unit {0}
EndsConnection Reattach = Unit {0}
EndsConnection (Started transaction) = ⊥
EndsConnection (Closed transaction) = ⊥
EndsConnection Synchronised = ⊥
EndsConnection (Refused refusal) = ⊥

-- "Any conflict on the default": a new filter has the precedence of an old filter of the default that remains
pub record ConflictOnDefault (t : Table) (connection bearer : ℕ) (value : List ℕ) : Type 0 where
  pub operation : SetOperation
  pub brings : Brings value operation
  pub loses : DefaultLoses t connection (read_element value).filters bearer (creates operation)

-- "no reply, the whole connection goes with its transactions, and the follow-up is "release", or "detach and re-attach" where it was the only connection"
pub record ConnectionGoes (t : Table) (connection bearer x : ℕ) (o : Outcome) : Type 0 where
  pub no_reply : SendsReply o.reply.answer → ⊥
  pub answer : IsRelease t connection o.reply.answer
  pub nobody : o.reply.follow ≡ follow_of []
  pub connected : (i : ℕ) → i < bearer_count → connection_at t i ≡ connection → Void (view o.table) i
  -- the bearer of a dedicated activation too, which was idle: "and the new bearer stays idle"
  pub named : Void (view o.table) (index_of bearer)
  pub others : (i : ℕ) → i < bearer_count → (connection_at t i ≡ connection → ⊥) → Stays t o.table x i

-- the answer to a message: a refusal is a reject, or 1; what is not refused releases exactly so, and else is accepted. And what a release does
pub record Releases (t : Table) (connection bearer x : ℕ) (value : List ℕ) (o : Outcome) : Type 0 where
  pub rejects : Refuses o → Rejects bearer o.reply.answer
  pub exactly : number_of o.reply.answer ≡ 0 → (EndsConnection o.reply.answer ↔ ConflictOnDefault t connection bearer value)
  pub accepts : number_of o.reply.answer ≡ 0 → (EndsConnection o.reply.answer → ⊥) → o.reply.answer ≡ Accept bearer
  pub goes : EndsConnection o.reply.answer → ConnectionGoes t connection bearer x o

-- ---- the bearer that an accepted message names
-- "create puts the new set in place of the old", "Add and replace lay the new filters over the old by identifier; an absent identifier is added"
pub record Overlaid (t : Table) (connection bearer : ℕ) (new : List Filter) (create : Bool) (s : Table) : Type 0 where
  pub brought : (j : ℕ) → j < place_count → Held (in_row new j) → filter_at s (index_of bearer) j ≡ in_row new j
  pub replaced : create ≡ true → (j : ℕ) → j < place_count → (Held (in_row new j) → ⊥) → filter_at s (index_of bearer) j ≡ empty_filter
  -- over the old: but at a conflict, they stay
  pub stays : create ≡ false → (j : ℕ) → j < place_count → (Held (in_row new j) → ⊥) → (TakenAt t connection new (index_of bearer) j → ⊥)
      → filter_at s (index_of bearer) j ≡ filter_at t (index_of bearer) j
  pub lost : create ≡ false → (j : ℕ) → j < place_count → (Held (in_row new j) → ⊥) → TakenAt t connection new (index_of bearer) j
      → filter_at s (index_of bearer) j ≡ empty_filter

-- of its filters exactly those in a place with P are gone
pub record Deleted (t : Table) (bearer : ℕ) (P : ℕ → Type 0) (s : Table) : Type 0 where
  pub gone : (j : ℕ) → j < place_count → P j → filter_at s (index_of bearer) j ≡ empty_filter
  pub stays : (j : ℕ) → j < place_count → (P j → ⊥) → filter_at s (index_of bearer) j ≡ filter_at t (index_of bearer) j

-- by the operation; the bearer has this role
pub record NamedBearer (t : Table) (role : Role) (connection bearer x : ℕ) (value : List ℕ) (s : Table) : Type 0 where
  pub has : role_at s (index_of bearer) ≡ role
  pub transaction : Closing t s x (index_of bearer)
  pub brings : (operation : SetOperation) → Brings value operation → Overlaid t connection bearer (read_element value).filters (creates operation) s
  -- "Deleting absent ones is no error."
  pub deletes : (read_element value).answer ≡ Identifiers → Deleted t bearer (λ j. get_or (read_element value).marks j false ≡ true) s
  -- "Delete TFT removes a default's TFT."
  pub removes : (read_element value).answer ≡ Bare DeleteTft → Deleted t bearer (λ j. Unit {0}) s
  pub leaves : (read_element value).answer ≡ Bare NoOperation → Deleted t bearer (λ j. ⊥) s

-- ---- "A match is closed, whatever follows."
-- s is t, but that the transaction x is closed
pub record ButClosed (t : Table) (x : ℕ) (s : Table) : Type 0 where
  pub role : (i : ℕ) → i < bearer_count → role_at s i ≡ role_at t i
  pub row : (i : ℕ) → i < bearer_count → (bearer_at s i).row ≡ (bearer_at t i).row
  pub closed : (i : ℕ) → i < bearer_count → transaction_at t i ≡ x → transaction_at s i ≡ 0
  pub others : (i : ℕ) → i < bearer_count → (transaction_at t i ≡ x → ⊥) → transaction_at s i ≡ transaction_at t i

-- what follows is what the message does without a transaction, in the table in which the match is closed; where it is refused, that table is left, and in
-- any case no bearer has the transaction open
pub record MatchClosed (t : Table) (x : ℕ) (o : Outcome) (without : Table → Outcome) : Type 0 where
  pub between : Table
  pub sound : Sound between
  pub closes : ButClosed t x between
  pub outcome : o ≡ without between
  pub refused : Refuses o → o.table ≡ between
  pub none : (i : ℕ) → i < bearer_count → transaction_at o.table i ≡ x → ⊥
