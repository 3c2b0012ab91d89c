-- "Also take a received one"
use Rattle.std.specs.Prelude.{◌≡◌, ℕ, ◌<◌, Bool, true, not, ◌&&◌, List, [], ◌↔◌, eqb, length}
use Rattle.laws.specs.Says.{pick}
use Rattle.table.specs.declared.bearer.Role.{Role}
use Rattle.table.specs.declared.bearer.Role.TheVariants.{Idle, Default, Dedicated}
use Rattle.table.specs.declared.bearer.Table.{Table}
use Rattle.table.specs.Bearers.{bearer_count, identity_of, bearer_at, role_at, connection_at}
use Rattle.table.specs.Tables.{view, build}
use Rattle.table.specs.WellFormed.{well_formed, WellFormed}
use Rattle.calls.specs.declared.reply.Refusal.TheVariants.{StatusLength}
use Rattle.calls.specs.declared.reply.Answer.TheVariants.{Synchronised, Refused}
use Rattle.calls.specs.declared.reply.Outcome.{Outcome}
use Rattle.calls.specs.Reply.{follow_of, answered}
use Rattle.table.specs.Changes.{cut_view}
use Rattle.calls.specs.Modify.{malformed}
use Rattle.calls.specs.Changes.{Void}
use Rattle.status.specs.Value.{status_octets, shown_active, Shown}

-- "every active bearer shown inactive is deactivated locally, and a default takes its connection, transactions included, even where a dedicated one is shown
-- active. Bearers active only at the network change nothing": whether a bearer with this identity and role stays as it is; an idle one does
abbrev pub stays_by : List ℕ → ℕ → Role → Bool
stays_by value identity Idle = true
stays_by value identity Default = shown_active value identity
stays_by value identity (Dedicated link) = shown_active value identity && shown_active value link

-- .. and whether the one at i goes
unfoldable pub gone_by : List ℕ → Table → ℕ → Bool
gone_by value t i = not (stays_by value (identity_of i) (role_at t i))

-- "Refusals: 1 first, then 12 for a value that isn't two octets"
unfoldable pub synchronise_of : Table → List ℕ → Outcome
synchronise_of t value =
    pick (well_formed t)
    (pick (eqb (length value) status_octets) (answered (build (cut_view t (gone_by value t))) Synchronised) (answered t (Refused StatusLength))) (malformed t)

-- each exactly there: the theorem `synchronise_numbers`
pub record SynchroniseNumbered (t : Table) (value : List ℕ) (number : ℕ) : Type 0 where
  pub is1 : (number ≡ 1) ↔ (WellFormed t → ⊥)
  pub is12 : (number ≡ 12) ↔ (WellFormed t × (length value ≡ status_octets → ⊥))
  pub is0 : (number ≡ 0) ↔ (WellFormed t × (length value ≡ status_octets))

-- ---- What it says of a status that is taken: the theorem `synchronise_takes`
-- the bearer at i is active, it is shown active, and its default is too
abbrev pub Confirmed : Table → List ℕ → ℕ → Type 0
Confirmed t value i = (role_at t i ≡ Idle → ⊥) × (Shown value (identity_of i) × Shown value (connection_at t i))

-- exactly then it is active afterwards, and it is as it was; every other is idle with nothing
pub record Synchronises (t : Table) (value : List ℕ) (s : Table) (i : ℕ) : Type 0 where
  pub active : (role_at s i ≡ Idle → ⊥) ↔ Confirmed t value i
  pub stays : Confirmed t value i → bearer_at s i ≡ bearer_at t i
  pub goes : (Confirmed t value i → ⊥) → Void (view s) i

-- no reply is sent, and nobody follows
pub record StatusTaken (t : Table) (value : List ℕ) (o : Outcome) : Type 0 where
  pub reply : o.reply ≡ record { answer = Synchronised; follow = follow_of [] }
  pub bearer : (i : ℕ) → i < bearer_count → Synchronises t value o.table i
