-- "Technicians compare the module's bearers with the network's. Write the value"
use Rattle.std.specs.Prelude.{◌≡◌, ℕ, ◌<◌, ◌≤◌, List, ◌++◌, ◌↔◌, leb, length, drop, replicate, Result, Ok, Err}
use Rattle.laws.specs.Says.{pick}
use Rattle.laws.specs.Index.{walk}
use Rattle.table.specs.declared.bearer.Table.{Table}
use Rattle.table.specs.Bearers.{bearer_count, identity_of, role_at, is_idle}
use Rattle.table.specs.WellFormed.{well_formed, WellFormed}
use Rattle.status.specs.declared.write.StatusUnwritten.{StatusUnwritten}
use Rattle.status.specs.declared.write.StatusUnwritten.TheVariants.{NotWellFormed, NoRoom}
use Rattle.status.specs.Value.{status_octets, showing}

-- "1 for active", of the bearer at i
unfoldable pub showing_at : Table → List ℕ → ℕ → List ℕ
showing_at t value i = pick (is_idle (role_at t i)) value (showing value (identity_of i))

-- of every bearer; the other bits stay 0: "identities 0 to 4 written 0"
unfoldable pub status_of : Table → List ℕ
status_of t = walk (showing_at t) (replicate status_octets 0) bearer_count

-- ---- "Refusals: 1 first, .. then 9 on writing"
abbrev pub unwritten_number : StatusUnwritten → ℕ
unwritten_number NotWellFormed = 1
unwritten_number NoRoom = 9

abbrev pub status_number : Result (Unit {0}) StatusUnwritten → ℕ
status_number (Ok done) = 0
status_number (Err why) = unwritten_number why

pub record StatusOutcome : Type 0 where
  pub written : Result (Unit {0}) StatusUnwritten
  pub buffer : List ℕ

abbrev pub leaves : StatusUnwritten → List ℕ → StatusOutcome
leaves why buffer = record { written = Err why; buffer = buffer }

-- "Octets after those written stay"
abbrev pub wrote : List ℕ → List ℕ → StatusOutcome
wrote value buffer = record { written = Ok tt; buffer = value ++ drop status_octets buffer }

unfoldable pub write_status_of : Table → List ℕ → StatusOutcome
write_status_of t buffer =
    pick (well_formed t) (pick (leb status_octets (length buffer)) (wrote (status_of t) buffer) (leaves NoRoom buffer)) (leaves NotWellFormed buffer)

-- each exactly there: the theorem `status_numbers_lem`
pub record StatusNumbered (t : Table) (buffer : List ℕ) (number : ℕ) : Type 0 where
  pub is1 : (number ≡ 1) ↔ (WellFormed t → ⊥)
  pub is9 : (number ≡ 9) ↔ (WellFormed t × (length buffer < status_octets))
  pub is0 : (number ≡ 0) ↔ (WellFormed t × (status_octets ≤ length buffer))
