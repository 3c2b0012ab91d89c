-- Writing a status, test by test.
use mathlib.Core.Path.{◌≡◌}
use mathlib.Core.Bool.{true, false}
use mathlib.Core.List.{List}
use Prim.Native.Nat.{ℕ, ◌≤◌, ◌<◌}
use lib.ListN.{length}
use borrow.Author.Tests.{lt-leb, le-leb}
use Rattle.table.specs.declared.bearer.Table.{Table}
use Rattle.table.specs.WellFormed.{well_formed}
use Rattle.status.specs.declared.write.StatusUnwritten.TheVariants.{NotWellFormed, NoRoom}
use Rattle.status.specs.Value.{status_octets}
use Rattle.status.specs.Write.{status_of, leaves, wrote, write_status_of}

module _ (t : Table) (buffer : List ℕ) where
  pub write_malformed : well_formed t ≡ false → write_status_of t buffer ≡ leaves NotWellFormed buffer
  unfolding write_status_of
  write_malformed w = rw w

  pub write_short : well_formed t ≡ true → length buffer < status_octets → write_status_of t buffer ≡ leaves NoRoom buffer
  unfolding write_status_of
  write_short w l = rw (w, lt-leb status_octets (length buffer) l)

  pub write_fit : well_formed t ≡ true → status_octets ≤ length buffer → write_status_of t buffer ≡ wrote (status_of t) buffer
  unfolding write_status_of
  write_fit w l = rw (w, le-leb status_octets (length buffer) l)
