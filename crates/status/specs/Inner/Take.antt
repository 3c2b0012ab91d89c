-- Which lists are made anew when a status is taken. Nothing here is claimed of a call; the proofs tie it to Take.
use Rattle.std.specs.Prelude.{ℕ}
use Rattle.laws.specs.Says.{pick}
use Rattle.table.specs.Bearers.{is_identity, index_of}

-- where the list of a connection is marked; 0 where no default can have that identity
unfoldable pub mark_of : ℕ → ℕ
mark_of connection = pick (is_identity connection) (index_of connection) 0
