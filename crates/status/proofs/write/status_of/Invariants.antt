use mathlib.Core.Path.{◌≡◌}
use lib.ListN.{replicate}
use Rattle.laws.specs.Index.{walk}
use Rattle.status.specs.Value.{status_octets}
use Rattle.status.specs.Write.{showing_at}
use Rattle.status.proofs.write.status_of.Given as goal

abbrev pub invariant-loop-i : goal.invariant-loop-i
invariant-loop-i l = (l.value ≡ walk (showing_at l.table) (replicate status_octets 0) l.i)
