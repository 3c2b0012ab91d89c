use mathlib.Core.Path.{◌≡◌}
use Rattle.laws.proofs.Index.{stored}
use Rattle.calls.specs.Lay.{loses_at}
use Rattle.calls.proofs.incoming.Incoming.losers.Given as goal

abbrev pub invariant-loop-i : goal.invariant-loop-i
invariant-loop-i l = (l.losers ≡ stored (loses_at l.self.filters.now l.self.creates l.table l.named l.connection) l.initial.losers l.i)
