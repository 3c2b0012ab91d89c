use Prim.Native.Nat.{◌+◌, ◌*◌, ◌≤◌}
use Rattle.laws.proofs.Loops.{Stored}
use Rattle.element.specs.Write.{entries_from, entries_octets}
use Rattle.element.proofs.write.put_row.Given as goal

abbrev pub invariant-loop-identifier : goal.invariant-loop-identifier
invariant-loop-identifier l =
    (l.end ≤ l.at + 60 * l.identifier) × Stored (λ k fs. entries_octets (entries_from k fs)) l.row l.initial.out l.at l.identifier l.out l.end
