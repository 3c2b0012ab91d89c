use Prim.Native.Nat.{◌+◌, ◌≤◌}
use Rattle.laws.proofs.Loops.{Stored}
use Rattle.element.specs.Write.{marks_from}
use Rattle.element.proofs.write.put_marks.Given as goal

abbrev pub invariant-loop-identifier : goal.invariant-loop-identifier
invariant-loop-identifier l = (l.end ≤ l.at + l.identifier) × Stored marks_from l.marks l.initial.out l.at l.identifier l.out l.end
