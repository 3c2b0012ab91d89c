use Rattle.table.specs.Changes.{cut_view}
use Rattle.table.proofs.Rows.{Stored}
use Rattle.status.specs.Take.{gone_by}
use Rattle.status.proofs.Taking.{Touched}
use Rattle.status.proofs.take.drop_unshown.Given as goal

abbrev pub invariant-loop-i : goal.invariant-loop-i
invariant-loop-i l = Stored (cut_view l.initial.table (gone_by l.value l.initial.table)) l.initial.table l.table l.i × Touched l.value l.initial.table l.touched l.i
