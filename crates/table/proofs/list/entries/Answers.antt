use Rattle.std.proofs.Common.{ap, ◌∙◌, length, [], ◌∷◌}
use native.Mathlib.Omega.{arith}
use lib.ListN.{length-append}
use Rattle.table.proofs.Cells.{names_apart}
use Rattle.table.proofs.list.entries.Goals as goal

pub loop-part-preserved : goal.loop-part-preserved
loop-part-preserved c =
    let now = c.in-Some.ensures.steps in
    let was = c.loop-part.invariant in
    let long = now.1.1 ∙ was.0 in (
      now.0 ∙ was.0,
      omega (arith, was.1, ap length now.1.0, length-append c.in-Some.part.now c.next.new.self.rest.now, long, length-append c.loop-part.yielded (c.in-Some.part ∷ [])),
      omega (arith, was.2, c.entries_in.ensures, names_apart c.in-Some.part.now c.next.new.self.rest.now now.1.0 long),
    )
