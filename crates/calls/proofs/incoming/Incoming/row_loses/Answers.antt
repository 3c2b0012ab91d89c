use Rattle.laws.proofs.Index.{any_more}
use Rattle.calls.specs.Lay.{conflict_in}
use Rattle.calls.proofs.incoming.Incoming.row_loses.Goals as goal

pub loop-j-preserved : goal.loop-j-preserved
unfolding conflict_in
loop-j-preserved c =
    let a = c.args in
    let l = c.loop-j in
    any_more (conflict_in a.self.now.filters.now a.self.now.creates a.standing a.row.now) l.j l.any _ (cc) l.invariant
