use Rattle.laws.proofs.Index.{any_more}
use Rattle.calls.specs.Lay.{other_at}
use Rattle.calls.proofs.lay.is_only.Goals as goal

pub loop-i-preserved : goal.loop-i-preserved
unfolding other_at
loop-i-preserved c =
    let a = c.args in
    let l = c.loop-i in
    any_more (other_at a.table.now a.connection) l.i l.other _ (cc) l.invariant
