-- `table::bearer::Table::distinct_transactions` meets its contract: the tests so far are those of the indices passed.
use Rattle.laws.proofs.Index.{all_more}
use Rattle.table.specs.WellFormed.{transaction_from}
use Rattle.table.proofs.bearer.Table.distinct_transactions.Goals as goal

pub loop-i-preserved : goal.loop-i-preserved
loop-i-preserved c =
    let a = c.args in
    let l = c.loop-i in
    (all_more (transaction_from a.self.now) l.i l.all _ (cc) l.invariant)
