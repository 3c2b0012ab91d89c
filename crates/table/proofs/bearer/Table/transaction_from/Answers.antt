-- `table::bearer::Table::transaction_from` meets its contract: a bearer without a transaction is apart from every other; of one that has one, the tests so far are those of the indices passed.
use borrow.Author.Tests.{ne_eqb}
use Rattle.laws.proofs.Index.{all_more}
use Rattle.table.specs.WellFormed.{transactions_apart}
use Rattle.table.proofs.bearer.Table.transaction_from.Goals as goal

pub loop-k-preserved : goal.loop-k-preserved
unfolding transactions_apart
loop-k-preserved c =
    let a = c.args in
    let l = c.loop-k in
    (all_more (transactions_apart a.self.now a.i) l.k l.all _ (rw (ne_eqb _ 0 c.if-transaction-eq0.false)) l.invariant)
