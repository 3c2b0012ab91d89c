-- `table::bearer::Table::well_formed` meets its contract: by what its parts give of the bearers, the transactions and the lists.
use mathlib.Core.Path.{sym, ◌∙◌}
use Rattle.table.proofs.Tested.{some_tested}
use Rattle.table.proofs.bearer.Table.well_formed.Goals as goal

pub returns-then-distinct_transactions : goal.returns-then-distinct_transactions
returns-then-distinct_transactions c =
    let fine = some_tested c.args.self.now c.typed.ensures (sym c.in-Some.is ∙ c.uplinks_if_fine.ensures) in
    rw c.entries.ensures (rw (sym c.distinct_transactions.ensures ∙ c.if-distinct_transactions.true) at fine)

pub returns-else-distinct_transactions : goal.returns-else-distinct_transactions
returns-else-distinct_transactions c =
    let fine = some_tested c.args.self.now c.typed.ensures (sym c.in-Some.is ∙ c.uplinks_if_fine.ensures) in
    c.if-distinct_transactions.false ∙ (rw (sym c.distinct_transactions.ensures ∙ c.if-distinct_transactions.false) at fine)
