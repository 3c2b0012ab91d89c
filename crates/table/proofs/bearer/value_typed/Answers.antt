-- `table::bearer::value_typed` meets its contract: a value that is passed is of its type.
use Rattle.table.proofs.Typed.{table_in_range}
use Rattle.table.proofs.bearer.value_typed.Goals as goal

pub returns : goal.returns
returns c = table_in_range c.args.table _ c.well_formed.0
