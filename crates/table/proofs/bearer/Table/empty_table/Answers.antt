-- `table::bearer::Table::empty_table` meets its contract: the array's repeat is the list's.
use Rattle.table.specs.Tables.{empty_table}
use Rattle.table.proofs.Listing.{idle_lists}
use Rattle.table.proofs.bearer.Table.empty_table.Goals as goal

pub returns : goal.returns
unfolding empty_table
returns c = rw (c.idle_bearer.ensures, idle_lists)
