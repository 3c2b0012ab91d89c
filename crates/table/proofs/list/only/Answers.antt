-- `table::list::only` meets its contract: at each index it is stored whether it is the identity's.
use mathlib.Core.Bool.{false}
use native.Mathlib.Omega.{arith}
use Rattle.laws.proofs.Index.{tab_is}
use Rattle.table.specs.Bearers.{bearer_count}
use Rattle.table.proofs.list.only.Goals as goal

pub returns : goal.returns
returns c = tab_is false _ _ bearer_count (omega arith) (λ k l. c.loop-i.invariant k (omega arith))
