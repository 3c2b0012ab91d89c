use mathlib.Core.Path.{refl, sym, ◌∙◌}
use mathlib.Core.Bool.{false}
use native.Mathlib.Omega.{arith}
use Rattle.laws.proofs.Index.{stored_more, stored_done}
use Rattle.table.specs.Bearers.{bearer_count}
use Rattle.table.specs.Changes.{of_connection}
use Rattle.calls.specs.Lay.{loses_at}
use Rattle.calls.proofs.Conflicts.{mine_loses, other_loses}
use Rattle.calls.proofs.incoming.Incoming.losers.Goals.{then-in_connection, else-in_connection}
use Rattle.calls.proofs.incoming.Incoming.losers.Goals as goal

pub loop-i-preserved : goal.loop-i-preserved
unfolding of_connection
loop-i-preserved c =
    let a = c.args in
    let l = c.loop-i in
    let new = a.self.now.filters.now in
    let create = a.self.now.creates in
    let f = loses_at new create a.table.now a.named a.connection in
    stored_more f _ l.i l.losers _
    (elim c.if-in_connection.branch [
      | then-in_connection w ↦ w.losers-is ∙ mine_loses new create a.table.now a.named a.connection l.i _ (sym c.in_connection.ensures ∙ w.if-in_connection.true) w.row_loses.ensures
      | else-in_connection w ↦ w.losers-is ∙ other_loses new create a.table.now a.named a.connection l.i (sym c.in_connection.ensures ∙ w.if-in_connection.false)
    ]) l.invariant

pub returns : goal.returns
returns c =
    let a = c.args in
    let l = c.loop-i in
    stored_done (loses_at a.self.now.filters.now a.self.now.creates a.table.now a.named a.connection) _ false l.i bearer_count _ refl (omega arith) (omega arith) l.invariant
