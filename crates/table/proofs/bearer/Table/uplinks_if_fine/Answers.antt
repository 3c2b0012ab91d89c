-- `table::bearer::Table::uplinks_if_fine` meets its contract: the bearers passed are fine, the precedences of the active ones marked, and their uplink filters counted.
use mathlib.Core.Path.{sym, ◌∙◌}
use mathlib.Core.Logic.{inl, inr}
use native.Mathlib.Omega.{arith}
use Rattle.laws.proofs.Typed.{each_at}
use Rattle.table.specs.Bearers.{no_bearer, bearer_at}
use Rattle.table.proofs.Walks.{empty_row, row_at_most, table_start, table_few, head_never, idle_never, idle_more, active_never, active_more}
use Rattle.table.proofs.bearer.Table.uplinks_if_fine.Goals as goal
use Rattle.table.proofs.bearer.Table.uplinks_if_fine.Goals.{then-not-transaction_fine-via-then-not-transaction_fine, then-not-transaction_fine-via-else-not-transaction_fine+then-not-link_fine, then-idle+else-not-holds_nothing, else-idle+in_ok-uplinks}

pub loop-i-init : goal.loop-i-init
loop-i-init c = table_start _

pub returns-then-not-transaction_fine : goal.returns-then-not-transaction_fine
returns-then-not-transaction_fine c =
    let l = c.loop-i in
    let head = rw c.is_idle-idle.ensures at c.transaction_fine.ensures in
    elim c.then-not-transaction_fine.branch [
      | then-not-transaction_fine-via-then-not-transaction_fine w ↦ head_never _ l.i l.invariant (omega arith) (inl (sym head ∙ w.if-not-transaction_fine.true))
      | then-not-transaction_fine-via-else-not-transaction_fine+then-not-link_fine w ↦ head_never _ l.i l.invariant (omega arith) (inr (sym w.link_fine.ensures ∙ w.if-not-link_fine.true))
    ]

pub returns-then-not-holds_nothing : goal.returns-then-not-holds_nothing
returns-then-not-holds_nothing c =
    let l = c.loop-i in
    let idle = c.is_idle-idle.ensures in
    let head = rw idle at c.transaction_fine.ensures in
    idle_never _ l.i l.invariant (sym head ∙ c.if-not-transaction_fine.false) (sym c.link_fine.ensures ∙ c.if-not-link_fine.false) (omega arith) (sym idle ∙ c.if-idle.true)
    (sym (c.holds_nothing.ensures ∙ empty_row (bearer_at c.args.self.now l.i).row (each_at c.typed.ensures.bearers no_bearer l.i (omega arith)).row.count) ∙ c.if-not-holds_nothing.true)

pub returns-in_err-uplinks : goal.returns-in_err-uplinks
returns-in_err-uplinks c =
    let l = c.loop-i in
    let idle = c.is_idle-idle.ensures in
    let head = rw idle at c.transaction_fine.ensures in
    rw c.from_residual.ensures
    (active_never _ l.i l.invariant (sym head ∙ c.if-not-transaction_fine.false) (sym c.link_fine.ensures ∙ c.if-not-link_fine.false) (sym idle ∙ c.if-idle.false)
    (rw (c.begins_at.ensures, c.bit_of.ensures, c.connection-connection.ensures) at c.row_uplinks.ensures.count) (omega arith) c.in_err-uplinks.was)

pub overflow_add-uplinks : goal.overflow_add-uplinks
overflow_add-uplinks c =
    let few = table_few _ c.loop-i.i c.loop-i.invariant (omega arith) in
    let more = row_at_most _ _ _ _ _ _ _ c.row_uplinks.ensures.count c.in_ok-uplinks.was in
    omega arith

pub loop-i-preserved : goal.loop-i-preserved
loop-i-preserved c =
    let l = c.loop-i in
    let idle = c.is_idle-idle.ensures in
    let head = rw idle at c.transaction_fine.ensures in
    let fine = sym head ∙ c.if-not-transaction_fine.false in
    let link = sym c.link_fine.ensures ∙ c.if-not-link_fine.false in
    elim c.if-idle.branch [
      | then-idle+else-not-holds_nothing w ↦ rw (w.uplinks-is, w.seen-is)
          (idle_more _ l.i l.invariant fine link (sym idle ∙ w.if-idle.true)
          (sym (w.holds_nothing.ensures ∙ empty_row (bearer_at c.args.self.now l.i).row (each_at c.typed.ensures.bearers no_bearer l.i (omega arith)).row.count) ∙ w.if-not-holds_nothing.false))
      | else-idle+in_ok-uplinks w ↦ rw (w.uplinks-is, w.seen-is)
          (active_more _ l.i l.invariant fine link (sym idle ∙ w.if-idle.false) (rw (w.begins_at.ensures, w.bit_of.ensures, w.connection-connection.ensures) at w.row_uplinks.ensures.count)
          w.in_ok-uplinks.was (rw (w.bit_of.ensures, w.connection-connection.ensures) at w.in_ok-uplinks.ensures.marks))
    ]
