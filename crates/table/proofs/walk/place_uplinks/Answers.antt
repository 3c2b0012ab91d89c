-- `table::walk::place_uplinks` meets its contract: what it leaves is marked by whether the place holds a filter.
use mathlib.Core.Path.{sym, ◌∙◌}
use Rattle.table.proofs.Walks.{unheld_leaves, held_leaves}
use Rattle.table.proofs.walk.place_uplinks.Goals as goal

pub returns-then-not-held-clause-marks : goal.returns-then-not-held-clause-marks
returns-then-not-held-clause-marks c = let a = c.args in unheld_leaves a.bit a.seen.now a.filter.now (sym c.held.ensures ∙ c.if-not-held.true)

pub returns-then-not-uplink-clause-marks : goal.returns-then-not-uplink-clause-marks
returns-then-not-uplink-clause-marks c =
    let a = c.args in c.marked_before.ensures.1 ∙ held_leaves a.bit a.seen.now a.filter.now (sym c.held.ensures ∙ c.if-not-held.false)

pub returns-clause-marks : goal.returns-clause-marks
returns-clause-marks c =
    let a = c.args in c.marked_before.ensures.1 ∙ held_leaves a.bit a.seen.now a.filter.now (sym c.held.ensures ∙ c.if-not-held.false)
