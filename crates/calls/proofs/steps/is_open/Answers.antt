use mathlib.Core.Path.{ap, ◌∙◌}
use mathlib.Core.Bool.{Bool, not, ◌&&◌}
use lib.Dec.{eqb, leb}
use Rattle.table.specs.Bearers.{last_transaction}
use Rattle.calls.specs.Steps.{is_open}
use Rattle.calls.proofs.Changing.{opens_any_is}
use Rattle.calls.proofs.steps.is_open.Goals as goal

pub returns : goal.returns
unfolding is_open
returns c =
    let x = c.args.transaction in
    ap (λ (b : Bool). (not (eqb x 0) && leb x last_transaction) && b) (c.opens_any.ensures ∙ opens_any_is c.args.table.now c.typed.ensures x)
