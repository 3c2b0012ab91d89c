-- `element::framing::after_filters` meets its contract. The loop's invariant: what is left after the filters that are to come is what is left after all.
use mathlib.Core.Path.{sym, ◌∙◌}
use Rattle.element.proofs.Ending.{filters_more, filters_cut, filters_end}
use Rattle.element.proofs.framing.after_filters.Goals as goal

pub returns-in_err-rest : goal.returns-in_err-rest
returns-in_err-rest c =
    rw c.from_residual.ensures (sym c.loop.invariant ∙ filters_cut c.args.n c.loop.counter c.loop-test.true c.loop.rest.now c.in_err-rest.ensures)

pub loop-preserved : goal.loop-preserved
loop-preserved c = sym (filters_more c.args.n c.loop.counter c.loop-test.true c.loop.rest.now _ c.in_ok-rest.ensures) ∙ c.loop.invariant

pub returns : goal.returns
returns c = sym c.loop.invariant ∙ filters_end c.args.n c.loop.counter c.loop-test.false c.loop.rest.now
