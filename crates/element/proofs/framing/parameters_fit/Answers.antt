-- `element::framing::parameters_fit` meets its contract. The loop's invariant: the octets that are left are parameters exactly where all are.
use mathlib.Core.Path.{sym, ◌∙◌}
use borrow.Author.Rules.{rules}
use Rattle.element.proofs.Ending.{parameter_more, parameter_cut, parameter_shrinks, parameters_end}
use Rattle.element.proofs.framing.parameters_fit.Goals as goal

pub returns-in_default : goal.returns-in_default
returns-in_default c = sym (parameter_cut c.loop-rest.rest.now (search rules) (c.in_default.ensures {u = tt})) ∙ c.loop-rest.invariant

pub loop-rest-smaller : goal.loop-rest-smaller
loop-rest-smaller c = parameter_shrinks c.loop-rest.rest.now c.in-Some.after.now c.in-Some.ensures

pub loop-rest-preserved : goal.loop-rest-preserved
loop-rest-preserved c = sym (parameter_more c.loop-rest.rest.now c.in-Some.after.now (search rules) c.in-Some.ensures) ∙ c.loop-rest.invariant

pub returns : goal.returns
returns c = sym (parameters_end c.loop-rest.rest.now (search rules)) ∙ c.loop-rest.invariant
