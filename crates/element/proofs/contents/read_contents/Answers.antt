-- `element::contents::read_contents` meets its contract. The loop's invariant: the rest of the octets, after the filter so far, say what all of them do.
use mathlib.Core.Path.{sym, ◌∙◌}
use borrow.Author.Rules.{rules}
use Rattle.element.proofs.Reading.{nothing, start, goes_on, fails, shrinks, end}
use Rattle.element.proofs.contents.read_contents.Goals as goal

pub returns-then-is_empty : goal.returns-then-is_empty
returns-then-is_empty c = sym (nothing c.args.filter c.args.octets.now (search rules))

pub loop-rest-init : goal.loop-rest-init
loop-rest-init c = start c.args.filter c.args.octets.now (search rules)

pub returns-in_err-held : goal.returns-in_err-held
returns-in_err-held c = c.from_residual.ensures ∙ sym (fails c.loop-rest.held c.loop-rest.rest.now (search rules) c.in_err-held.ensures) ∙ c.loop-rest.invariant

pub loop-rest-smaller : goal.loop-rest-smaller
loop-rest-smaller c = shrinks c.loop-rest.held c.loop-rest.rest.now _ c.in_ok-held.ensures

pub loop-rest-preserved : goal.loop-rest-preserved
loop-rest-preserved c = sym (goes_on c.loop-rest.held c.loop-rest.rest.now _ (search rules) c.in_ok-held.ensures) ∙ c.loop-rest.invariant

pub returns : goal.returns
returns c = sym (end c.loop-rest.held c.loop-rest.rest.now (search rules)) ∙ c.loop-rest.invariant
