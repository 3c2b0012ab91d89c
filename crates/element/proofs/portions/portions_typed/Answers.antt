use Rattle.element.proofs.Typed.{portions_in_range}
use Rattle.element.proofs.portions.portions_typed.Goals as goal

pub returns : goal.returns
returns c = portions_in_range c.args.p _ c.well_formed.0
