use Rattle.element.proofs.Typed.{row_in_range}
use Rattle.element.proofs.survey.row_typed.Goals as goal

pub returns : goal.returns
returns c = row_in_range c.args.row _ c.well_formed.0
