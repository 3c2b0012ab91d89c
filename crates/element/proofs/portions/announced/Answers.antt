-- `element::portions::announced` meets its contract: 255 octets of zero are no octets, padded.
use Rattle.element.proofs.Holdings.{empty_is}
use Rattle.element.proofs.portions.announced.Goals as goal

pub returns : goal.returns
returns c = empty_is _
