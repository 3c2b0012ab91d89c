use mathlib.Core.Path.{◌≡◌}
use lib.ListN.{length}
use Rattle.element.specs.Framing.{parameters}
use Rattle.element.proofs.framing.parameters_fit.Given as goal

abbrev pub invariant-loop-rest : goal.invariant-loop-rest
invariant-loop-rest l = parameters 0 l.rest ≡ parameters 0 l.octets

abbrev pub decreases-loop-rest : goal.decreases-loop-rest
decreases-loop-rest l = length l.rest
