use mathlib.Core.Path.{◌≡◌}
use lib.ListN.{length}
use Rattle.element.specs.Contents.{contents_from, contents_of}
use Rattle.element.proofs.contents.read_contents.Given as goal

abbrev pub invariant-loop-rest : goal.invariant-loop-rest
invariant-loop-rest l = contents_from 0 l.held l.rest ≡ contents_of l.fn.filter l.fn.octets

abbrev pub decreases-loop-rest : goal.decreases-loop-rest
decreases-loop-rest l = length l.rest
