use Prim.Native.Nat.{◌-◌}
use Rattle.filter.specs.Sizes.{precedence_count}
use Rattle.route.proofs.Firsts.{NoneBelow}
use Rattle.route.proofs.why.first_fit.Given as goal

abbrev pub invariant-loop-position : goal.invariant-loop-position
invariant-loop-position l = NoneBelow l.table l.header l.default l.position

abbrev pub decreases-loop-position : goal.decreases-loop-position
decreases-loop-position l = precedence_count - l.position
