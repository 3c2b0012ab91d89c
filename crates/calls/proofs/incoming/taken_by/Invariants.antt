use mathlib.Core.Path.{◌≡◌}
use Rattle.laws.specs.Index.{tab}
use Rattle.filter.specs.Sizes.{precedence_count}
use Rattle.calls.proofs.Conflicts.{taken_below}
use Rattle.calls.proofs.incoming.taken_by.Given as goal

abbrev pub invariant-loop-filter : goal.invariant-loop-filter
invariant-loop-filter l = (l.taken ≡ tab (taken_below l.filters l.filter-index) precedence_count)
