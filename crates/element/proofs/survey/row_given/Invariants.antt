use mathlib.Core.Path.{◌≡◌}
use Prim.Native.Nat.{◌≤◌}
use lib.ListN.{length, drop}
use Rattle.laws.specs.Lists.{fold}
use Rattle.filter.specs.Sizes.{precedence_count}
use Rattle.element.proofs.Surveys.{survey_start, surveyed}
use Rattle.element.proofs.survey.row_given.Given as goal

abbrev pub invariant-loop-filter : goal.invariant-loop-filter
invariant-loop-filter l = record {
  few : l.count ≤ l.filter-index;
  long : length l.precedences ≡ precedence_count;
  survey : fold surveyed (record { count = l.count; given = l.given; repeated = l.repeated; precedences = l.precedences }) (drop l.filter-index l.row) ≡ fold surveyed survey_start l.row;
}
