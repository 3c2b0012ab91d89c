use mathlib.Core.Path.{◌≡◌}
use mathlib.Core.Bool.{true}
use Prim.Native.Nat.{◌-◌, ◌<◌}
use lib.ListN.{length, drop}
use Rattle.filter.specs.Sizes.{place_count, precedence_count}
use Rattle.element.specs.Framing.{split_of}
use Rattle.element.specs.Inner.Walk.{whole, raws_in}
use Rattle.element.proofs.Judging.{start, judge_from}
use Rattle.element.proofs.judge.lay_filters.Given as goal

abbrev pub invariant-loop : goal.invariant-loop
invariant-loop l = record {
  long : (length l.row ≡ place_count) × (length l.identifiers ≡ place_count) × (length l.precedences ≡ precedence_count);
  within : length l.rest < length l.value;
  there : whole (split_of (l.n - l.counter) l.rest) ≡ true;
  judged : judge_from (record { row = l.row; identifiers = l.identifiers; precedences = l.precedences; unfit = l.unfit; repeated = l.repeated; at = length l.value - length l.rest }) (raws_in (split_of (l.n - l.counter) l.rest))
      ≡ judge_from start (raws_in (split_of l.n (drop 1 l.value)));
}
