use mathlib.Core.Path.{◌∙◌}
use Prim.Native.Nat.{ℕ}
use native.Mathlib.Omega.{arith}
use Rattle.laws.specs.Index.{tab}
use Rattle.laws.proofs.Index.{done}
use Rattle.filter.specs.Sizes.{place_count, precedence_count}
use Rattle.calls.proofs.Conflicts.{taken_below, taken_done}
use Rattle.calls.proofs.incoming.taken_by.Goals as goal

pub returns : goal.returns
returns c =
    let new = c.args.filters.now in
    let l = c.loop-filter in
    done (λ (j : ℕ). tab (taken_below new j) precedence_count) l.filter-index place_count _ (omega arith) (omega arith) l.invariant ∙ taken_done new
