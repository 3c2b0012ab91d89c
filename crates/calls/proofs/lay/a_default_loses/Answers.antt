use mathlib.Core.Bool.{false, ◌&&◌}
use Prim.Native.Nat.{ℕ}
use lib.ListN.{get_or}
use Rattle.laws.proofs.Index.{any_more}
use Rattle.table.specs.Bearers.{role_at, is_default}
use Rattle.calls.proofs.lay.a_default_loses.Goals as goal

pub loop-i-preserved : goal.loop-i-preserved
loop-i-preserved c =
    let a = c.args in
    let l = c.loop-i in
    any_more (λ (i : ℕ). is_default (role_at a.table.now i) && get_or a.losers.now i false) l.i l.any _ (cc) l.invariant
