-- `element::portions::are_zero` meets its contract. The loop's invariant: whether the octets so far are zero.
use mathlib.Core.Path.{◌≡◌, sym, ap, ◌∙◌}
use mathlib.Core.Bool.{◌&&◌}
use mathlib.Core.List.{List}
use Prim.Native.Nat.{ℕ, ◌+◌, ◌-◌, ◌≤◌, ◌<◌}
use native.Mathlib.Omega.{arith}
use lib.ListN.{length, take, drop, get_or, length-drop}
use Rattle.std.specs.List.{list_all}
use Rattle.std.proofs.lemmas.List.{get_or-drop}
use Rattle.std.proofs.lemmas.List.Folds.{list_all_more}
use Rattle.element.specs.Portions.{is_zero}
use Rattle.element.proofs.portions.are_zero.Goals as goal

one_more : (xs : List ℕ) (from i : ℕ) → from ≤ i → i < length xs
    → list_all is_zero (take (i - from) (drop from xs)) && is_zero (get_or xs i 0) ≡ list_all is_zero (take (i + 1 - from) (drop from xs))
one_more xs from i f l =
    let long = length-drop from xs in
    let next : i + 1 - from ≡ (i - from) + 1 = omega arith in
    let there : from + (i - from) ≡ i = omega arith in
    let here : get_or (drop from xs) (i - from) 0 ≡ get_or xs i 0 = get_or-drop from xs (i - from) 0 ∙ ap (λ (k : ℕ). get_or xs k 0) there in
    rw next (rw (← here) (sym (list_all_more is_zero (drop from xs) (i - from) 0 (omega arith))))

pub loop-i-preserved : goal.loop-i-preserved
loop-i-preserved c =
    let i = c.loop-i.i in
    let f = c.loop-i.invariant.0 in (
      omega arith,
      rw c.loop-i.invariant.1 (one_more c.args.octets.now c.args.from i f (omega arith)),
    )
