-- `element::write::put_place` meets its contract: the contents are stored first, and their length before them.
use mathlib.Core.Path.{◌≡◌, sym, ◌∙◌}
use mathlib.Core.Bool.{true}
use Prim.Native.Nat.{◌+◌, ◌-◌}
use native.Mathlib.Omega.{arith}
use lib.ListN.{length}
use Rattle.filter.specs.Coding.{held}
use Rattle.element.specs.Write.{contents_octets, entry_octets}
use Rattle.element.specs.Inner.Walk.{place_octets}
use Rattle.element.proofs.Writing.{three_before}
use Rattle.element.proofs.write.put_place.Goals as goal

pub returns-clause-put : goal.returns-clause-put
unfolding entry_octets place_octets
returns-clause-put c =
    let f = c.args.filter.now in
    let there : held f ≡ true = sym c.held.ensures ∙ c.if-not-held.false in
    let after = c.put_contents-end.ensures.put.after in
    let long : c.put_contents-end.result - (c.args.at + 3) ≡ length (contents_octets f) = omega arith in
    rw there (record {
      after = omega arith;
      stored = rw (long, c.put_contents-end.ensures.put.stored) (three_before (contents_octets f) c.args.out.now c.args.at _ _ _);
    })
