-- `element::entries::filter_at` meets its contract. The loop's invariant: what is found among the filters that are left is what is found among all.
use mathlib.Core.Path.{◌≡◌, refl, sym, ◌∙◌}
use Prim.Native.Nat.{ℕ, ◌+◌, ◌-◌}
use native.Mathlib.Omega.{arith}
use lib.ListN.{length}
use Rattle.element.specs.Framing.{Raw, Split, split_of}
use Rattle.element.specs.Inner.Walk.{seen}
use Rattle.element.proofs.Splitting.{next_long, turn, turn_there, turn_whole}
use Rattle.element.proofs.Offsets.{filter_here, filter_later, filter_found, filters_none}
use Rattle.element.proofs.entries.filter_at.Goals as goal

pub unreachable-requires : goal.unreachable-requires
unreachable-requires c = turn_there c.args.count c.loop.counter c.loop-test.true c.loop.rest.now c.loop.invariant.1 (c.in_default.ensures {u = tt})

pub returns-then-value-rest : goal.returns-then-value-rest
returns-then-value-rest c =
    let l = c.loop in
    let next = c.in-Some.ensures in
    let r : Raw = seen c.in-Some.filter in
    let q : Split = split_of (c.args.count - (l.counter + 1)) c.in-Some.after.now in
    let from : ℕ = length c.args.value.now - length l.rest.now in
    let whole = turn_whole c.args.count l.counter c.loop-test.true l.rest.now l.invariant.1 _ next in
    let long = next_long l.rest.now _ next in
    let within = l.invariant.0 in
    filter_found from c.args.at _ _ r c.if-value-rest.true (omega arith) refl
    ∙ sym (filter_here from c.args.at r q whole c.if-value-rest.true)
    ∙ rw (turn c.args.count l.counter c.loop-test.true l.rest.now _ next) at l.invariant.2

pub loop-preserved : goal.loop-preserved
loop-preserved c =
    let l = c.loop in
    let next = c.in-Some.ensures in
    let r : Raw = seen c.in-Some.filter in
    let q : Split = split_of (c.args.count - (l.counter + 1)) c.in-Some.after.now in
    let from : ℕ = length c.args.value.now - length l.rest.now in
    let whole = turn_whole c.args.count l.counter c.loop-test.true l.rest.now l.invariant.1 _ next in
    let long = next_long l.rest.now _ next in
    let within = l.invariant.0 in
    let after : length c.args.value.now - length c.in-Some.after.now ≡ from + 3 + length r.contents = omega arith in (
      omega arith,
      whole,
      rw after
          (sym (filter_later from c.args.at r q whole c.if-value-rest.false) ∙ rw (turn c.args.count l.counter c.loop-test.true l.rest.now _ next) at l.invariant.2),
    )

pub returns : goal.returns
returns c = sym (filters_none c.args.at _ c.args.count c.loop.counter c.loop-test.false c.loop.rest.now) ∙ c.loop.invariant.2
