-- `element::judge::lay_filters` meets its contract. The loop's invariant: the filters that are left are all there, and judged after what was found so far they
-- give what all of them give.
use mathlib.Core.Path.{◌≡◌, refl, sym, ap, ◌∙◌}
use mathlib.Core.List.{List}
use Prim.Native.Nat.{ℕ, ◌+◌, ◌-◌, ◌≤◌}
use native.Mathlib.Omega.{arith}
use lib.ListN.{length, drop, get_or, set, length-set, length-drop}
use Rattle.std.proofs.Common.{None, Some}
use Rattle.std.proofs.lemmas.Result.{err_from_is_err_and}
use Rattle.laws.proofs.Parts.{part_rest, all_drop}
use Rattle.laws.proofs.Typed.{all_of}
use Rattle.filter.specs.declared.component.Filter.{Filter}
use Rattle.element.specs.declared.answer.Cause.TheVariants.{Coding}
use Rattle.element.specs.Framing.{Raw, identifier_of, split_of}
use Rattle.element.specs.Contents.{coded_of}
use Rattle.element.specs.Places.{after_raw}
use Rattle.element.specs.Read.{no_filters, no_marks}
use Rattle.element.specs.Meaning.{Octet}
use Rattle.element.specs.Inner.Walk.{refusal, seen, raws_in, judged_row, no_precedences}
use Rattle.element.proofs.Splitting.{next_long, turn_there, turn_whole, turn_raws, raws_end, raws_narrow}
use Rattle.element.proofs.Judging.{State, start, after, decided, judge_from, judge_badly, judge_well, judge_end, decided_some, decided_none, row_judged}
use Rattle.element.proofs.judge.lay_filters.Goals as goal

-- all the filters are judged as the row says
all_judged : (s : List ℕ) (n : ℕ) → ((k : ℕ) → Octet (get_or s k 0)) → judge_from start (raws_in (split_of n (drop 1 s))) ≡ judged_row (raws_in (split_of n (drop 1 s)))
all_judged s n small = row_judged (raws_in (split_of n (drop 1 s))) (raws_narrow n (drop 1 s) (all_drop Octet 1 s (all_of Octet 0 s small)))

pub loop-init : goal.loop-init
unfolding no_filters no_marks no_precedences
loop-init c =
    let s = c.args.value.now in
    let rest = part_rest s 1 in
    let none : c.args.n - 0 ≡ c.args.n = omega arith in
    let long = length-drop 1 s in
    let some = c.requires.0.0.0 in
    let first : length s - length (drop 1 s) ≡ 1 = omega arith in
    record {
      long = (ap length c.requires.1, refl, refl);
      within = rw rest (omega arith);
      there = rw (rest, none) c.requires.0.1;
      judged = rw (rest, c.requires.1, none, first);
    }

pub unreachable-requires : goal.unreachable-requires
unreachable-requires c = turn_there c.args.n c.loop.counter c.loop-test.true c.loop.rest.now c.loop.invariant.there (c.in_default.ensures {u = tt})

pub returns-in_err-filter : goal.returns-in_err-filter
returns-in_err-filter c =
    let l = c.loop in
    let next = c.in-Some.ensures in
    let r : Raw = seen c.in-Some.raw in
    let st : State = record { row = l.row; identifiers = l.identifiers; precedences = l.precedences; unfit = l.unfit; repeated = l.repeated; at = length c.args.value.now - length l.rest.now } in
    let raws = turn_raws c.args.n l.counter c.loop-test.true l.rest.now _ next l.invariant.there in
    let badly : coded_of r ≡ None = sym c.decoded.ensures ∙ c.in_err-filter.ensures.ok_part in
    let p = err_from_is_err_and c.from_residual.result c.from_residual.ensures.1 in
    let told : c.in_err-filter.field-0.0 ≡ refusal Coding st.at = let v = rw c.in_err-filter.ensures.ok_part at c.in_err-filter.ensures.value in cc in
    rw (p.1, p.2 ∙ told) (
    sym (judge_badly st r _ badly)
    ∙ ap (judge_from st) (sym raws)
    ∙ l.invariant.judged
    ∙ all_judged c.args.value.now c.args.n (λ k. (c.type_inv.value k).fits))

pub loop-preserved : goal.loop-preserved
loop-preserved c =
    let l = c.loop in
    let next = c.in-Some.ensures in
    let r : Raw = seen c.in-Some.raw in
    let f : Filter = c.in_ok-filter.filter in
    let st : State = record { row = l.row; identifiers = l.identifiers; precedences = l.precedences; unfit = l.unfit; repeated = l.repeated; at = length c.args.value.now - length l.rest.now } in
    let long = next_long l.rest.now _ next in
    let within = l.invariant.within in
    let raws = turn_raws c.args.n l.counter c.loop-test.true l.rest.now _ next l.invariant.there in
    let well : coded_of r ≡ Some f = sym c.decoded.ensures ∙ c.in_ok-filter.ensures.ok_part in
    let further : length c.args.value.now - length c.in-Some.after.now ≡ after_raw st.at r = omega arith in
    let first = c.marked_before.ensures in
    let second = c.marked_before-in-loop.ensures in
    let identifier : c.from-identifier.result ≡ identifier_of r = c.from-identifier.ensures ∙ c.identifier.ensures in
    let same : record { row = set l.row c.from-identifier.result f; identifiers = c.marked_before.new.marks; precedences = c.marked_before-in-loop.new.marks; unfit = c.first-unfit.result; repeated = c.first-repeated.result; at = length c.args.value.now - length c.in-Some.after.now }
    ≡ after st r f
    = rw (c.first-unfit.ensures, c.fittable.ensures, c.first-repeated.ensures, first.0, first.1, second.0, second.1, identifier, c.from.ensures, further) in
    record {
      long = (simp length-set l.invariant.long.0, simp (first.1, length-set) l.invariant.long.1, simp (second.1, length-set) l.invariant.long.2);
      within = omega arith;
      there = turn_whole c.args.n l.counter c.loop-test.true l.rest.now l.invariant.there _ next;
      judged = ap (λ (s : State). judge_from s (raws_in (split_of (c.args.n - (l.counter + 1)) c.in-Some.after.now))) same ∙ sym (judge_well st r _ f well) ∙ ap (judge_from st) (sym raws) ∙ l.invariant.judged;
    }

-- no filter is left
over : (st : State) (n i : ℕ) (s rest : List ℕ) → n ≤ i → ((k : ℕ) → Octet (get_or s k 0))
    → judge_from st (raws_in (split_of (n - i) rest)) ≡ judge_from start (raws_in (split_of n (drop 1 s)))
    → decided st.unfit st.repeated st.row ≡ judged_row (raws_in (split_of n (drop 1 s)))
over st n i s rest end small h = sym (judge_end st) ∙ ap (judge_from st) (sym (raws_end n i end rest)) ∙ h ∙ all_judged s n small

pub returns-in-Some-or : goal.returns-in-Some-or
returns-in-Some-or c =
    decided_some c.loop.unfit c.loop.repeated c.loop.row c.in-Some-or.refusal c.in-Some-or.ensures
    ∙ over _ c.args.n c.loop.counter c.args.value.now c.loop.rest.now c.loop-test.false (λ k. (c.type_inv.value k).fits) c.loop.invariant.judged

pub returns-in-None : goal.returns-in-None
returns-in-None c =
    decided_none c.loop.unfit c.loop.repeated c.loop.row c.in-None.ensures
    ∙ over _ c.args.n c.loop.counter c.args.value.now c.loop.rest.now c.loop-test.false (λ k. (c.type_inv.value k).fits) c.loop.invariant.judged
