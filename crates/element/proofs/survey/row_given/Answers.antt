-- `element::survey::row_given` meets its contract. The loop's invariant: the survey so far, continued over the places that are left, is the survey of all.
use mathlib.Core.Path.{refl, sym, ◌∙◌}
use native.Mathlib.Omega.{arith}
use lib.ListN.{get_or, length-set}
use Rattle.laws.proofs.Loops.{fold_more, fold_done}
use Rattle.filter.specs.declared.component.Filter.{Filter}
use Rattle.filter.specs.Build.{empty_filter}
use Rattle.element.specs.Inner.Walk.{no_precedences}
use Rattle.element.proofs.Surveys.{Survey, surveyed, surveyed_held, surveyed_not, survey_row}
use Rattle.element.proofs.survey.row_given.Goals as goal
use Rattle.element.proofs.survey.row_given.Goals.{then-held, else-held}

pub loop-filter-init : goal.loop-filter-init
unfolding no_precedences
loop-filter-init c = record { few = omega arith; long = refl; survey = refl }

pub loop-filter-preserved : goal.loop-filter-preserved
loop-filter-preserved c =
    let l = c.loop-filter in
    let f : Filter = get_or c.args.row.now l.filter-index empty_filter in
    let st : Survey = record { count = l.count; given = l.given; repeated = l.repeated; precedences = l.precedences } in
    let few = l.invariant.few in
    let more = fold_more surveyed l.filter-index c.args.row.now empty_filter st _ (omega arith) l.invariant.survey in
    elim c.if-held.branch [
      | then-held w ↦
          record {
            few = omega (arith, w.count-is);
            long = rw w.precedences-is (simp length-set l.invariant.long);
            survey =
                rw (w.count-is, w.repeated-is, w.precedences-is, c.place_fine-given.ensures, w.from-precedence.ensures)
                (rw (surveyed_held st f (sym c.held.ensures ∙ w.if-held.true)) at more);
          }
      | else-held w ↦
          record {
            few = omega (arith, w.count-is);
            long = rw w.precedences-is l.invariant.long;
            survey =
                rw (w.count-is, w.repeated-is, w.precedences-is, c.place_fine-given.ensures) (rw (surveyed_not st f (sym c.held.ensures ∙ w.if-held.false)) at more);
          }
    ]

pub returns : goal.returns
returns c =
    let l = c.loop-filter in
    let row = c.args.row.now in
    survey_row row c.row_typed.ensures _ (fold_done surveyed l.filter-index row _ _ (omega arith) l.invariant.survey)
