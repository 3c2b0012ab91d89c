-- `element::read::read_sets` meets its contract: by how the value is framed.
use mathlib.Core.Bool.{Bool}
use mathlib.Core.List.{List}
use Rattle.std.proofs.Common.{Result, Ok, Err}
use Rattle.std.proofs.lemmas.Result.{err_from_is_err_and}
use Rattle.filter.specs.declared.component.Filter.{Filter}
use Rattle.element.specs.declared.answer.Refusal.{Refusal}
use Rattle.element.specs.declared.answer.Answer.{Answer}
use Rattle.element.specs.declared.answer.Element.{Element}
use Rattle.element.specs.Read.{no_filters}
use Rattle.element.specs.Inner.Walk.{answered}
use Rattle.element.proofs.Judging.{told_unframed, told_filters, told_identifiers, told_bare}
use Rattle.element.proofs.read.read_sets.Goals as goal

-- the answer and the sets of an element
made : Result Answer Refusal → List Filter → List Bool → Element
made r filters marks = record { answer = answered r; filters = filters; marks = marks }

pub returns-in_err-operation : goal.returns-in_err-operation
returns-in_err-operation c =
    let p = err_from_is_err_and c.from_residual.result c.from_residual.ensures.1 in
    rw (p.1, p.2, c.requires.0, c.requires.1) (told_unframed c.args.value.now _ c.in_err-operation.ensures)

pub lay_filters-requires : goal.lay_filters-requires
lay_filters-requires c =
    let told = told_filters c.args.value.now c.in-Filters.operation c.in-Filters.n (rw c.in-Filters.is at c.in_ok-operation.ensures) in
    ((told.fits, told.whole), c.requires.0)

pub returns-in-Ok : goal.returns-in-Ok
returns-in-Ok c =
    let told = told_filters c.args.value.now c.in-Filters.operation c.in-Filters.n (rw c.in-Filters.is at c.in_ok-operation.ensures) in
    rw c.requires.1 (told.read (Ok c.lay_filters.new.row) (rw c.in-Ok.is at c.lay_filters.ensures))

pub returns-in-Err : goal.returns-in-Err
unfolding no_filters
returns-in-Err c =
    let told = told_filters c.args.value.now c.in-Filters.operation c.in-Filters.n (rw c.in-Filters.is at c.in_ok-operation.ensures) in
    rw (c.requires.1, c.bare-filters.ensures) (told.read (Err c.in-Err.refusal) (rw c.in-Err.is at c.lay_filters.ensures))

pub mark_all-requires : goal.mark_all-requires
mark_all-requires c = (told_identifiers c.args.value.now c.in-Identifiers.n (rw c.in-Identifiers.is at c.in_ok-operation.ensures)).few

pub returns-in-Identifiers : goal.returns-in-Identifiers
returns-in-Identifiers c =
    let told = told_identifiers c.args.value.now c.in-Identifiers.n (rw c.in-Identifiers.is at c.in_ok-operation.ensures) in
    rw (c.requires.0, c.mark_all.ensures, c.requires.1) told.read

pub returns-in-Bare : goal.returns-in-Bare
returns-in-Bare c = rw (c.requires.0, c.requires.1) (told_bare c.args.value.now c.in-Bare.operation (rw c.in-Bare.is at c.in_ok-operation.ensures))
