-- `element::write::put_row` meets its contract. The loop's invariant: the places that are left, stored into `out` as it is now, are all of them stored into it as it was.
use native.Mathlib.Omega.{arith}
use lib.ListN.{get_or}
use Rattle.laws.proofs.Loops.{every_at}
use Rattle.filter.specs.Fittable.{place_fine}
use Rattle.filter.specs.Build.{empty_filter}
use Rattle.element.proofs.Rows.{octets_by_places, given_direction}
use Rattle.element.proofs.Writing.{puts_next, puts_done}
use Rattle.element.proofs.write.put_row.Goals as goal

pub put_place-end-requires : goal.put_place-end-requires
put_place-end-requires c =
    let l = c.loop-identifier in
    let long = l.invariant.1.long in (
      omega (arith, c.requires.0),
      omega arith,
      given_direction (get_or c.args.row.now l.identifier empty_filter) (every_at place_fine c.args.row.now c.requires.1 empty_filter l.identifier (omega arith)),
    )

pub loop-identifier-preserved : goal.loop-identifier-preserved
loop-identifier-preserved c =
    let l = c.loop-identifier in
    let few = c.put_place-end.ensures.few in
    (omega arith, puts_next octets_by_places empty_filter l.invariant.1 (omega arith) c.put_place-end.ensures.put)

pub returns-clause-put : goal.returns-clause-put
returns-clause-put c = puts_done octets_by_places empty_filter c.loop-identifier.invariant.1 (omega arith)
