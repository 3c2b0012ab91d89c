use mathlib.Core.Path.{sym, ap, ◌∙◌}
use mathlib.Core.Bool.{Bool, false, ◌||◌}
use mathlib.Core.List.{List}
use native.Mathlib.Omega.{arith}
use lib.Dec.{eqb}
use lib.ListN.{get_or}
use Rattle.laws.proofs.Index.{tab_at}
use Rattle.table.specs.Bearers.{bearer_count}
use Rattle.calls.specs.Lay.{loses_at}
use Rattle.table.proofs.Rows.{turned_put}
use Rattle.calls.proofs.Changing.{laying, spared, all_laid, released_means, laid_means}
use Rattle.calls.proofs.lay.lay.Goals.{then-i-named, else-i-named}
use Rattle.calls.proofs.lay.lay.Goals as goal

pub returns-then-a_default_loses : goal.returns-then-a_default_loses
returns-then-a_default_loses c =
    let t = c.args.table.now in
    let lost = rw (c.new-incoming.ensures.filters, c.new-incoming.ensures.creates, c.connection_at-connection.ensures, c.index_of-named.ensures) at c.losers-losers.ensures in
    rw (c.drop_connection.ensures, c.alone.ensures, c.release-answer.ensures, c.connection_at-connection.ensures, c.index_of-named.ensures)
    (released_means t c.requires c.args.bearer c.args.filters.now c.args.creates _ lost (sym c.a_default_loses.ensures ∙ c.if-a_default_loses.true))

pub loop-i-preserved : goal.loop-i-preserved
loop-i-preserved c =
    let t = c.args.table.now in
    let l = c.loop-i in
    let k = c.index_of-named.result in
    let connection = c.connection_at-connection.result in
    let f = loses_at c.args.filters.now c.args.creates t k connection in
    let lost = ap (λ (xs : List Bool). get_or xs l.i false) (rw (c.new-incoming.ensures.filters, c.new-incoming.ensures.creates) at c.losers-losers.ensures) ∙ tab_at f bearer_count l.i false (omega arith) in
    elim c.if-i-named.branch [
      | then-i-named w ↦ rw w.bearer-items-is (turned_put l.i l.invariant _ (omega arith)
          (rw (w.lay_row.ensures, w.in_connection.ensures, c.new-incoming.ensures.filters, c.new-incoming.ensures.creates) (ap (laying c.args.filters.now c.args.creates k connection l.i) (l.invariant.rest l.i (omega arith)))))
      | else-i-named w ↦ rw w.bearer-items-is (turned_put l.i l.invariant _ (omega arith)
          (l.invariant.rest l.i (omega arith) ∙ spared t c.typed.ensures c.args.filters.now c.args.creates k connection l.i (omega arith) (ap (λ (b : Bool). eqb l.i k || b) (sym lost) ∙ w.if-i-named.false)))
    ]

pub returns : goal.returns
returns c =
    let t = c.args.table.now in
    let l = c.loop-i in
    let lost = rw (c.new-incoming.ensures.filters, c.new-incoming.ensures.creates, c.connection_at-connection.ensures, c.index_of-named.ensures) at c.losers-losers.ensures in
    rw (
      c.relist.ensures,
      c.only.ensures,
      c.followers-follow.ensures,
      all_laid t c.args.filters.now c.args.creates c.index_of-named.result c.connection_at-connection.result l.i (omega arith) l.invariant,
      c.connection_at-connection.ensures,
      c.index_of-named.ensures,
    )
    (laid_means t c.requires c.args.bearer c.args.filters.now c.args.creates _ lost (sym c.a_default_loses.ensures ∙ c.if-a_default_loses.false))
