-- `status::take::drop_unshown` meets its contract: the bearers before the index are those of the view, idle where they are gone and left as they stand elsewhere,
use mathlib.Core.Path.{◌≡◌, ◌∙◌, ap}
use Rattle.table.specs.declared.bearer.Bearer.{Bearer}
use Rattle.table.specs.Bearers.{identity_of, role_at, connection_of}
use Rattle.table.proofs.Rows.{store_still, store_done}
use Rattle.status.specs.Take.{stays_by}
use Rattle.status.specs.Inner.Take.{mark_of}
use Rattle.status.proofs.Taking.{gone_there, kept_there, stays_still, touch_more, touch_skip, touch_done, touched_relisted}
use Rattle.status.proofs.take.drop_unshown.Goals as goal
use Rattle.status.proofs.take.drop_unshown.Goals.{else-not-stays_by, then-not-stays_by}

pub loop-i-preserved : goal.loop-i-preserved
loop-i-preserved c =
    let l = c.loop-i in
    let t = c.args.table.now in
    let value = c.args.value.now in
    let stays = c.stays_by.result in
    let is : stays ≡ stays_by value (identity_of l.i) (role_at l.table l.i) = c.stays_by.ensures ∙ ap (stays_by value (identity_of l.i)) c.role_at.ensures in
    let below = c.loop-i-test.true in
    elim c.if-not-stays_by.branch [
      | then-not-stays_by w ↦ rw (w.table-is, w.touched-is) (
        gone_there value t l.i below l.table stays is l.invariant.0 w.if-not-stays_by.true _ w.idle_bearer.ensures,
        touch_more value t l.touched l.i l.invariant.1 _ (w.mark_of.ensures ∙ ap mark_of (w.connection_at.ensures ∙ ap (λ (b : Bearer). connection_of l.i b.role) (store_still _ t l.table l.i l.invariant.0))),
      )
      | else-not-stays_by w ↦ rw (w.table-is, w.touched-is) (
        kept_there value t l.i below l.table stays is l.invariant.0 w.if-not-stays_by.false c.typed.ensures,
        touch_skip value t l.touched l.i l.invariant.1 (stays_still value t l.i below l.table stays is l.invariant.0 w.if-not-stays_by.false),
      )
    ]

pub returns : goal.returns
returns c =
    let l = c.loop-i in
    let ok = c.typed.ensures in
    c.relist.ensures
    ∙ touched_relisted c.args.value.now c.args.table.now ok c.requires l.touched (touch_done l.i l.invariant.1 c.loop-i-test.false) l.table (store_done _ _ l.table l.i ok c.loop-i-test.false l.invariant.0)
