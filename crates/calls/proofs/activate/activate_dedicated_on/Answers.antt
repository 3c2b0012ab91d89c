use Rattle.calls.proofs.Changing.{well, closed_well}
use Rattle.std.proofs.Common.{rules}
use Rattle.calls.proofs.activate.activate_dedicated_on.Goals as goal

pub activate_named-requires : goal.activate_named-requires
activate_named-requires c =
    let t = c.args.table.now in
    rw c.close.ensures (closed_well t c.args.transaction c.typed.ensures (well t c.typed.ensures (search rules)))
