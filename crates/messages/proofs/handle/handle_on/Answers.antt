-- `messages::handle::handle_on` meets its contract: the message's refusal, or the call of its fields.
use mathlib.Core.Path.{sym}
use native.Mathlib.Omega.{arith}
use Rattle.messages.proofs.Inside.{parts, tft_inside}
use Rattle.messages.proofs.Handling.{request_reads}
use Rattle.messages.proofs.handle.handle_on.Goals as goal

pub respond-requires : goal.respond-requires
respond-requires c =
    let m = c.args.message.now in
    let request = c.in-Ok.request in
    let read = request_reads m request (sym c.in-Ok.ensures) in
    let bearer = (parts m request read).bearer in
    let first = (c.type_inv.message 0).fits in
    (tft_inside m request read, omega (arith, bearer, first))
