-- `element::framing::frame_filters` meets its contract: by what is left after the filters.
use mathlib.Core.Path.{◌≡◌, ◌∙◌}
use native.Mathlib.Omega.{arith}
use Rattle.std.proofs.Common.{Some}
use Rattle.element.specs.Framing.{split_of}
use Rattle.element.specs.Places.{left_by}
use Rattle.element.proofs.Frames.{left_short, set_left}
use Rattle.element.proofs.framing.frame_filters.Goals as goal

pub close-requires : goal.close-requires
close-requires c =
    let left : left_by (split_of c.args.n c.args.octets.now) ≡ Some c.in_ok-rest.rest.now = rw c.in_ok-rest.ensures.ok_part at c.after_filters.ensures in
    omega (arith, left_short c.args.n c.args.octets.now c.in_ok-rest.rest.now left)

pub returns : goal.returns
returns c =
    let left : left_by (split_of c.args.n c.args.octets.now) ≡ Some c.in_ok-rest.rest.now = rw c.in_ok-rest.ensures.ok_part at c.after_filters.ensures in
    c.close.ensures ∙ set_left c.args.operation c.args.e c.args.n c.args.octets.now (omega arith) c.in_ok-rest.rest.now left
