-- `element::read::frame_within` meets its contract: the place is within the value, whose length is an octet.
use native.Mathlib.Omega.{arith}
use Rattle.element.specs.Framing.{framed_of}
use Rattle.element.specs.Places.{unframed_place}
use Rattle.element.proofs.Frames.{framed_says}
use Rattle.element.proofs.Unframed.{unframed_within_lem}
use Rattle.element.proofs.read.frame_within.Goals as goal

pub overflow_cast-result : goal.overflow_cast-result
overflow_cast-result c =
    let s = c.args.value.now in
    let says = framed_says (framed_of s) (unframed_place s) _ c.in-Err.ensures in
    omega (arith, says.1, unframed_within_lem s)
