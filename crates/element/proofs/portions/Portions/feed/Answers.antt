-- `element::portions::Portions::feed` meets its contract: the octets are those fed before and the portion, zero after them.
use mathlib.Core.Path.{◌≡◌, refl, sym, ◌∙◌}
use mathlib.Core.Bool.{true}
use native.Mathlib.Omega.{arith}
use lib.ListN.{length}
use Rattle.element.specs.Portions.{takes}
use Rattle.element.proofs.Holdings.{takes_says, feed_taken, laid}
use Rattle.element.proofs.portions.Portions.feed.Goals as goal

pub put-end-requires : goal.put-end-requires
put-end-requires c =
    let p = c.args.self.now in
    let taken : takes p (length c.args.portion.now) ≡ true = sym c.takes.ensures ∙ c.if-not-takes.false in
    let says = (takes_says p (length c.args.portion.now)).to taken in
    let fits = says.1 in
    let long = c.typed.ensures.octets.count in
    let small = c.typed.ensures.announced in
    omega (arith, c.from.ensures)

pub overflow_cast-self : goal.overflow_cast-self
overflow_cast-self c =
    let p = c.args.self.now in
    let taken : takes p (length c.args.portion.now) ≡ true = sym c.takes.ensures ∙ c.if-not-takes.false in
    let says = (takes_says p (length c.args.portion.now)).to taken in
    let fits = says.1 in
    let small = c.typed.ensures.announced in
    omega (arith, c.from.ensures, c.put-end.ensures.after)

pub returns : goal.returns
returns c =
    let p = c.args.self.now in
    let taken : takes p (length c.args.portion.now) ≡ true = sym c.takes.ensures ∙ c.if-not-takes.false in
    let says = (takes_says p (length c.args.portion.now)).to taken in
    rw (feed_taken p c.args.portion.now taken, c.put-end.ensures.after, c.from.ensures)
    (refl, laid p c.typed.ensures says.0 c.args.portion.now c.put-end.new.out (rw c.from.ensures at c.put-end.ensures.stored))
