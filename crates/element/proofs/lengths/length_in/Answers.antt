-- `element::lengths::length_in` meets its contract: the entry that it reads is one of those that the table's rule is true of.
use mathlib.Core.Path.{◌∙◌}
use Prim.Native.Nat.{◌<◌}
use lib.ListN.{get_or}
use Rattle.laws.proofs.Says.{says_all, says_and, says_eq, says_le}
use Rattle.element.specs.Contents.{length_of}
use borrow.Author.Rules.{rules}
use Rattle.element.proofs.lengths.length_in.Goals as goal

pub returns : goal.returns
returns c =
    let at = get_or c.args.lengths.now in
    let h : c.args.t < 256 = search rules in
    let entry = (says_all 256 (λ i l. says_and (says_eq (at i 0) (length_of i)) (says_le (at i 0) 32))).to c.requires c.args.t h in
    let told = rw c.from.ensures at c.from-2.ensures in
    (told ∙ entry.0, rw told entry.1)
