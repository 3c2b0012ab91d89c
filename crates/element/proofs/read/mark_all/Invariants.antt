use mathlib.Core.Path.{◌≡◌}
use lib.ListN.{length, take, drop}
use Rattle.filter.specs.Sizes.{place_count}
use Rattle.element.specs.Read.{marked}
use Rattle.element.proofs.read.mark_all.Given as goal

abbrev pub invariant-loop-octet : goal.invariant-loop-octet
invariant-loop-octet l =
    (length l.marks ≡ place_count) × (marked (drop l.octet-index l.octet-items) l.marks ≡ marked (take l.n (drop 1 l.value)) l.initial.marks)
