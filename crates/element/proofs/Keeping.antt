-- Decoding keeps the precedence and the direction of the filter that it starts from.
use mathlib.Core.Path.{◌≡◌, refl, ◌∙◌}
use mathlib.Core.Bool.{Bool, true, false, not, ◌&&◌}
use mathlib.Core.List.{List, [], ◌∷◌}
use Prim.Native.Nat.{ℕ, zero, suc}
use lib.ListN.{take}
use Rattle.std.proofs.Common.{None, Option, Some}
use Rattle.laws.specs.Says.{pick}
use Rattle.filter.specs.declared.component.Filter.{Filter}
use Rattle.filter.specs.Build.{excluded, added}
use Rattle.filter.proofs.Adding.{SameStart, added_start}
use Rattle.element.specs.Contents.{length_of, known, component_of, contents_from, contents_of}

keeps_both : (f g h : Filter) → SameStart f g → SameStart g h → SameStart f h
keeps_both f g h a b = record { precedence = b.precedence ∙ a.precedence; direction = b.direction ∙ a.direction }

-- what was decoded, if it was, keeps those of f
abbrev StartKept : Filter → Option Filter → Type 0
StartKept f None = Unit {0}
StartKept f (Some g) = SameStart f g

kept_both : (f g : Filter) (r : Option Filter) → SameStart f g → StartKept g r → StartKept f r
kept_both f g None a b = tt
kept_both f g (Some h) a b = keeps_both f g h a b

from_keeps : (k : ℕ) (f : Filter) (xs : List ℕ) → StartKept f (contents_from k f xs)
unfolding contents_from
from_keeps zero f [] = record { precedence = refl; direction = refl }
from_keeps (suc k) f [] = tt
from_keeps zero f (t ∷ xs) =
    go (known t && not (excluded f t)) (from_keeps (length_of t) (added f (component_of t (take (length_of t) xs))) xs)
  where
    g : Filter
    g = added f (component_of t (take (length_of t) xs))

    go : (b : Bool) → StartKept g (contents_from (length_of t) g xs) → StartKept f (pick b (contents_from (length_of t) g xs) None)
    go true h = kept_both f g (contents_from (length_of t) g xs) (added_start f (component_of t (take (length_of t) xs))) h
    go false h = tt
from_keeps (suc k) f (x ∷ xs) = from_keeps k f xs

keeps : (f : Filter) (xs : List ℕ) → StartKept f (contents_of f xs)
unfolding contents_of
keeps f [] = tt
keeps f (t ∷ xs) = from_keeps 0 f (t ∷ xs)

pub coded_keeps : (f : Filter) (xs : List ℕ) (g : Filter) → contents_of f xs ≡ Some g → SameStart f g
coded_keeps f xs g e = rw e at (keeps f xs)
