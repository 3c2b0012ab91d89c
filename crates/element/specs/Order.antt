-- "The writer puts filters in rising identifier and components in rising type."
use Rattle.std.specs.Prelude.{ℕ, zero, suc, ◌<◌, List, [], ◌∷◌, map}
use Rattle.laws.specs.Lists.{All}
use Rattle.element.specs.Contents.{length_of}
use Rattle.element.specs.Framing.{identifier_in, identifier_of, Framed, not_framed, filters, identifiers, bare}

-- each number is less than the next
abbrev pub Rising : List ℕ → Type 0
Rising [] = Unit {0}
Rising (x ∷ []) = Unit {0}
Rising (x ∷ y ∷ xs) = (x < y) × Rising (y ∷ xs)

-- the types of a filter's components, in the order of its octets: k octets of the last one's value are still to pass
unfoldable pub types_from : ℕ → List ℕ → List ℕ
types_from k [] = []
types_from zero (t ∷ xs) = t ∷ types_from (length_of t) xs
types_from (suc k) (x ∷ xs) = types_from k xs

-- a framed value is in that order; one that is not framed is in none
abbrev pub InOrder : Framed → Type 0
InOrder not_framed = ⊥
InOrder (filters operation rs) = Rising (map identifier_of rs) × All (λ r. Rising (types_from 0 r.contents)) rs
InOrder (identifiers xs) = Rising (map identifier_in xs)
InOrder (bare kind) = Unit {0}
