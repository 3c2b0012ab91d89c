-- Numbers compared under a mask and with a range.
use Rattle.std.specs.Prelude.{ℕ, zero, suc, ◌/◌, ◌%◌, Bool, true, ◌&&◌, ◌||◌, eqb, leb}

-- x and y are equal under the mask: of the w lowest bits, those where the mask has a 1 are the same in both
unfoldable pub same_under : ℕ → ℕ → ℕ → ℕ → Bool
same_under zero mask x y = true
same_under (suc w) mask x y = (eqb (mask % 2) 0 || eqb (x % 2) (y % 2)) && same_under w (mask / 2) (x / 2) (y / 2)

-- x lies in the range, both ends included
abbrev pub within : ℕ → ℕ → ℕ → Bool
within low high x = leb low x && leb x high
