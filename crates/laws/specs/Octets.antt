-- Numbers in octets, the highest octet first, at any width.
use Rattle.std.specs.Prelude.{ℕ, zero, suc, ◌+◌, ◌*◌, ◌/◌, ◌%◌, ◌^◌, List, [], ◌∷◌}

-- the number whose octets so far are n, with the octets xs after them
unfoldable pub be_from : ℕ → List ℕ → ℕ
be_from n [] = n
be_from n (x ∷ xs) = be_from (n * 256 + x) xs

abbrev pub be_of : List ℕ → ℕ
be_of xs = be_from 0 xs

-- the lowest w octets of n
unfoldable pub be_bytes : ℕ → ℕ → List ℕ
be_bytes zero n = []
be_bytes (suc w) n = n / 2 ^ (8 * w) % 256 ∷ be_bytes w n
