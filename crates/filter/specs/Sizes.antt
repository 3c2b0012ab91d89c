-- How many filters a row can hold, and how many precedences there are.
use Rattle.std.specs.Prelude.{ℕ}

-- "11 rows of 16 places, and a filter with identifier n stands in place n"
abbrev pub place_count : ℕ
place_count = 16

-- "positions 0 to 255": a precedence is an octet
abbrev pub precedence_count : ℕ
precedence_count = 256
