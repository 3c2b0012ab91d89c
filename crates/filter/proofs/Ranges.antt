-- What is in range by itself.
-- Assumes nothing.
use native.Mathlib.Omega.{arith}
use Rattle.filter.specs.Build.{empty_filter}
use Rattle.filter.specs.Ranges.{FilterInRange}

pub nothing_in_range : FilterInRange empty_filter
nothing_in_range =
    record { precedence = omega arith; direction = omega arith; address = tt; protocol = tt; local = tt; remote = tt; index = tt; class = tt; label = tt }
