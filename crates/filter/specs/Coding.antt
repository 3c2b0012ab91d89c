-- What a filter is by itself.
use Rattle.std.specs.Prelude.{ℕ, Bool, true, not, ◌&&◌, ◌||◌, eqb, leb, None, Option, Some}
use Rattle.std.specs.List.{list_any}
use Rattle.filter.specs.declared.component.Filter.{Filter}
use Rattle.filter.specs.Component.{largest_label, types_of, present}

-- "Contents hold at least one component": a filter that holds none is not held
unfoldable pub held : Filter → Bool
held f = list_any present (types_of f)

-- "direction at most 3"
abbrev pub largest_direction : ℕ
largest_direction = 3

abbrev pub label_fits : Option ℕ → Bool
label_fits None = true
label_fits (Some label) = leb label largest_label

-- "each filter is well coded (flow label at most 1048575, direction at most 3)"; "Contents hold at least one component"
unfoldable pub well_coded : Filter → Bool
well_coded f = held f && leb f.direction largest_direction && label_fits f.label

-- "unused fields are zero": a place that holds no filter has precedence and direction 0
unfoldable pub empty_place : Filter → Bool
empty_place f = not (held f) && eqb f.precedence 0 && eqb f.direction 0

-- "Uplink filters have direction 0, 2 or 3; 1 is downlink only."
unfoldable pub uplink : Filter → Bool
uplink f = eqb f.direction 0 || eqb f.direction 2 || eqb f.direction 3
