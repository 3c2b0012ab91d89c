-- The route of a header by the held list, and what a call for it gives.
use Rattle.std.specs.Prelude.{ℕ, Bool, false, List, [], ◌∷◌, eqb, Result, Ok, Err}
use Rattle.std.specs.List.{list_any}
use Rattle.laws.specs.Says.{pick}
use Rattle.filter.specs.declared.component.Filter.{Filter}
use Rattle.filter.specs.declared.packet.Header.{Header}
use Rattle.filter.specs.Fit.{fits, valid_header}
use Rattle.table.specs.declared.bearer.Table.{Table}
use Rattle.table.specs.Bearers.{index_of, bearer_at, filter_at, is_default, role_of}
use Rattle.table.specs.WellFormed.{well_formed}
use Rattle.table.specs.declared.list.Entry.{Entry}
use Rattle.table.specs.Lists.{is_uplink, held_list}
use Rattle.route.specs.declared.answer.Route.{Route}
use Rattle.route.specs.declared.answer.Route.TheVariants.{Bearer, Discard}
use Rattle.route.specs.declared.answer.Refusal.{Refusal}
use Rattle.route.specs.declared.answer.Refusal.TheVariants.{NotWellFormed, NoDefault, InvalidHeader}

-- "Numbers given"; 0 where nothing is refused
abbrev pub refusal_number : Refusal → ℕ
refusal_number NotWellFormed = 1
refusal_number NoDefault = 8
refusal_number InvalidHeader = 2

abbrev pub number_of : Result Route Refusal → ℕ
number_of (Ok route) = 0
number_of (Err refusal) = refusal_number refusal

-- the filter that an entry names, and whether it names one that fits
unfoldable pub filter_of : Table → Entry → Filter
filter_of t e = filter_at t (index_of e.bearer) e.place

unfoldable pub entry_fits : Table → Header → Entry → Bool
entry_fits t h e = pick (eqb e.bearer 0) false (fits (filter_of t e) h)

-- "positions 0 to 255 are tried upward and left at the first that fits"
unfoldable pub first_fit : Table → Header → Route → List Entry → Route
first_fit t h otherwise [] = otherwise
first_fit t h otherwise (e ∷ es) = pick (entry_fits t h e) (Bearer e.bearer) (first_fit t h otherwise es)

unfoldable pub has_uplink : List Filter → Bool
has_uplink row = list_any is_uplink row

-- "None fits: the default bearer if it has no uplink filter, else discard."
unfoldable pub otherwise_of : Table → ℕ → Route
otherwise_of t default = pick (has_uplink (bearer_at t (index_of default)).row) Discard (Bearer default)

unfoldable pub route_on : Table → ℕ → Header → List Entry → Route
route_on t default h list = first_fit t h (otherwise_of t default) list

-- "Route: 1, 8, 2."
unfoldable pub route_of : Table → ℕ → Header → Result Route Refusal
route_of t default h =
    pick (well_formed t)
    (pick (is_default (role_of t default))
    (pick (valid_header h) (Ok (route_on t default h (held_list t default))) (Err InvalidHeader)) (Err NoDefault)) (Err NotWellFormed)
