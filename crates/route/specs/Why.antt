-- Why a packet goes where it goes: the bench's `why`, by the same list as the route.
use Rattle.std.specs.Prelude.{ℕ, ◌+◌, ◌≡◌, List, [], ◌∷◌, Result, Ok, Err}
use Rattle.laws.specs.Says.{pick}
use Rattle.laws.specs.Index.{SomeBelow}
use Rattle.filter.specs.Sizes.{place_count}
use Rattle.filter.specs.declared.packet.Header.{Header}
use Rattle.filter.specs.Fit.{valid_header}
use Rattle.table.specs.declared.bearer.Table.{Table}
use Rattle.table.specs.declared.list.Entry.{Entry}
use Rattle.table.specs.Bearers.{index_of, identity_of, bearer_at, is_default, role_of}
use Rattle.table.specs.Lists.{precedence_at, held_list}
use Rattle.table.specs.WellFormed.{well_formed}
use Rattle.route.specs.declared.answer.Route.{Route}
use Rattle.route.specs.declared.answer.Route.TheVariants.{Bearer, Discard as discard}
use Rattle.route.specs.declared.answer.Refusal.{Refusal}
use Rattle.route.specs.declared.answer.Refusal.TheVariants.{NotWellFormed, NoDefault, InvalidHeader}
use Rattle.route.specs.declared.answer.Why.{Why}
use Rattle.route.specs.declared.answer.Why.TheVariants.{Filter, Default, Discard}
use Rattle.route.specs.Routes.{refusal_number, entry_fits, has_uplink}
use Rattle.route.specs.Rule.{OwnUplink, Least, NoneFits}

-- "Numbers given"; 0 where nothing is refused
abbrev pub why_number : Result Why Refusal → ℕ
why_number (Ok why) = 0
why_number (Err refusal) = refusal_number refusal

-- the route that each reason gives
abbrev pub route_by : Why → Route
route_by (Filter bearer place precedence) = Bearer bearer
route_by (Default default) = Bearer default
route_by Discard = discard

-- "as `route`, and then why"
abbrev pub routed_by : Result Why Refusal → Result Route Refusal
routed_by (Ok why) = Ok (route_by why)
routed_by (Err refusal) = Err refusal

-- "positions 0 to 255 are tried upward and left at the first that fits": its entry, and the position, which is the filter's precedence. The list is tried from
-- position p on
unfoldable pub first_entry : Table → Header → Why → ℕ → List Entry → Why
first_entry t h otherwise p [] = otherwise
first_entry t h otherwise p (e ∷ es) = pick (entry_fits t h e) (Filter e.bearer e.place p) (first_entry t h otherwise (p + 1) es)

-- "None fits: the default bearer if it has no uplink filter, else discard."
unfoldable pub why_none : Table → ℕ → Why
why_none t default = pick (has_uplink (bearer_at t (index_of default)).row) Discard (Default default)

unfoldable pub why_on : Table → ℕ → Header → List Entry → Why
why_on t default h list = first_entry t h (why_none t default) 0 list

-- 1, 8 and 2 as of a route
unfoldable pub why_of : Table → ℕ → Header → Result Why Refusal
why_of t default h =
    pick (well_formed t)
    (pick (is_default (role_of t default))
    (pick (valid_header h) (Ok (why_on t default h (held_list t default))) (Err InvalidHeader)) (Err NoDefault)) (Err NotWellFormed)

-- ---- what each reason says by the rule, over all filters of the connection in no order
pub record ByFilter (t : Table) (default : ℕ) (h : Header) (bearer place precedence : ℕ) : Type 0 where
  pub index : ℕ
  -- an uplink filter of the connection that fits, and no fitting one has a lesser precedence
  pub least : Least t default h index place
  pub bearer_is : bearer ≡ identity_of index
  pub precedence_is : precedence_at t index place ≡ precedence

abbrev pub WhySays : Table → ℕ → Header → Result Why Refusal → Type 0
WhySays t default h (Ok (Filter bearer place precedence)) = ByFilter t default h bearer place precedence
WhySays t default h (Ok (Default bearer)) = NoneFits t default h × (((j : ℕ) → OwnUplink t default j → ⊥) × (bearer ≡ default))
WhySays t default h (Ok Discard) = NoneFits t default h × SomeBelow place_count (λ j. OwnUplink t default j)
WhySays t default h (Err refusal) = ⊥
