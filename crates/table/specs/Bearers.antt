-- "Bearers have identities 5 to 15. Each is idle, default, or dedicated and linked to an active default."
use Rattle.std.specs.Prelude.{ℕ, ◌+◌, ◌-◌, Bool, true, false, ◌&&◌, List, [], eqb, leb, get_or}
use Rattle.laws.specs.Says.{pick}
use Rattle.filter.specs.declared.component.Filter.{Filter}
use Rattle.filter.specs.Build.{empty_filter}
use Rattle.table.specs.declared.bearer.Role.{Role}
use Rattle.table.specs.declared.bearer.Role.TheVariants.{Idle, Default, Dedicated}
use Rattle.table.specs.declared.bearer.Bearer.{Bearer}
use Rattle.table.specs.declared.bearer.Table.{Table}

abbrev pub first_identity : ℕ
first_identity = 5

abbrev pub last_identity : ℕ
last_identity = 15

abbrev pub bearer_count : ℕ
bearer_count = 11

-- "identity 1 to 254"
abbrev pub last_transaction : ℕ
last_transaction = 254

abbrev pub is_identity : ℕ → Bool
is_identity identity = leb first_identity identity && leb identity last_identity

abbrev pub index_of : ℕ → ℕ
index_of identity = identity - first_identity

abbrev pub identity_of : ℕ → ℕ
identity_of i = i + first_identity

-- ---- what stands where: the bearer at an index, and what it holds in a place
abbrev pub no_bearer : Bearer
no_bearer = record { role = Idle; transaction = 0; row = [] }

abbrev pub bearer_from : List Bearer → ℕ → Bearer
bearer_from bs i = get_or bs i no_bearer

abbrev pub bearer_at : Table → ℕ → Bearer
bearer_at t i = bearer_from t.bearers i

abbrev pub in_row : List Filter → ℕ → Filter
in_row row j = get_or row j empty_filter

abbrev pub role_at : Table → ℕ → Role
role_at t i = (bearer_at t i).role

abbrev pub transaction_at : Table → ℕ → ℕ
transaction_at t i = (bearer_at t i).transaction

abbrev pub filter_from : List Bearer → ℕ → ℕ → Filter
filter_from bs i j = in_row (bearer_from bs i).row j

abbrev pub filter_at : Table → ℕ → ℕ → Filter
filter_at t i j = filter_from t.bearers i j

-- ---- roles and connections
abbrev pub is_idle : Role → Bool
is_idle Idle = true
is_idle Default = false
is_idle (Dedicated link) = false

abbrev pub is_default : Role → Bool
is_default Idle = false
is_default Default = true
is_default (Dedicated link) = false

abbrev pub is_dedicated : Role → Bool
is_dedicated Idle = false
is_dedicated Default = false
is_dedicated (Dedicated link) = true

-- of an identity out of range: idle
abbrev pub role_of : Table → ℕ → Role
role_of t identity = pick (is_identity identity) (role_at t (index_of identity)) Idle

-- "A default and its dedicated bearers are one PDN connection": the default's identity; 0 of an idle bearer
abbrev pub connection_of : ℕ → Role → ℕ
connection_of i Idle = 0
connection_of i Default = identity_of i
connection_of i (Dedicated link) = link

-- the bearer at index i is of the connection
abbrev pub in_connection : ℕ → ℕ → Role → Bool
in_connection connection i role = eqb (connection_of i role) connection

abbrev pub connection_from : List Bearer → ℕ → ℕ
connection_from bs i = connection_of i (bearer_from bs i).role

abbrev pub connection_at : Table → ℕ → ℕ
connection_at t i = connection_from t.bearers i
