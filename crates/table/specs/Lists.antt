-- "The quick form is one list for each connection: at each precedence its uplink filter of that precedence with the bearer, or nothing"
use Rattle.std.specs.Prelude.{ℕ, ◌+◌, ◌*◌, ◌/◌, ◌%◌, Bool, ◌&&◌, List, eqb, get_or}
use Rattle.laws.specs.Says.{pick}
use Rattle.laws.specs.Index.{any_below, last_below, tab}
use Rattle.filter.specs.declared.component.Filter.{Filter}
use Rattle.filter.specs.Sizes.{place_count, precedence_count}
use Rattle.filter.specs.Coding.{held, uplink}
use Rattle.table.specs.declared.bearer.Bearer.{Bearer}
use Rattle.table.specs.declared.bearer.Table.{Table}
use Rattle.table.specs.declared.list.Entry.{Entry}
use Rattle.table.specs.Bearers.{bearer_count, is_identity, index_of, identity_of, filter_from, filter_at, connection_from}

-- a place that holds a filter, and one for the uplink
abbrev pub is_uplink : Filter → Bool
is_uplink f = held f && uplink f

abbrev pub precedence_at : Table → ℕ → ℕ → ℕ
precedence_at t i j = (filter_at t i j).precedence

abbrev pub entry_of : ℕ → ℕ → Entry
entry_of bearer place = record { bearer = bearer; place = place }

-- no bearer has identity 0
abbrev pub nothing : Entry
nothing = entry_of 0 0

-- ---- the list that the rule gives for the bearers
-- place j of the bearer at index i holds an uplink filter of precedence p
unfoldable pub place_has : List Bearer → ℕ → ℕ → ℕ → Bool
place_has bs p i j = is_uplink (filter_from bs i j) && eqb (filter_from bs i j).precedence p

-- the bearer at index i is of the default's connection, and some place of its row holds one
unfoldable pub bearer_has : List Bearer → ℕ → ℕ → ℕ → Bool
bearer_has bs default p i = eqb (connection_from bs i) default && any_below (place_has bs p i) place_count

-- that filter of the bearer at index i; of several in its row, the one with the highest identifier
unfoldable pub entry_in : List Bearer → ℕ → ℕ → Entry
entry_in bs p i = last_below (place_has bs p i) (entry_of (identity_of i)) nothing place_count

-- "at each precedence its uplink filter of that precedence with the bearer, or nothing". A table that is not well formed may have several in a
-- connection: then that of the highest bearer
unfoldable pub entry_at : List Bearer → ℕ → ℕ → Entry
entry_at bs default p = last_below (bearer_has bs default p) (entry_in bs p) nothing bearer_count

-- ---- "Hold each connection's list with the table, as bearer and identifier."
-- an entry as an octet: the bearer's identity in the upper half, the identifier in the lower; 0 names nothing
abbrev pub cell_of : ℕ → ℕ → ℕ
cell_of bearer place = bearer * place_count + place

abbrev pub encoded : Entry → ℕ
encoded e = cell_of e.bearer e.place

unfoldable pub decoded : ℕ → Entry
decoded cell = entry_of (cell / place_count) (cell % place_count)

-- the lists of all identities one after the other, each of 256 positions: position p of the list of the identity at index i is octet i * 256 + p
abbrev pub held_count : ℕ
held_count = bearer_count * precedence_count

unfoldable pub cell_at : List Bearer → ℕ → ℕ
cell_at bs n = encoded (entry_at bs (identity_of (n / precedence_count)) (n % precedence_count))

-- the lists that the rule gives for the bearers
unfoldable pub lists_of : List Bearer → List ℕ
lists_of bs = tab (cell_at bs) held_count

-- ---- what a table holds
-- the entry at position p of the list of an identity; nothing where the identity is out of range
abbrev pub held_at : Table → ℕ → ℕ → Entry
held_at t identity p = pick (is_identity identity) (decoded (get_or t.lists (index_of identity * precedence_count + p) 0)) nothing

unfoldable pub held_list : Table → ℕ → List Entry
held_list t identity = tab (held_at t identity) precedence_count
