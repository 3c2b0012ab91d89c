-- The example that comes with the request for a status and what goes beyond it, as a single claim about the written definitions, computed.
-- Assumes nothing.
use mathlib.Core.Path.{◌≡◌, refl}
use mathlib.Core.List.{List, [], ◌∷◌}
use Prim.Native.Nat.{ℕ}
use lib.ListN.{get_or}
use Rattle.std.specs.Prelude.{Ok, Err}
use Rattle.laws.specs.Index.{all_below, tab, pad, joined, walk}
use Rattle.laws.specs.Lists.{repeats}
use Rattle.filter.specs.Build.{empty_filter}
use Rattle.filter.specs.Coding.{held, empty_place}
use Rattle.table.specs.declared.bearer.Role.{Role}
use Rattle.table.specs.declared.bearer.Role.TheVariants.{Idle, Default, Dedicated}
use Rattle.table.specs.declared.bearer.Table.{Table}
use Rattle.table.specs.Tables.{build}
use Rattle.table.specs.WellFormed.{filter_fine, bearer_fine, transactions_apart, transaction_from, distinct_transactions, row_precedences, connection_precedences, distinct_at, distinct_precedences, bearers_fine, well_formed}
use Rattle.table.proofs.Meaning.{built_right}
use Rattle.calls.specs.declared.reply.Answer.TheVariants.{Synchronised}
use Rattle.calls.specs.Reply.{answered}
use Rattle.status.specs.declared.write.StatusUnwritten.TheVariants.{NoRoom}
use Rattle.status.specs.Value.{shown_active, showing}
use Rattle.status.specs.Write.{showing_at, status_of, StatusOutcome, write_status_of}
use Rattle.status.specs.Take.{gone_by, synchronise_of}

-- bearers 5, 6, .. in these roles, with these transactions; the others idle, and no filter held
abbrev with : List Role → List ℕ → Table
with roles transactions = build (record { role = λ i. get_or roles i Idle; transaction = λ i. get_or transactions i 0; filter = λ i j. empty_filter })

-- a default and a dedicated bearer linked to it, and 7, a default too
abbrev three : List Role
three = Default ∷ Dedicated 5 ∷ Default ∷ []

-- 8 and 14, defaults
abbrev outer : List Role
outer = Idle ∷ Idle ∷ Idle ∷ Default ∷ Idle ∷ Idle ∷ Idle ∷ Idle ∷ Idle ∷ Default ∷ []

abbrev written : StatusOutcome → List ℕ → Type 0
written o buffer = o ≡ record { written = Ok tt; buffer = buffer }

abbrev pub Examples : Type 0
Examples =
    -- "Bearers 5 and 6 give `60 00`."
    (status_of (with (Default ∷ Dedicated 5 ∷ []) []) ≡ 0x60 ∷ 0x00 ∷ [])
    -- in the second octet, the lowest bit and the last but one
    × (status_of (with outer []) ≡ 0x00 ∷ 0x41 ∷ [])
    -- a third octet stays, and one octet is too few
    × written (write_status_of (with three []) (0xEE ∷ 0xEE ∷ 0xEE ∷ [])) (0xE0 ∷ 0x00 ∷ 0xEE ∷ [])
    × (write_status_of (with three []) (0xEE ∷ []) ≡ record { written = Err NoRoom; buffer = 0xEE ∷ [] })
    -- "a default takes its connection, transactions included, even where a dedicated one is shown active": 6 goes with 5, and 7 stays with its transaction
    × (synchronise_of (with three (1 ∷ 2 ∷ 3 ∷ [])) (0xC0 ∷ 0x00 ∷ []) ≡ answered (with (Idle ∷ Idle ∷ Default ∷ []) (0 ∷ 0 ∷ 3 ∷ [])) Synchronised)
    -- a dedicated one goes alone; identities 0 to 4 are ignored
    × (synchronise_of (with three []) (0xBF ∷ 0x00 ∷ []) ≡ answered (with (Default ∷ Idle ∷ Default ∷ []) []) Synchronised)
    × (synchronise_of (with outer []) (0x1F ∷ 0x40 ∷ []) ≡ answered (with (Idle ∷ Idle ∷ Idle ∷ Idle ∷ Idle ∷ Idle ∷ Idle ∷ Idle ∷ Idle ∷ Default ∷ []) []) Synchronised)
    -- "Bearers active only at the network change nothing."
    × (synchronise_of (with three []) (0xFF ∷ 0xFF ∷ []) ≡ answered (with three []) Synchronised)

-- the lists of a table that is made from its bearers are right by a law; everything else is computed
pub examples : Examples
unfolding all_below tab pad joined walk repeats held empty_place filter_fine bearer_fine transactions_apart transaction_from distinct_transactions row_precedences connection_precedences distinct_at distinct_precedences bearers_fine well_formed shown_active showing showing_at status_of write_status_of gone_by synchronise_of
examples = (refl, refl, rw (built_right _) refl, rw (built_right _) refl, rw (built_right _) refl, rw (built_right _) refl, rw (built_right _) refl, rw (built_right _) refl)
