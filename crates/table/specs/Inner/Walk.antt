-- How the code walks: what its inner functions give. Nothing here is claimed of a table; the proofs tie it to WellFormed.
use Rattle.std.specs.Prelude.{ℕ, ◌^◌, Bool, false, not, ◌||◌, List, [], ◌∷◌, eqb, get_or, set, replicate}
use Rattle.std.specs.Int.Bits.{bit_and, bit_or}
use Rattle.laws.specs.Says.{pick}
use Rattle.laws.specs.Index.{walk}
use Rattle.laws.specs.Lists.{fold}
use Rattle.filter.specs.declared.component.Filter.{Filter}
use Rattle.filter.specs.Coding.{held}
use Rattle.filter.specs.Sizes.{precedence_count}
use Rattle.table.specs.declared.bearer.Table.{Table}
use Rattle.table.specs.Bearers.{is_identity, index_of, bearer_at, role_at, is_idle, connection_at}
use Rattle.table.specs.WellFormed.{row_precedences}

-- ---- precedences, marked as they come: a mark for each, and in it a bit for each default
-- the bit of a connection; none where no default can have that identity
unfoldable pub bit_of : ℕ → ℕ
bit_of connection = pick (is_identity connection) (2 ^ index_of connection) 0

unfoldable pub has_bit : ℕ → List ℕ → ℕ → Bool
has_bit bit seen x = not (eqb (bit_and (get_or seen x 0) bit) 0)

unfoldable pub with_bit : ℕ → List ℕ → ℕ → List ℕ
with_bit bit seen x = set seen x (bit_or (get_or seen x 0) bit)

-- the marks, and whether a precedence had its bit already when it came
pub record Marks : Type 0 where
  pub seen : List ℕ
  pub again : Bool

unfoldable pub none_marked : Marks
none_marked = record { seen = replicate precedence_count 0; again = false }

unfoldable pub marked : ℕ → Marks → ℕ → Marks
marked bit marks x = record { seen = with_bit bit marks.seen x; again = marks.again || has_bit bit marks.seen x }

-- these marked upon what is seen; `again` speaks of these alone
abbrev pub marked_with : ℕ → List ℕ → List ℕ → Marks
marked_with bit seen xs = fold (marked bit) (record { seen = seen; again = false }) xs

-- the precedence of a filter, if it is held: of the one in place j, `precedence_in row j`
abbrev pub precedence_of : Filter → List ℕ
precedence_of f = pick (held f) (f.precedence ∷ []) []

-- those of a bearer that is active, marked with its connection's bit, and those of all bearers below n
abbrev pub active_precedences : Table → ℕ → List ℕ
active_precedences t k = pick (is_idle (role_at t k)) [] (row_precedences (bearer_at t k).row)

unfoldable pub bearer_marked : Table → Marks → ℕ → Marks
bearer_marked t marks k = fold (marked (bit_of (connection_at t k))) marks (active_precedences t k)

abbrev pub marks_at : Table → ℕ → Marks
marks_at t n = walk (bearer_marked t) none_marked n
