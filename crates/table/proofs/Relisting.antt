-- Lists that stay right where bearers change: those of connections whose uplink filters are as they were.
use mathlib.Core.Path.{◌≡◌, refl, sym, ◌∙◌, ap}
use mathlib.Core.Bool.{Bool, true, false}
use mathlib.Core.Logic.{inl, inr}
use mathlib.Core.List.{List}
use Prim.Native.Nat.{ℕ, ◌/◌, ◌%◌, ◌<◌}
use native.Mathlib.Omega.{arith}
use lib.ListN.{get_or, replicate, get_or-replicate}
use Rattle.laws.specs.Says.{pick}
use Rattle.laws.proofs.Index.{tab_at, tab_same}
use Rattle.filter.specs.Sizes.{precedence_count}
use Rattle.table.specs.declared.bearer.Table.{Table}
use Rattle.table.specs.declared.list.Entry.{Entry}
use Rattle.table.specs.Bearers.{bearer_count, identity_of}
use Rattle.table.specs.Lists.{precedence_at, entry_at, encoded, held_count, cell_at, lists_of}
use Rattle.table.specs.Positions.{Uplink, Stands, Highest}
use Rattle.table.specs.Tables.{table_of, relisted_at, relisted_of}
use Rattle.table.specs.WellFormed.{RightLists}
use Rattle.table.proofs.Listing.{entry_stands, entry_highest, stands_one}

-- the connection's uplink filters stand in the same places of both tables, with the same precedences
pub record Alike (t s : Table) (connection : ℕ) : Type 0 where
  pub to : (i j : ℕ) → Uplink t connection i j → Uplink s connection i j
  pub from : (i j : ℕ) → Uplink s connection i j → Uplink t connection i j
  pub same : (i j : ℕ) → Uplink t connection i j → precedence_at s i j ≡ precedence_at t i j

module _ (t s : Table) (connection : ℕ) (a : Alike t s connection) (p : ℕ) (e : Entry) where
  back : (i j : ℕ) → Uplink s connection i j → precedence_at s i j ≡ p → precedence_at t i j ≡ p
  back i j u q = sym (a.same i j (a.from i j u)) ∙ q

  stands_alike : Stands t connection p e → Stands s connection p e
  stands_alike (inl n) =
      inl (record {
        index = n.index;
        spot = n.spot;
        uplink = a.to n.index n.spot n.uplink;
        precedence = a.same n.index n.spot n.uplink ∙ n.precedence;
        is = n.is;
      })
  stands_alike (inr v) = inr (record { none = λ i j u q. v.none i j (a.from i j u) (back i j u q); is = v.is })

  highest_alike : Highest t connection p e → Highest s connection p e
  highest_alike h i j u q = h i j (a.from i j u) (back i j u q)

pub entry_alike : (t s : Table) (connection : ℕ) → Alike t s connection → (p : ℕ) → entry_at t.bearers connection p ≡ entry_at s.bearers connection p
entry_alike t s connection a p =
    stands_one s connection p (entry_at t.bearers connection p) (entry_at s.bearers connection p)
    (stands_alike t s connection a p _ (entry_stands t connection p)) (highest_alike t s connection a p _ (entry_highest t connection p))
    (entry_stands s connection p) (entry_highest s connection p)

module _ (t s : Table) (right : RightLists t) (held : s.lists ≡ t.lists) where
  cell_kept : (n : ℕ) → n < held_count → Alike t s (identity_of (n / precedence_count)) → get_or s.lists n 0 ≡ cell_at s.bearers n
  unfolding lists_of cell_at
  cell_kept n l a =
      ap (λ (cells : List ℕ). get_or cells n 0) (held ∙ right) ∙ tab_at (cell_at t.bearers) held_count n 0 l
      ∙ ap encoded (entry_alike t s (identity_of (n / precedence_count)) a (n % precedence_count))

  -- where the filters of every other connection are as they were, relisting those touched makes every list right
  pub relisted_right : (touched : List Bool) → ((d : ℕ) → d < bearer_count → get_or touched d false ≡ false → Alike t s (identity_of d)) → relisted_of s touched ≡ table_of s.bearers
  unfolding relisted_of lists_of relisted_at
  relisted_right touched alike =
      ap (λ (cells : List ℕ). record { bearers = s.bearers; lists = cells }) (tab_same 0 (relisted_at s touched) (cell_at s.bearers) held_count (λ n l. go n l (get_or touched (n / precedence_count) false) refl))
    where
      go : (n : ℕ) → n < held_count → (b : Bool) → get_or touched (n / precedence_count) false ≡ b → pick b (cell_at s.bearers n) (get_or s.lists n 0) ≡ cell_at s.bearers n
      go n l true e = refl
      go n l false e = cell_kept n l (alike (n / precedence_count) (omega arith) e)

  -- where no connection's are changed, nothing is to be done
  pub kept_right : ((d : ℕ) → d < bearer_count → Alike t s (identity_of d)) → RightLists s
  unfolding lists_of cell_at
  kept_right alike = held ∙ right ∙ tab_same 0 (cell_at t.bearers) (cell_at s.bearers) held_count (λ n l. cells n (alike (n / precedence_count) (omega arith)))
    where
      cells : (n : ℕ) → Alike t s (identity_of (n / precedence_count)) → cell_at t.bearers n ≡ cell_at s.bearers n
      cells n a = ap encoded (entry_alike t s (identity_of (n / precedence_count)) a (n % precedence_count))

-- relisting all makes every list right, whatever was held
pub all_relisted : (t : Table) → relisted_of t (replicate bearer_count true) ≡ table_of t.bearers
unfolding relisted_of lists_of relisted_at
all_relisted t =
    ap (λ (cells : List ℕ). record { bearers = t.bearers; lists = cells })
    (tab_same 0 (relisted_at t (replicate bearer_count true)) (cell_at t.bearers) held_count (λ n l. rw (get_or-replicate bearer_count (n / precedence_count) true false (omega arith))))
