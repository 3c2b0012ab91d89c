-- The code's test is the definition's: each bearer fine and its uplink filters standing, no precedence marked twice, transactions apart, and no more entries
-- than uplink filters.
use mathlib.Core.Path.{◌≡◌, refl, sym, ◌∙◌, ap}
use mathlib.Core.Bool.{Bool, true, false, not, ◌&&◌}
use Prim.Native.Nat.{ℕ}
use lib.Dec.{leb}
use Rattle.std.specs.Prelude.{None, Some}
use Rattle.laws.specs.Says.{pick}
use Rattle.laws.specs.Index.{all_below, sum_below, count_below}
use Rattle.laws.proofs.Index.{all_both}
use Rattle.table.specs.declared.bearer.Table.{Table}
use Rattle.table.specs.Bearers.{bearer_count}
use Rattle.table.specs.Lists.{held_count}
use Rattle.table.specs.Ranges.{TableInRange}
use Rattle.table.specs.WellFormed.{bearer_fine, distinct_transactions, bearers_fine, lists_right, well_formed}
use Rattle.table.specs.Inner.Walk.{marks_at}
use Rattle.table.specs.Inner.Lists.{names_at, bearer_stands, uplinks_at, bearer_told, uplinks_if_fine}
use Rattle.table.proofs.Keys.{all_told}
use Rattle.table.proofs.Meaning.{bearers_say}
use Rattle.table.proofs.Counting.{counted}

module _ (t : Table) where
  abbrev told : Bool
  told = all_below (bearer_told t) bearer_count

  abbrev few : Bool
  few = leb (count_below (names_at t.lists 0) held_count) (sum_below (uplinks_at t) bearer_count)

  abbrev stand : Bool
  stand = all_below (bearer_stands t.lists t) bearer_count

  told_split : told ≡ all_below (bearer_fine t) bearer_count && stand
  unfolding bearer_told
  told_split = all_both (bearer_fine t) (bearer_stands t.lists t) bearer_count

  regroup : (a s n d f : Bool) → (((a && s) && n) && d) && f ≡ ((a && n) && d) && (s && f)
  regroup true true true true f = refl
  regroup true true true false f = refl
  regroup true true false d f = refl
  regroup true false true true f = refl
  regroup true false true false f = refl
  regroup true false false d f = refl
  regroup false s n d f = refl

  pub all_tested : TableInRange t → ((told && not (marks_at t bearer_count).again) && distinct_transactions t) && few ≡ well_formed t
  unfolding well_formed
  all_tested ok =
      rw told_split
      (regroup (all_below (bearer_fine t) bearer_count) stand (not (marks_at t bearer_count).again) (distinct_transactions t) few
      ∙ ap (λ (b : Bool). b && (stand && few)) (all_told t ok) ∙ go (bearers_fine t) refl)
    where
      go : (b : Bool) → bearers_fine t ≡ b → b && (stand && few) ≡ b && lists_right t
      go true e = counted t ok ((bearers_say t ok).to e)
      go false e = refl

  sound : Bool
  sound = told && not (marks_at t bearer_count).again

  pub some_tested : TableInRange t → {n : ℕ} → Some n ≡ uplinks_if_fine t → distinct_transactions t && leb (count_below (names_at t.lists 0) held_count) n ≡ well_formed t
  unfolding uplinks_if_fine sound
  some_tested ok {n} e = go sound refl e
    where
      go : (b : Bool) → sound ≡ b → Some n ≡ pick b (Some (sum_below (uplinks_at t) bearer_count)) None → distinct_transactions t && leb (count_below (names_at t.lists 0) held_count) n ≡ well_formed t
      go true q h = let m : n ≡ sum_below (uplinks_at t) bearer_count = cc in rw m (ap (λ (b : Bool). (b && distinct_transactions t) && few) (sym q) ∙ all_tested ok)
      go false q h = absurd (let z : ⊥ = cc in z)

  pub none_tested : TableInRange t → None ≡ uplinks_if_fine t → false ≡ well_formed t
  unfolding uplinks_if_fine sound
  none_tested ok e = go sound refl e
    where
      go : (b : Bool) → sound ≡ b → None ≡ pick b (Some (sum_below (uplinks_at t) bearer_count)) None → false ≡ well_formed t
      go true q h = absurd (let z : ⊥ = cc in z)
      go false q h = ap (λ (b : Bool). (b && distinct_transactions t) && few) (sym q) ∙ all_tested ok
