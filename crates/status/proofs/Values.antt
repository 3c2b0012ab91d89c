-- What a status value shows: after one more identity is shown in it, and after all of a table's bearers are.
use mathlib.Core.Path.{◌≡◌, refl, sym, ◌∙◌, ap}
use mathlib.Core.Bool.{Bool, true, false, not, ◌&&◌, ◌||◌}
use mathlib.Core.List.{List}
use Prim.Native.Nat.{ℕ, zero, suc, ◌%◌, ◌≤◌, ◌<◌}
use native.Mathlib.Omega.{arith}
use lib.Bits.{bit_and, bit_or}
use lib.Dec.{eqb}
use lib.ListN.{length, get_or, replicate, get_or-eq_default, length-set}
use lib.Seq.{set_out}
use borrow.Author.Tests.{eqb-true, eqb-false, ne_eqb}
use Rattle.laws.specs.Says.{pick, Says}
use Rattle.laws.specs.Index.{any_below}
use Rattle.laws.proofs.Index.{set_seen, walk_keeps, walk_long}
use Rattle.laws.proofs.Bits.{off, bit_set}
use Rattle.laws.proofs.Says.{picked, says_eq, says_and, says_not, says_any, says_so, says_same}
use Rattle.laws.proofs.Tests.{or_false}
use Rattle.table.specs.declared.bearer.Table.{Table}
use Rattle.table.specs.Bearers.{bearer_count, index_of, identity_of, role_at, is_idle}
use Rattle.table.proofs.Meaning.{idle_says}
use Rattle.calls.specs.Checks.{Active}
use Rattle.status.specs.Value.{status_octets, octet_of, bit_of, shown_active, showing}
use Rattle.status.specs.Write.{showing_at, status_of}

-- an identity beyond the value's octets is not shown, and cannot be
module _ (value : List ℕ) (identity : ℕ) (past : length value ≤ octet_of identity) where
  pub unseen_past : shown_active value identity ≡ false
  unfolding shown_active
  unseen_past = ap (λ (v : ℕ). not (eqb (bit_and v (bit_of identity)) 0)) (get_or-eq_default value 0 past)

  pub unshown_past : showing value identity ≡ value
  unfolding showing
  unshown_past = set_out value (octet_of identity) _ past

-- where n is shown, it is shown as well, and every other identity as before
pub shown_more : (value : List ℕ) (n m : ℕ) → octet_of n < length value → shown_active (showing value n) m ≡ shown_active value m || eqb n m
unfolding shown_active showing
shown_more value n m l =
    ap is_set (set_seen value (octet_of n) (octet_of m) _ 0 (λ e. omega arith)) ∙ go (eqb (octet_of n) (octet_of m)) refl
  where
    is_set : ℕ → Bool
    is_set v = not (off (m % 8) v)

    -- in one octet identities differ by their bits
    same : octet_of n ≡ octet_of m → eqb (n % 8) (m % 8) ≡ eqb n m
    same o = says_same (says_so (says_eq (n % 8) (m % 8)) (λ e. omega arith) (λ e. ap (λ (k : ℕ). k % 8) e)) (says_eq n m)

    either : (e o : Bool) → not (not e && o) ≡ not o || e
    either true true = refl
    either true false = refl
    either false true = refl
    either false false = refl

    go : (b : Bool) → eqb (octet_of n) (octet_of m) ≡ b
        → is_set (pick b (bit_or (get_or value (octet_of n) 0) (bit_of n)) (get_or value (octet_of m) 0)) ≡ is_set (get_or value (octet_of m) 0) || eqb n m
    go true q =
        let o = eqb-true (octet_of n) (octet_of m) q in
        rw (o, bit_set (n % 8) (m % 8) (get_or value (octet_of m) 0), same o) (either (eqb n m) (off (m % 8) (get_or value (octet_of m) 0)))
    go false q = rw (ne_eqb n m (λ e. eqb-false (octet_of n) (octet_of m) q (ap octet_of e))) (sym (or_false _))

-- showing changes no length
pub showing_long : (t : Table) (value : List ℕ) (i : ℕ) → length (showing_at t value i) ≡ length value
unfolding showing_at showing
showing_long t value i = picked (λ (v : List ℕ). length v ≡ length value) (is_idle (role_at t i)) _ _ refl (length-set value _ _)

module _ (t : Table) where
  -- "two octets"
  pub status_long : length (status_of t) ≡ status_octets
  unfolding status_of
  status_long = walk_long (showing_at t) (showing_long t) (replicate status_octets 0) bearer_count

  module _ (n : ℕ) where
    -- the bearer at i is active and has the identity
    abbrev named : ℕ → Bool
    named i = not (is_idle (role_at t i)) && eqb (identity_of i) n

    none_shown : shown_active (replicate status_octets 0) n ≡ false
    unfolding shown_active
    none_shown = ap (λ (v : ℕ). not (eqb (bit_and v (bit_of n)) 0)) (zero_at (octet_of n))
      where
        zeros : List ℕ
        zeros = replicate status_octets 0

        zero_at : (k : ℕ) → get_or zeros k 0 ≡ 0
        zero_at zero = refl
        zero_at (suc zero) = refl
        zero_at (suc (suc k)) = refl

    -- the bearers passed are shown
    pub record Shows (i : ℕ) (value : List ℕ) : Type 0 where
      pub long : length value ≡ status_octets
      pub shown : shown_active value n ≡ any_below named i

    shows_more : (i : ℕ) (value : List ℕ) → i < bearer_count → Shows i value → Shows (suc i) (showing_at t value i)
    unfolding any_below showing_at
    shows_more i value l h = record { long = showing_long t value i ∙ h.long; shown = go (is_idle (role_at t i)) }
      where
        go : (idle : Bool) → shown_active (pick idle value (showing value (identity_of i))) n ≡ any_below named i || (not idle && eqb (identity_of i) n)
        go true = h.shown ∙ sym (or_false _)
        go false = let e = h.long in shown_more value (identity_of i) n (omega arith) ∙ ap (λ (b : Bool). b || eqb (identity_of i) n) h.shown

    status_any : shown_active (status_of t) n ≡ any_below named bearer_count
    unfolding status_of any_below
    status_any = (walk_keeps (showing_at t) (replicate status_octets 0) Shows bearer_count (record { long = refl; shown = none_shown }) shows_more).shown

    -- what is written shows an identity active exactly where it is an active bearer's
    pub status_shows : Says (shown_active (status_of t) n) (Active t n)
    status_shows =
        rw status_any (says_so (says_any bearer_count (λ i l. says_and (says_not (idle_says (role_at t i))) (says_eq (identity_of i) n)))
        (λ h.
        let e = h.holds.1 in
        let l = h.below in
        let q : h.at ≡ index_of n = omega arith in
        ((omega arith, omega arith), λ r. h.holds.0 (ap (role_at t) q ∙ r)))
        (λ h. record { at = index_of n; below = omega (arith, h.0.0, h.0.1); holds = (h.1, omega (arith, h.0.0)) }))
