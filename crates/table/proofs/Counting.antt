-- The code's test of the held lists is the definition's, where the bearers are fine: every uplink filter stands at its octet, and no more octets name
-- something than there are uplink filters.
use mathlib.Core.Path.{◌≡◌, refl, sym, ◌∙◌, ap, ap₂, subst}
use mathlib.Core.Bool.{Bool, true, false, ◌&&◌}
use mathlib.Core.List.{List, [], ◌∷◌}
use mathlib.Core.Logic.{◌⊎◌, inl, inr, ⊎_elim}
use Prim.Native.Nat.{ℕ, ◌+◌, ◌*◌, ◌/◌, ◌%◌, ◌<◌, ◌≤◌}
use native.Mathlib.Nat.{zero-add}
use native.Mathlib.Omega.{arith}
use lib.Dec.{eqb, leb}
use lib.ListN.{length, get_or}
use borrow.Author.Tests.{eqb-true}
use Rattle.laws.specs.Says.{pick, Says}
use Rattle.laws.specs.Index.{SomeBelow, all_below, picks, joined, sum_below, count_below}
use Rattle.laws.specs.Lists.{repeats}
use Rattle.laws.proofs.Joined.{Fresh, In, in_none, in_cons, in_joined, joined_in, joined_fresh, out, fresh_cons}
use Rattle.laws.proofs.Counts.{sum_same, joined_long, picks_long, picks_tell, picks_have, picks_fresh, indices, indices_fresh, indices_tell, indices_have, fresh_within}
use Rattle.laws.proofs.Says.{which, never, says_no, says_ne, says_it, says_eq, says_le, says_not, says_and, says_if, says_unless, says_all, says_so, says_same}
use Rattle.filter.specs.Sizes.{place_count, precedence_count}
use Rattle.filter.specs.Coding.{held}
use Rattle.table.specs.declared.bearer.Table.{Table}
use Rattle.table.specs.Bearers.{bearer_count, index_of, identity_of, bearer_at, filter_at, role_at, is_idle, connection_at}
use Rattle.table.specs.Ranges.{TableInRange}
use Rattle.table.specs.Lists.{is_uplink, precedence_at, entry_at, cell_of, encoded, held_count, cell_at}
use Rattle.table.specs.Positions.{Uplink}
use Rattle.table.specs.Tables.{view}
use Rattle.table.specs.WellFormed.{Well, cell_right, lists_right}
use Rattle.table.specs.Inner.Lists.{begins_at, names_at, stands_at, place_stands, up_in, bearer_stands, uplinks_at}
use Rattle.table.proofs.Meaning.{idle_says, unheld}
use Rattle.table.proofs.Listing.{up_held, default_held, held_of, entry_stands, position, entry_at_lem}

module _ (t : Table) where
  -- the octet at which the filter in place j of the bearer at index i belongs
  abbrev key : ℕ → ℕ → ℕ
  key i j = index_of (connection_at t i) * precedence_count + precedence_at t i j

  -- what is held at n
  octet : ℕ → ℕ
  octet n = get_or t.lists n 0

  -- place j of the bearer at index i holds an uplink filter
  abbrev Up : ℕ → ℕ → Type 0
  Up i j = Uplink t (connection_at t i) i j

  up_at_lem : (i j : ℕ) → i < bearer_count → j < place_count → is_uplink (filter_at t i j) ≡ true → Up i j
  up_at_lem i j l m e = record { bearer = l; place = m; of = refl; up = e }

  -- ---- the octets of a bearer's uplink filters, if it is active, and those of all bearers
  keys_at : ℕ → List ℕ
  keys_at i = pick (is_idle (role_at t i)) [] (picks (up_in (bearer_at t i).row) (key i) place_count)

  keys : List ℕ
  keys = joined keys_at bearer_count

  keys_long : length keys ≡ sum_below (uplinks_at t) bearer_count
  unfolding keys keys_at uplinks_at
  keys_long = joined_long keys_at bearer_count ∙ sum_same (λ i. length (keys_at i)) (uplinks_at t) bearer_count (λ i l. go i (is_idle (role_at t i)))
    where
      go : (i : ℕ) (b : Bool) → length (pick b [] (picks (up_in (bearer_at t i).row) (key i) place_count)) ≡ pick b 0 (count_below (up_in (bearer_at t i).row) place_count)
      go i true = refl
      go i false = picks_long (up_in (bearer_at t i).row) (key i) place_count

  -- each is an uplink filter's
  at_tell : (i n : ℕ) → i < bearer_count → In n (keys_at i) → SomeBelow place_count (λ j. Up i j × (key i j ≡ n))
  unfolding keys_at up_in
  at_tell i n l h = go (is_idle (role_at t i)) h
    where
      go : (b : Bool) → In n (pick b [] (picks (up_in (bearer_at t i).row) (key i) place_count)) → SomeBelow place_count (λ j. Up i j × (key i j ≡ n))
      go true h = in_none n h
      go false h =
          let r = picks_tell (up_in (bearer_at t i).row) (key i) place_count n h in
          record { at = r.at; below = r.below; holds = (up_at_lem i r.at l r.below r.holds.0, r.holds.1) }

  -- n is the octet of an uplink filter
  record Keyed (n : ℕ) : Type 0 where
    index : ℕ
    spot : ℕ
    up : Up index spot
    is : key index spot ≡ n

  keys_tell : (n : ℕ) → In n keys → Keyed n
  unfolding keys
  keys_tell n h =
      let b = joined_in keys_at bearer_count n h in
      let p = at_tell b.at n b.below b.holds in
      record { index = b.at; spot = p.at; up = p.holds.0; is = p.holds.1 }

  -- ---- the octets that name something
  names : List ℕ
  names = indices (names_at t.lists 0) held_count

  names_long : length names ≡ count_below (names_at t.lists 0) held_count
  unfolding names
  names_long = picks_long (names_at t.lists 0) (λ n. n) held_count

  names_say : (n : ℕ) → Says (names_at t.lists 0 n) (octet n ≡ 0 → ⊥)
  unfolding names_at octet
  names_say n = rw (zero-add n) (says_not (says_eq (octet n) 0))

  names_tell : (n : ℕ) → In n names → (n < held_count) × (octet n ≡ 0 → ⊥)
  unfolding names
  names_tell n h = let r = indices_tell (names_at t.lists 0) held_count n h in (r.0, (names_say n).to r.1)

  names_have : (n : ℕ) → n < held_count → (octet n ≡ 0 → ⊥) → In n names
  unfolding names
  names_have n l h = indices_have (names_at t.lists 0) held_count n l ((names_say n).from h)

  -- ---- what the tests say
  -- each uplink filter stands at its octet
  abbrev Standing : Type 0
  Standing = (i j : ℕ) → Up i j → octet (key i j) ≡ cell_of (identity_of i) j

  -- no more octets name something than there are uplink filters
  abbrev Few : Type 0
  Few = length names ≤ length keys

  -- each octet is the rule's
  abbrev Right : Type 0
  Right = (n : ℕ) → n < held_count → octet n ≡ cell_at t.bearers n

  few_says : Says (leb (count_below (names_at t.lists 0) held_count) (sum_below (uplinks_at t) bearer_count)) Few
  few_says = rw (← names_long, ← keys_long) (says_le (length names) (length keys))

  right_says : Says (lists_right t) Right
  unfolding lists_right cell_right octet
  right_says = says_all held_count (λ n l. says_eq (octet n) (cell_at t.bearers n))

  module _ (ok : TableInRange t) (w : Well (view t)) where
    -- ---- an uplink filter's octet
    module _ (i j : ℕ) (u : Up i j) where
      -- its bearer is active
      active : is_idle (role_at t i) ≡ false
      active =
          says_no (idle_says (role_at t i))
          (λ e. never (up_held t (connection_at t i) i j u) (ap held (w.empty i j u.bearer u.place e) ∙ unheld))

      -- the octet tells the connection and the precedence, and the lists have it
      key_tells : (identity_of (key i j / precedence_count) ≡ connection_at t i) × (key i j % precedence_count ≡ precedence_at t i j) × (key i j < held_count)
      key_tells =
          let d = default_held t w i j u.bearer u.place (up_held t (connection_at t i) i j u) in
          let low = d.0 in
          let high = d.1 in
          let small = position t ok (connection_at t i) i j u in
          (omega arith, omega arith, omega arith)

      -- the code's way to it
      begins : begins_at (connection_at t i) + precedence_at t i j ≡ key i j
      unfolding begins_at
      begins = rw (held_of t w i j u.bearer u.place (up_held t (connection_at t i) i j u))

      -- it is among those of the table
      keys_have : In (key i j) keys
      unfolding keys keys_at up_in
      keys_have =
          in_joined keys_at bearer_count (key i j) i u.bearer
          (rw active (picks_have (up_in (bearer_at t i).row) (key i) place_count j u.place u.up))

    -- no two uplink filters have the same octet
    keys_apart : (i j k l : ℕ) → Up i j → Up k l → key i j ≡ key k l → (i ≡ k) × (j ≡ l)
    keys_apart i j k l u v e =
        let a = key_tells i j u in
        let b = key_tells k l v in
        w.distinct i k j l u.bearer v.bearer u.place v.place
        (sym a.0 ∙ ap (λ (n : ℕ). identity_of (n / precedence_count)) e ∙ b.0) (up_held t (connection_at t i) i j u) (up_held t (connection_at t k) k l v)
        (sym a.1 ∙ ap (λ (n : ℕ). n % precedence_count) e ∙ b.1)

    at_fresh : (i : ℕ) → i < bearer_count → Fresh (keys_at i)
    unfolding keys_at repeats up_in
    at_fresh i l = go (is_idle (role_at t i))
      where
        go : (b : Bool) → Fresh (pick b [] (picks (up_in (bearer_at t i).row) (key i) place_count))
        go true = refl
        go false = picks_fresh (up_in (bearer_at t i).row) (key i) place_count (λ j k m n a b e. (keys_apart i j i k (up_at_lem i j l m a) (up_at_lem i k l n b) e).1)

    keys_fresh : Fresh keys
    unfolding keys
    keys_fresh =
        joined_fresh keys_at bearer_count at_fresh
        (λ i k l m n a b.
        let x = at_tell i n l a in
        let y = at_tell k n m b in
        (keys_apart i x.at k y.at x.holds.0 y.holds.0 (x.holds.1 ∙ sym y.holds.1)).0)

    -- the test of the bearers
    stands_say : Says (all_below (bearer_stands t.lists t) bearer_count) Standing
    unfolding bearer_stands place_stands stands_at octet
    stands_say =
        says_so
        (says_all bearer_count (λ i l.
        says_unless (idle_says (role_at t i)) (says_all place_count (λ j m.
        says_if (says_it (is_uplink (filter_at t i j))) (says_eq (octet (begins_at (connection_at t i) + precedence_at t i j)) (cell_of (identity_of i) j))))))
        (λ h i j u. ap octet (sym (begins i j u)) ∙ h i u.bearer (says_ne (idle_says (role_at t i)) (active i j u)) j u.place u.up)
        (λ h i l _ j m e. let u = up_at_lem i j l m e in ap octet (begins i j u) ∙ h i j u)

    -- ---- what the rule puts at octet n: the entry of an uplink filter whose octet it is, or nothing
    module _ (n : ℕ) where
      -- it is that of this identity's list ..
      abbrev identity : ℕ
      identity = identity_of (n / precedence_count)

      -- .. at this precedence
      abbrev precedence : ℕ
      precedence = n % precedence_count

      key_here : (i j : ℕ) → Uplink t identity i j → precedence_at t i j ≡ precedence → key i j ≡ n
      key_here i j u p = let o = u.of in omega arith

      up_here : (i j : ℕ) → Up i j → key i j ≡ n → Uplink t identity i j × (precedence_at t i j ≡ precedence)
      up_here i j u e =
          let a = key_tells i j u in (
            record { bearer = u.bearer; place = u.place; of = sym a.0 ∙ ap (λ (n : ℕ). identity_of (n / precedence_count)) e; up = u.up },
            sym a.1 ∙ ap (λ (n : ℕ). n % precedence_count) e,
          )

      -- an uplink filter's octet, and its entry
      abbrev Filled : Type 0
      Filled = (m : Keyed n) × (cell_at t.bearers n ≡ cell_of (identity_of m.index) m.spot)

      -- no uplink filter's, and nothing
      abbrev Free : Type 0
      Free = (Keyed n → ⊥) × (cell_at t.bearers n ≡ 0)

      rule : Filled ⊎ Free
      unfolding cell_at
      rule =
          ⊎_elim
          (λ m. let u = m.uplink in
          let up = up_at_lem m.index m.spot u.bearer u.place u.up in
          inl (record { index = m.index; spot = m.spot; up = up; is = key_here m.index m.spot u m.precedence }, ap encoded m.is))
          (λ v. inr (λ m. let r = up_here m.index m.spot m.up m.is in v.none m.index m.spot r.0 r.1, ap encoded v.is))
          (entry_stands t identity precedence)

    -- ---- the two tests give the definition's
    module _ (stand : Standing) (few : Few) where
      keys_named : (n : ℕ) → In n keys → In n names
      keys_named n h =
          let m = keys_tell n h in
          let l = (key_tells m.index m.spot m.up).2 in
          let e = stand m.index m.spot m.up in
          subst (λ (k : ℕ). In k names) m.is (names_have (key m.index m.spot) l (λ z. omega arith))

      -- were an octet to name something that is no filter's, there would be one name too many
      one_more : (n : ℕ) → n < held_count → (Keyed n → ⊥) → (octet n ≡ 0 → ⊥) → length (n ∷ keys) ≤ length names
      one_more n l none some =
          fresh_within (n ∷ keys) names (fresh_cons n keys (out (λ h. none (keys_tell n h))) keys_fresh)
          (λ x h. ⊎_elim (λ e. subst (λ (k : ℕ). In k names) (sym e) (names_have n l some)) (keys_named x) (in_cons x n keys h))

      vacant : (n : ℕ) → n < held_count → (Keyed n → ⊥) → octet n ≡ 0
      vacant n l none =
          ⊎_elim (eqb-true (octet n) 0) (λ e. let more = one_more n l none (says_ne (says_eq (octet n) 0) e) in absurd (let z : ⊥ = omega arith in z))
          (which (eqb (octet n) 0))

      stand_right : Right
      stand_right n l =
          ⊎_elim (λ f. ap octet (sym f.0.is) ∙ stand f.0.index f.0.spot f.0.up ∙ sym f.1)
          (λ v. vacant n l v.0 ∙ sym v.1) (rule n)

    -- ---- and the definition's gives them
    module _ (right : Right) where
      right_stands : Standing
      unfolding cell_at
      right_stands i j u =
          let a = key_tells i j u in
          right (key i j) a.2 ∙ ap₂ (λ (d p : ℕ). encoded (entry_at t.bearers d p)) a.0 a.1
          ∙ ap encoded (entry_at_lem t ok (connection_at t i) i j u w)

      names_keyed : (n : ℕ) → In n names → In n keys
      names_keyed n h =
          let r = names_tell n h in
          ⊎_elim (λ f. subst (λ (k : ℕ). In k keys) f.0.is (keys_have f.0.index f.0.spot f.0.up))
          (λ v. absurd (r.1 (right n r.0 ∙ v.1))) (rule n)

      right_few : Few
      unfolding names
      right_few = fresh_within names keys (indices_fresh (names_at t.lists 0) held_count) names_keyed

-- the code's test of the lists is the definition's
pub counted : (t : Table) (ok : TableInRange t) → Well (view t)
    → all_below (bearer_stands t.lists t) bearer_count && leb (count_below (names_at t.lists 0) held_count) (sum_below (uplinks_at t) bearer_count) ≡ lists_right t
counted t ok w =
    says_same
    (says_so (says_and (stands_say t ok w) (few_says t)) (λ h. stand_right t ok w h.0 h.1) (λ r. (right_stands t ok w r, right_few t ok w r)))
    (right_says t)
