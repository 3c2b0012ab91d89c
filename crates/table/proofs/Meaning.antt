-- The test of a well-formed table says that it is well formed.
use mathlib.Core.Path.{◌≡◌, refl, sym, ◌∙◌, ap, subst}
use mathlib.Core.Bool.{Bool, true, false, ◌&&◌, false≢true}
use mathlib.Core.Logic.{◌⊎◌, inl, inr, ⊎_elim}
use mathlib.Core.List.{List}
use Prim.Native.Nat.{ℕ, ◌<◌, ◌≤◌}
use lib.ListN.{get_or}
use native.Mathlib.Omega.{arith}
use Rattle.laws.specs.Says.{pick, Says}
use Rattle.laws.specs.Index.{SomeBelow, all_below}
use Rattle.laws.proofs.Typed.{each_at}
use Rattle.laws.proofs.Index.{tab_at, tab_is}
use Rattle.laws.proofs.Tests.{both, either, or_true}
use Rattle.laws.proofs.Says.{says_true, says_eq, says_le, says_and, says_if, says_unless, says_all, says_so, says_no, which, never}
use Rattle.filter.specs.declared.component.Filter.{Filter}
use Rattle.filter.specs.Ranges.{FilterInRange}
use Rattle.filter.specs.Coding.{held, well_coded, empty_place}
use Rattle.filter.specs.Fittable.{fittable, place_fine, SomePacketFits}
use Rattle.filter.proofs.Empty.{empty_says}
use Rattle.filter.proofs.Theorems.{fittable_says}
use Rattle.table.specs.declared.bearer.Role.{Role}
use Rattle.table.specs.declared.bearer.Role.TheVariants.{Idle, Default, Dedicated}
use Rattle.table.specs.declared.bearer.Bearer.{Bearer}
use Rattle.table.specs.declared.bearer.Table.{Table}
use Rattle.filter.specs.Sizes.{place_count}
use Rattle.filter.specs.Build.{empty_filter}
use Rattle.table.specs.Bearers.{first_identity, last_identity, bearer_count, last_transaction, is_identity, index_of, identity_of, no_bearer, role_at, transaction_at, filter_at, connection_of, connection_at, is_idle, is_default, is_dedicated, role_of}
use Rattle.table.specs.Ranges.{TableInRange}
use Rattle.table.specs.WellFormed.{link_fine, filter_fine, bearer_fine, transactions_apart, transaction_from, distinct_transactions, distinct_at, distinct_precedences, bearers_fine, cell_right, lists_right, well_formed, Held, ActiveDefault, Well, RightLists, WellFormed}
use Rattle.table.specs.Lists.{held_count, cell_at, lists_of}
use Rattle.table.specs.Tables.{table_of, view}
use Rattle.table.proofs.Within.{Within, within_says}

-- no two roles are one
unlike : {A : Type 0} → ◌≡◌ {A = ℕ} 0 1 → A
unlike e = absurd (let z : ⊥ = omega arith in z)

pub idle_says : (r : Role) → Says (is_idle r) (r ≡ Idle)
idle_says Idle = says_true refl
idle_says Default = record { to = λ e. absurd (false≢true e); from = λ e. unlike (cc) }
idle_says (Dedicated link) = record { to = λ e. absurd (false≢true e); from = λ e. unlike (cc) }

pub default_says : (r : Role) → Says (is_default r) (r ≡ Default)
default_says Idle = record { to = λ e. absurd (false≢true e); from = λ e. unlike (cc) }
default_says Default = says_true refl
default_says (Dedicated link) = record { to = λ e. absurd (false≢true e); from = λ e. unlike (cc) }

pub dedicated_says : (r : Role) → Says (is_dedicated r) ((link : ℕ) × (r ≡ Dedicated link))
dedicated_says Idle = record { to = λ e. absurd (false≢true e); from = λ e. let h = e.1 in unlike (cc) }
dedicated_says Default = record { to = λ e. absurd (false≢true e); from = λ e. let h = e.1 in unlike (cc) }
dedicated_says (Dedicated link) = says_true (link, refl)

pub range_says : (identity : ℕ) → Says (is_identity identity) ((first_identity ≤ identity) × (identity ≤ last_identity))
range_says identity = says_and (says_le first_identity identity) (says_le identity last_identity)

-- ---- a place
-- what a place may hold: nothing at all, or a filter that is well coded and that some packet fits
pub record Fine (f : Filter) : Type 0 where
  pub zeroed : (Held f → ⊥) → f ≡ empty_filter
  pub coded : Held f → well_coded f ≡ true
  pub fitted : Held f → SomePacketFits f

held_coded : (f : Filter) → well_coded f ≡ true → held f ≡ true
unfolding well_coded
held_coded f e = (both (held f) _ (both _ _ e).0).0

pub unheld : held empty_filter ≡ false
unfolding held
unheld = refl

pub place_says : (f : Filter) → FilterInRange f → Says (place_fine f) (Fine f)
place_says f r = record { to = λ e. ⊎_elim nothing something (either (empty_place f) (well_coded f && fittable f) e); from = λ h. from h (which (held f)) }
  where
    nothing : empty_place f ≡ true → Fine f
    nothing e =
        let z = (empty_says f).to e in
        let n : held f ≡ false = ap held z ∙ unheld in
        record { zeroed = λ _. z; coded = λ h. never h n; fitted = λ h. never h n }

    something : well_coded f && fittable f ≡ true → Fine f
    something e =
        let h = both (well_coded f) (fittable f) e in
        record { zeroed = λ n. absurd (n (held_coded f h.0)); coded = λ _. h.0; fitted = λ _. (fittable_says f r).to h.1 }

    from : Fine f → (held f ≡ true) ⊎ (held f ≡ false) → place_fine f ≡ true
    from h (inl e) = rw (h.coded e, (fittable_says f r).from (h.fitted e)) (or_true (empty_place f))
    from h (inr e) = rw ((empty_says f).from (h.zeroed (λ q. never q e)))

-- ---- the table
-- an identity whose role is default is in range
pub default_of : (t : Table) (identity : ℕ) → Says (is_default (role_of t identity)) (ActiveDefault (role_at t) identity)
default_of t identity = go (is_identity identity) refl
  where
    go : (b : Bool) → is_identity identity ≡ b → Says (is_default (pick b (role_at t (index_of identity)) Idle)) (ActiveDefault (role_at t) identity)
    go true e =
        let r = (range_says identity).to e in
        says_so (default_says (role_at t (index_of identity))) (λ d. (r.0, r.1, d)) (λ h. h.2)
    go false e = record { to = λ q. absurd (false≢true q); from = λ h. absurd (false≢true (sym e ∙ (range_says identity).from (h.0, h.1))) }

module _ (t : Table) (ok : TableInRange t) where
  filter_ok : (i j : ℕ) → i < bearer_count → j < place_count → FilterInRange (filter_at t i j)
  filter_ok i j l m = each_at (each_at ok.bearers no_bearer i l).row empty_filter j m

  abbrev Linked : Role → Type 0
  Linked r = (link : ℕ) → r ≡ Dedicated link → ActiveDefault (role_at t) link

  link_says : (r : Role) → Says (link_fine t r) (Linked r)
  link_says Idle = says_true (λ link e. unlike (cc))
  link_says Default = says_true (λ link e. unlike (cc))
  link_says (Dedicated link) =
      says_so (default_of t link)
      (λ h other e. let q : link ≡ other = cc in subst (ActiveDefault (role_at t)) q h)
      (λ h. h link refl)

  -- what the test says of one bearer
  abbrev Alone : ℕ → Type 0
  Alone i =
      (((role_at t i ≡ Idle → transaction_at t i ≡ 0) × (transaction_at t i ≤ last_transaction)) × Linked (role_at t i))
      × ((j : ℕ) → j < place_count → (role_at t i ≡ Idle → filter_at t i j ≡ empty_filter) × Fine (filter_at t i j))

  alone_says : (i : ℕ) → i < bearer_count → Says (bearer_fine t i) (Alone i)
  unfolding bearer_fine filter_fine
  alone_says i l =
      let idle = idle_says (role_at t i) in
      says_and (says_and (says_and (says_if idle (says_eq (transaction_at t i) 0)) (says_le (transaction_at t i) last_transaction)) (link_says (role_at t i)))
      (says_all place_count (λ j m. says_and (says_if idle (empty_says (filter_at t i j))) (place_says (filter_at t i j) (filter_ok i j l m))))

  -- what it says of two
  abbrev Single : ℕ → ℕ → Type 0
  Single i k = (transaction_at t i ≡ 0 → ⊥) → transaction_at t i ≡ transaction_at t k → i ≡ k

  single_says : Says (distinct_transactions t) ((i : ℕ) → i < bearer_count → (k : ℕ) → k < bearer_count → Single i k)
  unfolding distinct_transactions transaction_from transactions_apart
  single_says =
      says_all bearer_count (λ i l. says_all bearer_count (λ k m.
      says_unless (says_eq (transaction_at t i) 0) (says_if (says_eq (transaction_at t i) (transaction_at t k)) (says_eq i k))))

  pub apart_says : Says (distinct_precedences t) ((i : ℕ) → i < bearer_count → role_at t i ≡ Default → Within t (identity_of i))
  unfolding distinct_precedences distinct_at
  apart_says = says_all bearer_count (λ i l. says_if (default_says (role_at t i)) (within_says t (identity_of i)))

  -- a bearer that holds a filter is of the connection of some default
  abbrev Connected : ℕ → Type 0
  Connected i = SomeBelow bearer_count (λ d. (role_at t d ≡ Default) × (connection_at t i ≡ identity_of d))

  connected : (i j : ℕ) → i < bearer_count → j < place_count → Alone i → Held (filter_at t i j) → Connected i
  connected i j l m h g = go (role_at t i) refl
    where
      go : (r : Role) → role_at t i ≡ r → Connected i
      go Idle e = never g (ap held ((h.1 j m).0 e) ∙ unheld)
      go Default e = record { at = i; below = l; holds = (e, ap (connection_of i) e) }
      go (Dedicated link) e =
          let k = h.0.1 link e in
          let low = k.0 in
          let high = k.1 in
          let back : link ≡ identity_of (index_of link) = omega arith in
          record { at = index_of link; below = omega arith; holds = (k.2, ap (connection_of i) e ∙ back) }

  -- two filters of one connection with one precedence are the same
  abbrev pub Distinct : Type 0
  Distinct = (i k j l : ℕ) → i < bearer_count → k < bearer_count → j < place_count → l < place_count → connection_at t i ≡ connection_at t k
      → Held (filter_at t i j) → Held (filter_at t k l) → (filter_at t i j).precedence ≡ (filter_at t k l).precedence → (i ≡ k) × (j ≡ l)

  module _ (alone : (i : ℕ) → i < bearer_count → Alone i) where
    apart_distinct : ((i : ℕ) → i < bearer_count → role_at t i ≡ Default → Within t (identity_of i)) → Distinct
    apart_distinct h i k j l a b c d e g =
        let n = connected i j a c (alone i a) g in
        h n.at n.below n.holds.0 i k j l a b c d n.holds.1 (sym e ∙ n.holds.1) g

  distinct_apart : Distinct → (i : ℕ) → i < bearer_count → role_at t i ≡ Default → Within t (identity_of i)
  distinct_apart w n u r i k j l a b c d o p = w i k j l a b c d (o ∙ sym p)

  -- where each bearer is fine by itself
  module _ (fine : all_below (bearer_fine t) bearer_count ≡ true) where
    all_alone : (i : ℕ) → i < bearer_count → Alone i
    all_alone = (says_all bearer_count alone_says).to fine

    pub distinct_says : Says (distinct_precedences t) Distinct
    distinct_says = says_so apart_says (apart_distinct all_alone) distinct_apart

    -- a filter is an active bearer's, and its connection has a default's identity
    pub held_active : (i j : ℕ) → i < bearer_count → j < place_count → Held (filter_at t i j) → is_idle (role_at t i) ≡ false
    held_active i j l m g = says_no (idle_says (role_at t i)) (λ e. never g (ap held (((all_alone i l).1 j m).0 e) ∙ unheld))

    pub held_identity : (i j : ℕ) → i < bearer_count → j < place_count → Held (filter_at t i j) → is_identity (connection_at t i) ≡ true
    held_identity i j l m g =
        let n = connected i j l m (all_alone i l) g in
        let e = n.holds.1 in
        let b = n.below in
        (range_says (connection_at t i)).from (omega arith, omega arith)

  -- of the bearers
  pub bearers_say : Says (bearers_fine t) (Well (view t))
  unfolding bearers_fine
  bearers_say =
      says_so (says_and (says_and (says_all bearer_count alone_says) single_says) apart_says)
      (λ h.
      record {
        silent = λ i l. (h.0.0 i l).0.0.0;
        empty = λ i j l m. ((h.0.0 i l).1 j m).0;
        linked = λ i link l. (h.0.0 i l).0.1 link;
        small = λ i l. (h.0.0 i l).0.0.1;
        single = λ i k l m. h.0.1 i l k m;
        zeroed = λ i j l m. ((h.0.0 i l).1 j m).1.zeroed;
        coded = λ i j l m. ((h.0.0 i l).1 j m).1.coded;
        fitted = λ i j l m. ((h.0.0 i l).1 j m).1.fitted;
        distinct = apart_distinct h.0.0 h.1;
      })
      (λ w. (
        (
          λ i l. (((w.silent i l, w.small i l), λ link. w.linked i link l), λ j m. (w.empty i j l m, record { zeroed = w.zeroed i j l m; coded = w.coded i j l m; fitted = w.fitted i j l m })),
          λ i l k m. w.single i k l m,
        ),
        distinct_apart w.distinct,
      ))

  -- of the lists
  pub lists_say : Says (lists_right t) (RightLists t)
  unfolding lists_right cell_right lists_of
  lists_say =
      says_so (says_all held_count (λ n l. says_eq (get_or t.lists n 0) (cell_at t.bearers n)))
      (λ h. tab_is 0 (cell_at t.bearers) t.lists held_count ok.lists.count h)
      (λ e n l. ap (λ (cells : List ℕ). get_or cells n 0) e ∙ tab_at (cell_at t.bearers) held_count n 0 l)

  -- the test is true exactly for the well-formed tables
  pub well_says : Says (well_formed t) (WellFormed t)
  unfolding well_formed
  well_says = says_so (says_and bearers_say lists_say) (λ h. record { bearers = h.0; lists = h.1 }) (λ w. (w.bearers, w.lists))

-- the lists of a table that is made from its bearers are right, whatever these are
pub built_right : (bs : List Bearer) → lists_right (table_of bs) ≡ true
unfolding lists_right cell_right lists_of
built_right bs = (says_all held_count (λ n l. says_eq (get_or (lists_of bs) n 0) (cell_at bs n))).from (λ n l. tab_at (cell_at bs) held_count n 0 l)
