-- The list has at each position what it is to have: the connection's uplink filter of that precedence with its bearer, or nothing.
use mathlib.Core.Path.{◌≡◌, refl, sym, ◌∙◌, ap, ap₂, subst}
use mathlib.Core.Bool.{Bool, true, false, false≢true}
use mathlib.Core.Logic.{◌⊎◌, inl, inr, ⊎_elim}
use mathlib.Core.List.{List, []}
use Prim.Native.Nat.{ℕ, ◌+◌, ◌*◌, ◌/◌, ◌%◌, ◌^◌, ◌<◌, ◌≤◌}
use native.Mathlib.Omega.{arith}
use lib.ListN.{length, get_or, replicate, length-replicate, get_or-replicate}
use Rattle.laws.specs.Says.{pick, Says}
use Rattle.laws.specs.Index.{SomeBelow}
use Rattle.laws.proofs.Tests.{both}
use Rattle.laws.proofs.Typed.{each_at}
use Rattle.laws.proofs.Says.{last, says_it, says_eq, says_and, says_any}
use Rattle.laws.proofs.Index.{tab_length, tab_at, tab_is}
use Rattle.laws.proofs.Lasts.{Last, NoLast, last_cases}
use Rattle.filter.specs.Coding.{held, uplink}
use Rattle.table.specs.declared.bearer.Role.{Role}
use Rattle.table.specs.declared.bearer.Role.TheVariants.{Idle, Default, Dedicated}
use Rattle.table.specs.declared.bearer.Bearer.{Bearer}
use Rattle.table.specs.declared.bearer.Table.{Table}
use Rattle.filter.specs.Sizes.{place_count, precedence_count}
use Rattle.filter.specs.Build.{empty_filter}
use Rattle.table.specs.Bearers.{bearer_count, is_identity, index_of, identity_of, no_bearer, role_at, filter_at, connection_of, connection_at}
use Rattle.table.specs.Ranges.{TableInRange}
use Rattle.table.specs.WellFormed.{Held, ActiveDefault, Well, RightLists, WellFormed}
use Rattle.table.specs.declared.list.Entry.{Entry}
use Rattle.table.specs.Lists.{is_uplink, precedence_at, entry_of, nothing, place_has, bearer_has, entry_in, entry_at, cell_of, encoded, decoded, held_count, cell_at, lists_of, held_at, held_list}
use Rattle.table.specs.Positions.{Uplink, Named, Stands, Highest}
use Rattle.table.specs.Tables.{view, idle_bearer}
use Rattle.table.proofs.Meaning.{range_says, unheld}

-- ---- whose filters these are
pub up_held : (t : Table) (default i j : ℕ) → Uplink t default i j → Held (filter_at t i j)
up_held t default i j u = (both (held (filter_at t i j)) (uplink (filter_at t i j)) u.up).0

module _ (t : Table) (w : Well (view t)) (i j : ℕ) (l : i < bearer_count) (m : j < place_count) (g : Held (filter_at t i j)) where
  -- a filter's connection is an active default's
  pub default_held : ActiveDefault (role_at t) (connection_at t i)
  default_held = go (role_at t i) refl
    where
      go : (r : Role) → role_at t i ≡ r → ActiveDefault (role_at t) (connection_of i r)
      go Idle e = absurd (false≢true (sym unheld ∙ ap held (sym (w.empty i j l m e)) ∙ g))
      go Default e = (omega arith, omega arith, let q : index_of (identity_of i) ≡ i = omega arith in ap (role_at t) q ∙ e)
      go (Dedicated link) e = w.linked i link l e

  pub held_of : is_identity (connection_at t i) ≡ true
  held_of = let h = default_held in (range_says (connection_at t i)).from (h.0, h.1)

-- ---- what stands at position p
module _ (t : Table) (default p : ℕ) where
  -- what the two tests say
  place_says : (i j : ℕ) → Says (place_has t.bearers p i j) ((is_uplink (filter_at t i j) ≡ true) × (precedence_at t i j ≡ p))
  unfolding place_has
  place_says i j = says_and (says_it (is_uplink (filter_at t i j))) (says_eq (precedence_at t i j) p)

  bearer_says : (i : ℕ) → Says (bearer_has t.bearers default p i) ((connection_at t i ≡ default) × SomeBelow place_count (λ j. place_has t.bearers p i j ≡ true))
  unfolding bearer_has
  bearer_says i = says_and (says_eq (connection_at t i) default) (says_any place_count (λ j _. says_it (place_has t.bearers p i j)))

  module _ (i j : ℕ) (u : Uplink t default i j) (q : precedence_at t i j ≡ p) where
    has_place : place_has t.bearers p i j ≡ true
    has_place = (place_says i j).from (u.up, q)

    has_bearer : bearer_has t.bearers default p i ≡ true
    has_bearer = (bearer_says i).from (u.of, record { at = j; below = u.place; holds = has_place })

  abbrev Said : Entry → Type 0
  Said e = Stands t default p e × Highest t default p e

  module _ (b : Last (bearer_has t.bearers default p) (entry_in t.bearers p) bearer_count (entry_at t.bearers default p)) where
    row_said : Last (place_has t.bearers p b.at) (entry_of (identity_of b.at)) place_count (entry_in t.bearers p b.at) → Said (entry_at t.bearers default p)
    row_said l =
        let (up, q) = (place_says b.at l.at).to l.holds in
        let u : Uplink t default b.at l.at = record { bearer = b.below; place = l.below; of = ((bearer_says b.at).to b.holds).0; up = up } in
        rw (b.is, l.is) (inl (record { index = b.at; spot = l.at; uplink = u; precedence = q; is = refl }), high)
      where
        high : Highest t default p (entry_of (identity_of b.at) l.at)
        high i j u q =
            ⊎_elim (λ m. inl (omega arith)) (λ e. inr (ap identity_of e, l.highest j u.place (subst (λ (k : ℕ). place_has t.bearers p k j ≡ true) e (has_place i j u q))))
            (last (let m = b.highest i u.bearer (has_bearer i j u q) in omega arith))

    some_said : Said (entry_at t.bearers default p)
    unfolding entry_in
    some_said =
        let s = ((bearer_says b.at).to b.holds).1 in
        ⊎_elim row_said (λ n. absurd (n.none s.at s.below s.holds)) (last_cases (place_has t.bearers p b.at) (entry_of (identity_of b.at)) nothing place_count)

  entry_said : Said (entry_at t.bearers default p)
  unfolding entry_at
  entry_said = ⊎_elim some_said none (last_cases (bearer_has t.bearers default p) (entry_in t.bearers p) nothing bearer_count)
    where
      none : NoLast (bearer_has t.bearers default p) (entry_in t.bearers p) nothing bearer_count (entry_at t.bearers default p) → Said (entry_at t.bearers default p)
      none n =
          let free : (i j : ℕ) → Uplink t default i j → precedence_at t i j ≡ p → ⊥ = λ i j u q. n.none i u.bearer (has_bearer i j u q) in
          (inr (record { none = free; is = n.is }), λ i j u q. absurd (free i j u q))

  -- at p the rule puts the connection's uplink filter of that precedence, or nothing, and there is none
  pub entry_stands : Stands t default p (entry_at t.bearers default p)
  entry_stands = entry_said.0

  -- .. and where there are several, the one of the highest bearer, then of the highest identifier
  pub entry_highest : Highest t default p (entry_at t.bearers default p)
  entry_highest = entry_said.1

  -- only one entry can stand there so
  pub stands_one : (e f : Entry) → Stands t default p e → Highest t default p e → Stands t default p f → Highest t default p f → e ≡ f
  stands_one e f (inl n) a (inl m) b =
      n.is
      ∙ same n.index n.spot m.index m.spot (subst (Highest t default p) n.is a m.index m.spot m.uplink m.precedence)
      (subst (Highest t default p) m.is b n.index n.spot n.uplink n.precedence)
      ∙ sym m.is
    where
      NoHigher : ℕ → ℕ → ℕ → ℕ → Type 0
      NoHigher k l i j = (identity_of k < identity_of i) ⊎ ((identity_of k ≡ identity_of i) × (l ≤ j))

      same : (i j k l : ℕ) → NoHigher k l i j → NoHigher i j k l → entry_of (identity_of i) j ≡ entry_of (identity_of k) l
      same i j k l (inl x) (inl y) = absurd (omega arith)
      same i j k l (inl x) (inr y) = absurd (omega (arith, y.0))
      same i j k l (inr x) (inl y) = absurd (omega (arith, x.0))
      same i j k l (inr x) (inr y) = let q : j ≡ l = omega (arith, x.1, y.1) in rw (y.0, q)
  stands_one e f (inl n) a (inr v) b = absurd (v.none n.index n.spot n.uplink n.precedence)
  stands_one e f (inr v) a (inl m) b = absurd (v.none m.index m.spot m.uplink m.precedence)
  stands_one e f (inr v) a (inr w) b = v.is ∙ sym w.is

-- ---- an entry as an octet
pub entry_decoded : (t : Table) (default p : ℕ) → decoded (encoded (entry_at t.bearers default p)) ≡ entry_at t.bearers default p
unfolding decoded
entry_decoded t default p = ⊎_elim named (λ v. rw v.is) (entry_stands t default p)
  where
    named : Named t default p (entry_at t.bearers default p) → decoded (encoded (entry_at t.bearers default p)) ≡ entry_at t.bearers default p
    named n =
        let l = n.uplink.place in
        rw n.is
        (ap₂ entry_of (let q : cell_of (identity_of n.index) n.spot / place_count ≡ identity_of n.index = omega arith in q)
        (let r : cell_of (identity_of n.index) n.spot % place_count ≡ n.spot = omega arith in r))

-- .. and an octet is that of the entry that it stands for
pub numbered : (cell : ℕ) → encoded (decoded cell) ≡ cell
unfolding decoded
numbered cell = omega arith

-- it is an octet
pub cell_small : (bs : List Bearer) (n : ℕ) → cell_at bs n < 2 ^ 8
unfolding cell_at
cell_small bs n = ⊎_elim named (λ v. rw v.is (omega arith)) (entry_stands t d p)
  where
    t : Table
    t = record { bearers = bs; lists = [] }

    d : ℕ
    d = identity_of (n / precedence_count)

    p : ℕ
    p = n % precedence_count

    named : Named t d p (entry_at bs d p) → encoded (entry_at bs d p) < 2 ^ 8
    named m = let l = m.uplink.place in let k = m.uplink.bearer in rw m.is (omega arith)

-- ---- each uplink filter is found at its precedence
-- no two of a connection have the same
pub same_place : (t : Table) → Well (view t) → (default i j k l : ℕ) → Uplink t default i j → Uplink t default k l
    → precedence_at t i j ≡ precedence_at t k l → (i ≡ k) × (j ≡ l)
same_place t w default i j k l u v =
    w.distinct i k j l u.bearer v.bearer u.place v.place (u.of ∙ sym v.of) (up_held t default i j u) (up_held t default k l v)

module _ (t : Table) (ok : TableInRange t) (default i j : ℕ) (u : Uplink t default i j) where
  pub position : precedence_at t i j < precedence_count
  position = (each_at (each_at ok.bearers no_bearer i u.bearer).row empty_filter j u.place).precedence

  pub entry_at_lem : Well (view t) → entry_at t.bearers default (precedence_at t i j) ≡ entry_of (identity_of i) j
  entry_at_lem w = ⊎_elim one (λ v. absurd (v.none i j u refl)) (entry_stands t default (precedence_at t i j))
    where
      one : Named t default (precedence_at t i j) (entry_at t.bearers default (precedence_at t i j))
          → entry_at t.bearers default (precedence_at t i j) ≡ entry_of (identity_of i) j
      one n = let (x, y) = same_place t w default i j n.index n.spot u n.uplink (sym n.precedence) in n.is ∙ rw (x, y)

-- ---- the held list
pub held_length : (t : Table) (default : ℕ) → length (held_list t default) ≡ precedence_count
unfolding held_list
held_length t default = tab_length (held_at t default) precedence_count

module _ (t : Table) (w : WellFormed t) (default p : ℕ) (small : p < precedence_count) where
  -- octet i * 256 + p is position p of the list at index i
  cell_held : is_identity default ≡ true → get_or t.lists (index_of default * precedence_count + p) 0 ≡ encoded (entry_at t.bearers default p)
  unfolding lists_of cell_at
  cell_held d =
      let r = (range_says default).to d in
      let low = r.0 in
      let high = r.1 in
      let n = index_of default * precedence_count + p in
      let q : identity_of (n / precedence_count) ≡ default = omega arith in
      let o : n % precedence_count ≡ p = omega arith in
      ap (λ (cells : List ℕ). get_or cells n 0) w.lists ∙ tab_at (cell_at t.bearers) held_count n 0 (omega arith)
      ∙ ap₂ (λ (e p : ℕ). encoded (entry_at t.bearers e p)) q o

  -- an uplink filter is of a connection that a default can have
  not_there : is_identity default ≡ false → (i j : ℕ) → Uplink t default i j → ⊥
  not_there d i j u = false≢true (sym d ∙ subst (λ (c : ℕ). is_identity c ≡ true) u.of (held_of t w.bearers i j u.bearer u.place (up_held t default i j u)))

  -- at p stands the connection's uplink filter of that precedence, or nothing, and there is none
  pub list_stands : Stands t default p (get_or (held_list t default) p nothing)
  unfolding held_list
  list_stands = rw (tab_at (held_at t default) precedence_count p nothing small) (go (is_identity default) refl)
    where
      go : (b : Bool) → is_identity default ≡ b → Stands t default p (pick b (decoded (get_or t.lists (index_of default * precedence_count + p) 0)) nothing)
      go true e = rw (cell_held e, entry_decoded t default p) (entry_stands t default p)
      go false e = inr (record { none = λ i j u q. not_there e i j u; is = refl })

pub list_at : (t : Table) (ok : TableInRange t) (w : WellFormed t) (default i j : ℕ) (u : Uplink t default i j)
    → get_or (held_list t default) (precedence_at t i j) nothing ≡ entry_of (identity_of i) j
list_at t ok w default i j u = ⊎_elim one (λ v. absurd (v.none i j u refl)) (list_stands t w default (precedence_at t i j) (position t ok default i j u))
  where
    one : Named t default (precedence_at t i j) (get_or (held_list t default) (precedence_at t i j) nothing)
        → get_or (held_list t default) (precedence_at t i j) nothing ≡ entry_of (identity_of i) j
    one n = let (x, y) = same_place t w.bearers default i j n.index n.spot u n.uplink (sym n.precedence) in n.is ∙ rw (x, y)

-- in a table with well-formed bearers one entry only can stand at a position ..
pub stands_alone : (t : Table) → Well (view t) → (default p : ℕ) (e f : Entry) → Stands t default p e → Stands t default p f → e ≡ f
stands_alone t w default p e f (inl n) (inl m) =
    let (x, y) = same_place t w default n.index n.spot m.index m.spot n.uplink m.uplink (n.precedence ∙ sym m.precedence) in n.is ∙ rw (x, y) (sym m.is)
stands_alone t w default p e f (inl n) (inr v) = absurd (v.none n.index n.spot n.uplink n.precedence)
stands_alone t w default p e f (inr v) (inl m) = absurd (v.none m.index m.spot m.uplink m.precedence)
stands_alone t w default p e f (inr v) (inr u) = v.is ∙ sym u.is

-- .. so its lists are right where at every position of every identity's list there stands what the rule says in no order
pub stands_right : (t : Table) → TableInRange t → Well (view t)
    → ((i p : ℕ) → i < bearer_count → p < precedence_count → Stands t (identity_of i) p (held_at t (identity_of i) p)) → RightLists t
unfolding lists_of cell_at
stands_right t ok w stand = tab_is 0 (cell_at t.bearers) t.lists held_count ok.lists.count right
  where
    right : (n : ℕ) → n < held_count → get_or t.lists n 0 ≡ cell_at t.bearers n
    right n l = sym (numbered (get_or t.lists n 0)) ∙ ap encoded (sym held ∙ same)
      where
        d : ℕ
        d = identity_of (n / precedence_count)

        p : ℕ
        p = n % precedence_count

        held : held_at t d p ≡ decoded (get_or t.lists n 0)
        held =
            let q : index_of d * precedence_count + p ≡ n = omega arith in
            rw ((range_says d).from (omega arith, omega arith)) (ap (λ (k : ℕ). decoded (get_or t.lists k 0)) q)

        same : held_at t d p ≡ entry_at t.bearers d p
        same = stands_alone t w d p (held_at t d p) (entry_at t.bearers d p) (stand (n / precedence_count) p (omega arith) (omega arith)) (entry_stands t d p)

-- the list of an identity that is no active default's is empty
pub list_empty : (t : Table) (w : WellFormed t) (identity p : ℕ) → p < precedence_count → (ActiveDefault (role_at t) identity → ⊥)
    → get_or (held_list t identity) p nothing ≡ nothing
list_empty t w identity p small other = ⊎_elim (λ n. absurd (other (home n))) (λ v. v.is) (list_stands t w identity p small)
  where
    home : Named t identity p (get_or (held_list t identity) p nothing) → ActiveDefault (role_at t) identity
    home n =
        let u = n.uplink in
        subst (ActiveDefault (role_at t)) u.of (default_held t w.bearers n.index n.spot u.bearer u.place (up_held t identity n.index n.spot u))

-- idle bearers have no list
pub idle_lists : lists_of (replicate bearer_count idle_bearer) ≡ replicate held_count 0
unfolding lists_of cell_at
idle_lists = sym (tab_is 0 (cell_at bs) (replicate held_count 0) held_count (length-replicate {A = ℕ} held_count 0) (λ n l. get_or-replicate {A = ℕ} held_count n 0 0 l ∙ sym (none n)))
  where
    bs : List Bearer
    bs = replicate bearer_count idle_bearer

    t : Table
    t = record { bearers = bs; lists = [] }

    idle : (i : ℕ) → i < bearer_count → connection_at t i ≡ 0
    idle i l = ap (λ (b : Bearer). connection_of i b.role) (get_or-replicate bearer_count i idle_bearer no_bearer l)

    none : (n : ℕ) → cell_at bs n ≡ 0
    none n =
        ⊎_elim (λ m. let u = m.uplink in absurd (let e = sym (idle m.index u.bearer) ∙ u.of in omega arith)) (λ v. rw v.is)
        (entry_stands t (identity_of (n / precedence_count)) (n % precedence_count))
