-- "Well formed in, well formed out", of each step that calls are made of.
use mathlib.Core.Path.{◌≡◌, refl, sym, ◌∙◌, ap, subst}
use mathlib.Core.Bool.{Bool, true, false, ◌&&◌, ◌||◌}
use mathlib.Core.Logic.{◌⊎◌, inl, inr, ⊎_elim}
use mathlib.Core.List.{List}
use Prim.Native.Nat.{ℕ, ◌<◌, ◌≤◌}
use native.Mathlib.Omega.{arith}
use lib.Dec.{eqb}
use lib.ListN.{get_or}
use Rattle.laws.specs.Says.{pick, Says}
use Rattle.laws.specs.Index.{any_below}
use Rattle.laws.proofs.Tests.{both}
use Rattle.laws.proofs.Says.{never, says_it, says_eq, says_and, says_any, says_no, says_ne}
use Rattle.filter.specs.declared.component.Filter.{Filter}
use Rattle.filter.specs.Coding.{held, well_coded}
use Rattle.filter.specs.Fittable.{SomePacketFits}
use Rattle.table.specs.declared.bearer.Role.{Role}
use Rattle.table.specs.declared.bearer.Role.TheVariants.{Idle, Default, Dedicated}
use Rattle.table.specs.declared.bearer.Table.{Table}
use Rattle.filter.specs.Sizes.{place_count}
use Rattle.filter.specs.Build.{empty_filter}
use Rattle.table.specs.Bearers.{first_identity, last_identity, bearer_count, last_transaction, is_identity, index_of, identity_of, in_row, role_at, transaction_at, filter_at, is_idle, is_default, role_of, connection_of, connection_at}
use Rattle.table.specs.Tables.{View, view, build}
use Rattle.table.specs.WellFormed.{Held, ActiveDefault, Well, WellFormed}
use Rattle.table.proofs.Meaning.{Fine}
use Rattle.calls.proofs.Conflicts.{so}
use Rattle.calls.specs.Steps.{closed, dropped_by, dropped}
use Rattle.table.specs.Changes.{opens_at, closed_view, started_view, opened_view, cut_view, of_connection, is_at, deleted_in, deleted_view}
use Rattle.calls.specs.Changes.{Taken, Void}
use Rattle.calls.specs.Lay.{old, taken_by, takes, conflict, placed, placed_in, laid_view, released, lay_or_release, lay_within, lay_of}
use Rattle.calls.proofs.Views.{role_built, transaction_built, filter_built}

abbrev rank : Filter → ℕ
rank f = f.precedence

-- ---- places
held_empty : held empty_filter ≡ false
unfolding held
held_empty = refl

pub no_held : {A : Type 0} (f : Filter) → f ≡ empty_filter → Held f → A
no_held f e h = never h (ap held e ∙ held_empty)

fine_empty : Fine empty_filter
fine_empty = record { zeroed = λ _. refl; coded = λ h. never h held_empty; fitted = λ h. never h held_empty }

pub fine_at_lem : (v : View) → Well v → (i j : ℕ) → i < bearer_count → j < place_count → Fine (v.filter i j)
fine_at_lem v w i j l m = record { zeroed = w.zeroed i j l m; coded = w.coded i j l m; fitted = w.fitted i j l m }

-- ---- what was there stays or is gone
pub either_stands : {A : Type 0} (b : Bool) (x y : A) → (pick b x y ≡ y) ⊎ (pick b x y ≡ x)
either_stands true x y = inr refl
either_stands false x y = inl refl

-- the bearer stays or is gone with all it holds; so do its transaction and each of its filters
pub record Less (v u : View) (i : ℕ) : Type 0 where
  pub role : (u.role i ≡ v.role i) ⊎ Void u i
  pub transaction : (u.transaction i ≡ v.transaction i) ⊎ (u.transaction i ≡ 0)
  pub filter : (j : ℕ) → j < place_count → (u.filter i j ≡ v.filter i j) ⊎ (u.filter i j ≡ empty_filter)

module _ (v u : View) (w : Well v) (less : (i : ℕ) → i < bearer_count → Less v u i)
    (links : (i link : ℕ) → i < bearer_count → first_identity ≤ link → link ≤ last_identity → v.role i ≡ Dedicated link → u.role i ≡ Dedicated link
    → v.role (index_of link) ≡ Default → u.role (index_of link) ≡ Default) where
  -- a transaction that is open was; a filter that is held was, and its bearer stays
  stays : (i : ℕ) → i < bearer_count → (u.transaction i ≡ 0 → ⊥) → u.transaction i ≡ v.transaction i
  stays i l n = ⊎_elim (λ e. e) (λ z. absurd (n z)) (less i l).transaction

  was : (i j : ℕ) → i < bearer_count → j < place_count → Held (u.filter i j) → (u.role i ≡ v.role i) × (u.filter i j ≡ v.filter i j)
  was i j l m h = (
    ⊎_elim (λ e. e) (λ o. no_held (u.filter i j) (o.filter j m) h) (less i l).role,
    ⊎_elim (λ e. e) (λ z. no_held (u.filter i j) z h) ((less i l).filter j m),
  )

  fine : (i j : ℕ) → i < bearer_count → j < place_count → Fine (u.filter i j)
  fine i j l m = ⊎_elim (λ e. subst Fine (sym e) (fine_at_lem v w i j l m)) (λ z. subst Fine (sym z) fine_empty) ((less i l).filter j m)

  pub well_less : Well u
  well_less =
      record {
        silent = λ i l h. ⊎_elim (λ r. ⊎_elim (λ e. e ∙ w.silent i l (sym r ∙ h)) (λ z. z) (less i l).transaction) (λ o. o.transaction) (less i l).role;
        empty = λ i j l m h. ⊎_elim (λ r. ⊎_elim (λ e. e ∙ w.empty i j l m (sym r ∙ h)) (λ z. z) ((less i l).filter j m)) (λ o. o.filter j m) (less i l).role;
        linked = λ i link l h.
            ⊎_elim (λ r. let k = w.linked i link l (sym r ∙ h) in (k.0, k.1, links i link l k.0 k.1 (sym r ∙ h) h k.2))
            (λ o. never (ap is_idle o.role) (ap is_idle h)) (less i l).role;
        small = λ i l. ⊎_elim (λ e. omega (arith, e, w.small i l)) (λ z. omega (arith, z)) (less i l).transaction;
        single = λ i k l m n e. let s = stays i l n in w.single i k l m (λ z. n (s ∙ z)) (sym s ∙ e ∙ stays k m (λ z. n (e ∙ z)));
        zeroed = λ i j l m. (fine i j l m).zeroed;
        coded = λ i j l m. (fine i j l m).coded;
        fitted = λ i j l m. (fine i j l m).fitted;
        distinct = λ i k j l a b c d e f g h.
            let x = was i j a c f in
            let y = was k l b d g in
            w.distinct i k j l a b c d (sym (ap (connection_of i) x.0) ∙ e ∙ ap (connection_of k) y.0) (sym (ap held x.1) ∙ f) (sym (ap held y.1) ∙ g)
            (sym (ap rank x.1) ∙ h ∙ ap rank y.1);
      }

-- a table is well formed as the view is that it is made from
pub well_built : (v : View) → Well v → WellFormed (build v)
well_built v w =
    record {
      bearers = well_less v (view (build v)) w
          (λ i l. record { role = inl (role_built v i l); transaction = inl (transaction_built v i l); filter = λ j m. inl (filter_built v i l j m) })
          (λ i link l a b r h d. role_built v (index_of link) (omega arith) ∙ d);
      lists = refl;
    }

-- ---- transactions
module _ (t : Table) (w : WellFormed t) (x : ℕ) where
  pub well_closed : Well (closed_view t x)
  well_closed =
      well_less (view t) (closed_view t x) w.bearers (λ i l. record { role = inl refl; transaction = either_stands (opens_at t x i) 0 (transaction_at t i); filter = λ j m. inl refl })
      (λ i link l a b r h d. d)

  pub closed_well : WellFormed (closed t x)
  unfolding closed
  closed_well = go (eqb x 0)
    where
      go : (b : Bool) → WellFormed (pick b t (build (closed_view t x)))
      go true = w
      go false = well_built (closed_view t x) well_closed

  -- a transaction that is open on no bearer is started on an active one
  module _ (k : ℕ) (active : role_at t k ≡ Idle → ⊥) (few : x ≤ last_transaction) (new : (i : ℕ) → i < bearer_count → transaction_at t i ≡ x → ⊥) where
    pub well_started : Well (started_view t k x)
    well_started =
        record {
          silent = λ i l h. silent i l h (eqb i k) refl;
          empty = w.bearers.empty;
          linked = w.bearers.linked;
          small = λ i l. small i l (eqb i k);
          single = λ i m l n z e. single i m l n (eqb i k) (eqb m k) refl refl z e;
          zeroed = w.bearers.zeroed;
          coded = w.bearers.coded;
          fitted = w.bearers.fitted;
          distinct = w.bearers.distinct;
        }
      where
        silent : (i : ℕ) → i < bearer_count → role_at t i ≡ Idle → (b : Bool) → eqb i k ≡ b → pick b x (transaction_at t i) ≡ 0
        silent i l h true e = absurd (active (sym (ap (role_at t) ((says_eq i k).to e)) ∙ h))
        silent i l h false e = w.bearers.silent i l h

        small : (i : ℕ) → i < bearer_count → (b : Bool) → pick b x (transaction_at t i) ≤ last_transaction
        small i l true = few
        small i l false = w.bearers.small i l

        single : (i m : ℕ) → i < bearer_count → m < bearer_count → (b c : Bool) → eqb i k ≡ b → eqb m k ≡ c → (pick b x (transaction_at t i) ≡ 0 → ⊥)
            → pick b x (transaction_at t i) ≡ pick c x (transaction_at t m) → i ≡ m
        single i m l n true true p q z e = (says_eq i k).to p ∙ sym ((says_eq m k).to q)
        single i m l n true false p q z e = absurd (new m n (sym e))
        single i m l n false true p q z e = absurd (new i l e)
        single i m l n false false p q z e = w.bearers.single i m l n z e

-- no bearer has the transaction
pub not_open : (t : Table) (x : ℕ) → any_below (opens_at t x) bearer_count ≡ false → (i : ℕ) → i < bearer_count → transaction_at t i ≡ x → ⊥
unfolding opens_at
not_open t x e i l h = says_ne (says_any bearer_count (λ i l. says_eq (transaction_at t i) x)) e (record { at = i; below = l; holds = h })

-- ---- one more bearer

module _ (t : Table) (w : WellFormed t) (k : ℕ) (idle : role_at t k ≡ Idle) where
  -- an idle bearer has no transaction and no filter, so that only links are new
  pub well_opened : (role : Role) → ((link : ℕ) → role ≡ Dedicated link → ActiveDefault (role_at t) link) → Well (opened_view t k role)
  well_opened role fits =
      record {
        silent = λ i l h. w.bearers.silent i l (before i h (eqb i k) refl);
        empty = λ i j l m h. w.bearers.empty i j l m (before i h (eqb i k) refl);
        linked = λ i link l h. let q = linked i link l (eqb i k) refl h in (q.0, q.1, other (index_of link) (λ e. never (ap is_idle e) (ap is_idle q.2)) ∙ q.2);
        small = w.bearers.small;
        single = w.bearers.single;
        zeroed = w.bearers.zeroed;
        coded = w.bearers.coded;
        fitted = w.bearers.fitted;
        distinct = λ i m j l a b c d e f g h.
            w.bearers.distinct i m j l a b c d
            (sym (ap (connection_of i) (other i (λ z. no_held (filter_at t i j) (w.bearers.empty i j a c z) f)))
            ∙ e ∙ ap (connection_of m) (other m (λ z. no_held (filter_at t m l) (w.bearers.empty m l b d z) g))) f g h;
      }
    where
      as_idle : (i : ℕ) → eqb i k ≡ true → role_at t i ≡ Idle
      as_idle i e = ap (role_at t) ((says_eq i k).to e) ∙ idle

      before : (i : ℕ) → (opened_view t k role).role i ≡ Idle → (b : Bool) → eqb i k ≡ b → role_at t i ≡ Idle
      before i h true e = as_idle i e
      before i h false e = rw e at h

      -- an active bearer is as it was
      other : (i : ℕ) → (role_at t i ≡ Idle → ⊥) → (opened_view t k role).role i ≡ role_at t i
      other i n = rw (says_no (says_eq i k) (λ e. n (ap (role_at t) e ∙ idle)))

      linked : (i link : ℕ) → i < bearer_count → (b : Bool) → eqb i k ≡ b → pick (eqb i k) role (role_at t i) ≡ Dedicated link → ActiveDefault (role_at t) link
      linked i link l true e h = fits link (rw e at h)
      linked i link l false e h = w.bearers.linked i link l (rw e at h)

  pub well_default : Well (opened_view t k Default)
  well_default = well_opened Default (λ link e. never refl (ap is_default e))

  pub well_dedicated : (link : ℕ) → ActiveDefault (role_at t) link → Well (opened_view t k (Dedicated link))
  well_dedicated link h = well_opened (Dedicated link) (λ other e. let q : link ≡ other = cc in subst (ActiveDefault (role_at t)) q h)

-- ---- bearers gone
-- a default takes its dedicated bearers along
abbrev pub Along : Table → (ℕ → Bool) → Type 0
Along t gone = (i k : ℕ) → i < bearer_count → k < bearer_count → role_at t i ≡ Default → role_at t k ≡ Dedicated (identity_of i) → gone i ≡ true → gone k ≡ true

module _ (t : Table) (w : WellFormed t) (gone : ℕ → Bool) (along : Along t gone) where
  pub well_cut : Well (cut_view t gone)
  well_cut =
      well_less (view t) (cut_view t gone) w.bearers
      (λ i l. record { role = void i (gone i) refl; transaction = either_stands (gone i) 0 (transaction_at t i); filter = λ j m. either_stands (gone i) empty_filter (filter_at t i j) })
      (λ i link l a b r h d. links i link l a b r d h (gone (index_of link)) refl)
    where
      void : (i : ℕ) (b : Bool) → gone i ≡ b → ((cut_view t gone).role i ≡ role_at t i) ⊎ Void (cut_view t gone) i
      void i true e = inr (record { role = rw e; transaction = rw e; filter = λ j m. rw e })
      void i false e = inl (rw e)

      links : (i link : ℕ) → i < bearer_count → first_identity ≤ link → link ≤ last_identity → role_at t i ≡ Dedicated link → role_at t (index_of link) ≡ Default
          → (cut_view t gone).role i ≡ Dedicated link → (b : Bool) → gone (index_of link) ≡ b → (cut_view t gone).role (index_of link) ≡ Default
      links i link l a b r d h false e = rw e d
      links i link l a b r d h true e =
          let q : link ≡ identity_of (index_of link) = omega arith in
          let g = along (index_of link) i (omega arith) l d (r ∙ ap Dedicated q) e in
          let z : (cut_view t gone).role i ≡ Idle = rw g in
          never (ap is_idle z) (ap is_idle h)

module _ (t : Table) where
  pub of_says : (connection i : ℕ) → Says (of_connection t connection i) (connection_at t i ≡ connection)
  unfolding of_connection
  of_says connection i = says_eq (connection_at t i) connection

  pub along_connection : (connection : ℕ) → Along t (of_connection t connection)
  along_connection connection i k a b d r g =
      (of_says connection k).from (ap (connection_of k) r ∙ sym (ap (connection_of i) d) ∙ (of_says connection i).to g)

  pub along_dedicated : (k link : ℕ) → role_at t k ≡ Dedicated link → Along t (is_at k)
  unfolding is_at
  along_dedicated k link r i m a b d s g = never (ap is_default d) (ap is_default (ap (role_at t) ((says_eq i k).to g) ∙ r))

  module _ (w : WellFormed t) where
    pub well_connection : (connection : ℕ) → Well (cut_view t (of_connection t connection))
    well_connection connection = well_cut t w (of_connection t connection) (along_connection connection)

    pub well_without : (k link : ℕ) → role_at t k ≡ Dedicated link → Well (cut_view t (is_at k))
    well_without k link r = well_cut t w (is_at k) (along_dedicated k link r)

    pub dropped_well : (bearer : ℕ) → WellFormed (dropped t bearer)
    unfolding dropped
    dropped_well bearer = go (role_of t bearer) refl
      where
        -- an active bearer's identity is in range
        at : (link : ℕ) (b : Bool) → pick b (role_at t (index_of bearer)) Idle ≡ Dedicated link → role_at t (index_of bearer) ≡ Dedicated link
        at link true e = e
        at link false e = never refl (ap is_idle e)

        go : (r : Role) → role_of t bearer ≡ r → WellFormed (dropped_by r t bearer)
        go Idle e = w
        go Default e = well_built (cut_view t (of_connection t bearer)) (well_connection bearer)
        go (Dedicated link) e = well_built (cut_view t (is_at (index_of bearer))) (well_without (index_of bearer) link (at link (is_identity bearer) e))

-- ---- filters gone
pub well_deleted : (t : Table) → WellFormed t → (k : ℕ) (marks : List Bool) → Well (deleted_view t k marks)
unfolding deleted_in
well_deleted t w k marks =
    well_less (view t) (deleted_view t k marks) w.bearers
    (λ i l. record { role = inl refl; transaction = inl refl; filter = λ j m. either_stands (eqb i k && get_or marks j false) empty_filter (filter_at t i j) })
    (λ i link l a b r h d. d)

-- ---- new filters
-- a new set: no two filters of one precedence, nothing at all in a place that holds none, each filter well coded and fit by some packet
pub record WellSet (new : List Filter) : Type 0 where
  pub distinct : (j l : ℕ) → j < place_count → l < place_count → Held (in_row new j) → Held (in_row new l) → (in_row new j).precedence ≡ (in_row new l).precedence → j ≡ l
  pub zeroed : (j : ℕ) → j < place_count → (Held (in_row new j) → ⊥) → in_row new j ≡ empty_filter
  pub coded : (j : ℕ) → j < place_count → Held (in_row new j) → well_coded (in_row new j) ≡ true
  pub fitted : (j : ℕ) → j < place_count → Held (in_row new j) → SomePacketFits (in_row new j)

pub takes_says : (new : List Filter) (p : ℕ) → Says (takes new p) (Taken new p)
unfolding takes taken_by
takes_says new p = says_any place_count (λ l m. says_and (says_it (held (in_row new l))) (says_eq (in_row new l).precedence p))

pub conflict_says : (new : List Filter) {connected : Bool} {P : Type 0} → Says connected P → (f : Filter) → Says (conflict new connected f) ((P × Held f) × Taken new f.precedence)
unfolding conflict
conflict_says new s f = says_and (says_and s (says_it (held f))) (takes_says new f.precedence)

pub pick_same : {A : Type 0} (b : Bool) (x : A) → pick b x x ≡ x
pick_same true x = refl
pick_same false x = refl

-- at one place: the new filter, or the old one without a conflict, or nothing
module _ (new : List Filter) (create named connected : Bool) (n f : Filter) where
  pub record New : Type 0 where
    pub on : named ≡ true
    pub has : Held n
    pub is : placed new create (so named connected) n f ≡ n

  pub record Old : Type 0 where
    pub is : placed new create (so named connected) n f ≡ f
    pub clear : conflict new connected f ≡ false

  pub placed_cases : New ⊎ (Old ⊎ (placed new create (so named connected) n f ≡ empty_filter))
  unfolding placed old
  placed_cases = go (named && held n) (named && (create || held n)) (conflict new connected f) refl refl refl
    where
      go : (b c d : Bool) → named && held n ≡ b → named && (create || held n) ≡ c → conflict new connected f ≡ d → New ⊎ (Old ⊎ (placed new create (so named connected) n f ≡ empty_filter))
      go true c d p q r = let h = both named (held n) p in inl (record { on = h.0; has = h.1; is = rw p })
      go false true d p q r = inr (inr (rw (p, q) (pick_same (conflict new connected empty_filter) empty_filter)))
      go false false true p q r = inr (inr (rw (p, q, r)))
      go false false false p q r = inr (inl (record { is = rw (p, q, r); clear = r }))

module _ (new : List Filter) (create : Bool) (t : Table) (k connection : ℕ) where
  abbrev after : ℕ → ℕ → Filter
  after i j = (laid_view new create t k connection).filter i j

  abbrev pub NewAt : ℕ → ℕ → Type 0
  NewAt i j = New new create (eqb i k) (of_connection t connection i) (in_row new j) (filter_at t i j)

  abbrev pub OldAt : ℕ → ℕ → Type 0
  OldAt i j = Old new create (eqb i k) (of_connection t connection i) (in_row new j) (filter_at t i j)

  abbrev pub Cases : ℕ → ℕ → Type 0
  Cases i j = NewAt i j ⊎ (OldAt i j ⊎ (after i j ≡ empty_filter))

  pub laid_cases : (i j : ℕ) → Cases i j
  unfolding placed_in
  laid_cases i j = placed_cases new create (eqb i k) (of_connection t connection i) (in_row new j) (filter_at t i j)

  module _ (w : WellFormed t) (active : role_at t k ≡ Idle → ⊥) (of : connection ≡ connection_at t k) (ok : WellSet new) where
    named : (i j : ℕ) → NewAt i j → i ≡ k
    named i j x = (says_eq i k).to x.on

    -- no new filter has the precedence of an old one of the connection that stays
    clash : {A : Type 0} (i m j l : ℕ) → NewAt i j → OldAt m l → connection_at t m ≡ connection_at t i → j < place_count → Held (after m l)
        → (after i j).precedence ≡ (after m l).precedence → A
    unfolding placed_in
    clash i m j l x y q c h e =
        absurd (says_ne (conflict_says new (of_says t connection m) (filter_at t m l)) y.clear
        ((q ∙ ap (connection_at t) (named i j x) ∙ sym of, sym (ap held y.is) ∙ h), record { at = j; below = c; holds = (x.has, sym (ap rank x.is) ∙ e ∙ ap rank y.is) }))

    two : (i m j l : ℕ) → i < bearer_count → m < bearer_count → j < place_count → l < place_count → connection_at t i ≡ connection_at t m → Held (after i j) → Held (after m l)
        → (after i j).precedence ≡ (after m l).precedence → Cases i j → Cases m l → (i ≡ m) × (j ≡ l)
    unfolding placed_in
    two i m j l a b c d e f g h (inl x) (inl y) = (named i j x ∙ sym (named m l y), ok.distinct j l c d x.has y.has (sym (ap rank x.is) ∙ h ∙ ap rank y.is))
    two i m j l a b c d e f g h (inl x) (inr (inl y)) = clash i m j l x y (sym e) c g h
    two i m j l a b c d e f g h (inr (inl x)) (inl y) = clash m i l j y x e d f (sym h)
    two i m j l a b c d e f g h (inr (inl x)) (inr (inl y)) =
        w.bearers.distinct i m j l a b c d e (sym (ap held x.is) ∙ f) (sym (ap held y.is) ∙ g) (sym (ap rank x.is) ∙ h ∙ ap rank y.is)
    two i m j l a b c d e f g h (inl x) (inr (inr z)) = no_held (after m l) z g
    two i m j l a b c d e f g h (inr (inl x)) (inr (inr z)) = no_held (after m l) z g
    two i m j l a b c d e f g h (inr (inr z)) y = no_held (after i j) z f

    fine_laid : (i j : ℕ) → i < bearer_count → j < place_count → Fine (after i j)
    unfolding placed_in
    fine_laid i j l m =
        ⊎_elim (λ x. subst Fine (sym x.is) (record { zeroed = ok.zeroed j m; coded = ok.coded j m; fitted = ok.fitted j m }))
        (⊎_elim (λ x. subst Fine (sym x.is) (fine_at_lem (view t) w.bearers i j l m)) (λ z. subst Fine (sym z) fine_empty)) (laid_cases i j)

    pub well_laid : Well (laid_view new create t k connection)
    unfolding placed_in
    well_laid =
        record {
          silent = w.bearers.silent;
          empty = λ i j l m h.
              ⊎_elim (λ x. absurd (active (sym (ap (role_at t) (named i j x)) ∙ h))) (⊎_elim (λ x. x.is ∙ w.bearers.empty i j l m h) (λ z. z)) (laid_cases i j);
          linked = w.bearers.linked;
          small = w.bearers.small;
          single = w.bearers.single;
          zeroed = λ i j l m. (fine_laid i j l m).zeroed;
          coded = λ i j l m. (fine_laid i j l m).coded;
          fitted = λ i j l m. (fine_laid i j l m).fitted;
          distinct = λ i m j l a b c d e f g h. two i m j l a b c d e f g h (laid_cases i j) (laid_cases m l);
        }

-- new filters on an active bearer, whether or not the connection is released
pub laid_well : (t : Table) (bearer : ℕ) (new : List Filter) (create : Bool) → WellFormed t → (role_at t (index_of bearer) ≡ Idle → ⊥) → WellSet new
    → WellFormed (lay_of t bearer new create).table
unfolding lay_of lay_within
laid_well t bearer new create w active ok = go (released new create t (index_of bearer) (connection_at t (index_of bearer)))
  where
    go : (b : Bool) → WellFormed (lay_or_release b t bearer (connection_at t (index_of bearer)) new create).table
    go true = well_built (cut_view t (of_connection t (connection_at t (index_of bearer)))) (well_connection t w (connection_at t (index_of bearer)))
    go false =
        well_built (laid_view new create t (index_of bearer) (connection_at t (index_of bearer)))
        (well_laid new create t (index_of bearer) (connection_at t (index_of bearer)) w active refl ok)
