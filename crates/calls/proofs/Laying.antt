-- What new filters on a bearer do to a table: its other bearers, the follow-up list, the release of a connection.
use mathlib.Core.Path.{◌≡◌, refl, sym, ◌∙◌, ap, subst}
use mathlib.Core.Bool.{Bool, true, false, ◌&&◌, ◌||◌}
use mathlib.Core.Logic.{inl, inr, ⊎_elim}
use mathlib.Core.List.{List, []}
use Prim.Native.Nat.{ℕ, ◌<◌}
use native.Mathlib.Omega.{arith}
use lib.Dec.{eqb}
use lib.ListN.{length, get_or}
use Rattle.laws.specs.Says.{pick, Says}
use Rattle.laws.specs.Index.{SomeBelow, picks, pad}
use Rattle.laws.proofs.Says.{which, says_it, says_eq, says_and, says_or, says_not, says_any, says_so, says_no, says_ne}
use Rattle.laws.proofs.Index.{tab_is, picks_in, picks_all, picks_rise, picks_le, pad_at, pad_rest}
use Rattle.filter.specs.declared.component.Filter.{Filter}
use Rattle.filter.specs.Coding.{held}
use Rattle.table.specs.declared.bearer.Role.{Role}
use Rattle.table.specs.declared.bearer.Role.TheVariants.{Idle, Default, Dedicated}
use Rattle.table.specs.declared.bearer.Bearer.{Bearer}
use Rattle.table.specs.declared.bearer.Table.{Table}
use Rattle.filter.specs.Sizes.{place_count}
use Rattle.filter.specs.Build.{empty_filter}
use Rattle.table.specs.Bearers.{bearer_count, index_of, identity_of, bearer_at, in_row, role_at, transaction_at, filter_at, connection_at}
use Rattle.table.specs.Tables.{View, view, build}
use Rattle.table.specs.WellFormed.{WellFormed}
use Rattle.table.proofs.Meaning.{default_says, dedicated_says}
use Rattle.calls.proofs.Conflicts.{so}
use Rattle.calls.specs.declared.reply.Answer.{Answer}
use Rattle.calls.specs.declared.reply.Answer.TheVariants.{Accept, Release, Reattach}
use Rattle.calls.specs.declared.reply.FollowUps.{FollowUps}
use Rattle.calls.specs.declared.reply.Outcome.{Outcome}
use Rattle.calls.specs.Reply.{follow_of}
use Rattle.calls.specs.Steps.{home}
use Rattle.table.specs.Changes.{cut_view, of_connection}
use Rattle.calls.specs.Lay.{old, conflict, placed, conflict_in, loses, placed_in, loses_at, conflict_on_default, follows, laid_view, released, followers}
use Rattle.calls.specs.Lay.{other_at, only_connection, lay_or_release, lay_within, lay_of}
use Rattle.calls.proofs.Views.{bearer_built, role_built, transaction_built, filter_built}
use Rattle.calls.specs.Changes.{Listed, Lists, IsDedicated, Only, IsRelease, TakenAt, Trimmed, Conflict, Follows, DefaultLoses, Void, EndsConnection}
use Rattle.calls.proofs.Preserved.{no_held, of_says, conflict_says}

-- ---- a follow-up list
module _ (p : ℕ → Bool) (P : ℕ → Type 0) (says : (i : ℕ) → i < bearer_count → Says (p i) (P i)) where
  lists : Lists P (follow_of (picks p identity_of bearer_count))
  lists =
      let few = picks_le p identity_of bearer_count in
      let at : (m : ℕ) → m < length (picks p identity_of bearer_count)
      → get_or (pad bearer_count (picks p identity_of bearer_count)) m 0 ≡ get_or (picks p identity_of bearer_count) m 0 =
      λ m l. pad_at bearer_count (picks p identity_of bearer_count) m (omega arith) in
      record {
        few = few;
        each = λ m l. let r = picks_in p identity_of bearer_count (get_or (picks p identity_of bearer_count) m 0) (record { at = m; below = l; holds = refl }) in
            record { at = r.at; below = r.below; holds = ((says r.at r.below).to r.holds.0, at m l ∙ sym r.holds.1) };
        all = λ i l q. let r = picks_all p identity_of bearer_count i l ((says i l).from q) in
            record { at = r.at; below = r.below; holds = at r.at r.below ∙ r.holds };
        rising = λ m n l q. omega (arith, at m (omega arith), at n q, picks_rise p identity_of (λ i k u. omega arith) bearer_count m n l q);
        rest = pad_rest bearer_count (picks p identity_of bearer_count);
      }

pub lists_as : {P Q : ℕ → Type 0} {f : FollowUps} → ((i : ℕ) → i < bearer_count → P i → Q i) → ((i : ℕ) → i < bearer_count → Q i → P i) → Lists P f → Lists Q f
lists_as to from h =
    record {
      few = h.few;
      each = λ m l. let r = h.each m l in record { at = r.at; below = r.below; holds = (to r.at r.below r.holds.0, r.holds.1) };
      all = λ i l q. h.all i l (from i l q);
      rising = h.rising;
      rest = h.rest;
    }

-- a bearer without P is not in it
pub unlisted : {P : ℕ → Type 0} {f : FollowUps} → Lists P f → (i : ℕ) → (P i → ⊥) → Listed f i → ⊥
unlisted {P} {f} h i n q =
    let r = h.each q.at q.below in
    let e : r.at ≡ i = omega (arith, r.holds.1, q.holds) in
    n (subst P e r.holds.0)

-- ---- bearers as they were
bearer_is : (b : Bearer) (role : Role) (transaction : ℕ) (row : List Filter) → role ≡ b.role → transaction ≡ b.transaction → row ≡ b.row
    → record { role = role; transaction = transaction; row = row } ≡ b
bearer_is b role transaction row p q r = rw (p, q, r)

-- a bearer in a table that is made from a view, where the view has all of it
module _ (t : Table) (v : View) (i : ℕ) (l : i < bearer_count) (long : length (bearer_at t i).row ≡ place_count)
    (filter : (j : ℕ) → j < place_count → v.filter i j ≡ filter_at t i j) where
  pub row_as : (bearer_at (build v) i).row ≡ (bearer_at t i).row
  row_as =
      ap (λ (b : Bearer). b.row) (bearer_built v i l)
      ∙ sym (tab_is empty_filter (v.filter i) (bearer_at t i).row place_count long (λ j m. sym (filter j m)))

  pub bearer_as : v.role i ≡ role_at t i → v.transaction i ≡ transaction_at t i → bearer_at (build v) i ≡ bearer_at t i
  bearer_as role transaction =
      bearer_is (bearer_at t i) (role_at (build v) i) (transaction_at (build v) i) (bearer_at (build v) i).row (role_built v i l ∙ role)
      (transaction_built v i l ∙ transaction) row_as

-- ---- the answer where a connection is released
pub only_says : (t : Table) (connection : ℕ) → Says (only_connection t connection) (Only t connection)
unfolding only_connection other_at
only_says t connection =
    says_so (says_not (says_any bearer_count (λ i l. says_and (default_says (role_at t i)) (says_not (says_eq (identity_of i) connection)))))
    (λ n i l d. ⊎_elim (λ e. (says_eq (identity_of i) connection).to e)
    (λ e. absurd (n (record { at = i; below = l; holds = (d, says_ne (says_eq (identity_of i) connection) e) }))) (which (eqb (identity_of i) connection)))
    (λ h q. q.holds.1 (h q.at q.below q.holds.0))

release_picked : (t : Table) (connection : ℕ) → IsRelease t connection (pick (only_connection t connection) Reattach (Release connection))
release_picked t connection =
    ⊎_elim (λ e. inl ((only_says t connection).to e, rw e)) (λ e. inr (says_ne (only_says t connection) e, rw e)) (which (only_connection t connection))

-- what holds of either answer
pub release_by : (P : Answer → Type 0) (t : Table) (connection : ℕ) (a : Answer) → P Reattach → P (Release connection) → IsRelease t connection a → P a
release_by P t connection a p q = ⊎_elim (λ r. subst P (sym r.1) p) (λ r. subst P (sym r.1) q)

-- ---- new filters on the bearer that is named
module _ (t : Table) (bearer : ℕ) (new : List Filter) where
  -- a bearer that is not named, where the connection stays
  pub record Frame (o : Outcome) (i : ℕ) : Type 0 where
    pub role : role_at o.table i ≡ role_at t i
    pub transaction : transaction_at o.table i ≡ transaction_at t i
    pub filters : Trimmed t (home t bearer) new o.table i
    pub listed : SomeBelow place_count (TakenAt t (home t bearer) new i) → IsDedicated t i × Listed o.reply.follow i

  pub taken_says : (i j : ℕ) → Says (conflict new (of_connection t (home t bearer) i) (filter_at t i j)) (TakenAt t (home t bearer) new i j)
  taken_says i j = conflict_says new (of_says t (home t bearer) i) (filter_at t i j)

  module _ (create : Bool) where
    abbrev pub releases : Bool
    releases = released new create t (index_of bearer) (home t bearer)

    abbrev pub laid_here : View
    laid_here = laid_view new create t (index_of bearer) (home t bearer)

    abbrev cut_here : View
    cut_here = cut_view t (of_connection t (home t bearer))

    pub laid_by : (b : Bool) → releases ≡ b → lay_of t bearer new create ≡ lay_or_release b t bearer (home t bearer) new create
    unfolding lay_of lay_within
    laid_by b h = ap (λ (b : Bool). lay_or_release b t bearer (home t bearer) new create) h

    -- THE FOLLOW-UPS
    pub conflict_at : (i j : ℕ)
        → Says (conflict_in new create (so (eqb i (index_of bearer)) (of_connection t (home t bearer) i)) (bearer_at t i).row j)
        (Conflict t (home t bearer) new bearer create i j)
    unfolding conflict_in old
    conflict_at i j =
        go (eqb i (index_of bearer) && (create || held (in_row new j)))
        (says_and (says_eq i (index_of bearer)) (says_or (says_it create) (says_it (held (in_row new j)))))
      where
        go : {B : Type 0} (b : Bool) → Says b B
            → Says (conflict new (of_connection t (home t bearer) i) (pick b empty_filter (filter_at t i j))) ((B → ⊥) × TakenAt t (home t bearer) new i j)
        go true s = record {
          to = λ h. no_held empty_filter refl ((conflict_says new (of_says t (home t bearer) i) empty_filter).to h).0.1;
          from = λ q. absurd (q.0 (s.to refl));
        }
        go false s = says_so (taken_says i j) (λ q. (says_ne s refl, q)) (λ q. q.1)

    loses_at_lem : (i : ℕ) → Says (loses_at new create t (index_of bearer) (home t bearer) i) (SomeBelow place_count (Conflict t (home t bearer) new bearer create i))
    unfolding loses_at loses
    loses_at_lem i = says_any place_count (λ j m. conflict_at i j)

    pub loses_says : (i : ℕ) → Says (follows new create t (index_of bearer) (home t bearer) i) ((Follows t (home t bearer) new bearer create) i)
    unfolding follows
    loses_says i = says_and (dedicated_says (role_at t i)) (loses_at_lem i)

    -- the connection is released exactly where its default loses a filter
    pub releases_says : Says releases (DefaultLoses t (home t bearer) new bearer create)
    unfolding released conflict_on_default
    releases_says = says_any bearer_count (λ i l. says_and (default_says (role_at t i)) (loses_at_lem i))

    -- where it stays, the list is exactly the dedicated bearers of the connection that lose a filter to a conflict
    pub follow_ups : releases ≡ false → Lists (Follows t (home t bearer) new bearer create) (lay_of t bearer new create).reply.follow
    unfolding followers
    follow_ups h =
        subst (λ (o : Outcome). Lists (Follows t (home t bearer) new bearer create) o.reply.follow) (sym (laid_by false h))
        (lists (follows new create t (index_of bearer) (home t bearer)) (Follows t (home t bearer) new bearer create) (λ i l. loses_says i))

    -- THE FRAME. On a bearer that is not named
    other : (i j : ℕ) → (i ≡ index_of bearer → ⊥)
        → laid_here.filter i j ≡ pick (conflict new (of_connection t (home t bearer) i) (filter_at t i j)) empty_filter (filter_at t i j)
    unfolding placed_in placed old
    other i j n = rw (says_no (says_eq i (index_of bearer)) n)

    other_stays : (i j : ℕ) → (i ≡ index_of bearer → ⊥) → (TakenAt t (home t bearer) new i j → ⊥) → laid_here.filter i j ≡ filter_at t i j
    other_stays i j n q = other i j n ∙ ap (λ (b : Bool). pick b empty_filter (filter_at t i j)) (says_no (taken_says i j) q)

    -- who loses a filter is active, and no default, else the connection would be released
    loser : WellFormed t → releases ≡ false → (i : ℕ) → i < bearer_count → SomeBelow place_count (Conflict t (home t bearer) new bearer create i) → IsDedicated t i
    loser w h i l c = go (role_at t i) refl
      where
        go : (r : Role) → role_at t i ≡ r → IsDedicated t i
        go Idle e = no_held (filter_at t i c.at) (w.bearers.empty i c.at l c.below e) c.holds.1.0.1
        go Default e = absurd (says_ne releases_says h (record { at = i; below = l; holds = (e, c) }))
        go (Dedicated link) e = (link, e)

    pub frame : WellFormed t → releases ≡ false → (i : ℕ) → i < bearer_count → (i ≡ index_of bearer → ⊥) → Frame (lay_of t bearer new create) i
    frame w h i l n =
        let at : (j : ℕ) → j < place_count → filter_at (lay_of t bearer new create).table i j ≡ laid_here.filter i j =
        λ j m. ap (λ (o : Outcome). filter_at o.table i j) (laid_by false h) ∙ filter_built laid_here i l j m in
        record {
          role = ap (λ (o : Outcome). role_at o.table i) (laid_by false h) ∙ role_built laid_here i l;
          transaction = ap (λ (o : Outcome). transaction_at o.table i) (laid_by false h) ∙ transaction_built laid_here i l;
          filters = record {
            lost = λ j m q. at j m ∙ other i j n ∙ ap (λ (b : Bool). pick b empty_filter (filter_at t i j)) ((taken_says i j).from q);
            stays = λ j m q. at j m ∙ other_stays i j n q;
          };
          listed = λ q. let c : SomeBelow place_count (Conflict t (home t bearer) new bearer create i) =
              record { at = q.at; below = q.below; holds = (λ z. n z.0, q.holds) } in
              let d = loser w h i l c in
              (d, (follow_ups h).all i l (d, c));
        }

    -- THE RELEASE. Every bearer of the connection is idle, with no transaction and no filters
    pub released_void : releases ≡ true → (i : ℕ) → i < bearer_count → connection_at t i ≡ home t bearer → Void (view (lay_of t bearer new create).table) i
    released_void h i l e =
        let g = (of_says t (home t bearer) i).from e in
        subst (λ (o : Outcome). Void (view o.table) i) (sym (laid_by true h))
        (record {
          role = role_built cut_here i l ∙ ap (λ (b : Bool). pick b Idle (role_at t i)) g;
          transaction = transaction_built cut_here i l ∙ ap (λ (b : Bool). pick b 0 (transaction_at t i)) g;
          filter = λ j m. filter_built cut_here i l j m ∙ ap (λ (b : Bool). pick b empty_filter (filter_at t i j)) g;
        })

    -- .. and has the row that it had, where that held nothing
    pub released_row : releases ≡ true → (i : ℕ) → i < bearer_count → length (bearer_at t i).row ≡ place_count → connection_at t i ≡ home t bearer
        → ((j : ℕ) → j < place_count → filter_at t i j ≡ empty_filter) → (bearer_at (lay_of t bearer new create).table i).row ≡ (bearer_at t i).row
    released_row h i l long e none =
        ap (λ (o : Outcome). (bearer_at o.table i).row) (laid_by true h)
        ∙ row_as t cut_here i l long (λ j m. ap (λ (b : Bool). pick b empty_filter (filter_at t i j)) ((of_says t (home t bearer) i).from e) ∙ sym (none j m))

    pub released_answer : releases ≡ true → IsRelease t (home t bearer) (lay_of t bearer new create).reply.answer
    released_answer h =
        subst (λ (o : Outcome). IsRelease t (home t bearer) o.reply.answer) (sym (laid_by true h)) (release_picked t (home t bearer))

    pub released_none : releases ≡ true → (lay_of t bearer new create).reply.follow ≡ follow_of []
    released_none h = ap (λ (o : Outcome). o.reply.follow) (laid_by true h)

    pub laid_answer : releases ≡ false → (lay_of t bearer new create).reply.answer ≡ Accept bearer
    laid_answer h = ap (λ (o : Outcome). o.reply.answer) (laid_by false h)

    -- the answer tells which
    pub ends_says : Says releases (EndsConnection (lay_of t bearer new create).reply.answer)
    ends_says =
        record {
          to = λ h. release_by EndsConnection t (home t bearer) (lay_of t bearer new create).reply.answer tt tt (released_answer h);
          from = λ q. ⊎_elim (λ h. h) (λ h. absurd (subst EndsConnection (laid_answer h) q)) (which releases);
        }

    -- where it stays, a bearer that loses nothing is as it was
    pub untouched : releases ≡ false → (i : ℕ) → i < bearer_count → length (bearer_at t i).row ≡ place_count → (i ≡ index_of bearer → ⊥)
        → (SomeBelow place_count (TakenAt t (home t bearer) new i) → ⊥) → bearer_at (lay_of t bearer new create).table i ≡ bearer_at t i
    untouched h i l long ne n =
        ap (λ (o : Outcome). bearer_at o.table i) (laid_by false h)
        ∙ bearer_as t laid_here i l long (λ j m. other_stays i j ne (λ q. n (record { at = j; below = m; holds = q }))) refl refl

    -- OTHER CONNECTIONS. Their bearers are as they were, released or not
    pub others : (i : ℕ) → i < bearer_count → length (bearer_at t i).row ≡ place_count → (connection_at t i ≡ home t bearer → ⊥)
        → bearer_at (lay_of t bearer new create).table i ≡ bearer_at t i
    others i l long n = go releases refl
      where
        g : of_connection t (home t bearer) i ≡ false
        g = says_no (of_says t (home t bearer) i) n

        go : (b : Bool) → releases ≡ b → bearer_at (lay_of t bearer new create).table i ≡ bearer_at t i
        go true h =
            ap (λ (o : Outcome). bearer_at o.table i) (laid_by true h)
            ∙ bearer_as t cut_here i l long (λ j m. ap (λ (b : Bool). pick b empty_filter (filter_at t i j)) g) (ap (λ (b : Bool). pick b Idle (role_at t i)) g)
            (ap (λ (b : Bool). pick b 0 (transaction_at t i)) g)
        go false h = untouched h i l long (λ e. n (ap (connection_at t) e)) (λ q. n q.holds.0.0)
