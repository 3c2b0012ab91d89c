-- What a modify message and a dedicated activation do to the bearers that they do not name, what their follow-up list holds, and where they release a
-- connection: each is said of the ends that both have, once.
use mathlib.Core.Path.{◌≡◌, refl, sym, ◌∙◌, ap, subst}
use mathlib.Core.Bool.{Bool, true, false}
use mathlib.Core.Logic.{◌⊎◌, inl, inr, ⊎_elim}
use mathlib.Core.List.{List, []}
use Prim.Native.Nat.{ℕ, ◌<◌}
use native.Mathlib.Nat.{not-suc-le-zero}
use native.Mathlib.Omega.{arith}
use lib.Dec.{eqb}
use lib.ListN.{length}
use Rattle.laws.specs.Says.{Says}
use Rattle.laws.specs.Index.{any_below, SomeBelow}
use Rattle.laws.proofs.Says.{which, never, says_eq, says_any, says_no, says_ne, says_so}
use Rattle.filter.specs.declared.component.Filter.{Filter}
use Rattle.filter.specs.Sizes.{place_count}
use Rattle.filter.specs.Build.{empty_filter}
use Rattle.filter.specs.Coding.{held}
use Rattle.element.specs.declared.answer.SetOperation.{SetOperation}
use Rattle.element.specs.Read.{read_element}
use Rattle.table.specs.declared.bearer.Role.{Role}
use Rattle.table.specs.declared.bearer.Role.TheVariants.{Default}
use Rattle.table.specs.declared.bearer.Table.{Table}
use Rattle.table.specs.Bearers.{bearer_count, index_of, identity_of, bearer_at, role_at, filter_at, is_idle, is_dedicated, connection_of, connection_at}
use Rattle.table.specs.WellFormed.{Held}
use Rattle.table.specs.Ranges.{TableInRange}
use Rattle.calls.specs.declared.reply.Answer.{Answer}
use Rattle.calls.specs.declared.reply.Answer.TheVariants.{Accept, Reject, Release, Reattach, Started, Closed, Synchronised, Refused}
use Rattle.calls.specs.declared.reply.FollowUps.{FollowUps}
use Rattle.calls.specs.declared.reply.Outcome.{Outcome}
use Rattle.calls.specs.Reply.{number_of, follow_of, answered}
use Rattle.calls.specs.Steps.{home}
use Rattle.table.specs.Changes.{of_connection}
use Rattle.calls.specs.Lay.{conflict, lay_of}
use Rattle.calls.specs.Modify.{creates, modify_of}
use Rattle.calls.specs.Others.{activate_dedicated_of}
use Rattle.calls.specs.Changes.{Listed, Lists, Only, IsRelease, Taken, TakenAt, Conflict, Follows, DefaultLoses, Stays, Shortened, Unnamed}
use Rattle.calls.specs.Changes.{stays, shortened, gone, Lays, FollowUpList, SendsReply, EndsConnection, ConnectionGoes, Releases}
use Rattle.calls.proofs.Preserved.{no_held}
use Rattle.calls.proofs.Theorems.{laid_number}
use Rattle.calls.proofs.Laying.{lists_as, unlisted, release_by, taken_says, releases, releases_says, ends_says, follow_ups, frame}
use Rattle.calls.proofs.Laying.{released_void, released_row, released_answer, released_none, laid_answer, untouched, others}
use Rattle.calls.proofs.Messages.{rejects_number, closing_on, stays_on, filter_as, Ready, Ends, modify_ends, activate_ends}

-- ---- two tables that are as one for the conflicts of a connection, which is c in t and d in s
-- the bearer holds nothing, and is no default
record Aside (t : Table) (i : ℕ) : Type 0 where
  holds : (j : ℕ) → j < place_count → filter_at t i j ≡ empty_filter
  role : role_at t i ≡ Default → ⊥

record AlikeAt (t s : Table) (i : ℕ) : Type 0 where
  role : role_at s i ≡ role_at t i
  row : (bearer_at s i).row ≡ (bearer_at t i).row

record Alike (t : Table) (c : ℕ) (s : Table) (d : ℕ) : Type 0 where
  one : d ≡ c
  bearers : (i : ℕ) → i < bearer_count → AlikeAt t s i ⊎ (Aside t i × Aside s i)

back : {t s : Table} {c d : ℕ} → Alike t c s d → Alike s d t c
back a =
    record {
      one = sym a.one;
      bearers = λ i l. ⊎_elim (λ h. inl (record { role = sym h.role; row = sym h.row })) (λ h. inr (h.1, h.0)) (a.bearers i l);
    }

module _ {t s : Table} {c d : ℕ} (same : Alike t c s d) where
  -- a bearer that holds a filter is the same in both
  holding : (i : ℕ) → i < bearer_count → (j : ℕ) → j < place_count → Held (filter_at s i j) → AlikeAt t s i
  holding i l j m h = ⊎_elim (λ a. a) (λ a. no_held (filter_at s i j) (a.1.holds j m) h) (same.bearers i l)

  only_as : Only s d → Only t c
  only_as h i l e = ⊎_elim (λ a. h i l (a.role ∙ e) ∙ same.one) (λ a. absurd (a.0.role e)) (same.bearers i l)

  module _ (new : List Filter) where
    taken_as : (i : ℕ) → i < bearer_count → (j : ℕ) → j < place_count → TakenAt s d new i j → TakenAt t c new i j
    taken_as i l j m h =
        let a = holding i l j m h.0.1 in
        let f = filter_as t s i j a.row in (
          (sym (ap (connection_of i) a.role) ∙ h.0.0 ∙ same.one, sym (ap held f) ∙ h.0.1),
          subst (λ (f : Filter). Taken new f.precedence) f h.1,
        )

    module _ (bearer : ℕ) (create : Bool) where
      -- a bearer with a conflict has it in both, and the same role
      conflict_as : (i : ℕ) → i < bearer_count → SomeBelow place_count (Conflict s d new bearer create i)
          → (role_at s i ≡ role_at t i) × SomeBelow place_count (Conflict t c new bearer create i)
      conflict_as i l q = (
        (holding i l q.at q.below q.holds.1.0.1).role,
        record { at = q.at; below = q.below; holds = (q.holds.0, taken_as i l q.at q.below q.holds.1) },
      )

      loses_as : (i : ℕ) → i < bearer_count → Follows s d new bearer create i → Follows t c new bearer create i
      loses_as i l h = let q = conflict_as i l h.1 in ((h.0.0, sym q.0 ∙ h.0.1), q.1)

      default_as : DefaultLoses s d new bearer create → DefaultLoses t c new bearer create
      default_as h = let q = conflict_as h.at h.below h.holds.1 in record { at = h.at; below = h.below; holds = (sym q.0 ∙ h.holds.0, q.1) }

release_as : {t s : Table} {c d : ℕ} → Alike t c s d → (a : Answer) → IsRelease s d a → IsRelease t c a
release_as same a =
    ⊎_elim (λ q. inl (only_as same q.0, q.1)) (λ q. inr (λ o. q.0 (only_as (back same) o), q.1 ∙ ap Release same.one))

-- ---- new filters on a table that is ready for them
module _ (t : Table) (connection bearer x : ℕ) (s : Table) (ready : Ready t connection bearer x s) where
  pub row_same : (i : ℕ) → i < bearer_count → (bearer_at s i).row ≡ (bearer_at t i).row
  row_same i l = ⊎_elim (λ h. h.row) (λ h. h.row) (ready.bearers i l)

  row_long : (i : ℕ) → i < bearer_count → length (bearer_at s i).row ≡ place_count
  row_long i l = ap length (row_same i l) ∙ ready.long i l

  -- a bearer that is opened had no filters and has none, so that it has no part in a conflict
  alike : Alike t connection s (home s bearer)
  alike =
      record {
        one = ready.of;
        bearers = λ i l.
            ⊎_elim (λ h. inl (record { role = h.role; row = h.row }))
            (λ h. inr (
              record { holds = h.void.filter; role = λ e. never (ap is_idle h.void.role) (ap is_idle e) },
              record { holds = λ j m. filter_as t s i j h.row ∙ h.void.filter j m; role = λ e. never (ap is_dedicated h.role) (ap is_dedicated e) },
            )) (ready.bearers i l);
      }

  -- the conflicts of s are those of t
  pub conflict_ready : (new : List Filter) (i : ℕ) → i < bearer_count → (j : ℕ) → j < place_count
      → Says (conflict new (of_connection s (home s bearer) i) (filter_at s i j)) (TakenAt t connection new i j)
  conflict_ready new i l j m = says_so (taken_says s bearer new i j) (taken_as alike new i l j m) (taken_as (back alike) new i l j m)

  module _ (new : List Filter) (create : Bool) where
    abbrev out : Outcome
    out = lay_of s bearer new create

    -- THE RELEASE
    on_default : Says (releases s bearer new create) (DefaultLoses t connection new bearer create)
    on_default = says_so (releases_says s bearer new create) (default_as alike new bearer create) (default_as (back alike) new bearer create)

    goes : releases s bearer new create ≡ true → ConnectionGoes t connection bearer x out
    goes h =
        let answer = released_answer s bearer new create h in
        let void = released_void s bearer new create h in
        record {
          no_reply = release_by (λ (a : Answer). SendsReply a → ⊥) s (home s bearer) out.reply.answer (λ q. q) (λ q. q) answer;
          answer = release_as alike out.reply.answer answer;
          nobody = released_none s bearer new create h;
          connected = λ i l e.
              void i l (⊎_elim (λ k. ap (connection_of i) k.role ∙ e) (λ k. ap (connection_of i) k.role) (ready.bearers i l) ∙ sym ready.of);
          named = void (index_of bearer) ready.inside refl;
          others = λ i l n.
              ⊎_elim (λ k. let other : connection_at s i ≡ home s bearer → ⊥ = λ e. n (sym (ap (connection_of i) k.role) ∙ e ∙ ready.of) in
              stays_on t s out.table x i (others s bearer new create i l (row_long i l) other) k)
              -- the bearer that is opened is of the connection in s, and had nothing: it is idle as before
              (λ k. let e : connection_at s i ≡ home s bearer = ap (connection_of i) k.role ∙ sym ready.of in
              let none : (j : ℕ) → j < place_count → filter_at s i j ≡ empty_filter = λ j m. filter_as t s i j k.row ∙ k.void.filter j m in
              record {
                role = (void i l e).role ∙ sym k.void.role;
                transaction = (λ n. (void i l e).transaction ∙ sym k.void.transaction, λ w q. (void i l e).transaction);
                row = released_row s bearer new create h i l (row_long i l) e none ∙ k.row;
              }) (ready.bearers i l);
        }

    -- A BEARER THAT IS NOT NAMED
    module _ (i : ℕ) (l : i < bearer_count) (other : identity_of i ≡ bearer → ⊥) where
      same : Stays t s x i
      same = ⊎_elim (λ h. h) (λ h. absurd (other h.named)) (ready.bearers i l)

      elsewhere : i ≡ index_of bearer → ⊥
      elsewhere e = other (omega (arith, ready.low))

      abbrev loses : Bool
      loses = any_below (λ j. conflict new (of_connection s (home s bearer) i) (filter_at s i j)) place_count

      loses_says : Says loses (SomeBelow place_count (TakenAt s (home s bearer) new i))
      loses_says = says_any place_count (λ j m. taken_says s bearer new i j)

      short : releases s bearer new create ≡ false → SomeBelow place_count (TakenAt s (home s bearer) new i) → Shortened t connection bearer x new out i
      short h q =
          let f = frame s bearer new create ready.well h i l elsewhere in
          let d = f.listed q in
          record {
            role = f.role ∙ same.role;
            transaction = closing_on t s out.table x i f.transaction same.transaction;
            filters = record {
              lost = λ j m z. f.filters.lost j m (taken_as (back alike) new i l j m z);
              stays = λ j m z. f.filters.stays j m (λ z'. z (taken_as alike new i l j m z')) ∙ filter_as t s i j same.row;
            };
            some = record { at = q.at; below = q.below; holds = taken_as alike new i l q.at q.below q.holds };
            dedicated = (d.0.0, sym same.role ∙ d.0.1);
            listed = d.1;
            answer = laid_answer s bearer new create h;
          }

      unnamed_gone : releases s bearer new create ≡ true → Unnamed t connection bearer x new out i
      unnamed_gone h =
          let g = goes h in
          let in_it = says_eq (connection_at t i) connection in
          ⊎_elim (λ e. let c = in_it.to e in gone (record { connected = c; void = g.connected i l c; answer = g.answer }))
          (λ e. stays (g.others i l (says_ne in_it e)) (λ q. not-suc-le-zero (subst (λ (f : FollowUps). Listed f i) g.nobody q).below))
          (which (eqb (connection_at t i) connection))

      unnamed_laid : releases s bearer new create ≡ false → Unnamed t connection bearer x new out i
      unnamed_laid h =
          ⊎_elim (λ e. shortened (short h (loses_says.to e))) (λ e. let none = says_ne loses_says e in stays
          (stays_on t s out.table x i (untouched s bearer new create h i l (row_long i l) elsewhere none) same)
          (unlisted (follow_ups s bearer new create h) i (λ q. none (record { at = q.1.at; below = q.1.below; holds = q.1.holds.1 })))) (which loses)

-- ---- each end of a message
-- a refusal ends no connection
ends_number : (a : Answer) → EndsConnection a → number_of a ≡ 0
ends_number (Accept bearer) e = refl
ends_number (Reject bearer cause place) e = absurd e
ends_number (Release connection) e = refl
ends_number Reattach e = refl
ends_number (Started transaction) e = refl
ends_number (Closed transaction) e = refl
ends_number Synchronised e = refl
ends_number (Refused refusal) e = absurd e

module _ (t : Table) (connection bearer x : ℕ) (value : List ℕ) where
  abbrev brought : List Filter
  brought = (read_element value).filters

  release_ends : {role : Role} → Ends t connection bearer x role value (Releases t connection bearer x value)
  release_ends =
      record {
        refused = λ u a h _. let n = rejects_number a h in
            record { rejects = λ _. h; exactly = λ z. absurd (n z); accepts = λ z. absurd (n z); goes = λ q. absurd (n (ends_number a q)) };
        without = λ u n _ _.
            record {
              rejects = λ r. absurd (r refl);
              exactly = λ _. (λ q. absurd q, λ q. absurd (n q.operation q.brings));
              accepts = λ _ _. refl;
              goes = λ q. absurd q;
            };
        laid = λ s ready _ operation e.
            let says = on_default t connection bearer x s ready brought (creates operation) in
            let ends = ends_says s bearer brought (creates operation) in
            record {
              rejects = λ r. absurd (r (laid_number s bearer brought (creates operation)));
              exactly = λ _. (
                λ q. record { operation = operation; brings = e; loses = says.to (ends.from q) },
                λ q. let b = q.brings in
                    let z : q.operation ≡ operation = cc in
                    ends.to (says.from (subst (λ (p : SetOperation). DefaultLoses t connection brought bearer (creates p)) z q.loses)),
              );
              accepts = λ _ n. laid_answer s bearer brought (creates operation) (says_no ends n);
              goes = λ q. goes t connection bearer x s ready brought (creates operation) (ends.from q);
            };
      }

  nobody : (o : Outcome) → ((operation : SetOperation) → Lays bearer value o operation → ⊥) → o.reply.follow ≡ follow_of [] → FollowUpList t connection bearer value o
  nobody o n e = record { listed = λ operation h. absurd (n operation h); none = λ _. e }

  follow_ends : {role : Role} → Ends t connection bearer x role value (FollowUpList t connection bearer value)
  follow_ends =
      record {
        refused = λ u a h _. nobody (answered u a) (λ operation q. rejects_number a h (ap number_of q.1)) refl;
        without = λ u n _ _. nobody (answered u (Accept bearer)) (λ operation h. n operation h.0) refl;
        laid = λ s ready _ operation e.
            let create = creates operation in
            let both = alike t connection bearer x s ready in
            ⊎_elim
            (λ h. nobody (lay_of s bearer brought create) (λ _ q. subst EndsConnection q.1 ((ends_says s bearer brought create).to h))
            (released_none s bearer brought create h))
            (λ h.
            record {
              listed = λ p q. let b = q.0 in
                  let z : operation ≡ p = cc in
                  subst (λ (p : SetOperation). Lists (Follows t connection brought bearer (creates p)) (lay_of s bearer brought create).reply.follow) z
                  (lists_as (loses_as both brought bearer create) (loses_as (back both) brought bearer create) (follow_ups s bearer brought create h));
              none = λ n. absurd (n operation (e, laid_answer s bearer brought create h));
            }) (which (releases s bearer brought create));
      }

  module _ (i : ℕ) where
    abbrev Ways : Outcome → Type 0
    Ways o = Unnamed t connection bearer x brought o i

    unnamed_ends : {role : Role} → i < bearer_count → (identity_of i ≡ bearer → ⊥) → Ends t connection bearer x role value Ways
    unnamed_ends l other =
        record {
          refused = λ u a n k. stays (k i l) (λ q. not-suc-le-zero q.below);
          without = λ u n k _. stays (k i l other) (λ q. not-suc-le-zero q.below);
          laid = λ s ready _ operation e.
              ⊎_elim (unnamed_gone t connection bearer x s ready brought (creates operation) i l other)
              (unnamed_laid t connection bearer x s ready brought (creates operation) i l other) (which (releases s bearer brought (creates operation)));
        }

    -- a bearer of another connection is as before
    unnamed_others : (o : Outcome) → (connection_at t i ≡ connection → ⊥) → Ways o → Stays t o.table x i
    unnamed_others o n (stays h none) = h
    unnamed_others o n (shortened h) = absurd (n h.some.holds.0.0)
    unnamed_others o n (gone h) = absurd (n h.connected)

-- ---- modify; new filters are the reader's
module _ (t : Table) (ok : TableInRange t) (bearer x : ℕ) (value : List ℕ) where
  abbrev modified : Outcome
  modified = modify_of t bearer x value

  pub modify_releases : Releases t (home t bearer) bearer x value modified
  modify_releases =
      modify_ends t ok (home t bearer) bearer x value (Releases t (home t bearer) bearer x value) (release_ends t (home t bearer) bearer x value) refl refl

  pub modify_follow : FollowUpList t (home t bearer) bearer value modified
  modify_follow =
      modify_ends t ok (home t bearer) bearer x value (FollowUpList t (home t bearer) bearer value) (follow_ends t (home t bearer) bearer x value) refl refl

  module _ (i : ℕ) (l : i < bearer_count) where
    pub modify_unnamed : (identity_of i ≡ bearer → ⊥) → Unnamed t (home t bearer) bearer x (read_element value).filters modified i
    modify_unnamed other =
        modify_ends t ok (home t bearer) bearer x value (Ways t (home t bearer) bearer x value i)
        (unnamed_ends t (home t bearer) bearer x value i l other) refl refl

    pub modify_others : (connection_at t i ≡ home t bearer → ⊥) → Stays t modified.table x i
    modify_others n =
        unnamed_others t (home t bearer) bearer x value i modified n
        (modify_unnamed (λ e. n (ap (connection_at t) (let q : i ≡ index_of bearer = omega arith in q))))

-- ---- dedicated activation, likewise
module _ (t : Table) (ok : TableInRange t) (bearer link x : ℕ) (value : List ℕ) where
  abbrev activated : Outcome
  activated = activate_dedicated_of t bearer link x value

  pub activate_releases : Releases t link bearer x value activated
  activate_releases = activate_ends t ok link bearer x value (Releases t link bearer x value) (release_ends t link bearer x value) refl

  pub activate_follow : FollowUpList t link bearer value activated
  activate_follow = activate_ends t ok link bearer x value (FollowUpList t link bearer value) (follow_ends t link bearer x value) refl

  module _ (i : ℕ) (l : i < bearer_count) (other : identity_of i ≡ bearer → ⊥) where
    pub activate_unnamed : Unnamed t link bearer x (read_element value).filters activated i
    activate_unnamed = activate_ends t ok link bearer x value (Ways t link bearer x value i) (unnamed_ends t link bearer x value i l other) refl

    pub activate_others : (connection_at t i ≡ link → ⊥) → Stays t activated.table x i
    activate_others n = unnamed_others t link bearer x value i activated n activate_unnamed
