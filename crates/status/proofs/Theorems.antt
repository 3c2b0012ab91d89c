-- The theorems of the layer.
use mathlib.Core.Path.{◌≡◌, refl, sym, ◌∙◌, ap, subst}
use mathlib.Core.Bool.{Bool, true, false, not, ◌&&◌}
use mathlib.Core.Logic.{◌↔◌, ⊎_elim}
use mathlib.Core.List.{List, [], ◌∷◌, ◌++◌}
use Prim.Native.Nat.{ℕ, ◌≤◌, ◌<◌}
use native.Mathlib.Omega.{arith}
use lib.Dec.{eqb, leb}
use lib.ListN.{length, take, drop}
use lib.Seq.{take_at, drop-append_seam}
use borrow.Author.Tests.{eqb-true, eqb-false}
use Rattle.std.specs.Prelude.{Ok, Err}
use Rattle.laws.specs.Says.{pick, Says}
use Rattle.laws.specs.Lists.{is_in}
use Rattle.laws.proofs.Says.{which, never, picked, says_it, says_eq, says_le, says_and, says_so, says_ne, unless_here, unless_later, where_here}
use Rattle.table.specs.declared.bearer.Role.{Role}
use Rattle.table.specs.declared.bearer.Role.TheVariants.{Idle, Default, Dedicated}
use Rattle.table.specs.declared.bearer.Bearer.{Bearer}
use Rattle.table.specs.declared.bearer.Table.{Table}
use Rattle.table.specs.Bearers.{bearer_count, index_of, identity_of, bearer_at, in_row, role_at, is_idle, connection_of, connection_at}
use Rattle.table.specs.Tables.{view, build}
use Rattle.table.specs.Ranges.{TableInRange}
use Rattle.table.specs.WellFormed.{well_formed, RightLists, WellFormed}
use Rattle.table.proofs.Meaning.{idle_says, well_says}
use Rattle.calls.specs.declared.reply.Refusal.TheVariants.{StatusLength}
use Rattle.calls.specs.declared.reply.Answer.TheVariants.{Synchronised, Refused}
use Rattle.calls.specs.declared.reply.Outcome.{Outcome}
use Rattle.calls.specs.Reply.{number_of, answered}
use Rattle.table.specs.Changes.{cut_view}
use Rattle.calls.specs.Modify.{malformed}
use Rattle.calls.specs.Changes.{Sound, Gives, RefusalLeaves, Void}
use Rattle.calls.specs.Checks.{Identity, Active}
use Rattle.calls.proofs.Views.{role_built, transaction_built, filter_built, views_same}
use Rattle.table.proofs.Rows.{self_built}
use Rattle.calls.proofs.Preserved.{Along}
use Rattle.calls.proofs.Whole.{cut_sound}
use Rattle.status.specs.declared.write.StatusUnwritten.{StatusUnwritten}
use Rattle.status.specs.declared.write.StatusUnwritten.TheVariants.{NotWellFormed, NoRoom}
use Rattle.status.specs.Value.{status_octets, shown_active, Shown}
use Rattle.status.specs.Write.{status_of, StatusOutcome, status_number, leaves, wrote, write_status_of, StatusNumbered}
use Rattle.status.specs.Take.{stays_by, gone_by, synchronise_of, SynchroniseNumbered, Synchronises, StatusTaken}
use Rattle.status.proofs.Values.{status_long, status_shows}
use Rattle.status.proofs.Writing.{write_malformed, write_short, write_fit}
use Rattle.status.proofs.Taking.{synchronise_malformed, synchronise_unfit, synchronise_taken, kept_bearer}

-- ---- Writing
module _ (t : Table) (buffer : List ℕ) where
  abbrev o : StatusOutcome
  o = write_status_of t buffer

  -- a refusal leaves the buffer
  abbrev RefusalStays : StatusOutcome → Type 0
  RefusalStays out = (status_number out.written ≡ 0 → ⊥) → out.buffer ≡ buffer

  pub status_leaves : RefusalStays o
  unfolding write_status_of
  status_leaves =
      picked RefusalStays (well_formed t) _ _ (picked RefusalStays (leb status_octets (length buffer)) _ _ (λ n. absurd (n refl)) (λ n. refl)) (λ n. refl)

  -- where it is written, the table is well formed, the first two octets are the status, and the others stay
  pub record Written : Type 0 where
    pub well : well_formed t ≡ true
    pub octets : take status_octets o.buffer ≡ status_of t
    pub rest : drop status_octets o.buffer ≡ drop status_octets buffer

  pub status_written : o.written ≡ Ok tt → Written
  status_written e =
      ⊎_elim (λ w. ⊎_elim (λ m. wrote_it w (write_fit t buffer w ((says_le status_octets (length buffer)).to m)))
      (λ m. let n : status_octets ≤ length buffer → ⊥ = says_ne (says_le status_octets (length buffer)) m in
      other (write_short t buffer w (omega arith)) (λ z. omega arith)) (which (leb status_octets (length buffer))))
      (λ w. other (write_malformed t buffer w) (λ z. omega arith)) (which (well_formed t))
    where
      other : {why : StatusUnwritten} → o ≡ leaves why buffer → (status_number (Err why) ≡ 0 → ⊥) → Written
      other q n = absurd (n (sym (ap (λ (o : StatusOutcome). status_number o.written) q) ∙ ap status_number e))

      wrote_it : well_formed t ≡ true → o ≡ wrote (status_of t) buffer → Written
      wrote_it w q =
          let rest = drop status_octets buffer in
          record {
            well = w;
            octets = ap (λ (o : StatusOutcome). take status_octets o.buffer) q ∙ take_at (status_of t) rest status_octets (status_long t);
            rest = ap (λ (o : StatusOutcome). drop status_octets o.buffer) q
                ∙ subst (λ (n : ℕ). drop n (status_of t ++ rest) ≡ rest) (status_long t) (drop-append_seam (status_of t) rest);
          }

  -- what is written shows a bearer active exactly where it is
  pub written_shows : o.written ≡ Ok tt → (n : ℕ) → Says (shown_active (take status_octets o.buffer) n) (Active t n)
  written_shows e n = rw (status_written e).octets (status_shows t n)

-- each number is given exactly where its refusal holds, and none before it
pub status_numbers_lem : (t : Table) → TableInRange t → (buffer : List ℕ) → StatusNumbered t buffer (status_number (write_status_of t buffer).written)
unfolding write_status_of
status_numbers_lem t ok buffer =
    let w = well_says t ok in
    let l = says_le status_octets (length buffer) in
    subst (StatusNumbered t buffer) (go (well_formed t) (leb status_octets (length buffer)))
    (record {
      is1 = unless_here w refl (picked (λ (k : ℕ). k ≡ 1 → ⊥) (leb status_octets (length buffer)) 0 9 (λ e. omega arith) (λ e. omega arith));
      is9 = unless_later w (λ e. omega arith) (short (unless_here l refl (λ e. omega arith)));
      is0 = unless_later w (λ e. omega arith) (where_here l refl (λ e. omega arith));
    })
  where
    short : {A : Type 0} → A ↔ (status_octets ≤ length buffer → ⊥) → A ↔ (length buffer < status_octets)
    short u = (λ a. let n : status_octets ≤ length buffer → ⊥ = u.0 a in omega arith, λ h. u.1 (λ m. omega arith))

    go : (w l : Bool) → pick w (pick l 0 9) 1 ≡ status_number (pick w (pick l (wrote (status_of t) buffer) (leaves NoRoom buffer)) (leaves NotWellFormed buffer)).written
    go true true = refl
    go true false = refl
    go false l = refl

-- ---- Taking
module _ (t : Table) (value : List ℕ) where
  abbrev gone : ℕ → Bool
  gone = gone_by value t

  abbrev after : Table
  after = build (cut_view t gone)

  -- it gives a number of its own list
  pub synchronise_gives : Gives (0 ∷ 1 ∷ 12 ∷ []) (synchronise_of t value)
  unfolding is_in synchronise_of
  synchronise_gives =
      let ns : List ℕ = 0 ∷ 1 ∷ 12 ∷ [] in
      picked (Gives ns) (well_formed t) _ _ (picked (Gives ns) (eqb (length value) status_octets) _ _ refl refl) refl

  -- a refusal leaves the table
  pub synchronise_refused : RefusalLeaves t (synchronise_of t value)
  unfolding synchronise_of
  synchronise_refused =
      picked (RefusalLeaves t) (well_formed t) _ _ (picked (RefusalLeaves t) (eqb (length value) status_octets) _ _ (λ r. absurd (r refl)) (λ r. refl)) (λ r. refl)

  pub synchronise_numbers : TableInRange t → SynchroniseNumbered t value (number_of (synchronise_of t value).reply.answer)
  unfolding synchronise_of
  synchronise_numbers ok =
      let w = well_says t ok in
      let l = says_eq (length value) status_octets in
      subst (SynchroniseNumbered t value) (go (well_formed t) (eqb (length value) status_octets))
      (record {
        is1 = unless_here w refl (picked (λ (k : ℕ). k ≡ 1 → ⊥) (eqb (length value) status_octets) 0 12 (λ e. omega arith) (λ e. omega arith));
        is12 = unless_later w (λ e. omega arith) (unless_here l refl (λ e. omega arith));
        is0 = unless_later w (λ e. omega arith) (where_here l refl (λ e. omega arith));
      })
    where
      go : (w l : Bool) → pick w (pick l 0 12) 1
          ≡ number_of (pick w (pick l (answered after Synchronised) (answered t (Refused StatusLength))) (malformed t)).reply.answer
      go true true = refl
      go true false = refl
      go false l = refl

  -- an active bearer stays exactly where it is shown active and its default is too
  stays_says : (i : ℕ) → (role_at t i ≡ Idle → ⊥) → Says (stays_by value (identity_of i) (role_at t i)) (Shown value (identity_of i) × Shown value (connection_at t i))
  stays_says i = go (role_at t i)
    where
      go : (r : Role) → (r ≡ Idle → ⊥) → Says (stays_by value (identity_of i) r) (Shown value (identity_of i) × Shown value (connection_of i r))
      go Idle n = absurd (n refl)
      go Default n = says_so (says_it (shown_active value (identity_of i))) (λ h. (h, h)) (λ h. h.0)
      go (Dedicated link) n = says_and (says_it (shown_active value (identity_of i))) (says_it (shown_active value link))

  -- a default takes its dedicated bearers along
  along : Along t gone
  unfolding gone_by
  along i k a b d r g = rw r (out (shown_active value (identity_of k)) (shown_active value (identity_of i)) (rw d at g))
    where
      out : (own default : Bool) → not default ≡ true → not (own && default) ≡ true
      out true default e = e
      out false default e = refl

  pub synchronise_sound : Sound t → Sound (synchronise_of t value).table
  unfolding synchronise_of
  synchronise_sound sound =
      picked LeavesSound (well_formed t) _ _ (picked LeavesSound (eqb (length value) status_octets) _ _ (cut_sound t sound gone along) sound) sound
    where
      LeavesSound : Outcome → Type 0
      LeavesSound o = Sound o.table

  -- ---- what becomes of each bearer
  module _ (ok : TableInRange t) (w : WellFormed t) (i : ℕ) (l : i < bearer_count) where
    abbrev stays : Bool
    stays = stays_by value (identity_of i) (role_at t i)

    role_after : (b : Bool) → stays ≡ b → role_at after i ≡ pick (not b) Idle (role_at t i)
    unfolding gone_by
    role_after b e = role_built (cut_view t gone) i l ∙ ap (λ (b : Bool). pick (not b) Idle (role_at t i)) e

    void_after : stays ≡ false → Void (view after) i
    unfolding gone_by
    void_after e =
        record {
          role = role_after false e;
          transaction = transaction_built (cut_view t gone) i l ∙ rw e;
          filter = λ j m. filter_built (cut_view t gone) i l j m ∙ rw e;
        }

    -- an idle one holds nothing already
    void_before : role_at t i ≡ Idle → Void (view after) i
    void_before r =
        let e : bearer_at after i ≡ bearer_at t i = kept_bearer value t i l ok (ap (stays_by value (identity_of i)) r) in
        record {
          role = ap (λ (b : Bearer). b.role) e ∙ r;
          transaction = ap (λ (b : Bearer). b.transaction) e ∙ w.bearers.silent i l r;
          filter = λ j m. ap (λ (b : Bearer). in_row b.row j) e ∙ w.bearers.empty i j l m r;
        }

    leaves_bearer : Synchronises t value after i
    leaves_bearer =
        ⊎_elim (λ q. let r = (idle_says (role_at t i)).to q in
        record {
          active = (λ n. absurd (n (void_before r).role), λ c. absurd (c.0 r));
          stays = λ c. absurd (c.0 r);
          goes = λ n. void_before r;
        })
        (λ q. let n = says_ne (idle_says (role_at t i)) q in
        let s = stays_says i n in
        ⊎_elim (λ e.
        record {
          active = (λ m. (n, s.to e), λ c z. n (sym (role_after true e) ∙ z));
          stays = λ c. kept_bearer value t i l ok e;
          goes = λ m. absurd (m (n, s.to e));
        })
        (λ e.
        record {
          active = (λ m. absurd (m (void_after e).role), λ c. absurd (says_ne s e c.1));
          stays = λ c. absurd (says_ne s e c.1);
          goes = λ m. void_after e;
        }) (which stays)) (which (is_idle (role_at t i)))

  -- a status that is taken: the answer, and each bearer
  pub synchronise_takes : TableInRange t → WellFormed t → length value ≡ status_octets → StatusTaken t value (synchronise_of t value)
  synchronise_takes ok w e =
      rw (synchronise_taken t value ((well_says t ok).from w) e) (record { reply = refl; bearer = leaves_bearer ok w })

-- ---- Nothing goes
pub none_gone : (t : Table) → TableInRange t → RightLists t → (gone : ℕ → Bool) → ((i : ℕ) → i < bearer_count → gone i ≡ false) → build (cut_view t gone) ≡ t
none_gone t ok right gone none =
    views_same (cut_view t gone) (view t) (λ i l. rw (none i l)) (λ i l. rw (none i l)) (λ i j l m. rw (none i l)) ∙ sym (self_built t ok right)

-- in one's own status every active bearer is shown, and so is its default
module _ (t : Table) (w : WellFormed t) (i : ℕ) (l : i < bearer_count) where
  own_shown : (role_at t i ≡ Idle → ⊥) → Shown (status_of t) (identity_of i)
  own_shown n = let q : i ≡ index_of (identity_of i) = omega arith in (status_shows t (identity_of i)).from ((omega arith, omega arith), λ r. n (ap (role_at t) q ∙ r))

  default_shown : (link : ℕ) → role_at t i ≡ Dedicated link → Shown (status_of t) link
  default_shown link r = let k = w.bearers.linked i link l r in (status_shows t link).from ((k.0, k.1), λ z. never (ap is_idle z) (ap is_idle k.2))

  own_stays : gone_by (status_of t) t i ≡ false
  unfolding gone_by
  own_stays = ap not (go (role_at t i) refl)
    where
      active : (r : Role) → is_idle r ≡ false → role_at t i ≡ r → role_at t i ≡ Idle → ⊥
      active r n q z = never (ap is_idle z) (ap is_idle q ∙ n)

      go : (r : Role) → role_at t i ≡ r → stays_by (status_of t) (identity_of i) r ≡ true
      go Idle q = refl
      go Default q = own_shown (active Default refl q)
      go (Dedicated link) q = rw (own_shown (active (Dedicated link) refl q)) (default_shown link q)

-- taking what was written changes nothing
pub own_status : (t : Table) → TableInRange t → (buffer : List ℕ) → (write_status_of t buffer).written ≡ Ok tt
    → synchronise_of t (take status_octets (write_status_of t buffer).buffer) ≡ answered t Synchronised
own_status t ok buffer e =
    let k = status_written t buffer e in
    let w = (well_says t ok).to k.well in
    rw k.octets (synchronise_taken t (status_of t) k.well (status_long t)
    ∙ ap (λ (s : Table). answered s Synchronised) (none_gone t ok w.lists (gone_by (status_of t) t) (own_stays t w)))

-- taking a status again changes nothing, and is answered as before
module _ (t : Table) (value : List ℕ) where
  left_stays : (i : ℕ) → i < bearer_count → gone_by value (after t value) i ≡ false
  unfolding gone_by
  left_stays i l =
      ap (λ (r : Role). not (stays_by value (identity_of i) r)) (role_built (cut_view t (gone_by value t)) i l) ∙ go (stays_by value (identity_of i) (role_at t i)) refl
    where
      go : (b : Bool) → stays_by value (identity_of i) (role_at t i) ≡ b → not (stays_by value (identity_of i) (pick (not b) Idle (role_at t i))) ≡ false
      go true e = ap not e
      go false e = refl

  pub synchronise_again : TableInRange t → synchronise_of (synchronise_of t value).table value ≡ synchronise_of t value
  synchronise_again ok =
      ⊎_elim (λ w. ⊎_elim (λ e. again w (eqb-true (length value) status_octets e)) (λ e. ap (λ (o : Outcome). synchronise_of o.table value) (synchronise_unfit t value w (eqb-false (length value) status_octets e))) (which (eqb (length value) status_octets)))
      (λ w. ap (λ (o : Outcome). synchronise_of o.table value) (synchronise_malformed t value w)) (which (well_formed t))
    where
      again : well_formed t ≡ true → length value ≡ status_octets → synchronise_of (synchronise_of t value).table value ≡ synchronise_of t value
      again w e =
          let sound = cut_sound t (record { in_range = ok; well = (well_says t ok).to w }) (gone_by value t) (along t value) in
          let s = after t value in
          ap (λ (o : Outcome). synchronise_of o.table value) (synchronise_taken t value w e)
          ∙ synchronise_taken s value ((well_says s sound.in_range).from sound.well) e
          ∙ ap (λ (s : Table). answered s Synchronised) (none_gone s sound.in_range sound.well.lists (gone_by value s) left_stays)
          ∙ sym (synchronise_taken t value w e)

-- nothing but what is shown of the identities of bearers counts: "identities 0 to 4 .. ignored on reading"
module _ (t : Table) (ok : TableInRange t) (value other : List ℕ) (long : length value ≡ length other) (alike : (n : ℕ) → Identity n → shown_active value n ≡ shown_active other n) where
  stays_alike : WellFormed t → (i : ℕ) → i < bearer_count → gone_by value t i ≡ gone_by other t i
  unfolding gone_by
  stays_alike w i l = ap not (go (role_at t i) refl)
    where
      own : shown_active value (identity_of i) ≡ shown_active other (identity_of i)
      own = alike (identity_of i) (omega arith, omega arith)

      go : (r : Role) → role_at t i ≡ r → stays_by value (identity_of i) r ≡ stays_by other (identity_of i) r
      go Idle q = refl
      go Default q = own
      go (Dedicated link) q = let k = w.bearers.linked i link l q in rw (own, alike link (k.0, k.1))

  pub spare_ignored : synchronise_of t value ≡ synchronise_of t other
  spare_ignored =
      ⊎_elim (λ w. ⊎_elim (λ e. let two = eqb-true (length other) status_octets e in
      synchronise_taken t value w (long ∙ two) ∙ ap (λ (s : Table). answered s Synchronised) (same ((well_says t ok).to w)) ∙ sym (synchronise_taken t other w two))
      (λ e. let n = eqb-false (length other) status_octets e in
      synchronise_unfit t value w (λ two. n (sym long ∙ two)) ∙ sym (synchronise_unfit t other w n)) (which (eqb (length other) status_octets)))
      (λ w. synchronise_malformed t value w ∙ sym (synchronise_malformed t other w)) (which (well_formed t))
    where
      same : WellFormed t → after t value ≡ after t other
      same w =
          views_same (cut_view t (gone_by value t)) (cut_view t (gone_by other t)) (λ i l. rw (stays_alike w i l)) (λ i l. rw (stays_alike w i l)) (λ i j l m. rw (stays_alike w i l))
