-- Taking a status, test by test; and the walk that takes it: what is stored or left at each index is what becomes of the bearer.
use mathlib.Core.Path.{◌≡◌, refl, sym, ◌∙◌, ap}
use mathlib.Core.Bool.{Bool, true, false, not}
use mathlib.Core.Logic.{◌⊎◌, inl, inr, ⊎_elim}
use mathlib.Core.List.{List}
use Prim.Native.Nat.{ℕ, suc, ◌+◌, ◌<◌, ◌≤◌}
use native.Mathlib.Omega.{arith}
use lib.Dec.{eqb}
use lib.ListN.{length, get_or, set, replicate, length-replicate, length-set}
use lib.Seq.{get_or-set_same, get_or-set_other}
use borrow.Author.Tests.{eq-eqb, ne_eqb, eqb-true, eqb-false}
use Rattle.laws.specs.Says.{pick}
use Rattle.laws.specs.Index.{tab}
use Rattle.laws.proofs.Says.{last, which, never}
use Rattle.filter.specs.Sizes.{place_count}
use Rattle.filter.specs.Build.{empty_filter}
use Rattle.table.specs.declared.bearer.Role.TheVariants.{Idle}
use Rattle.table.specs.declared.bearer.Bearer.{Bearer}
use Rattle.table.specs.declared.bearer.Table.{Table}
use Rattle.table.specs.Bearers.{bearer_count, is_identity, index_of, identity_of, bearer_at, in_row, role_at, transaction_at, filter_at, connection_of, connection_at}
use Rattle.table.specs.Lists.{is_uplink}
use Rattle.table.specs.Positions.{Uplink}
use Rattle.table.specs.Tables.{idle_bearer, View, bearer_of, build, relisted_of}
use Rattle.table.specs.Ranges.{TableInRange}
use Rattle.table.specs.WellFormed.{well_formed, RightLists}
use Rattle.table.proofs.Meaning.{range_says, well_says}
use Rattle.table.proofs.Relisting.{Alike, relisted_right}
use Rattle.calls.specs.declared.reply.Refusal.TheVariants.{StatusLength}
use Rattle.calls.specs.declared.reply.Answer.TheVariants.{Synchronised, Refused}
use Rattle.calls.specs.Reply.{answered}
use Rattle.table.specs.Changes.{cut_view}
use Rattle.calls.specs.Modify.{malformed}
use Rattle.calls.proofs.Views.{bearer_built}
use Rattle.table.proofs.Rows.{with_lists, unlisted, bearer_with, idle_is, row_kept_at, Stored, store_more, store_skip, store_still}
use Rattle.status.specs.Value.{status_octets}
use Rattle.status.specs.Take.{stays_by, gone_by, synchronise_of}
use Rattle.status.specs.Inner.Take.{mark_of}

-- a table that is well formed has right lists
pub lists_right : (t : Table) → TableInRange t → well_formed t ≡ true → RightLists t
lists_right t ok e = ((well_says t ok).to e).lists

module _ (t : Table) (value : List ℕ) where
  pub synchronise_malformed : well_formed t ≡ false → synchronise_of t value ≡ malformed t
  unfolding synchronise_of
  synchronise_malformed w = rw w

  pub synchronise_unfit : well_formed t ≡ true → (length value ≡ status_octets → ⊥) → synchronise_of t value ≡ answered t (Refused StatusLength)
  unfolding synchronise_of
  synchronise_unfit w n = rw (w, ne_eqb (length value) status_octets n)

  pub synchronise_taken : well_formed t ≡ true → length value ≡ status_octets → synchronise_of t value ≡ answered (build (cut_view t (gone_by value t))) Synchronised
  unfolding synchronise_of
  synchronise_taken w e = rw (w, eq-eqb (length value) status_octets e)

-- what becomes of the bearer at i, by whether it stays
becomes : Table → ℕ → Bool → Bearer
becomes t i stays =
    bearer_with (pick (not stays) Idle (role_at t i)) (pick (not stays) 0 (transaction_at t i)) (tab (λ j. pick (not stays) empty_filter (filter_at t i j)) place_count)

module _ (value : List ℕ) (t : Table) (i : ℕ) (l : i < bearer_count) where
  -- it stays: it is as it was
  pub kept_bearer : TableInRange t → stays_by value (identity_of i) (role_at t i) ≡ true → bearer_at (build (cut_view t (gone_by value t))) i ≡ bearer_at t i
  unfolding becomes gone_by
  kept_bearer ok e = bearer_built (cut_view t (gone_by value t)) i l ∙ ap (becomes t i) e ∙ sym (row_kept_at t i ok l (role_at t i) (transaction_at t i))

  -- ---- one turn: s is the table so far
  module _ (s : Table) (stays : Bool) (is : stays ≡ stays_by value (identity_of i) (role_at s i)) (h : Stored (cut_view t (gone_by value t)) t s i) where
    abbrev v : View
    v = cut_view t (gone_by value t)

    by_stays : (b : Bool) → stays ≡ b → becomes t i b ≡ bearer_of v i
    unfolding becomes gone_by
    by_stays b q = ap (becomes t i) (sym q ∙ is ∙ ap (λ (b : Bearer). stays_by value (identity_of i) b.role) (store_still v t s i h))

    pub gone_there : stays ≡ false → (b : Bearer) → b ≡ idle_bearer → Stored v t (with_lists (set s.bearers i b) s.lists) (i + 1)
    unfolding becomes
    gone_there q b e = store_more v t s i b l (e ∙ idle_is ∙ by_stays false q) h

    pub kept_there : stays ≡ true → TableInRange t → Stored v t s (i + 1)
    unfolding becomes
    kept_there q ok = store_skip v t s i l (row_kept_at t i ok l (role_at t i) (transaction_at t i) ∙ by_stays true q) h

    pub stays_still : stays ≡ true → gone_by value t i ≡ false
    unfolding gone_by
    stays_still q = ap not (sym (ap (λ (b : Bearer). stays_by value (identity_of i) b.role) (store_still v t s i h)) ∙ sym is ∙ q)

-- ---- which lists are made anew
-- the bearers before i that go have the lists of their connections touched
pub record Touched (value : List ℕ) (t : Table) (touched : List Bool) (i : ℕ) : Type 0 where
  pub long : length touched ≡ bearer_count
  pub marked : (k d : ℕ) → k < i → d < bearer_count → gone_by value t k ≡ true → connection_at t k ≡ identity_of d → get_or touched d false ≡ true

pub touch_start : (value : List ℕ) (t : Table) → Touched value t (replicate bearer_count false) 0
touch_start value t = record { long = length-replicate bearer_count false; marked = λ k d l. absurd (omega arith) }

-- a mark is one of an identity's list
pub mark_small : (connection : ℕ) → mark_of connection < bearer_count
unfolding mark_of
mark_small connection = go (is_identity connection) refl
  where
    go : (b : Bool) → is_identity connection ≡ b → pick b (index_of connection) 0 < bearer_count
    go true e = let r = (range_says connection).to e in omega (arith, r.0, r.1)
    go false e = omega arith

mark_is : (connection d : ℕ) → d < bearer_count → connection ≡ identity_of d → mark_of connection ≡ d
unfolding mark_of
mark_is connection d l e =
    let is : index_of connection ≡ d = omega (arith, e) in
    rw ((range_says connection).from (omega (arith, e), omega (arith, e))) is

-- one turn
module _ (value : List ℕ) (t : Table) (touched : List Bool) (i : ℕ) (h : Touched value t touched i) where
  -- an index before the next is before this one, or this one
  newest : (k : ℕ) → k < i + 1 → (k < i) ⊎ (k ≡ i)
  newest k l = last (let m : k < suc i = omega arith in m)

  pub touch_more : (m : ℕ) → m ≡ mark_of (connection_at t i) → Touched value t (set touched m true) (i + 1)
  touch_more m e = record { long = simp length-set h.long; marked = more }
    where
      -- none is taken away, and the mark is set
      go : (d : ℕ) → d < bearer_count → (b : Bool) → eqb d m ≡ b → (eqb d m ≡ false → get_or touched d false ≡ true) → get_or (set touched m true) d false ≡ true
      go d l true q was = rw (sym (eqb-true d m q)) (get_or-set_same touched d true false (omega (arith, h.long)))
      go d l false q was = get_or-set_other touched m d true false (eqb-false d m q) ∙ was q

      more : (k d : ℕ) → k < i + 1 → d < bearer_count → gone_by value t k ≡ true → connection_at t k ≡ identity_of d → get_or (set touched m true) d false ≡ true
      more k d l n g c =
          ⊎_elim (λ b. go d n (eqb d m) refl (λ q. h.marked k d b n g c))
          (λ b. go d n (eqb d m) refl (λ q. absurd (eqb-false d m q (sym (e ∙ mark_is (connection_at t i) d n (ap (connection_at t) (sym b) ∙ c)))))) (newest k l)

  pub touch_skip : gone_by value t i ≡ false → Touched value t touched (i + 1)
  touch_skip stays = record { long = h.long; marked = λ k d l m g c. ⊎_elim (λ b. h.marked k d b m g c) (λ q. never g (ap (gone_by value t) q ∙ stays)) (newest k l) }

pub touch_done : {value : List ℕ} {t : Table} {touched : List Bool} (i : ℕ) → Touched value t touched i → bearer_count ≤ i → Touched value t touched bearer_count
touch_done i h l = record { long = h.long; marked = λ k d m. h.marked k d (omega arith) }

-- a connection whose list is not touched loses no bearer; so every list is right when those that are touched are made anew
module _ (value : List ℕ) (t : Table) (ok : TableInRange t) (right : RightLists t) (touched : List Bool) (h : Touched value t touched bearer_count) where
  abbrev cut : View
  cut = cut_view t (gone_by value t)

  abbrev left : Table
  left = unlisted cut t

  module _ (d : ℕ) (l : d < bearer_count) (free : get_or touched d false ≡ false) where
    -- a bearer of it, before or after, is as it was
    stays_there : (i : ℕ) → i < bearer_count → (connection_at t i ≡ identity_of d) ⊎ (connection_at left i ≡ identity_of d) → bearer_at left i ≡ bearer_at t i
    unfolding gone_by
    stays_there i m c = ⊎_elim (kept_bearer value t i m ok) (λ e. absurd (gone e c)) (which (stays_by value (identity_of i) (role_at t i)))
      where
        idle : stays_by value (identity_of i) (role_at t i) ≡ false → connection_at left i ≡ 0
        idle e = ap (λ (b : Bearer). connection_of i b.role) (bearer_built cut i m) ∙ ap (λ (b : Bool). connection_of i (pick (not b) Idle (role_at t i))) e

        nowhere : 0 ≡ identity_of d → ⊥
        nowhere z = omega (arith, z)

        gone : stays_by value (identity_of i) (role_at t i) ≡ false → (connection_at t i ≡ identity_of d) ⊎ (connection_at left i ≡ identity_of d) → ⊥
        gone e (inl c) = never (h.marked i d m l (ap not e) c) free
        gone e (inr c) = nowhere (sym (idle e) ∙ c)

    there : (s r : Table) (i j : ℕ) → bearer_at s i ≡ bearer_at r i → Uplink r (identity_of d) i j → Uplink s (identity_of d) i j
    there s r i j e u =
        record {
          bearer = u.bearer;
          place = u.place;
          of = ap (λ (b : Bearer). connection_of i b.role) e ∙ u.of;
          up = ap (λ (b : Bearer). is_uplink (in_row b.row j)) e ∙ u.up;
        }

    alike : Alike t left (identity_of d)
    alike =
        record {
          to = λ i j u. there left t i j (stays_there i u.bearer (inl u.of)) u;
          from = λ i j u. there t left i j (sym (stays_there i u.bearer (inr u.of))) u;
          same = λ i j u. ap (λ (b : Bearer). (in_row b.row j).precedence) (stays_there i u.bearer (inl u.of));
        }

  pub touched_relisted : (s : Table) → s ≡ left → relisted_of s touched ≡ build cut
  touched_relisted s e = ap (λ (s : Table). relisted_of s touched) e ∙ relisted_right t left right refl touched alike
