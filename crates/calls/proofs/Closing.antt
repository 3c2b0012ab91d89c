-- "A match is closed, whatever follows."
use mathlib.Core.Path.{◌≡◌, refl, sym, ◌∙◌, ap}
use mathlib.Core.Bool.{Bool, true, false, not, ◌&&◌}
use mathlib.Core.Logic.{◌⊎◌, inl, inr, ⊎_elim}
use mathlib.Core.List.{List}
use Prim.Native.Nat.{ℕ, ◌<◌}
use native.Mathlib.Omega.{arith}
use lib.Dec.{eqb}
use lib.ListN.{replicate}
use borrow.Author.Tests.{not-true}
use Rattle.laws.specs.Says.{pick}
use Rattle.laws.proofs.Says.{which, by_test, picked, says_eq, says_no, says_ne}
use Rattle.laws.proofs.Tests.{both}
use Rattle.filter.specs.declared.component.Filter.{Filter}
use Rattle.filter.specs.Sizes.{place_count}
use Rattle.element.specs.declared.answer.BareOperation.TheVariants.{DeleteTft, NoOperation}
use Rattle.element.specs.declared.answer.Answer.{Answer as ReadAnswer}
use Rattle.element.specs.declared.answer.Answer.TheVariants.{Filters, Identifiers, Bare, Refused as read_refused}
use Rattle.element.specs.declared.answer.Element.{Element}
use Rattle.element.specs.Numbers.{Verdict, accepted, refused_for, verdict_on}
use Rattle.element.specs.Head.{create, delete_tft, operation_of, head_fine}
use Rattle.element.specs.Read.{read_element}
use Rattle.table.specs.declared.bearer.Role.TheVariants.{Dedicated}
use Rattle.table.specs.declared.bearer.Table.{Table}
use Rattle.table.specs.Bearers.{bearer_count, index_of, transaction_at, is_idle, is_default, is_dedicated, role_of}
use Rattle.table.specs.Tables.{build}
use Rattle.table.specs.Ranges.{TableInRange}
use Rattle.table.specs.WellFormed.{well_formed}
use Rattle.table.proofs.Meaning.{well_says}
use Rattle.calls.specs.declared.reply.Cause.TheVariants.{Transaction}
use Rattle.calls.specs.declared.reply.Outcome.{Outcome}
use Rattle.calls.specs.Reply.{number_of, rejected_with}
use Rattle.calls.specs.Steps.{closed, empties, home}
use Rattle.table.specs.Changes.{opens_at, closed_view, opened_view, cut_view, of_connection, deleted_view}
use Rattle.calls.specs.Lay.{laid_view, released, lay_or_release, lay_within, lay_of}
use Rattle.calls.specs.Modify.{malformed, mismatch, creates, deleted_filters, deleted_tft, modified_by, modify_read, modify_named, modify_of}
use Rattle.calls.specs.Others.{available, activated_by, activate_read, activate_named, activate_dedicated_of}
use Rattle.calls.specs.Changes.{Sound, RefusalLeaves, ButClosed, MatchClosed}
use Rattle.calls.specs.Checks.{Open, LeftBy}
use Rattle.calls.proofs.Views.{transaction_built}
use Rattle.calls.proofs.Preserved.{either_stands}
use Rattle.calls.proofs.Whole.{closed_sound}
use Rattle.calls.proofs.Theorems.{modify_named_leaves, activate_named_leaves}
use Rattle.calls.proofs.Asked.{matched_says}
use Rattle.calls.proofs.Checks.{closed_same}

-- ---- The table in which the match is closed
closed_at : (t : Table) (x : ℕ) → (x ≡ 0 → ⊥) → (i : ℕ) → i < bearer_count
    → transaction_at (closed t x) i ≡ pick (eqb (transaction_at t i) x) 0 (transaction_at t i)
unfolding closed opens_at
closed_at t x n i l = rw (says_no (says_eq x 0) n) (transaction_built (closed_view t x) i l)

pub closed_says : (t : Table) → TableInRange t → (x : ℕ) → (x ≡ 0 → ⊥) → ButClosed t x (closed t x)
closed_says t ok x n =
    record {
      role = λ i l. (closed_same t ok x i l).role;
      row = λ i l. (closed_same t ok x i l).row;
      closed = λ i l e. closed_at t x n i l ∙ rw ((says_eq (transaction_at t i) x).from e);
      others = λ i l e. closed_at t x n i l ∙ rw (says_no (says_eq (transaction_at t i) x) e);
    }

-- no bearer has it open there
none_open : {t s : Table} {x : ℕ} → (x ≡ 0 → ⊥) → ButClosed t x s → (i : ℕ) → i < bearer_count → transaction_at s i ≡ x → ⊥
none_open {t} {s} {x} n c i l e =
    let had = says_eq (transaction_at t i) x in
    ⊎_elim (λ q. n (sym e ∙ c.closed i l (had.to q))) (λ q. says_ne had q (sym (c.others i l (says_ne had q)) ∙ e)) (which (eqb (transaction_at t i) x))

-- ---- What follows opens no transaction: each is as it was, or closed
abbrev Kept : Table → Table → Type 0
Kept t s = (i : ℕ) → i < bearer_count → (transaction_at s i ≡ transaction_at t i) ⊎ (transaction_at s i ≡ 0)

abbrev Keeps : Table → Outcome → Type 0
Keeps t o = Kept t o.table

self_kept : (t : Table) → Kept t t
self_kept t i l = inl refl

laid_keeps : (t : Table) (bearer : ℕ) (new : List Filter) (create : Bool) → Keeps t (lay_of t bearer new create)
unfolding lay_of lay_within
laid_keeps t bearer new create = go (released new create t (index_of bearer) (home t bearer))
  where
    go : (b : Bool) → Keeps t (lay_or_release b t bearer (home t bearer) new create)
    go true i l =
        let v = cut_view t (of_connection t (home t bearer)) in
        ⊎_elim (λ e. inl (transaction_built v i l ∙ e)) (λ e. inr (transaction_built v i l ∙ e))
        (either_stands (of_connection t (home t bearer) i) 0 (transaction_at t i))
    go false i l = inl (transaction_built (laid_view new create t (index_of bearer) (home t bearer)) i l)

modified_keeps : (a : ReadAnswer) (t : Table) (bearer : ℕ) (e : Element) → Keeps t (modified_by a t bearer e)
unfolding deleted_filters deleted_tft
modified_keeps (read_refused refusal) t bearer e = self_kept t
modified_keeps (Filters operation) t bearer e = laid_keeps t bearer e.filters (creates operation)
modified_keeps Identifiers t bearer e =
    picked (Keeps t) (is_dedicated (role_of t bearer) && empties t (index_of bearer) e.marks) _ _ (self_kept t)
    (λ i l. inl (transaction_built (deleted_view t (index_of bearer) e.marks) i l))
modified_keeps (Bare DeleteTft) t bearer e = λ i l. inl (transaction_built (deleted_view t (index_of bearer) (replicate place_count true)) i l)
modified_keeps (Bare NoOperation) t bearer e = self_kept t

modify_keeps : (t : Table) (bearer : ℕ) (value : List ℕ) → Keeps t (modify_named t bearer value)
unfolding modify_named modify_read
modify_keeps t bearer value =
    picked (Keeps t) (is_idle (role_of t bearer)) _ _ (self_kept t)
    (picked (Keeps t) (head_fine value) _ _
    (picked (Keeps t) (is_dedicated (role_of t bearer) && eqb (operation_of value) delete_tft) _ _ (self_kept t)
    (modified_keeps (read_element value).answer t bearer (read_element value))) (self_kept t))

activated_keeps : (v : Verdict) (t : Table) (bearer link : ℕ) (new : List Filter) → Keeps t (activated_by v t bearer link new)
activated_keeps (refused_for refusal) t bearer link new = self_kept t
activated_keeps accepted t bearer link new = λ i l.
    let v = opened_view t (index_of bearer) (Dedicated link) in
    ⊎_elim (λ e. inl (e ∙ transaction_built v i l)) (λ e. inr e) (laid_keeps (build v) bearer new true i l)

activate_keeps : (t : Table) (bearer link : ℕ) (value : List ℕ) → Keeps t (activate_named t bearer link value)
unfolding activate_named activate_read
activate_keeps t bearer link value =
    picked (Keeps t) (available t bearer && is_default (role_of t link)) _ _
    (picked (Keeps t) (head_fine value) _ _
    (picked (Keeps t) (eqb (operation_of value) create) _ _
    (activated_keeps (verdict_on (read_element value).answer) t bearer link (read_element value).filters) (self_kept t)) (self_kept t)) (self_kept t)

-- ---- A message whose transaction is open. What follows step 2 is `after`, of the table in which the match is closed
module _ (bearer : ℕ) (after : Table → Outcome) where
  abbrev message : Table → ℕ → Outcome
  message t x = pick (well_formed t) (pick (mismatch t x) (rejected_with t bearer Transaction) (after (closed t x))) (malformed t)

  passes : (t : Table) (x : ℕ) → Sound t → mismatch t x ≡ false → message t x ≡ after (closed t x)
  passes t x sound m = rw ((well_says t sound.in_range).from sound.well, m)

  -- without a transaction
  passes_none : (t : Table) → Sound t → message t 0 ≡ after t
  unfolding closed
  passes_none t sound = passes t 0 sound refl

  match_closed : (t : Table) → Sound t → (x : ℕ) → Open t x → RefusalLeaves (closed t x) (after (closed t x)) → Keeps (closed t x) (after (closed t x))
      → MatchClosed t x (message t x) (λ s. message s 0)
  match_closed t sound x opens leaves keeps =
      let some : x ≡ 0 → ⊥ = λ z. omega (arith, opens.0) in
      let is : message t x ≡ after (closed t x) = passes t x sound (not-true _ ((matched_says t x).from (inr opens))) in
      let c : ButClosed t x (closed t x) = closed_says t sound.in_range x some in
      record {
        between = closed t x;
        sound = closed_sound t sound x;
        closes = c;
        outcome = is ∙ sym (passes_none (closed t x) (closed_sound t sound x));
        refused = λ r. ap (λ (o : Outcome). o.table) is ∙ leaves (λ z. r (ap (λ (o : Outcome). number_of o.reply.answer) is ∙ z));
        none = λ i l e. let q : transaction_at (after (closed t x)).table i ≡ x = sym (ap (λ (o : Outcome). transaction_at o.table i) is) ∙ e in
            ⊎_elim (λ k. none_open some c i l (sym k ∙ q)) (λ k. some (sym q ∙ k)) (keeps i l);
      }

pub modify_match : (t : Table) → Sound t → (bearer x : ℕ) (value : List ℕ) → Open t x
    → MatchClosed t x (modify_of t bearer x value) (λ s. modify_of s bearer 0 value)
unfolding modify_of
modify_match t sound bearer x value opens =
    match_closed bearer (λ s. modify_named s bearer value) t sound x opens (modify_named_leaves (closed t x) bearer value)
    (modify_keeps (closed t x) bearer value)

pub activate_match : (t : Table) → Sound t → (bearer link x : ℕ) (value : List ℕ) → Open t x
    → MatchClosed t x (activate_dedicated_of t bearer link x value) (λ s. activate_dedicated_of s bearer link 0 value)
unfolding activate_dedicated_of
activate_match t sound bearer link x value opens =
    match_closed bearer (λ s. activate_named s bearer link value) t sound x opens (activate_named_leaves (closed t x) bearer link value)
    (activate_keeps (closed t x) bearer link value)

-- ---- The table that a refused message leaves
closed_none : (t : Table) (x : ℕ) → x ≡ 0 → closed t x ≡ t
unfolding closed
closed_none t x z = rw z

pub left_says : (t : Table) → TableInRange t → (x : ℕ) → LeftBy t x (pick (well_formed t && not (mismatch t x)) (closed t x) t)
left_says t ok x =
    let well = well_says t ok in
    let matched = matched_says t x in
    record {
      matched = λ w o. rw (well.from w, matched.from (inr o)) (closed_says t ok x (λ z. omega (arith, o.0)));
      unmatched = λ n. by_test (λ (s : Table). s ≡ t) (well_formed t && not (mismatch t x)) _ _ (λ b.
          let q = both (well_formed t) (not (mismatch t x)) b in
          ⊎_elim (closed_none t x) (λ o. absurd (n (well.to q.0, o))) (matched.to q.1)) (λ _. refl);
    }
