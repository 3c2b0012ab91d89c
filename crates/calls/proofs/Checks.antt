-- "Order of checks for a modify message": each number is given exactly where a step with that number refuses, and those before it do not.
use mathlib.Core.Path.{◌≡◌, refl, sym, ◌∙◌, ap, subst}
use mathlib.Core.Bool.{Bool, true, false, not, ◌&&◌, ◌||◌, false≢true}
use mathlib.Core.Logic.{◌⊎◌, inl, inr, ⊎_elim}
use mathlib.Core.List.{List}
use Prim.Native.Nat.{ℕ, ◌<◌}
use native.Mathlib.Omega.{arith}
use lib.Dec.{eqb}
use lib.ListN.{get_or}
use Rattle.laws.specs.Says.{pick, Says}
use Rattle.laws.specs.Index.{SomeBelow}
use Rattle.laws.proofs.Typed.{each_at}
use Rattle.laws.proofs.Says.{which, never, by_test, picked, says_true, says_it, says_eq, says_not, says_and, says_or, says_any, says_so, says_no, says_ne}
use Rattle.laws.proofs.Says.{unless_here, unless_later, where_here, where_later}
use Rattle.filter.specs.declared.component.Filter.{Filter}
use Rattle.filter.specs.Coding.{held}
use Rattle.filter.specs.Sizes.{place_count}
use Rattle.element.specs.declared.answer.Cause.{Cause as ReadCause}
use Rattle.element.specs.declared.answer.Cause.TheVariants.{Operation, Semantics, Coding}
use Rattle.element.specs.declared.answer.BareOperation.TheVariants.{DeleteTft, NoOperation}
use Rattle.element.specs.declared.answer.Answer.{Answer as ReadAnswer}
use Rattle.element.specs.declared.answer.Answer.TheVariants.{Filters, Identifiers, Bare, Refused as read_refused}
use Rattle.element.specs.declared.answer.Element.{Element}
use Rattle.element.specs.Numbers.{cause_number as read_cause_number, number_of as read_number, verdict_on}
use Rattle.element.specs.Head.{create, delete_tft, operation_of, head_fine}
use Rattle.element.specs.Read.{read_element}
use Rattle.table.specs.declared.bearer.Role.TheVariants.{Idle, Dedicated}
use Rattle.table.specs.declared.bearer.Table.{Table}
use Rattle.table.specs.Bearers.{bearer_count, is_identity, index_of, no_bearer, bearer_at, role_at}
use Rattle.table.specs.Bearers.{transaction_at, filter_at, is_idle, is_default, is_dedicated, role_of}
use Rattle.table.specs.Tables.{build}
use Rattle.table.specs.Ranges.{TableInRange}
use Rattle.table.specs.WellFormed.{well_formed, Held, WellFormed}
use Rattle.table.proofs.Meaning.{range_says, well_says}
use Rattle.calls.specs.declared.reply.Cause.TheVariants.{TftSemantics, BearerIdentity, Transaction}
use Rattle.calls.specs.declared.reply.Answer.TheVariants.{Accept, Started, Refused}
use Rattle.calls.specs.declared.reply.Refusal.TheVariants.{NoIdentity, AlreadyOpen, NoBearer, BearerBusy}
use Rattle.calls.specs.declared.reply.Outcome.{Outcome}
use Rattle.calls.specs.Reply.{number_of, reject_head, answered, rejected_with}
use Rattle.calls.specs.Steps.{is_open, closed, holds_in, stays_in, empties}
use Rattle.table.specs.Changes.{opened_view}
use Rattle.calls.specs.Modify.{malformed, mismatch, creates, deleted_filters, deleted_tft, modified_by, modify_read, modify_named, modify_of}
use Rattle.calls.specs.Others.{available, activate_default_of, activated_by, activate_read, activate_named, activate_dedicated_of, deactivate_of, reject_of, start_of}
use Rattle.calls.specs.Changes.{Stays}
use Rattle.calls.specs.Checks.{Matched, Identity, Active, Linkable, Headed, Permitted, IsCreate, Empties, Found, Passed, Numbered}
use Rattle.calls.specs.Checks.{DefaultNumbered, DeactivateNumbered, RejectNumbered, StartNumbered}
use Rattle.calls.proofs.Asked.{open_says, matched_says, head_says, available_says, active_says, dedicated_of, permitted_says, linkable_says}
use Rattle.calls.proofs.Messages.{closed_stays}
use Rattle.calls.proofs.Theorems.{laid_number}
use Rattle.calls.proofs.Answers.{same_number}

-- step 10 is asked of an identifier set alone
abbrev is_identifiers : ReadAnswer → Bool
is_identifiers (Filters operation) = false
is_identifiers Identifiers = true
is_identifiers (Bare kind) = false
is_identifiers (read_refused refusal) = false

identifiers_says : (a : ReadAnswer) → Says (is_identifiers a) (a ≡ Identifiers)
identifiers_says (Filters operation) = record { to = λ e. absurd (false≢true e); from = λ e. ap is_identifiers e }
identifiers_says Identifiers = says_true refl
identifiers_says (Bare kind) = record { to = λ e. absurd (false≢true e); from = λ e. ap is_identifiers e }
identifiers_says (read_refused refusal) = record { to = λ e. absurd (false≢true e); from = λ e. ap is_identifiers e }

-- a TFT with filters, of which none stays
empties_says : (t : Table) (k : ℕ) (marks : List Bool)
    → Says (empties t k marks)
    (SomeBelow place_count (λ j. Held (filter_at t k j)) × ((j : ℕ) → j < place_count → Held (filter_at t k j) → get_or marks j false ≡ true))
unfolding empties holds_in stays_in
empties_says t k marks =
    says_and (says_any place_count (λ j l. says_it (held (filter_at t k j))))
    (says_so (says_not (says_any place_count (λ j l. says_and (says_it (held (filter_at t k j))) (says_not (says_it (get_or marks j false))))))
    (λ n j l h. ⊎_elim (λ e. e) (λ e. absurd (n (record { at = j; below = l; holds = (h, λ m. never m e) }))) (which (get_or marks j false)))
    (λ h q. q.holds.1 (h q.at q.below q.holds.0)))

empties_as : (t s : Table) (k : ℕ) (marks : List Bool) → (bearer_at s k).row ≡ (bearer_at t k).row → empties s k marks ≡ empties t k marks
unfolding empties
empties_as t s k marks e = rw e

abbrev emptied_by : Table → ℕ → Element → Bool
emptied_by t bearer e = is_identifiers e.answer && (is_dedicated (role_of t bearer) && empties t (index_of bearer) e.marks)

emptied_says : (t : Table) (bearer : ℕ) (value : List ℕ) → Identity bearer → Says (emptied_by t bearer (read_element value)) (Empties t bearer value)
emptied_says t bearer value h =
    let e = read_element value in
    says_so (says_and (identifiers_says e.answer) (says_and (dedicated_of t bearer h) (empties_says t (index_of bearer) e.marks)))
    (λ q. record { dedicated = q.1.0; deletes = q.0; had = q.1.1.0; each = q.1.1.1 }) (λ q. (q.deletes, (q.dedicated, (q.had, q.each))))

-- ---- The numbers, by what the steps ask
abbrev number_in : Outcome → ℕ
number_in o = number_of o.reply.answer

matched_number : (w m : Bool) (t : Table) (bearer : ℕ) (o : Outcome)
    → number_in (pick w (pick m (rejected_with t bearer Transaction) o) (malformed t)) ≡ pick w (pick (not m) (number_in o) 47) 1
matched_number true true t bearer o = refl
matched_number true false t bearer o = refl
matched_number false m t bearer o = refl

module _ (t : Table) (x : ℕ) (value : List ℕ) (Named Allowed Emptied : Type 0) where
  abbrev IsFound : Type 0
  IsFound = Found t x Named

  abbrev HasPassed : Type 0
  HasPassed = Passed t x value Named Allowed

  abbrev read : ℕ
  read = read_number (read_element value).answer

  -- what `Numbered` asks of a number, as one family: it holds of the number that is given, so of each number that is equal to it
  abbrev Why : ℕ → Type 0
  Why k =
      pick (eqb k 1) (WellFormed t → ⊥)
      (pick (eqb k 47) (WellFormed t × (Matched t x → ⊥))
      (pick (eqb k 43) ((WellFormed t × Matched t x) × (Named → ⊥))
      (pick (eqb k 42) ((IsFound × (Headed value → ⊥)) ⊎ (HasPassed × (read ≡ 42)))
      (pick (eqb k 41) (((IsFound × Headed value) × (Allowed → ⊥)) ⊎ (HasPassed × Emptied))
      (pick (eqb k 44) (HasPassed × (read ≡ 44)) (pick (eqb k 45) (HasPassed × (read ≡ 45))
      (pick (eqb k 0) ((HasPassed × (read ≡ 0)) × (Emptied → ⊥)) (Unit {0}))))))))

  why_cause : HasPassed → (c : ReadCause) → read ≡ read_cause_number c → Why (read_cause_number c)
  why_cause p Operation q = inr (p, q)
  why_cause p Semantics q = (p, q)
  why_cause p Coding q = (p, q)

  why_read : HasPassed → (Emptied → ⊥) → (a : ReadAnswer) → read ≡ read_number a → Why (read_number a)
  why_read p n (Filters operation) q = ((p, q), n)
  why_read p n Identifiers q = ((p, q), n)
  why_read p n (Bare kind) q = ((p, q), n)
  why_read p n (read_refused refusal) q = why_cause p refusal.cause q

  -- n and d are the tests of steps 3 and 5, true where the step refuses nothing; e is step 10's, true where it refuses. What steps 5 and 10 ask is of
  -- the bearer that step 3 has found
  module _ (ok : TableInRange t) {n d e : Bool} (sn : Says n Named) (sd : Named → Says d Allowed) (se : Named → Says e Emptied)
      (reads : Emptied → read ≡ 0) where
    abbrev from_fifth : ℕ
    from_fifth = pick d (pick e 41 read) 41

    abbrev from_third : ℕ
    from_third = pick n (pick (head_fine value) from_fifth 42) 43

    abbrev from_second : ℕ
    from_second = pick (not (mismatch t x)) from_third 47

    abbrev given : ℕ
    given = pick (well_formed t) from_second 1

    why : Why given
    why =
        let well = well_says t ok in
        let matched = matched_says t x in
        let head = head_says value in
        by_test Why (well_formed t) from_second 1 (λ a.
        by_test Why (not (mismatch t x)) from_third 47 (λ b.
        by_test Why n (pick (head_fine value) from_fifth 42) 43 (λ c. let f : IsFound = record { well = well.to a; matched = matched.to b; named = sn.to c } in
        by_test Why (head_fine value) from_fifth 42 (λ h.
        by_test Why d (pick e 41 read) 41 (λ q. let p : HasPassed = record { found = f; head = head.to h; allowed = (sd f.named).to q } in
        by_test Why e 41 read (λ z. inr (p, (se f.named).to z)) (λ z. why_read p (says_ne (se f.named) z) (read_element value).answer refl))
        (λ q. inl ((f, head.to h), says_ne (sd f.named) q))) (λ h. inl (f, says_ne head h)))
        (λ c. ((well.to a, matched.to b), says_ne sn c))) (λ b. (well.to a, says_ne matched b))) (λ a. says_ne well a)

    when_matched : WellFormed t × Matched t x → given ≡ from_third
    when_matched q = rw ((well_says t ok).from q.0, (matched_says t x).from q.1)

    when_found : IsFound → given ≡ pick (head_fine value) from_fifth 42
    when_found f = when_matched (f.well, f.matched) ∙ rw (sn.from f.named)

    when_headed : IsFound × Headed value → given ≡ from_fifth
    when_headed q = when_found q.0 ∙ rw ((head_says value).from q.1)

    when_passed : HasPassed → given ≡ pick e 41 read
    when_passed p = when_headed (p.found, p.head) ∙ rw ((sd p.found.named).from p.allowed)

    when_read : (k : ℕ) → (k ≡ 0 → ⊥) → HasPassed × (read ≡ k) → given ≡ k
    when_read k n q = when_passed q.0 ∙ rw (says_no (se q.0.found.named) (λ z. n (sym q.1 ∙ reads z))) q.1

    numbered : Numbered t x value Named Allowed Emptied given
    numbered =
        let to : (k : ℕ) → given ≡ k → Why k = λ k e. subst Why e why in
        record {
          is1 = (to 1, λ n. rw (says_no (well_says t ok) n));
          is47 = (to 47, λ q. rw ((well_says t ok).from q.0, says_no (matched_says t x) q.1));
          is43 = (to 43, λ q. when_matched q.0 ∙ rw (says_no sn q.1));
          is42 = (to 42, ⊎_elim (λ q. when_found q.0 ∙ rw (says_no (head_says value) q.1)) (when_read 42 (λ z. omega arith)));
          is41 = (
            to 41,
            ⊎_elim (λ q. when_headed q.0 ∙ rw (says_no (sd q.0.0.named) q.1)) (λ q. when_passed q.0 ∙ rw ((se q.0.found.named).from q.1)),
          );
          is44 = (to 44, when_read 44 (λ z. omega arith));
          is45 = (to 45, when_read 45 (λ z. omega arith));
          is0 = (to 0, λ q. when_passed q.0.0 ∙ rw (says_no (se q.0.0.found.named) q.1) q.0.1);
        }

    -- of a call whose steps from the third on give that number
    ordered : (bearer : ℕ) (o : Outcome) → number_in o ≡ from_third
        → Numbered t x value Named Allowed Emptied (number_in (pick (well_formed t) (pick (mismatch t x) (rejected_with t bearer Transaction) o) (malformed t)))
    ordered bearer o q =
        subst (Numbered t x value Named Allowed Emptied) (sym (matched_number (well_formed t) (mismatch t x) t bearer o ∙ rw q)) numbered

-- ---- The numbers that the calls give from step 3 on, u after step 5
module _ (t : Table) (bearer : ℕ) (o : Outcome) {u : ℕ} (given : number_in o ≡ u) where
  modify_next : (i h d : Bool)
      → number_in (pick i (rejected_with t bearer BearerIdentity) (pick h (pick d (rejected_with t bearer TftSemantics) o) (answered t (reject_head bearer))))
      ≡ pick (not i) (pick h (pick (not d) u 41) 42) 43
  modify_next true h d = refl
  modify_next false true true = refl
  modify_next false true false = given
  modify_next false false d = refl

  activate_next : (n h d : Bool)
      → number_in (pick n (pick h (pick d o (rejected_with t bearer TftSemantics)) (answered t (reject_head bearer))) (rejected_with t bearer BearerIdentity))
      ≡ pick n (pick h (pick d u 41) 42) 43
  activate_next true true true = given
  activate_next true true false = refl
  activate_next true false d = refl
  activate_next false h d = refl

-- what follows gives the reader's number, but for step 10
deleted_number : (b : Bool) (t s : Table) (bearer : ℕ) → number_in (pick b (rejected_with t bearer TftSemantics) (answered s (Accept bearer))) ≡ pick b 41 0
deleted_number true t s bearer = refl
deleted_number false t s bearer = refl

modified_number : (a : ReadAnswer) (t : Table) (bearer : ℕ) (e : Element)
    → number_in (modified_by a t bearer e) ≡ pick (is_identifiers a && (is_dedicated (role_of t bearer) && empties t (index_of bearer) e.marks)) 41 (read_number a)
unfolding deleted_filters deleted_tft
modified_number (read_refused refusal) t bearer e = same_number refusal.cause
modified_number (Filters operation) t bearer e = laid_number t bearer e.filters (creates operation)
modified_number Identifiers t bearer e = deleted_number (is_dedicated (role_of t bearer) && empties t (index_of bearer) e.marks) t _ bearer
modified_number (Bare DeleteTft) t bearer e = refl
modified_number (Bare NoOperation) t bearer e = refl

activated_number : (a : ReadAnswer) (t : Table) (bearer link : ℕ) (new : List Filter) → number_in (activated_by (verdict_on a) t bearer link new) ≡ read_number a
activated_number (read_refused refusal) t bearer link new = same_number refusal.cause
activated_number (Filters operation) t bearer link new = laid_number (build (opened_view t (index_of bearer) (Dedicated link))) bearer new true
activated_number Identifiers t bearer link new = laid_number (build (opened_view t (index_of bearer) (Dedicated link))) bearer new true
activated_number (Bare kind) t bearer link new = laid_number (build (opened_view t (index_of bearer) (Dedicated link))) bearer new true

-- ---- The calls. Steps 3 to 5 and 10 are asked of the table in which the match is closed; the roles and rows are the same
module _ (t : Table) (ok : TableInRange t) (x : ℕ) where
  pub closed_same : (i : ℕ) → i < bearer_count → Stays t (closed t x) x i
  closed_same i l = closed_stays t x i l (each_at ok.bearers no_bearer i l).row.count

  closes : (bearer : ℕ) → Identity bearer → Stays t (closed t x) x (index_of bearer)
  closes bearer h = closed_same (index_of bearer) (omega (arith, h.0, h.1))

  pub role_closed : (bearer : ℕ) → role_of (closed t x) bearer ≡ role_of t bearer
  role_closed bearer = go (is_identity bearer) refl
    where
      go : (b : Bool) → is_identity bearer ≡ b → pick b (role_at (closed t x) (index_of bearer)) Idle ≡ pick b (role_at t (index_of bearer)) Idle
      go true e = (closes bearer ((range_says bearer).to e)).role
      go false e = refl

  module _ (bearer : ℕ) where
    active_closed : Says (not (is_idle (role_of (closed t x) bearer))) (Active t bearer)
    active_closed = rw (role_closed bearer) (active_says t bearer)

    permitted_closed : (value : List ℕ) → Identity bearer
        → Says (not (is_dedicated (role_of (closed t x) bearer) && eqb (operation_of value) delete_tft)) (Permitted t bearer value)
    permitted_closed value h = rw (role_closed bearer) (permitted_says t bearer value h)

    emptied_closed : (value : List ℕ) → Identity bearer → Says (emptied_by (closed t x) bearer (read_element value)) (Empties t bearer value)
    emptied_closed value h =
        rw (role_closed bearer, empties_as t (closed t x) (index_of bearer) (read_element value).marks (closes bearer h).row) (emptied_says t bearer value h)

    linkable_closed : (link : ℕ) → Says (available (closed t x) bearer && is_default (role_of (closed t x) link)) (Linkable t bearer link)
    linkable_closed link = rw (role_closed bearer, role_closed link) (linkable_says t bearer link)

pub modify_numbers : (t : Table) → TableInRange t → (bearer x : ℕ) (value : List ℕ)
    → Numbered t x value (Active t bearer) (Permitted t bearer value) (Empties t bearer value) (number_of (modify_of t bearer x value).reply.answer)
unfolding modify_of modify_named modify_read
modify_numbers t ok bearer x value =
    let s = closed t x in
    let e = read_element value in
    ordered t x value (Active t bearer) (Permitted t bearer value) (Empties t bearer value) ok (active_closed t ok x bearer)
    (λ h. permitted_closed t ok x bearer value h.0) (λ h. emptied_closed t ok x bearer value h.0) (λ h. ap read_number h.deletes) bearer
    (modify_named s bearer value)
    (modify_next s bearer (modified_by e.answer s bearer e) (modified_number e.answer s bearer e) (is_idle (role_of s bearer)) (head_fine value)
    (is_dedicated (role_of s bearer) && eqb (operation_of value) delete_tft))

pub activate_numbers : (t : Table) → TableInRange t → (bearer link x : ℕ) (value : List ℕ)
    → Numbered t x value (Linkable t bearer link) (IsCreate value) ⊥ (number_of (activate_dedicated_of t bearer link x value).reply.answer)
unfolding activate_dedicated_of activate_named activate_read
activate_numbers t ok bearer link x value =
    let s = closed t x in
    let e = read_element value in
    ordered t x value (Linkable t bearer link) (IsCreate value) ⊥ ok (linkable_closed t ok x bearer link)
    (λ h. says_eq (operation_of value) create) (λ h. record { to = λ e. false≢true e; from = λ e. absurd e }) (λ e. absurd e) bearer
    (activate_named s bearer link value)
    (activate_next s bearer (activated_by (verdict_on e.answer) s bearer link e.filters) (activated_number e.answer s bearer link e.filters)
    (available s bearer && is_default (role_of s link)) (head_fine value) (eqb (operation_of value) create))

-- ---- The other calls, their tests in turn
module _ (t : Table) (ok : TableInRange t) where
  -- no number but these is given
  other_than : (n : ℕ) (b : Bool) (k l : ℕ) → (k ≡ n → ⊥) → (l ≡ n → ⊥) → pick b k l ≡ n → ⊥
  other_than n = picked (λ (k : ℕ). k ≡ n → ⊥)

  number_of_lem : (b : Bool) (o u : Outcome) → number_in (pick b o u) ≡ pick b (number_in o) (number_in u)
  number_of_lem true o u = refl
  number_of_lem false o u = refl

  pub activate_default_numbers : (bearer : ℕ) → DefaultNumbered t bearer (number_in (activate_default_of t bearer))
  unfolding activate_default_of
  activate_default_numbers bearer =
      let w = well_says t ok in
      let a = available_says t bearer in
      subst (DefaultNumbered t bearer) (sym (number_of_lem (well_formed t) _ _ ∙ ap (λ (k : ℕ). pick (well_formed t) k 1) (number_of_lem (available t bearer) _ _)))
      (record {
        is1 = unless_here w refl (other_than 1 (available t bearer) 0 43 (λ e. omega arith) (λ e. omega arith));
        is43 = unless_later w (λ e. omega arith) (unless_here a refl (λ e. omega arith));
        is0 = unless_later w (λ e. omega arith) (where_here a refl (λ e. omega arith));
      })

  pub deactivate_numbers : (bearer x : ℕ) → DeactivateNumbered t (number_in (deactivate_of t bearer x))
  unfolding deactivate_of
  deactivate_numbers bearer x =
      subst (DeactivateNumbered t) (sym (number_of_lem (well_formed t) _ _)) (record { is1 = unless_here (well_says t ok) refl (λ e. omega arith); is0 = where_here (well_says t ok) refl (λ e. omega arith) })

  pub reject_numbers : (x cause : ℕ) → RejectNumbered t x (number_in (reject_of t x cause))
  unfolding reject_of
  reject_numbers x cause =
      let w = well_says t ok in
      subst (RejectNumbered t x) (sym (number_of_lem (well_formed t) _ _ ∙ ap (λ (k : ℕ). pick (well_formed t) k 1) (number_of_lem (is_open t x) _ _)))
      (record {
        is1 = unless_here w refl (other_than 1 (is_open t x) 0 3 (λ e. omega arith) (λ e. omega arith));
        is3 = unless_later w (λ e. omega arith) (unless_here (open_says t x) refl (λ e. omega arith));
        is0 = unless_later w (λ e. omega arith) (where_here (open_says t x) refl (λ e. omega arith));
      })

  start_number : (w r i z o : Bool) (s : Table) (x : ℕ)
      → number_in (pick w (pick r (answered t (Refused NoIdentity)) (pick i (answered t (Refused NoBearer))
      (pick z (pick o (answered t (Refused AlreadyOpen)) (answered s (Started x))) (answered t (Refused BearerBusy))))) (malformed t))
      ≡ pick w (pick r 4 (pick (not i) (pick z (pick o 5 0) 7) 6)) 1
  start_number true true i z o s x = refl
  start_number true false true z o s x = refl
  start_number true false false true true s x = refl
  start_number true false false true false s x = refl
  start_number true false false false o s x = refl
  start_number false r i z o s x = refl

  pub start_numbers : (x bearer : ℕ) → StartNumbered t x bearer (number_in (start_of t x bearer))
  unfolding start_of
  start_numbers x bearer =
      let w = well_says t ok in
      let r = says_or (says_eq x 0) (says_eq x 255) in
      let i = active_says t bearer in
      let z = says_eq (transaction_at t (index_of bearer)) 0 in
      let o = open_says t x in
      subst (StartNumbered t x bearer)
      (sym (start_number (well_formed t) (eqb x 0 || eqb x 255) (is_idle (role_of t bearer)) (eqb (transaction_at t (index_of bearer)) 0) (is_open t x) _ x))
      (record {
        is1 = unless_here w refl (other_than 1 (eqb x 0 || eqb x 255) 4 _ (λ e. omega arith) (rest 1 (λ e. omega arith) (λ e. omega arith) (λ e. omega arith) (λ e. omega arith)));
        is4 = unless_later w (λ e. omega arith) (where_here r refl (rest 4 (λ e. omega arith) (λ e. omega arith) (λ e. omega arith) (λ e. omega arith)));
        is6 = unless_later w (λ e. omega arith) (where_later r (λ e. omega arith) (unless_here i refl (later 6 (λ e. omega arith) (λ e. omega arith) (λ e. omega arith))));
        is7 = unless_later w (λ e. omega arith) (where_later r (λ e. omega arith) (unless_later i (λ e. omega arith)
            (unless_here z refl (other_than 7 (is_open t x) 5 0 (λ e. omega arith) (λ e. omega arith)))));
        is5 = unless_later w (λ e. omega arith) (where_later r (λ e. omega arith) (unless_later i (λ e. omega arith)
            (unless_later z (λ e. omega arith) (where_here o refl (λ e. omega arith)))));
        is0 = unless_later w (λ e. omega arith) (where_later r (λ e. omega arith) (unless_later i (λ e. omega arith)
            (unless_later z (λ e. omega arith) (unless_here o refl (λ e. omega arith)))));
      })
    where
      later : (n : ℕ) → (5 ≡ n → ⊥) → (0 ≡ n → ⊥) → (7 ≡ n → ⊥) → pick (eqb (transaction_at t (index_of bearer)) 0) (pick (is_open t x) 5 0) 7 ≡ n → ⊥
      later n a b c = other_than n (eqb (transaction_at t (index_of bearer)) 0) _ 7 (other_than n (is_open t x) 5 0 a b) c

      rest : (n : ℕ) → (5 ≡ n → ⊥) → (0 ≡ n → ⊥) → (7 ≡ n → ⊥) → (6 ≡ n → ⊥)
          → pick (not (is_idle (role_of t bearer))) (pick (eqb (transaction_at t (index_of bearer)) 0) (pick (is_open t x) 5 0) 7) 6 ≡ n → ⊥
      rest n a b c d = other_than n (not (is_idle (role_of t bearer))) _ 6 (later n a b c) d
