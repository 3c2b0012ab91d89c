-- How samples are computed: each call past its first test, on tables that are well formed. That test asks of the lists too, which computed would be 2816 octets for
-- every table; here laws say that it holds, and what is left is computed. The samples are said of the definitions themselves.
-- Assumes nothing.
use mathlib.Core.Path.{◌≡◌, refl, ◌∙◌, ap, ap₂, fun_ext}
use mathlib.Core.Bool.{Bool, true, ◌||◌}
use mathlib.Core.List.{List, [], ◌∷◌}
use Prim.Native.Nat.{ℕ, ◌+◌, ◌*◌, ◌/◌, ◌%◌, ◌<◌}
use native.Mathlib.Omega.{arith}
use lib.Dec.{eqb, leb}
use lib.ListN.{length}
use Rattle.std.specs.Prelude.{Option, Some, None, Result, Ok, Err}
use Rattle.laws.specs.Says.{pick}
use Rattle.laws.specs.Index.{tab}
use Rattle.laws.specs.Lists.{All, every}
use Rattle.laws.proofs.Index.{tab_at, tab_same}
use Rattle.laws.proofs.Says.{says_le}
use Rattle.laws.proofs.Tests.{both}
use Rattle.filter.specs.declared.packet.Header.{Header}
use Rattle.filter.specs.Sizes.{precedence_count}
use Rattle.filter.specs.Fit.{valid_header}
use Rattle.element.specs.Meaning.{Octet}
use Rattle.table.specs.declared.bearer.Role.TheVariants.{Default}
use Rattle.table.specs.declared.bearer.Bearer.{Bearer}
use Rattle.table.specs.declared.bearer.Table.{Table}
use Rattle.table.specs.Bearers.{bearer_count, index_of, identity_of, transaction_at, is_idle, is_default, role_of}
use Rattle.table.specs.Lists.{nothing, entry_at, encoded, decoded, held_count, cell_at, lists_of, held_at, held_list}
use Rattle.table.specs.Tables.{table_of, build}
use Rattle.table.specs.WellFormed.{bearers_fine, well_formed}
use Rattle.table.proofs.Listing.{entry_decoded}
use Rattle.table.proofs.Meaning.{built_right, range_says, well_says}
use Rattle.calls.specs.declared.reply.Cause.TheVariants.{BearerIdentity, Transaction}
use Rattle.calls.specs.declared.reply.Refusal.TheVariants.{NotOpen, NoIdentity, AlreadyOpen, NoBearer, BearerBusy, StatusLength, UnknownMessage}
use Rattle.calls.specs.declared.reply.Answer.TheVariants.{Accept, Started, Closed, Synchronised, Refused}
use Rattle.calls.specs.declared.reply.Reply.{Reply}
use Rattle.calls.specs.declared.reply.Outcome.{Outcome}
use Rattle.calls.specs.Reply.{cause_number, answered, rejected_with}
use Rattle.calls.specs.Steps.{is_open, closed, dropped}
use Rattle.table.specs.Changes.{started_view, opened_view, cut_view}
use Rattle.calls.specs.Modify.{mismatch, modify_named, modify_of}
use Rattle.calls.specs.Others.{available, activate_default_of, activate_named, activate_dedicated_of, deactivate_of, after_reject, reject_of, start_of}
use Rattle.calls.specs.Changes.{Sound}
use Rattle.status.specs.Value.{status_octets}
use Rattle.status.specs.Take.{gone_by, synchronise_of}
use Rattle.messages.specs.declared.layout.Kind.{Kind}
use Rattle.messages.specs.declared.layout.Kind.TheVariants.{DedicatedRequest, DedicatedAccept, DedicatedReject, ModifyRequest, ModifyAccept}
use Rattle.messages.specs.declared.layout.Kind.TheVariants.{ModifyReject, DeactivateRequest, DeactivateAccept, ModificationReject}
use Rattle.messages.specs.declared.layout.Fault.{Fault}
use Rattle.messages.specs.Read.{Fields}
use Rattle.messages.specs.Write.{value_of}
use Rattle.messages.specs.Handle.{asked_by, accept_of, refusal_of, call_by, handled_by, handle_of}
use Rattle.route.specs.declared.answer.Refusal.TheVariants.{NoDefault, InvalidHeader}
use Rattle.std.specs.Prelude.{Result, Ok, Err}
use Rattle.route.specs.declared.answer.Route.{Route}
use Rattle.route.specs.declared.answer.Refusal.{Refusal as RouteRefusal}
use Rattle.route.specs.Routes.{route_on, route_of}
use Rattle.promises.specs.Calls.{Call, activate_default, activate_dedicated, modify, deactivate, reject, start, synchronise, handle, Sent, Outcomes, outcomes, outcome_by, run_by, replies_by, outcome_of, run, replies}
use Rattle.promises.proofs.Demand3.{call_sound}

-- ---- a table that is made from its bearers is well formed where they are
pub built_well : (bs : List Bearer) → bearers_fine (table_of bs) ≡ true → well_formed (table_of bs) ≡ true
unfolding well_formed
built_well bs e = rw (e, built_right bs)

-- .. and the list of each identity is what the rule gives, position by position
built_list : (bs : List Bearer) (i : ℕ) → i < bearer_count → held_list (table_of bs) (identity_of i) ≡ tab (entry_at bs (identity_of i)) precedence_count
unfolding held_list lists_of cell_at
built_list bs i l = tab_same nothing (held_at (table_of bs) (identity_of i)) (entry_at bs (identity_of i)) precedence_count at
  where
    at : (p : ℕ) → p < precedence_count → held_at (table_of bs) (identity_of i) p ≡ entry_at bs (identity_of i) p
    at p m =
        let n = index_of (identity_of i) * precedence_count + p in
        let q : identity_of (n / precedence_count) ≡ identity_of i = omega arith in
        let o : n % precedence_count ≡ p = omega arith in
        rw ((range_says (identity_of i)).from (omega arith, omega arith))
        (ap decoded (tab_at (cell_at bs) held_count n 0 (omega arith) ∙ ap₂ (λ (e p : ℕ). encoded (entry_at bs e p)) q o) ∙ entry_decoded (table_of bs) (identity_of i) p)

-- ---- each call past its first test
-- by the kind of a message; a reply is never asked
abbrev fine_by : Kind → Option (List ℕ) → Table → ℕ → ℕ → Outcome
fine_by (DedicatedRequest link) tft t bearer x = pick (mismatch t x) (rejected_with t bearer Transaction) (activate_named (closed t x) bearer link (value_of tft))
fine_by ModifyRequest None t bearer x =
    pick (mismatch t x) (rejected_with t bearer Transaction)
    (pick (is_idle (role_of (closed t x) bearer)) (rejected_with (closed t x) bearer BearerIdentity) (answered (closed t x) (Accept bearer)))
fine_by ModifyRequest (Some value) t bearer x = pick (mismatch t x) (rejected_with t bearer Transaction) (modify_named (closed t x) bearer value)
fine_by (DeactivateRequest why) tft t bearer x = answered (dropped (closed t x) bearer) (Accept bearer)
fine_by (ModificationReject why) tft t bearer x =
    pick (is_open t x) (answered (after_reject (eqb why (cause_number BearerIdentity)) t x) (Closed x)) (answered t (Refused NotOpen))
fine_by DedicatedAccept tft t bearer x = answered t (Refused UnknownMessage)
fine_by (DedicatedReject why) tft t bearer x = answered t (Refused UnknownMessage)
fine_by ModifyAccept tft t bearer x = answered t (Refused UnknownMessage)
fine_by (ModifyReject why) tft t bearer x = answered t (Refused UnknownMessage)
fine_by DeactivateAccept tft t bearer x = answered t (Refused UnknownMessage)

abbrev fine_said : Result Fields Fault → Table → Outcome
fine_said (Err fault) t = answered t (Refused (refusal_of fault))
fine_said (Ok f) t = fine_by f.kind f.tft t f.bearer f.transaction

abbrev pub fine_outcomes : Table → Outcomes
fine_outcomes t =
    record {
      default = λ bearer. pick (available t bearer) (answered (build (opened_view t (index_of bearer) Default)) (Accept bearer)) (rejected_with t bearer BearerIdentity);
      dedicated = λ bearer link x value. pick (mismatch t x) (rejected_with t bearer Transaction) (activate_named (closed t x) bearer link value);
      modified = λ bearer x value. pick (mismatch t x) (rejected_with t bearer Transaction) (modify_named (closed t x) bearer value);
      deactivated = λ bearer x. answered (dropped (closed t x) bearer) (Accept bearer);
      rejected = λ x cause. pick (is_open t x) (answered (after_reject (eqb cause (cause_number BearerIdentity)) t x) (Closed x)) (answered t (Refused NotOpen));
      started = λ x bearer.
          pick (eqb x 0 || eqb x 255) (answered t (Refused NoIdentity))
          (pick (is_idle (role_of t bearer)) (answered t (Refused NoBearer))
          (pick (eqb (transaction_at t (index_of bearer)) 0)
          (pick (is_open t x) (answered t (Refused AlreadyOpen)) (answered (build (started_view t (index_of bearer) x)) (Started x)))
          (answered t (Refused BearerBusy))));
      synchronised = λ value. pick (eqb (length value) status_octets) (answered (build (cut_view t (gone_by value t))) Synchronised) (answered t (Refused StatusLength));
      handled = λ message. fine_said (asked_by message) t;
    }

abbrev made : (ℕ → Outcome) → (ℕ → ℕ → ℕ → List ℕ → Outcome) → (ℕ → ℕ → List ℕ → Outcome) → (ℕ → ℕ → Outcome) → (ℕ → ℕ → Outcome) → (ℕ → ℕ → Outcome)
    → (List ℕ → Outcome) → (List ℕ → Outcome) → Outcomes
made a b c d e f g h = record { default = a; dedicated = b; modified = c; deactivated = d; rejected = e; started = f; synchronised = g; handled = h }

-- on a well-formed table that is what the eight functions give
module _ (t : Table) (e : well_formed t ≡ true) where
  kind_fine : (kind : Kind) (tft : Option (List ℕ)) (bearer x : ℕ) → call_by kind tft t bearer x ≡ fine_by kind tft t bearer x
  unfolding activate_dedicated_of modify_of deactivate_of reject_of accept_of
  kind_fine (DedicatedRequest link) tft bearer x = rw e
  kind_fine ModifyRequest None bearer x = rw e
  kind_fine ModifyRequest (Some value) bearer x = rw e
  kind_fine (DeactivateRequest why) tft bearer x = rw e
  kind_fine (ModificationReject why) tft bearer x = rw e
  kind_fine DedicatedAccept tft bearer x = rw e
  kind_fine (DedicatedReject why) tft bearer x = rw e
  kind_fine ModifyAccept tft bearer x = rw e
  kind_fine (ModifyReject why) tft bearer x = rw e
  kind_fine DeactivateAccept tft bearer x = rw e

  said_fine : (said : Result Fields Fault) → (handled_by said t).outcome ≡ fine_said said t
  said_fine (Err fault) = rw e
  said_fine (Ok f) = kind_fine f.kind f.tft f.bearer f.transaction

  abbrev was : Outcomes
  was = outcomes t

  abbrev is : Outcomes
  is = fine_outcomes t

  default_fine : was.default ≡ is.default
  unfolding activate_default_of
  default_fine = fun_ext (λ bearer. rw e)

  dedicated_fine : was.dedicated ≡ is.dedicated
  unfolding activate_dedicated_of
  dedicated_fine = fun_ext (λ bearer. fun_ext (λ link. fun_ext (λ x. fun_ext (λ value. rw e))))

  modified_fine : was.modified ≡ is.modified
  unfolding modify_of
  modified_fine = fun_ext (λ bearer. fun_ext (λ x. fun_ext (λ value. rw e)))

  deactivated_fine : was.deactivated ≡ is.deactivated
  unfolding deactivate_of
  deactivated_fine = fun_ext (λ bearer. fun_ext (λ x. rw e))

  rejected_fine : was.rejected ≡ is.rejected
  unfolding reject_of
  rejected_fine = fun_ext (λ x. fun_ext (λ cause. rw e))

  started_fine : was.started ≡ is.started
  unfolding start_of
  started_fine = fun_ext (λ x. fun_ext (λ bearer. rw e))

  synchronised_fine : was.synchronised ≡ is.synchronised
  unfolding synchronise_of
  synchronised_fine = fun_ext (λ value. rw e)

  handled_fine : was.handled ≡ is.handled
  unfolding handle_of
  handled_fine = fun_ext (λ message. said_fine (asked_by message))

  all_fine : outcomes t ≡ fine_outcomes t
  all_fine =
      ap (λ (f : ℕ → Outcome). made f was.dedicated was.modified was.deactivated was.rejected was.started was.synchronised was.handled) default_fine
      ∙ ap (λ (f : ℕ → ℕ → ℕ → List ℕ → Outcome). made is.default f was.modified was.deactivated was.rejected was.started was.synchronised was.handled) dedicated_fine
      ∙ ap (λ (f : ℕ → ℕ → List ℕ → Outcome). made is.default is.dedicated f was.deactivated was.rejected was.started was.synchronised was.handled) modified_fine
      ∙ ap (λ (f : ℕ → ℕ → Outcome). made is.default is.dedicated is.modified f was.rejected was.started was.synchronised was.handled) deactivated_fine
      ∙ ap (λ (f : ℕ → ℕ → Outcome). made is.default is.dedicated is.modified is.deactivated f was.started was.synchronised was.handled) rejected_fine
      ∙ ap (λ (f : ℕ → ℕ → Outcome). made is.default is.dedicated is.modified is.deactivated is.rejected f was.synchronised was.handled) started_fine
      ∙ ap (λ (f : List ℕ → Outcome). made is.default is.dedicated is.modified is.deactivated is.rejected is.started f was.handled) synchronised_fine
      ∙ ap (λ (f : List ℕ → Outcome). made is.default is.dedicated is.modified is.deactivated is.rejected is.started is.synchronised f) handled_fine

  -- whatever is made of that
  by_fine : (c : Call) → outcome_by (λ (s : Table). was) t c ≡ outcome_by (λ (s : Table). is) t c
  by_fine c = ap (λ (o : Outcomes). outcome_by (λ (s : Table). o) t c) all_fine

  pub fine_outcome : (c : Call) → outcome_of t c ≡ outcome_by fine_outcomes t c
  fine_outcome (activate_default bearer) = by_fine (activate_default bearer)
  fine_outcome (activate_dedicated bearer link x value) = by_fine (activate_dedicated bearer link x value)
  fine_outcome (modify bearer x value) = by_fine (modify bearer x value)
  fine_outcome (deactivate bearer x) = by_fine (deactivate bearer x)
  fine_outcome (reject x cause) = by_fine (reject x cause)
  fine_outcome (start x bearer) = by_fine (start x bearer)
  fine_outcome (synchronise value) = by_fine (synchronise value)
  fine_outcome (handle message) = by_fine (handle message)

-- ---- .. and a sequence of them, since every call leaves a well-formed table
first_fine : (t : Table) → Sound t → (c : Call) → outcome_of t c ≡ outcome_by fine_outcomes t c
first_fine t k c = fine_outcome t ((well_says t k.in_range).from k.well) c

pub fine_run : (t : Table) → Sound t → (cs : List Call) → All Sent cs → run t cs ≡ run_by fine_outcomes t cs
unfolding run_by
fine_run t k [] s = refl
fine_run t k (c ∷ cs) s =
    fine_run (outcome_of t c).table (call_sound t k c s.0) cs s.1 ∙ ap (λ (o : Outcome). run_by fine_outcomes o.table cs) (first_fine t k c)

pub fine_replies : (t : Table) → Sound t → (cs : List Call) → All Sent cs → replies t cs ≡ replies_by fine_outcomes t cs
unfolding replies_by
fine_replies t k [] s = refl
fine_replies t k (c ∷ cs) s =
    ap (λ (rs : List Reply). (outcome_of t c).reply ∷ rs) (fine_replies (outcome_of t c).table (call_sound t k c s.0) cs s.1)
    ∙ ap (λ (o : Outcome). o.reply ∷ replies_by fine_outcomes o.table cs) (first_fine t k c)

-- what is asked of the arguments, as a test
unfoldable pub sent : Call → Bool
sent (activate_default bearer) = true
sent (activate_dedicated bearer link x value) = every (λ (n : ℕ). leb n 255) value
sent (modify bearer x value) = every (λ (n : ℕ). leb n 255) value
sent (deactivate bearer x) = true
sent (reject x cause) = true
sent (start x bearer) = leb x 255
sent (synchronise value) = true
sent (handle message) = every (λ (n : ℕ). leb n 255) message

every_all : {A : Type 0} (test : A → Bool) (P : A → Type 0) → ((x : A) → test x ≡ true → P x) → (xs : List A) → every test xs ≡ true → All P xs
unfolding every
every_all test P h [] e = tt
every_all test P h (x ∷ xs) e = let b = both (test x) (every test xs) e in (h x b.0, every_all test P h xs b.1)

octets_say : (xs : List ℕ) → every (λ (n : ℕ). leb n 255) xs ≡ true → All Octet xs
octets_say = every_all (λ (n : ℕ). leb n 255) Octet (λ n e. let l = (says_le n 255).to e in omega arith)

pub all_sent : (cs : List Call) → every sent cs ≡ true → All Sent cs
unfolding sent
all_sent = every_all sent Sent one
  where
    one : (c : Call) → sent c ≡ true → Sent c
    one (activate_default bearer) e = tt
    one (activate_dedicated bearer link x value) e = octets_say value e
    one (modify bearer x value) e = octets_say value e
    one (deactivate bearer x) e = tt
    one (reject x cause) e = tt
    one (start x bearer) e = let l = (says_le x 255).to e in omega arith
    one (synchronise value) e = tt
    one (handle message) e = octets_say message e

-- ---- a route on the connection of 5, past its first test, by the list that the rule gives
abbrev pub fine_route : List Bearer → Header → Result Route RouteRefusal
fine_route bs h =
    pick (is_default (role_of (table_of bs) 5)) (pick (valid_header h) (Ok (route_on (table_of bs) 5 h (tab (entry_at bs 5) precedence_count))) (Err InvalidHeader)) (Err NoDefault)

pub fine_route_lem : (bs : List Bearer) → bearers_fine (table_of bs) ≡ true → (h : Header) → route_of (table_of bs) 5 h ≡ fine_route bs h
unfolding route_of
fine_route_lem bs e h = rw (built_well bs e, built_list bs 0 (omega arith))
