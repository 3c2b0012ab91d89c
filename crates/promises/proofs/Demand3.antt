-- DEMAND 3. After any sequence of calls from the empty table no two filters of a connection share a precedence, and the ordered list's first fit is the
-- route of the order-free rule. A bearer that a modify doesn't name changes only in the three ways listed.
-- Assumes nothing.
use mathlib.Core.Path.{◌≡◌, refl, sym, ◌∙◌, ap, ap₂, subst}
use mathlib.Core.Bool.{true, false}
use mathlib.Core.Logic.{◌↔◌}
use mathlib.Core.List.{List, [], ◌∷◌}
use Prim.Native.Nat.{ℕ, ◌^◌, ◌<◌}
use native.Mathlib.Omega.{arith}
use lib.ListN.{get_or, drop, replicate}
use Rattle.calls.specs.Reply.{number_of}
use Rattle.route.specs.Why.{why_number, why_of}
use Rattle.laws.proofs.Index.{tab_at}
use Rattle.laws.specs.Index.{all_below}
use Rattle.laws.specs.Lists.{All, Each}
use Rattle.laws.proofs.Lists.{each_replicate, each_tab}
use Rattle.laws.proofs.Parts.{all_take, all_drop}
use Rattle.laws.proofs.Says.{picked, says_no}
use Rattle.filter.specs.declared.packet.Header.{Header}
use Rattle.filter.specs.Ranges.{FilterInRange}
use Rattle.filter.proofs.Ranges.{nothing_in_range}
use Rattle.filter.specs.Coding.{held, empty_place}
use Rattle.filter.specs.Fit.{valid_header}
use Rattle.element.specs.Meaning.{Octet}
use Rattle.element.specs.Read.{read_element}
use Rattle.table.specs.declared.bearer.Bearer.{Bearer}
use Rattle.table.specs.declared.bearer.Table.{Table}
use Rattle.filter.specs.Sizes.{place_count, precedence_count}
use Rattle.filter.specs.Build.{empty_filter}
use Rattle.table.specs.Bearers.{bearer_count, identity_of, role_at, filter_at, is_default, role_of, connection_at}
use Rattle.table.specs.Lists.{nothing, held_count, cell_at, lists_of, held_list, held_at}
use Rattle.table.specs.Positions.{Stands}
use Rattle.table.specs.Tables.{idle_bearer, empty_table, view}
use Rattle.table.specs.Ranges.{BearerInRange, TableInRange}
use Rattle.table.specs.WellFormed.{filter_fine, bearer_fine, transactions_apart, transaction_from, distinct_transactions, distinct_at, distinct_precedences, bearers_fine, well_formed, Held, ActiveDefault, RightLists, WellFormed, Well}
use Rattle.table.proofs.Listing.{cell_small, list_stands, list_empty, stands_right}
use Rattle.table.proofs.Meaning.{bearers_say, well_says}
use Rattle.calls.specs.declared.reply.Outcome.{Outcome}
use Rattle.calls.specs.Modify.{malformed}
use Rattle.calls.specs.Changes.{Sound, Unnamed}
use Rattle.table.proofs.Rows.{with_lists}
use Rattle.calls.proofs.Whole.{activate_default_sound, activate_dedicated_sound, modify_sound, deactivate_sound, reject_sound, start_sound}
use Rattle.calls.proofs.Release.{modify_unnamed, activate_unnamed}
use Rattle.status.specs.Write.{status_number, write_status_of}
use Rattle.status.proofs.Theorems.{synchronise_sound, status_numbers_lem}
use Rattle.messages.proofs.Carried.{carried_over}
use Rattle.route.specs.declared.answer.Route.{Route}
use Rattle.std.specs.Prelude.{Ok}
use Rattle.route.specs.Routes.{number_of as route_number, route_on, route_of}
use Rattle.route.specs.Rule.{Right}
use Rattle.route.proofs.Theorems.{route_right, right_one, route_says, route_numbers_lem, why_numbers}
use Rattle.promises.specs.Calls.{Call, activate_default, activate_dedicated, modify, deactivate, reject, start, synchronise, handle, Sent, outcome_of, run_by, run, reached}
use Rattle.promises.specs.Messages.{Message, modifies, activates, bearer_named, transaction_of, value_of, handled, connection_for}
use Rattle.promises.proofs.Demand1.{malformed_leaves}

-- ---- "After any sequence of calls from the empty table", refused ones among them, the table is well formed
lists_of_in_range : (bs : List Bearer) → Each (λ n. n < 2 ^ 8) held_count (lists_of bs)
unfolding lists_of
lists_of_in_range bs = each_tab (λ n. n < 2 ^ 8) (cell_at bs) held_count (λ n l. cell_small bs n)

empty_in_range : TableInRange empty_table
unfolding empty_table
empty_in_range =
    record {
      bearers = each_replicate BearerInRange bearer_count _
          (record { role = tt; transaction = omega arith; row = each_replicate FilterInRange place_count empty_filter nothing_in_range });
      lists = lists_of_in_range (replicate bearer_count idle_bearer);
    }

-- its bearers by computation, and its lists are made from them
empty_fine : bearers_fine empty_table ≡ true
unfolding empty_table all_below held empty_place filter_fine bearer_fine transactions_apart transaction_from distinct_transactions distinct_at distinct_precedences bearers_fine
empty_fine = refl

empty_well : WellFormed empty_table
unfolding empty_table
empty_well = record { bearers = (bearers_say empty_table empty_in_range).to empty_fine; lists = refl }

pub empty_sound : Sound empty_table
empty_sound = record { in_range = empty_in_range; well = empty_well }

pub call_sound : (t : Table) → Sound t → (c : Call) → Sent c → Sound (outcome_of t c).table
call_sound t k (activate_default bearer) s = activate_default_sound t k bearer
call_sound t k (activate_dedicated bearer link transaction value) s = activate_dedicated_sound t k bearer link transaction value s
call_sound t k (modify bearer transaction value) s = modify_sound t k bearer transaction value s
call_sound t k (deactivate bearer transaction) s = deactivate_sound t k bearer transaction
call_sound t k (reject transaction cause) s = reject_sound t k transaction cause
call_sound t k (start transaction bearer) s = start_sound t k transaction bearer s
call_sound t k (synchronise value) s = synchronise_sound t value k
call_sound t k (handle message) s =
    carried_over t (All Octet) (λ (o : Outcome). Sound o.table) (λ fault. picked (λ (o : Outcome). Sound o.table) (well_formed t) _ _ k k)
    (activate_dedicated_sound t k) (modify_sound t k) (deactivate_sound t k) (reject_sound t k)
    message tt (omega arith, tt) (λ n m. all_take Octet n (drop m message) (all_drop Octet m message s))

run_sound : (t : Table) → Sound t → (cs : List Call) → All Sent cs → Sound (run t cs)
unfolding run_by
run_sound t k [] s = k
run_sound t k (c ∷ cs) s = run_sound (outcome_of t c).table (call_sound t k c s.0) cs s.1

pub reached_sound : (cs : List Call) → All Sent cs → Sound (reached cs)
reached_sound = run_sound empty_table empty_sound

module _ (cs : List Call) (sent : All Sent cs) where
  -- .. by the test too, so that no call that follows is answered with 1 (`numbers_given`)
  pub reached_well : well_formed (reached cs) ≡ true
  reached_well = let k = reached_sound cs sent in (well_says (reached cs) k.in_range).from k.well

  -- "no two filters of a connection share a precedence"
  pub distinct_precedences_lem : let t = reached cs in
      (i k j l : ℕ) → i < bearer_count → k < bearer_count → j < place_count → l < place_count → connection_at t i ≡ connection_at t k
      → Held (filter_at t i j) → Held (filter_at t k l) → (filter_at t i j).precedence ≡ (filter_at t k l).precedence → (i ≡ k) × (j ≡ l)
  distinct_precedences_lem = (reached_sound cs sent).well.bearers.distinct

  -- "the ordered list's first fit is the route of the order-free rule": it is a right route, and there is no other ..
  pub first_fit_right : (default : ℕ) (h : Header) → let t = reached cs in Right t default h (route_on t default h (held_list t default))
  first_fit_right default h = let k = reached_sound cs sent in route_right (reached cs) k.in_range k.well default h

  pub one_route : (default : ℕ) (h : Header) (r s : Route) → Right (reached cs) default h r → Right (reached cs) default h s → r ≡ s
  one_route default h = right_one (reached cs) (reached_sound cs sent).well default h

  -- .. and for an active default and a valid header it is what the call gives
  pub route_by_rule : (default : ℕ) (h : Header) → is_default (role_of (reached cs) default) ≡ true → valid_header h ≡ true
      → (r : Route) → (route_of (reached cs) default h ≡ Ok r) ↔ Right (reached cs) default h r
  route_by_rule default h d v = route_says (reached cs) default h (reached_sound cs sent).in_range reached_well d v

-- ---- "Hold each connection's list with the table"
-- "After every call on a well-formed table, refused or not, the held lists are those that the rule gives for the table then held" ..
module _ (t : Table) (sound : Sound t) (c : Call) (sent : Sent c) where
  abbrev after : Table
  after = (outcome_of t c).table

  pub call_lists : RightLists after
  call_lists = (call_sound t sound c sent).well.lists

  -- .. which is, at each position of each list and said of all filters in no order: the connection's uplink filter of that precedence, or nothing where there is none
  pub call_stands : (default p : ℕ) → p < precedence_count → Stands after default p (get_or (held_list after default) p nothing)
  call_stands default p l = list_stands after (call_sound t sound c sent).well default p l

  -- .. and of an identity that is no active default's nothing at all
  pub call_unlisted : (identity p : ℕ) → p < precedence_count → (ActiveDefault (role_at after) identity → ⊥) → get_or (held_list after identity) p nothing ≡ nothing
  call_unlisted identity p l n = list_empty after (call_sound t sound c sent).well identity p l n

-- .. and so after every sequence of calls from the empty table
module _ (cs : List Call) (sent : All Sent cs) where
  pub reached_lists : RightLists (reached cs)
  reached_lists = (reached_sound cs sent).well.lists

  pub reached_stands : (default p : ℕ) → p < precedence_count → Stands (reached cs) default p (get_or (held_list (reached cs) default) p nothing)
  reached_stands default p l = list_stands (reached cs) (reached_sound cs sent).well default p l

  pub reached_unlisted : (identity p : ℕ) → p < precedence_count → (ActiveDefault (role_at (reached cs)) identity → ⊥) → get_or (held_list (reached cs) identity) p nothing ≡ nothing
  reached_unlisted identity p l n = list_empty (reached cs) (reached_sound cs sent).well identity p l n

-- the lists are the rule's exactly where, in a table with well-formed bearers, at every position of every list there stands what the rule says in no order
held_stands : (t : Table) (default p : ℕ) → p < precedence_count → Stands t default p (get_or (held_list t default) p nothing) → Stands t default p (held_at t default p)
unfolding held_list
held_stands t default p l h = subst (Stands t default p) (tab_at (held_at t default) precedence_count p nothing l) h

pub lists_stand : (t : Table) → TableInRange t → Well (view t)
    → RightLists t ↔ ((i p : ℕ) → i < bearer_count → p < precedence_count → Stands t (identity_of i) p (held_at t (identity_of i) p))
lists_stand t r w = (
  λ right i p l m. held_stands t (identity_of i) p m (list_stands t (record { bearers = w; lists = right }) (identity_of i) p m),
  stands_right t r w,
)

-- "A table whose list is false is not well formed and gets 1": from every call, which hands it back as it came, from a route and a `why`, and from the writing of a
-- status
module _ (t : Table) (r : TableInRange t) (false_one : RightLists t → ⊥) where
  pub false_list : WellFormed t → ⊥
  false_list w = false_one w.lists

  not_well : well_formed t ≡ false
  not_well = says_no (well_says t r) false_list

  pub false_list_call : (c : Call) → (outcome_of t c ≡ malformed t) × (number_of (outcome_of t c).reply.answer ≡ 1)
  false_list_call c = let e = malformed_leaves t c not_well in (e, ap (λ (o : Outcome). number_of o.reply.answer) e)

  pub false_list_route : (default : ℕ) (h : Header) → route_number (route_of t default h) ≡ 1
  false_list_route default h = (route_numbers_lem t default h r).is1.1 false_list

  pub false_list_why : (default : ℕ) (h : Header) → why_number (why_of t default h) ≡ 1
  false_list_why default h = (why_numbers t default h r).is1.1 false_list

  pub false_list_status : (buffer : List ℕ) → status_number (write_status_of t buffer).written ≡ 1
  false_list_status buffer = (status_numbers_lem t r buffer).is1.1 false_list

-- of given bearers there is one well-formed table: what is held beside them adds nothing to tell apart
pub bearers_alone : (t s : Table) → t.bearers ≡ s.bearers → WellFormed t → WellFormed s → t ≡ s
bearers_alone t s e w v = ap₂ with_lists e (w.lists ∙ ap lists_of e ∙ sym v.lists)

pub same_outcome : (t s : Table) → t.bearers ≡ s.bearers → WellFormed t → WellFormed s → (c : Call) → outcome_of t c ≡ outcome_of s c
same_outcome t s e w v c = ap (λ (t : Table). outcome_of t c) (bearers_alone t s e w v)

-- ---- "A bearer that a modify doesn't name changes only in the three ways listed", on any table: it stays, its transaction perhaps closed; it loses exactly
-- the filters whose precedence a new filter takes; or it goes with its released connection. So it is of a dedicated activation
pub unnamed_bearer : (t : Table) → TableInRange t → (m : Message) (i : ℕ) → i < bearer_count → (identity_of i ≡ bearer_named m → ⊥)
    → Unnamed t (connection_for t m) (bearer_named m) (transaction_of m) (read_element (value_of m)).filters (handled m t) i
unnamed_bearer t r (modifies bearer transaction value) = modify_unnamed t r bearer transaction value
unnamed_bearer t r (activates bearer link transaction value) = activate_unnamed t r bearer link transaction value
