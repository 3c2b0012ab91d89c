-- What an accepted message does to the bearer that it names: said of the ends that modify and dedicated activation have, once.
use mathlib.Core.Path.{◌≡◌, refl, sym, ◌∙◌, ap, subst}
use mathlib.Core.Bool.{Bool, false}
use mathlib.Core.Logic.{⊎_elim}
use mathlib.Core.List.{List}
use Prim.Native.Nat.{ℕ}
use Rattle.laws.proofs.Says.{says_it, says_eq, says_no}
use Rattle.filter.specs.declared.component.Filter.{Filter}
use Rattle.filter.specs.Coding.{held}
use Rattle.filter.specs.Build.{empty_filter}
use Rattle.element.specs.declared.answer.Answer.TheVariants.{Filters}
use Rattle.element.specs.declared.answer.SetOperation.{SetOperation}
use Rattle.element.specs.Read.{read_element}
use Rattle.table.specs.declared.bearer.Role.{Role}
use Rattle.table.specs.declared.bearer.Role.TheVariants.{Dedicated}
use Rattle.table.specs.declared.bearer.Table.{Table}
use Rattle.table.specs.Bearers.{index_of, in_row, role_at}
use Rattle.table.specs.Tables.{build}
use Rattle.table.specs.Ranges.{TableInRange}
use Rattle.table.specs.WellFormed.{Held}
use Rattle.calls.specs.declared.reply.Answer.TheVariants.{Accept}
use Rattle.calls.specs.declared.reply.Outcome.{Outcome}
use Rattle.calls.specs.Reply.{number_of}
use Rattle.calls.specs.Steps.{home}
use Rattle.table.specs.Changes.{of_connection}
use Rattle.calls.specs.Lay.{old, conflict, placed, placed_in, lay_of}
use Rattle.calls.specs.Modify.{creates, modify_of}
use Rattle.calls.specs.Others.{activate_dedicated_of}
use Rattle.calls.specs.Changes.{Closing, Brings, EndsConnection, Overlaid, NamedBearer}
use Rattle.calls.proofs.Views.{role_built, transaction_built, filter_built}
use Rattle.calls.proofs.Preserved.{pick_same}
use Rattle.calls.proofs.Laying.{laid_here, laid_by, ends_says}
use Rattle.calls.proofs.Messages.{rejects_number, closing_on, filter_as, named_by, Ready, Ends, modify_ends, activate_ends}
use Rattle.calls.proofs.Release.{row_same, conflict_ready}

module _ (t : Table) (connection bearer x : ℕ) (s : Table) (ready : Ready t connection bearer x s) where
  closing : Closing t s x (index_of bearer)
  closing = ⊎_elim (λ h. h.transaction) (λ h. h.transaction) (ready.bearers (index_of bearer) ready.inside)

  -- new filters that are laid: its old ones in s are those of t, and so are their conflicts
  overlaid : (new : List Filter) (create : Bool) → Overlaid t connection bearer new create (build (laid_here s bearer new create))
  unfolding placed_in placed old
  overlaid new create =
      let k = index_of bearer in
      let at = filter_built (laid_here s bearer new create) k ready.inside in
      let here = (says_eq k k).from refl in
      let row = row_same t connection bearer x s ready k ready.inside in
      let taken = conflict_ready t connection bearer x s ready new k ready.inside in
      let none : (j : ℕ) → (Held (in_row new j) → ⊥) → held (in_row new j) ≡ false = λ j. says_no (says_it (held (in_row new j))) in
      record {
        brought = λ j m h. at j m ∙ rw (here, h);
        replaced = λ e j m n. at j m ∙ rw (here, none j n, e) (pick_same (conflict new (of_connection s (home s bearer) k) empty_filter) empty_filter);
        stays = λ e j m n q. at j m ∙ rw (here, none j n, e, says_no (taken j m) q) (filter_as t s k j row);
        lost = λ e j m n q. at j m ∙ rw (here, none j n, e, (taken j m).from q);
      }

module _ (t : Table) (role : Role) (connection bearer x : ℕ) (value : List ℕ) where
  abbrev Accepted : Outcome → Type 0
  Accepted o = o.reply.answer ≡ Accept bearer → NamedBearer t role connection bearer x value o.table

  laid : (s : Table) → Ready t connection bearer x s → role_at s (index_of bearer) ≡ role → (operation : SetOperation) → Brings value operation
      → Accepted (lay_of s bearer (read_element value).filters (creates operation))
  laid s ready has operation e h =
      let k = index_of bearer in
      let new = (read_element value).filters in
      let create = creates operation in
      let v = laid_here s bearer new create in
      -- what is released is not accepted
      let stays = says_no (ends_says s bearer new create) (λ q. subst EndsConnection h q) in
      subst (λ (o : Outcome). NamedBearer t role connection bearer x value o.table) (sym (laid_by s bearer new create false stays))
      (named_by t role connection bearer x value (build v) (role_built v k ready.inside ∙ has)
      (closing_on t s (build v) x k (transaction_built v k ready.inside) (closing t connection bearer x s ready)) (Filters operation) e
      (overlaid t connection bearer x s ready new create))

  accepted_ends : Ends t connection bearer x role value Accepted
  accepted_ends = record { refused = λ u a r _ h. absurd (rejects_number a r (ap number_of h)); without = λ u _ _ named _. named; laid = laid }

pub modify_named_bearer : (t : Table) → TableInRange t → (bearer x : ℕ) (value : List ℕ) → (modify_of t bearer x value).reply.answer ≡ Accept bearer
    → NamedBearer t (role_at t (index_of bearer)) (home t bearer) bearer x value (modify_of t bearer x value).table
modify_named_bearer t ok bearer x value =
    let role = role_at t (index_of bearer) in
    let connection = home t bearer in
    modify_ends t ok connection bearer x value (Accepted t role connection bearer x value) (accepted_ends t role connection bearer x value) refl refl

pub activate_named_bearer : (t : Table) → TableInRange t → (bearer link x : ℕ) (value : List ℕ)
    → (activate_dedicated_of t bearer link x value).reply.answer ≡ Accept bearer
    → NamedBearer t (Dedicated link) link bearer x value (activate_dedicated_of t bearer link x value).table
activate_named_bearer t ok bearer link x value =
    activate_ends t ok link bearer x value (Accepted t (Dedicated link) link bearer x value) (accepted_ends t (Dedicated link) link bearer x value) refl
