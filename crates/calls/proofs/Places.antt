-- A reject has the place that the reader gives, and none where the reader has nothing to say.
-- Assumes nothing.
use Rattle.std.specs.Prelude.{Some}
use mathlib.Core.Path.{◌≡◌, refl, sym, ◌∙◌, ap}
use mathlib.Core.Bool.{Bool, true, false, ◌&&◌}
use mathlib.Core.List.{List}
use Prim.Native.Nat.{ℕ}
use lib.Dec.{eqb}
use Rattle.laws.proofs.Says.{picked, by_test}
use Rattle.filter.specs.declared.component.Filter.{Filter}
use Rattle.element.specs.declared.answer.Cause.{Cause as ReadCause}
use Rattle.element.specs.declared.answer.Cause.TheVariants.{Operation, Semantics, Coding}
use Rattle.element.specs.declared.answer.Refusal.{Refusal as ReadRefusal}
use Rattle.element.specs.declared.answer.BareOperation.TheVariants.{DeleteTft, NoOperation}
use Rattle.element.specs.declared.answer.Answer.{Answer as ReadAnswer}
use Rattle.element.specs.declared.answer.Answer.TheVariants.{Filters, Identifiers, Bare, Refused as read_refused}
use Rattle.element.specs.declared.answer.Element.{Element}
use Rattle.element.specs.Numbers.{Verdict, accepted, refused_for, verdict_on}
use Rattle.element.specs.Head.{create, delete_tft, operation_of, head_fine}
use Rattle.element.specs.Read.{read_element}
use Rattle.element.specs.Places.{place_of}
use Rattle.element.proofs.Heads.{head_refused}
use Rattle.element.proofs.Placing.{verdict_place}
use Rattle.table.specs.declared.bearer.Role.TheVariants.{Dedicated}
use Rattle.table.specs.declared.bearer.Table.{Table}
use Rattle.table.specs.Bearers.{index_of, is_idle, is_default, is_dedicated, role_of}
use Rattle.table.specs.Tables.{build}
use Rattle.table.specs.WellFormed.{well_formed}
use Rattle.calls.specs.declared.reply.Answer.TheVariants.{Release, Reattach}
use Rattle.calls.specs.declared.reply.Outcome.{Outcome}
use Rattle.calls.specs.Reply.{cause_of, reject_for, reject_head, answered}
use Rattle.calls.specs.Steps.{closed, empties, home}
use Rattle.table.specs.Changes.{opened_view}
use Rattle.calls.specs.Lay.{released, only_connection, lay_or_release, lay_within, lay_of}
use Rattle.calls.specs.Modify.{mismatch, creates, deleted_filters, deleted_tft, modified_by, modify_read, modify_named, modify_of}
use Rattle.calls.specs.Others.{available, activate_default_of, activated_by, activate_read, activate_named, activate_dedicated_of}
use Rattle.calls.specs.Checks.{place_for, Placed, Unplaced}

-- ---- The ends of a message with this element
module _ (value : List ℕ) where
  abbrev PlacedOutcome : Outcome → Type 0
  PlacedOutcome o = Placed value o.reply.answer

  reader_place : (cause : ReadCause) → place_for (cause_of cause) value ≡ Some (place_of value)
  reader_place Operation = refl
  reader_place Semantics = refl
  reader_place Coding = refl

  -- steps 6 to 9
  read_placed : (t : Table) (bearer : ℕ) (refusal : ReadRefusal) → verdict_on (read_element value).answer ≡ refused_for refusal
      → PlacedOutcome (answered t (reject_for bearer refusal))
  read_placed t bearer refusal e = ap Some (verdict_place value refusal e) ∙ sym (reader_place refusal.cause)

  -- step 4: the reader, had it been asked, would have said the same
  head_placed : (t : Table) (bearer : ℕ) → head_fine value ≡ false → PlacedOutcome (answered t (reject_head bearer))
  head_placed t bearer h = ap Some (verdict_place value (record { cause = Operation; place = 0 }) (ap (λ (e : Element). verdict_on e.answer) (head_refused value h)))

  laid_placed : (t : Table) (bearer : ℕ) (new : List Filter) (creating : Bool) → PlacedOutcome (lay_of t bearer new creating)
  unfolding lay_of lay_within
  laid_placed t bearer new creating = go (released new creating t (index_of bearer) (home t bearer))
    where
      go : (b : Bool) → PlacedOutcome (lay_or_release b t bearer (home t bearer) new creating)
      go true = picked (Placed value) (only_connection t (home t bearer)) Reattach (Release (home t bearer)) tt tt
      go false = tt

  modified_placed : (t : Table) (bearer : ℕ) (r : ReadAnswer) → (read_element value).answer ≡ r → PlacedOutcome (modified_by r t bearer (read_element value))
  unfolding deleted_filters deleted_tft
  modified_placed t bearer (read_refused refusal) e = read_placed t bearer refusal (ap verdict_on e)
  modified_placed t bearer (Filters operation) e = laid_placed t bearer (read_element value).filters (creates operation)
  modified_placed t bearer Identifiers e =
      picked PlacedOutcome (is_dedicated (role_of t bearer) && empties t (index_of bearer) (read_element value).marks) _ _ refl tt
  modified_placed t bearer (Bare DeleteTft) e = tt
  modified_placed t bearer (Bare NoOperation) e = tt

  activated_placed : (t : Table) (bearer link : ℕ) (v : Verdict) → verdict_on (read_element value).answer ≡ v
      → PlacedOutcome (activated_by v t bearer link (read_element value).filters)
  activated_placed t bearer link (refused_for refusal) e = read_placed t bearer refusal e
  activated_placed t bearer link accepted e =
      laid_placed (build (opened_view t (index_of bearer) (Dedicated link))) bearer (read_element value).filters true

-- ---- The calls
pub modify_placed : (t : Table) (bearer x : ℕ) (value : List ℕ) → Placed value (modify_of t bearer x value).reply.answer
unfolding modify_of modify_named modify_read
modify_placed t bearer x value =
    let s = closed t x in
    let P = PlacedOutcome value in
    picked P (well_formed t) _ _
    (picked P (mismatch t x) _ _ refl
    (picked P (is_idle (role_of s bearer)) _ _ refl
    (by_test P (head_fine value) _ _
    (λ _. picked P (is_dedicated (role_of s bearer) && eqb (operation_of value) delete_tft) _ _ refl
    (modified_placed value s bearer (read_element value).answer refl)) (head_placed value s bearer)))) tt

pub activate_placed : (t : Table) (bearer link x : ℕ) (value : List ℕ) → Placed value (activate_dedicated_of t bearer link x value).reply.answer
unfolding activate_dedicated_of activate_named activate_read
activate_placed t bearer link x value =
    let s = closed t x in
    let P = PlacedOutcome value in
    picked P (well_formed t) _ _
    (picked P (mismatch t x) _ _ refl
    (picked P (available s bearer && is_default (role_of s link)) _ _
    (by_test P (head_fine value) _ _
    (λ _. picked P (eqb (operation_of value) create) _ _ (activated_placed value s bearer link (verdict_on (read_element value).answer) refl) refl)
    (head_placed value s bearer)) refl)) tt

pub default_placed : (t : Table) (bearer : ℕ) → Unplaced (activate_default_of t bearer).reply.answer
unfolding activate_default_of
default_placed t bearer =
    let P : Outcome → Type 0 = λ o. Unplaced o.reply.answer in
    picked P (well_formed t) _ _ (picked P (available t bearer) _ _ tt refl) tt
