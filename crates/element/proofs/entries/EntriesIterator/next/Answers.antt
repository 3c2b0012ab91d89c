-- `next` of the entries meets its contract: where an entry is looked at it is the first of those that are left, and else none is.
use mathlib.Core.Path.{◌≡◌, sym, ◌∙◌}
use mathlib.Core.List.{[], ◌∷◌}
use mathlib.Core.Logic.{inl, inr}
use Prim.Native.Nat.{◌<◌}
use native.Mathlib.Omega.{arith}
use lib.ListN.{length}
use borrow.Author.Rules.{rules}
use Rattle.element.specs.declared.entries.Entries.{Entries}
use Rattle.element.specs.declared.entries.Handed.{Handed}
use Rattle.element.specs.declared.entries.Handed.TheVariants.{Refused, End}
use Rattle.element.specs.Entries.{IsEntry, advanced_of, entries_left}
use Rattle.element.specs.Entries.{look_at}
use Rattle.element.proofs.Offsets.{steps_left, ends_left}
use Rattle.element.proofs.entries.EntriesIterator.next.Goals as goal

steps : (e next : Entries) (h : Handed) → h ≡ look_at e.value.now e.at → IsEntry h → next ≡ advanced_of e → entries_left e ≡ h ∷ entries_left next
steps e next h is n m = rw m (steps_left e.value.now e.at h is n)

pub returns-in-Filter-clause-steps : goal.returns-in-Filter-clause-steps
returns-in-Filter-clause-steps c = steps c.args.self.now c.advanced.result _ c.in-Filter.ensures tt c.advanced.ensures

pub returns-in-Filter-clause-goes : goal.returns-in-Filter-clause-goes
returns-in-Filter-clause-goes c = let h = steps c.args.self.now c.advanced.result _ c.in-Filter.ensures tt c.advanced.ensures in
    let less : length (entries_left c.advanced.result) < length (entries_left c.args.self.now) = rw h (omega arith) in
    search rules

pub returns-in-Identifier-clause-steps : goal.returns-in-Identifier-clause-steps
returns-in-Identifier-clause-steps c = steps c.args.self.now c.advanced-in-Identifier.result _ c.in-Identifier.ensures tt c.advanced-in-Identifier.ensures

pub returns-in-Identifier-clause-goes : goal.returns-in-Identifier-clause-goes
returns-in-Identifier-clause-goes c = let h = steps c.args.self.now c.advanced-in-Identifier.result _ c.in-Identifier.ensures tt c.advanced-in-Identifier.ensures in
    let less : length (entries_left c.advanced-in-Identifier.result) < length (entries_left c.args.self.now) = rw h (omega arith) in
    search rules

pub returns-in-Refused-clause-steps : goal.returns-in-Refused-clause-steps
returns-in-Refused-clause-steps c =
    let e = c.args.self.now in
    let none : entries_left e ≡ [] =
    elim c.in-Refused.is [
      | inl x ↦ ends_left e.value.now e.at (Refused x.0) (sym x.1 ∙ c.look.ensures) (λ n. n)
      | inr x ↦ ends_left e.value.now e.at End (sym x ∙ c.look.ensures) (λ n. n)
    ] in
    (none, none)
