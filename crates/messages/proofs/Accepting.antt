-- A modification that brings no TFT, as one that brings the operation "no operation".
use mathlib.Core.Path.{◌≡◌}
use mathlib.Core.List.{[], ◌∷◌}
use Prim.Native.Nat.{ℕ}
use Rattle.laws.proofs.Tests.{and_false}
use Rattle.table.specs.declared.bearer.Table.{Table}
use Rattle.element.specs.Head.{head_fine}
use Rattle.element.specs.Framing.{framed_of, framed_by, rest_fits}
use Rattle.element.specs.Read.{read_value, unplaced, read_element}
use Rattle.calls.specs.Modify.{modify_read, modify_named, modify_of}
use Rattle.messages.specs.Handle.{accept_of}

-- it has a fine head, is not "delete TFT", and reads as no operation
pub no_operation_lem : (t : Table) (bearer x : ℕ) → modify_of t bearer x (0xC0 ∷ []) ≡ accept_of t bearer x
unfolding modify_of modify_named modify_read head_fine read_element unplaced read_value framed_of framed_by rest_fits accept_of
no_operation_lem t bearer x = simp and_false
