-- What holds of every call that a message may make, and of a message that is refused, holds of a message that is handled: so theorems on the calls are carried over.
-- Assumes nothing.
use mathlib.Core.Path.{subst}
use mathlib.Core.List.{List, [], ◌∷◌}
use Prim.Native.Nat.{ℕ}
use lib.ListN.{take, drop}
use Rattle.std.specs.Prelude.{Option, Some, None, Result, Ok, Err}
use Rattle.messages.specs.declared.layout.Part.{Part}
use Rattle.messages.specs.declared.layout.Message.{Message}
use Rattle.table.specs.declared.bearer.Table.{Table}
use Rattle.calls.specs.declared.reply.Outcome.{Outcome}
use Rattle.calls.specs.Modify.{modify_of}
use Rattle.calls.specs.Others.{activate_dedicated_of, deactivate_of, reject_of}
use Rattle.messages.specs.declared.layout.Kind.{Kind}
use Rattle.messages.specs.declared.layout.Kind.TheVariants.{DedicatedRequest, DedicatedAccept, DedicatedReject, ModifyRequest, ModifyAccept}
use Rattle.messages.specs.declared.layout.Kind.TheVariants.{ModifyReject, DeactivateRequest, DeactivateAccept, ModificationReject}
use Rattle.messages.specs.declared.layout.Fault.{Fault}
use Rattle.messages.specs.declared.layout.Fault.TheVariants.{Unknown}
use Rattle.messages.specs.Read.{octets_at, said_by}
use Rattle.messages.specs.Write.{value_of}
use Rattle.messages.specs.Handle.{request_of, refused_of, call_by, handled_by, handle_of}
use Rattle.messages.proofs.Accepting.{no_operation_lem}

-- Q is what the theorem asks of an element's value: it holds of every part of the message, and of the values that are handed on where there is no TFT
module _ (t : Table) (Q : List ℕ → Type 0) (P : Outcome → Type 0)
    (refused : (fault : Fault) → P (refused_of fault t))
    (activates : (bearer link x : ℕ) (value : List ℕ) → Q value → P (activate_dedicated_of t bearer link x value))
    (modifies : (bearer x : ℕ) (value : List ℕ) → Q value → P (modify_of t bearer x value))
    (deactivates : (bearer x : ℕ) → P (deactivate_of t bearer x))
    (rejects : (x why : ℕ) → P (reject_of t x why))
    (message : List ℕ) (nothing : Q []) (idle : Q (0xC0 ∷ [])) (part : (n k : ℕ) → Q (take n (drop k message))) where
  by_call : (kind : Kind) (tft : Option (List ℕ)) → Q (value_of tft) → (bearer x : ℕ) → P (call_by kind tft t bearer x)
  by_call (DedicatedRequest link) tft q bearer x = activates bearer link x (value_of tft) q
  by_call ModifyRequest None q bearer x = subst P (no_operation_lem t bearer x) (modifies bearer x (0xC0 ∷ []) idle)
  by_call ModifyRequest (Some value) q bearer x = modifies bearer x value q
  by_call (DeactivateRequest why) tft q bearer x = deactivates bearer x
  by_call (ModificationReject why) tft q bearer x = rejects x why
  by_call DedicatedAccept tft q bearer x = refused Unknown
  by_call (DedicatedReject why) tft q bearer x = refused Unknown
  by_call ModifyAccept tft q bearer x = refused Unknown
  by_call (ModifyReject why) tft q bearer x = refused Unknown
  by_call DeactivateAccept tft q bearer x = refused Unknown

  asked : (tft : Option Part) → Q (value_of (octets_at message tft))
  asked None = nothing
  asked (Some p) = part p.octets p.from

  by_read : (parsed : Result Message Fault) → P (handled_by (said_by parsed message) t).outcome
  by_read (Err fault) = refused fault
  by_read (Ok m) = by_call m.kind (octets_at message m.tft) (asked m.tft) m.bearer m.transaction

  pub carried_over : P (handle_of t message).outcome
  unfolding handle_of
  carried_over = by_read (request_of message)

-- of a theorem that asks nothing of a value
module _ (t : Table) (P : Outcome → Type 0)
    (refused : (fault : Fault) → P (refused_of fault t))
    (activates : (bearer link x : ℕ) (value : List ℕ) → P (activate_dedicated_of t bearer link x value))
    (modifies : (bearer x : ℕ) (value : List ℕ) → P (modify_of t bearer x value))
    (deactivates : (bearer x : ℕ) → P (deactivate_of t bearer x))
    (rejects : (x why : ℕ) → P (reject_of t x why)) where
  pub carried : (message : List ℕ) → P (handle_of t message).outcome
  carried message =
      carried_over t (λ value. Unit {0}) P refused (λ bearer link x value q. activates bearer link x value) (λ bearer x value q. modifies bearer x value) deactivates rejects message
      tt tt (λ n k. tt)
