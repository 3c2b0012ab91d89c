-- A message handled, part by part.
-- Assumes nothing.
use mathlib.Core.Path.{◌≡◌, sym, ap, ◌∙◌}
use mathlib.Core.Bool.{Bool, true, false}
use mathlib.Core.List.{List, []}
use Prim.Native.Nat.{ℕ}
use native.Mathlib.Omega.{arith}
use lib.ListN.{get_or}
use Rattle.std.specs.Prelude.{Result, Ok, Err}
use Rattle.messages.specs.declared.layout.Message.{Message}
use Rattle.messages.specs.declared.layout.Fault.{Fault}
use Rattle.laws.specs.Says.{pick}
use Rattle.laws.specs.Lists.{is_in}
use Rattle.table.specs.declared.bearer.Table.{Table}
use Rattle.calls.specs.declared.reply.Outcome.{Outcome}
use Rattle.messages.specs.declared.layout.Fault.TheVariants.{Unknown}
use Rattle.messages.specs.declared.layout.Message.{Message}
use Rattle.messages.specs.declared.handle.AnswerMessage.{AnswerMessage}
use Rattle.messages.specs.declared.handle.Handled.{Handled}
use Rattle.messages.specs.Read.{read_of, said_by}
use Rattle.messages.specs.Handle.{reply_types, request_of, refused_of, message_of, handled_by, handle_of}

-- ---- a request that is read is a message that is
pub request_reads : (message : List ℕ) (m : Message) → request_of message ≡ Ok m → read_of message ≡ Ok m
unfolding request_of
request_reads message m = by (is_in (get_or message 2 0) reply_types)
  where
    by : (b : Bool) → pick b (Err Unknown) (read_of message) ≡ Ok m → read_of message ≡ Ok m
    by true e = let z : ◌≡◌ {A = ℕ} 0 1 = cc in absurd (omega arith)
    by false e = e

module _ (t : Table) (message : List ℕ) where
  pub handled_refused : (fault : Fault) → request_of message ≡ Err fault → (o : Outcome) (a : AnswerMessage) → o ≡ refused_of fault t → a ≡ message_of []
      → record { outcome = o; answer = a } ≡ handle_of t message
  unfolding handle_of
  handled_refused fault e o a p q =
      ap (λ (x : AnswerMessage). record { outcome = o; answer = x }) q ∙ ap (λ (x : Outcome). record { outcome = x; answer = message_of [] }) p
      ∙ ap (λ (x : Result Message Fault). handled_by (said_by x message) t) (sym e)

  pub handled_read : (m : Message) → request_of message ≡ Ok m → (h : Handled) → h ≡ handled_by (said_by (Ok m) message) t → h ≡ handle_of t message
  unfolding handle_of
  handled_read m e h p = p ∙ ap (λ (x : Result Message Fault). handled_by (said_by x message) t) (sym e)
