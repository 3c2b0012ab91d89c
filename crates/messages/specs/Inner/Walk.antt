-- How the code walks over elements and puts octets together. Nothing here is claimed of messages: theorems tie it to Read and Write.
use Rattle.std.specs.Prelude.{ℕ, ◌+◌, ◌≤◌, List, leb, length, drop, get_or, Option, Some, None, ok_or, Result, Ok, Err}
use Rattle.laws.specs.Says.{pick}
use Rattle.laws.specs.Index.{pad}
use Rattle.messages.specs.declared.layout.Kind.{Kind}
use Rattle.messages.specs.declared.layout.Part.{Part}
use Rattle.messages.specs.declared.layout.Fault.{Fault}
use Rattle.messages.specs.declared.layout.Fault.TheVariants.{Framing}
use Rattle.messages.specs.declared.listed.Form.{Form}
use Rattle.messages.specs.declared.read.Reached.{Reached}
use Rattle.messages.specs.declared.write.Front.{Front}
use Rattle.messages.specs.Layout.{form_in, optional}
use Rattle.messages.specs.declared.write.MessageUnwritten.TheVariants.{NoRoom}
use Rattle.messages.specs.Write.{MessageOutcome, leaves, wrote}
use Rattle.messages.specs.Read.{reached, ◌>>=◌, tail_of, is_barred, with_element}

-- one element, by its form and the octets after its identifier
abbrev pub step_by : Option Form → ℕ → List ℕ → Option Part → Result Reached Fault
step_by listed at xs tft =
    ok_or listed Framing
    >>= λ form. pick (is_barred form tft) (Err Framing)
    (pick (leb (tail_of form xs) (length xs)) (Ok (reached (at + 1 + tail_of form xs) (with_element form at xs tft))) (Err Framing))

unfoldable pub step_at : Kind → List ℕ → ℕ → Option Part → Result Reached Fault
step_at kind s at tft = step_by (form_in (optional kind) (get_or s at 0)) at (drop (at + 1) s) tft

-- octets put at the front of a buffer, where there is room
abbrev pub put_of : List ℕ → List ℕ → MessageOutcome
put_of xs buffer = pick (leb (length xs) (length buffer)) (wrote xs buffer) (leaves NoRoom buffer)

abbrev pub front_octets : ℕ
front_octets = 7

abbrev pub padded : List ℕ → Front
padded xs = record { count = length xs; octets = pad front_octets xs }

-- ---- where a TFT ends
abbrev pub end_of : Option Part → ℕ
end_of None = 0
end_of (Some p) = p.from + p.octets

abbrev pub Inside : Option Part → List ℕ → Type 0
Inside tft message = end_of tft ≤ length message
