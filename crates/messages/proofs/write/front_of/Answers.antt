-- `messages::write::front_of` meets its contract: seven octets have room for every front.
use mathlib.Core.Path.{◌≡◌, refl, ◌∙◌, ap}
use mathlib.Core.List.{List, [], ◌++◌, append-nil}
use Prim.Native.Nat.{ℕ, ◌≤◌}
use lib.ListN.{length, replicate}
use borrow.Author.Tests.{le-leb}
use Rattle.std.specs.Prelude.{option_copied}
use Rattle.std.specs.Result.{result_unwrap_or}
use Rattle.laws.specs.Index.{pad}
use Rattle.messages.specs.Read.{Fields}
use Rattle.messages.specs.Write.{MessageOutcome, front_of, wrote, fields_of}
use Rattle.messages.specs.Inner.Walk.{front_octets, put_of}
use Rattle.messages.proofs.Putting.{front_few, pad_behind}
use Rattle.messages.proofs.write.front_of.Goals as goal

put_all : (xs b : List ℕ) → length xs ≤ length b → put_of (xs ++ []) b ≡ wrote xs b
put_all xs b l = ap (λ (ys : List ℕ). put_of ys b) (append-nil xs) ∙ rw (le-leb (length xs) (length b) l) refl

pub returns : goal.returns
returns c =
    let a = c.args.fields in
    let f : Fields = fields_of a.kind a.bearer a.transaction (option_copied a.tft) in
    let few = front_few f in
    let put = put_all (front_of f) (replicate front_octets 0) few in
    let count : c.unwrap_or-count.result ≡ length (front_of f) = c.unwrap_or-count.ensures ∙ ap (λ r. result_unwrap_or r 0) (c.put_fields.ensures.0 ∙ ap (λ (o : MessageOutcome). o.written) put) in
    let octets : c.put_fields.new.buffer ≡ pad front_octets (front_of f) = c.put_fields.ensures.1 ∙ ap (λ (o : MessageOutcome). o.buffer) put ∙ pad_behind front_octets (front_of f) few in
    rw (count, octets) refl
