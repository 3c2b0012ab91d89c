-- The theorems of the layer: numbers, what a message does, and its answer as a message.
use mathlib.Core.Path.{◌≡◌, refl, sym, ap, ◌∙◌, subst}
use mathlib.Core.Bool.{Bool, true, false, ◌||◌, true≢false}
use mathlib.Core.List.{List, [], ◌∷◌, map}
use mathlib.Core.Logic.{◌⊎◌, inl, inr, ⊎_elim, ◌↔◌}
use Prim.Native.Nat.{ℕ, ◌≤◌, ◌<◌}
use native.Mathlib.Omega.{arith}
use lib.Dec.{eqb, leb}
use lib.ListN.{length, take, drop, get_or, get_or-eq_default}
use borrow.Author.Tests.{le-leb, leb-true, leb-false}
use Rattle.std.specs.Prelude.{Option, Some, None, Result, Ok, Err}
use Rattle.messages.specs.declared.layout.Part.{Part}
use Rattle.laws.specs.Index.{pad}
use Rattle.laws.specs.Says.{pick}
use Rattle.laws.specs.Lists.{All, is_in}
use Rattle.laws.proofs.Joined.{in_apart}
use Rattle.laws.proofs.Says.{which, never, picked, unless_here, unless_later}
use Rattle.laws.proofs.Parts.{pad_take, pad_long, pad_rests}
use Rattle.element.specs.Meaning.{Octet}
use Rattle.table.specs.declared.bearer.Table.{Table}
use Rattle.table.specs.Bearers.{is_idle, role_of}
use Rattle.table.specs.Ranges.{TableInRange}
use Rattle.table.specs.WellFormed.{well_formed, WellFormed}
use Rattle.table.proofs.Meaning.{well_says}
use Rattle.calls.specs.declared.reply.Refusal.TheVariants.{NotWellFormed, NotOpen, UnknownMessage}
use Rattle.calls.specs.declared.reply.Answer.{Answer}
use Rattle.calls.specs.declared.reply.Answer.TheVariants.{Accept, Reject, Release, Reattach, Started, Closed, Synchronised, Refused as refuses_with}
use Rattle.calls.specs.declared.reply.Outcome.{Outcome}
use Rattle.calls.specs.Reply.{cause_number, number_of, answered}
use Rattle.calls.specs.Steps.{is_open, closed}
use Rattle.calls.specs.Modify.{malformed, mismatch, modify_of}
use Rattle.calls.specs.Others.{activate_dedicated_of, deactivate_of, reject_of}
use Rattle.calls.specs.Changes.{Gives, SendsReply}
use Rattle.calls.specs.Checks.{Placed, Unplaced}
use Rattle.calls.proofs.Answers.{causes, modify_gives, activate_dedicated_gives, deactivate_gives, reject_gives}
use Rattle.calls.proofs.Checks.{modify_numbers, activate_numbers, deactivate_numbers, reject_numbers}
use Rattle.calls.proofs.Places.{modify_placed, activate_placed}
use Rattle.messages.specs.declared.layout.Kind.{Kind}
use Rattle.messages.specs.declared.layout.Kind.TheVariants.{DedicatedRequest, DedicatedAccept, DedicatedReject, ModifyRequest, ModifyAccept}
use Rattle.messages.specs.declared.layout.Kind.TheVariants.{ModifyReject, DeactivateRequest, DeactivateAccept, ModificationReject}
use Rattle.messages.specs.declared.layout.Fault.{Fault}
use Rattle.messages.specs.declared.layout.Fault.TheVariants.{Unknown, Framing}
use Rattle.messages.specs.declared.layout.Message.{Message}
use Rattle.messages.specs.declared.layout.Carries.TheVariants.{Always}
use Rattle.messages.specs.Layout.{head_octets, row_of, type_of, kinds_with, named_in, kind_of}
use Rattle.messages.specs.Read.{read_of, fault_number, parsed_number, octets_at, Fields, said_by, said_of}
use Rattle.messages.specs.Write.{largest_identity, writable, value_of, octets_of}
use Rattle.messages.specs.Handle.{reply_types, request_of, asked_by, accept_of, modify_by, refusal_of, refused_of, call_by, call_of, handled_by, handle_of}
use Rattle.messages.specs.Handle.{accepting, rejecting, sending_of, reply_fields, sent_by, answer_octets, message_of}
use Rattle.messages.specs.Meaning.{types, Ours, ReadNumbered, is_zero, ReadsAs, AnswerReads, PlacedIn}
use Rattle.messages.proofs.Accepting.{no_operation_lem}
use Rattle.messages.proofs.Answering.{Answers, reject_silent, modify_bearer, activate_bearer, accept_bearer, deactivate_bearer, deactivate_answers}
use Rattle.messages.proofs.RoundTrip.{written_reads}
use Rattle.messages.proofs.Inside.{read_holds, parts, bearer_small}
use Rattle.messages.proofs.Reading.{fields_in, behind, kind_type, Has, read_has}

-- ---- The reader's numbers
-- a type octet names a kind exactly where it is one of the nine
abbrev known : Option Kind → Bool
known (Some kind) = true
known None = false

names : (type : ℕ) (kinds : List Kind) → known (named_in kinds type) ≡ is_in type (map type_of kinds)
unfolding is_in
names type [] = refl
names type (kind ∷ kinds) = go (eqb type (type_of kind)) (names type kinds)
  where
    go : (b : Bool) → known (named_in kinds type) ≡ is_in type (map type_of kinds) → known (pick b (Some kind) (named_in kinds type)) ≡ b || is_in type (map type_of kinds)
    go true e = refl
    go false e = e

names_nine : (type x : ℕ) → known (kind_of type x) ≡ is_in type types
unfolding kind_of
names_nine type x = names type (kinds_with x)

-- what each result says of the message
abbrev pub Tells : List ℕ → Result Message Fault → Type 0
Tells message (Ok m) = (head_octets ≤ length message) × Ours message
Tells message (Err Unknown) = (head_octets ≤ length message) × (Ours message → ⊥)
Tells message (Err Framing) = (length message < head_octets) ⊎ Ours message

module _ (message : List ℕ) where
  -- as `names_nine`, of this message
  abbrev nine : known (kind_of (get_or message 2 0) (get_or message 3 0)) ≡ is_in (get_or message 2 0) types
  nine = names_nine (get_or message 2 0) (get_or message 3 0)

  pub tells : Tells message (read_of message)
  tells =
      read_holds message (Tells message) inl (λ l n. (l, λ ours. n ours.0)) (λ l o n. (l, λ ours. never ours.1 (sym nine ∙ ap known n)))
      (λ l o kind n. inr (o, sym nine ∙ ap known n)) (λ m p. (p.long, (p.ours, sym nine ∙ ap known p.named)))

  pub unsaid : (fault : Fault) → read_of message ≡ Err fault → (f : Fields) → said_of message ≡ Ok f → ⊥
  unsaid fault r f e =
      let b = (behind message f e).read in
      let z : ◌≡◌ {A = ℕ} 0 1 = cc in
      omega arith

  pub read_numbers : ReadNumbered message (parsed_number (read_of message))
  unfolding said_of
  read_numbers = go (read_of message) refl tells
    where
      go : (parsed : Result Message Fault) → read_of message ≡ parsed → Tells message parsed → ReadNumbered message (parsed_number parsed)
      go (Ok m) r h =
          record { is15 = (λ e. absurd (omega arith), λ q. absurd (q.1 h.1)); is0 = (λ e. (fields_in message m, rw r), λ q. refl); given = inl refl }
      go (Err Unknown) r h =
          record { is15 = (λ e. h, λ q. refl); is0 = (λ e. absurd (omega arith), λ q. absurd (unsaid Unknown r q.0 q.1)); given = inr (inl refl) }
      go (Err Framing) r h =
          record {
            is15 = (λ e. absurd (omega arith), λ q. ⊎_elim (λ l. absurd (omega (arith, q.0))) (λ o. absurd (q.1 o)) h);
            is0 = (λ e. absurd (omega arith), λ q. absurd (unsaid Framing r q.0 q.1));
            given = inr (inr refl);
          }

-- ---- What a message asks: what it says, unless it is a reply
module _ (message : List ℕ) (f : Fields) where
  pub said_type : said_of message ≡ Ok f → type_of f.kind ≡ get_or message 2 0
  said_type e =
      let b = behind message f e in
      rw (← b.is) (kind_type (get_or message 2 0) (get_or message 3 0) b.m.kind (parts message b.m b.read).named)

  asks_by : (reply : Bool) → said_by (pick reply (Err Unknown) (read_of message)) message ≡ Ok f → (reply ≡ false) × (said_by (read_of message) message ≡ Ok f)
  asks_by true e = let z : ◌≡◌ {A = ℕ} 0 1 = cc in absurd (omega arith)
  asks_by false e = (refl, e)

  pub asked_said : asked_by message ≡ Ok f → said_of message ≡ Ok f
  unfolding request_of said_of
  asked_said e = (asks_by (is_in (get_or message 2 0) reply_types) e).1

  pub asked_request : asked_by message ≡ Ok f → is_in (type_of f.kind) reply_types ≡ false
  unfolding request_of
  asked_request e = rw (said_type (asked_said e)) (asks_by (is_in (get_or message 2 0) reply_types) e).0

  -- and back: the four other kinds are asked, as is seen by computing
  pub said_asked : is_in (type_of f.kind) reply_types ≡ false → said_of message ≡ Ok f → asked_by message ≡ Ok f
  unfolding request_of said_of
  said_asked r e = rw (rw (said_type e) at r) e

-- ---- What it does: the call of its fields
module _ (t : Table) (message : List ℕ) (f : Fields) (asked : asked_by message ≡ Ok f) where
  abbrev o : Outcome
  o = (handle_of t message).outcome

  called : o ≡ call_of f t
  unfolding handle_of
  called = ap (λ (said : Result Fields Fault). (handled_by said t).outcome) asked

  pub message_modifies : (value : List ℕ) → f.kind ≡ ModifyRequest → f.tft ≡ Some value → o ≡ modify_of t f.bearer f.transaction value
  message_modifies value k v = called ∙ rw (k, v)

  pub message_accepts : f.kind ≡ ModifyRequest → f.tft ≡ None → o ≡ accept_of t f.bearer f.transaction
  message_accepts k v = called ∙ rw (k, v)

  pub message_activates : (link : ℕ) (value : List ℕ) → f.kind ≡ DedicatedRequest link → f.tft ≡ Some value
      → o ≡ activate_dedicated_of t f.bearer link f.transaction value
  message_activates link value k v = called ∙ rw (k, v)

  pub message_deactivates : (why : ℕ) → f.kind ≡ DeactivateRequest why → o ≡ deactivate_of t f.bearer f.transaction
  message_deactivates why k = called ∙ rw k

  pub message_rejects : (why : ℕ) → f.kind ≡ ModificationReject why → o ≡ reject_of t f.transaction why
  message_rejects why k = called ∙ rw k

-- a dedicated request always has its TFT
pub activation_has_tft : (message : List ℕ) (f : Fields) (link : ℕ) → said_of message ≡ Ok f → f.kind ≡ DedicatedRequest link
    → (value : List ℕ) × (f.tft ≡ Some value)
activation_has_tft message f link e k =
    let b = behind message f e in
    go b.m.tft (ap (λ (f : Fields). f.tft) b.is)
    (subst (λ (kind : Kind). Has (row_of kind).tft b.m.tft) (ap (λ (f : Fields). f.kind) b.is ∙ k) (read_has message b.m b.read))
  where
    go : (tft : Option Part) → octets_at message tft ≡ f.tft → Has Always tft → (value : List ℕ) × (f.tft ≡ Some value)
    go None q h = absurd h
    go (Some p) q h = (take p.octets (drop p.from message), sym q)

-- a reply that is handled is refused, whatever follows its type
pub reply_refused : (t : Table) (message : List ℕ) → well_formed t ≡ true → is_in (get_or message 2 0) reply_types ≡ true
    → (handle_of t message).outcome ≡ answered t (refuses_with UnknownMessage)
unfolding handle_of request_of
reply_refused t message w r = rw (r, w)

-- ---- The place of a reject
-- an answer that is no reject needs none, with a TFT or without
placed_in_lem : (tft : Option (List ℕ)) (a : Answer) → ((value : List ℕ) → Placed value a) → Unplaced a → PlacedIn tft a
placed_in_lem None a p u = u
placed_in_lem (Some value) a p u = p value

module _ (t : Table) where
  accept_unplaced : (bearer x : ℕ) → Unplaced (accept_of t bearer x).reply.answer
  unfolding accept_of
  accept_unplaced bearer x =
      let P : Outcome → Type 0 = λ o. Unplaced o.reply.answer in
      picked P (well_formed t) _ _ (picked P (mismatch t x) _ _ refl (picked P (is_idle (role_of (closed t x) bearer)) _ _ refl tt)) tt

  reject_placed : (tft : Option (List ℕ)) (x why : ℕ) → PlacedIn tft (reject_of t x why).reply.answer
  unfolding reject_of
  reject_placed tft x why =
      let P : Outcome → Type 0 = λ o. PlacedIn tft o.reply.answer in
      picked P (well_formed t) _ _
      (picked P (is_open t x) _ _ (placed_in_lem tft (Closed x) (λ value. tt) tt) (placed_in_lem tft (refuses_with NotOpen) (λ value. tt) tt))
      (placed_in_lem tft (refuses_with NotWellFormed) (λ value. tt) tt)

  call_placed : (kind : Kind) (tft : Option (List ℕ)) (bearer x : ℕ) → is_in (type_of kind) reply_types ≡ false
      → ((link : ℕ) → kind ≡ DedicatedRequest link → (value : List ℕ) × (tft ≡ Some value)) → PlacedIn tft (call_by kind tft t bearer x).reply.answer
  unfolding is_in
  call_placed (DedicatedRequest link) tft bearer x r has = let h = has link refl in rw h.1 (activate_placed t bearer link x h.0)
  call_placed DedicatedAccept tft bearer x r has = absurd (true≢false r)
  call_placed (DedicatedReject why) tft bearer x r has = absurd (true≢false r)
  call_placed ModifyRequest None bearer x r has = accept_unplaced bearer x
  call_placed ModifyRequest (Some value) bearer x r has = modify_placed t bearer x value
  call_placed ModifyAccept tft bearer x r has = absurd (true≢false r)
  call_placed (ModifyReject why) tft bearer x r has = absurd (true≢false r)
  call_placed (DeactivateRequest why) tft bearer x r has =
      deactivate_answers (PlacedIn tft) t bearer x (placed_in_lem tft (refuses_with NotWellFormed) (λ value. tt) tt) (placed_in_lem tft (Accept bearer) (λ value. tt) tt)
  call_placed DeactivateAccept tft bearer x r has = absurd (true≢false r)
  call_placed (ModificationReject why) tft bearer x r has = reject_placed tft x why

  pub message_placed : (message : List ℕ) (f : Fields) → asked_by message ≡ Ok f → PlacedIn f.tft (handle_of t message).outcome.reply.answer
  unfolding handle_of
  message_placed message f asked =
      rw asked
      (call_placed f.kind f.tft f.bearer f.transaction (asked_request message f asked)
      (λ link. activation_has_tft message f link (asked_said message f asked)))

-- ---- The numbers of handling
-- ours, and no reply
abbrev pub NoReply : List ℕ → Type 0
NoReply message = Ours message × (is_in (get_or message 2 0) reply_types ≡ true → ⊥)

-- each number by what is asked; what is said of octets, in place of what is asked, is in Exactly
pub record AskNumbered (t : Table) (message : List ℕ) (number : ℕ) : Type 0 where
  pub is1 : (number ≡ 1) ↔ (WellFormed t → ⊥)
  pub is15 : (number ≡ 15) ↔ (WellFormed t × ((head_octets ≤ length message) × (NoReply message → ⊥)))
  pub is16 : (number ≡ 16) ↔ (WellFormed t × ((length message < head_octets) ⊎ (NoReply message × (said_of message ≡ Err Framing))))

-- what is asked tells of the message
abbrev Asks : List ℕ → Result Fields Fault → Type 0
Asks message (Err Unknown) = (head_octets ≤ length message) × (NoReply message → ⊥)
Asks message (Err Framing) = (length message < head_octets) ⊎ (NoReply message × (said_of message ≡ Err Framing))
Asks message (Ok f) = (head_octets ≤ length message) × (NoReply message × (said_of message ≡ Ok f))

module _ (message : List ℕ) where
  -- no reply has the type 0, which stands past the end
  reply_long : is_in (get_or message 2 0) reply_types ≡ true → head_octets ≤ length message
  unfolding is_in
  reply_long r =
      ⊎_elim (λ l. leb-true head_octets (length message) l)
      (λ l. let short = leb-false head_octets (length message) l in
      let past : get_or message 2 0 ≡ 0 = get_or-eq_default message 0 (omega arith) in
      never (rw past at r) refl) (which (leb head_octets (length message)))

  asks : Asks message (asked_by message)
  unfolding request_of said_of
  asks = ⊎_elim (λ r. rw r (reply_long r, λ q. q.1 r)) (λ r. rw r (go (read_of message) refl (λ e. never e r) (tells message))) (which (is_in (get_or message 2 0) reply_types))
    where
      go : (parsed : Result Message Fault) → read_of message ≡ parsed → (is_in (get_or message 2 0) reply_types ≡ true → ⊥) → Tells message parsed → Asks message (said_by parsed message)
      go (Ok m) q n h = (h.0, ((h.1, n), rw q))
      go (Err Unknown) q n h = (h.0, λ r. h.1 r.0)
      go (Err Framing) q n h = ⊎_elim inl (λ o. inr ((o, n), rw q)) h

-- a call gives 1 exactly where the table is not well formed, and never a number of messages
record CallNumbered (t : Table) (number : ℕ) : Type 0 where
  is1 : (number ≡ 1) ↔ (WellFormed t → ⊥)
  not15 : number ≡ 15 → ⊥
  not16 : number ≡ 16 → ⊥

module _ (t : Table) (ok : TableInRange t) where
  numbered : (ns : List ℕ) (out : Outcome) → Gives ns out → is_in 15 ns ≡ false → is_in 16 ns ≡ false
      → (number_of out.reply.answer ≡ 1) ↔ (WellFormed t → ⊥) → CallNumbered t (number_of out.reply.answer)
  numbered ns out g a b is1 =
      record { is1 = is1; not15 = in_apart (number_of out.reply.answer) 15 ns g a; not16 = in_apart (number_of out.reply.answer) 16 ns g b }

  modify_numbered : (bearer x : ℕ) (value : List ℕ) → CallNumbered t (number_of (modify_of t bearer x value).reply.answer)
  unfolding is_in
  modify_numbered bearer x value = numbered causes (modify_of t bearer x value) (modify_gives t bearer x value) refl refl (modify_numbers t ok bearer x value).is1

  call_numbered : (kind : Kind) (tft : Option (List ℕ)) (bearer x : ℕ) → is_in (type_of kind) reply_types ≡ false → CallNumbered t (number_of (call_by kind tft t bearer x).reply.answer)
  unfolding is_in
  call_numbered (DedicatedRequest link) tft bearer x r =
      numbered causes (activate_dedicated_of t bearer link x (value_of tft)) (activate_dedicated_gives t bearer link x (value_of tft)) refl refl
      (activate_numbers t ok bearer link x (value_of tft)).is1
  call_numbered DedicatedAccept tft bearer x r = absurd (true≢false r)
  call_numbered (DedicatedReject why) tft bearer x r = absurd (true≢false r)
  call_numbered ModifyRequest None bearer x r = rw (← (no_operation_lem t bearer x)) (modify_numbered bearer x (0xC0 ∷ []))
  call_numbered ModifyRequest (Some value) bearer x r = modify_numbered bearer x value
  call_numbered ModifyAccept tft bearer x r = absurd (true≢false r)
  call_numbered (ModifyReject why) tft bearer x r = absurd (true≢false r)
  call_numbered (DeactivateRequest why) tft bearer x r =
      numbered (0 ∷ 1 ∷ []) (deactivate_of t bearer x) (deactivate_gives t bearer x) refl refl (deactivate_numbers t ok bearer x).is1
  call_numbered DeactivateAccept tft bearer x r = absurd (true≢false r)
  call_numbered (ModificationReject why) tft bearer x r =
      numbered (0 ∷ 1 ∷ 3 ∷ []) (reject_of t x why) (reject_gives t x why) refl refl (reject_numbers t ok x why).is1

  refused_number : (fault : Fault) (b : Bool) → pick b (fault_number fault) 1 ≡ number_of (pick b (answered t (refuses_with (refusal_of fault))) (malformed t)).reply.answer
  refused_number Unknown true = refl
  refused_number Framing true = refl
  refused_number Unknown false = refl
  refused_number Framing false = refl

  pub ask_numbers : (message : List ℕ) → AskNumbered t message (number_of (handle_of t message).outcome.reply.answer)
  unfolding handle_of
  ask_numbers message = go (asked_by message) refl (asks message)
    where
      refused : (fault : Fault) → (fault_number fault ≡ 1 → ⊥) → (fault_number fault ≡ 15) ↔ ((head_octets ≤ length message) × (NoReply message → ⊥))
          → (fault_number fault ≡ 16) ↔ ((length message < head_octets) ⊎ (NoReply message × (said_of message ≡ Err Framing)))
          → AskNumbered t message (number_of (refused_of fault t).reply.answer)
      refused fault n a b =
          subst (AskNumbered t message) (refused_number fault (well_formed t))
          (record {
            is1 = unless_here (well_says t ok) refl n;
            is15 = unless_later (well_says t ok) (λ e. omega arith) a;
            is16 = unless_later (well_says t ok) (λ e. omega arith) b;
          })

      go : (said : Result Fields Fault) → asked_by message ≡ said → Asks message said → AskNumbered t message (number_of (handled_by said t).outcome.reply.answer)
      go (Err Unknown) e h =
          refused Unknown (λ z. omega arith) (λ z. h, λ z. refl)
          (λ z. absurd (omega arith), λ q. ⊎_elim (λ l. absurd (omega (arith, h.0))) (λ r. absurd (h.1 r.0)) q)
      go (Err Framing) e h =
          refused Framing (λ z. omega arith)
          (λ z. absurd (omega arith), λ q. ⊎_elim (λ l. absurd (omega (arith, q.0))) (λ r. absurd (q.1 r.0)) h) (λ z. h, λ z. refl)
      go (Ok f) e h =
          let c = call_numbered f.kind f.tft f.bearer f.transaction (asked_request message f e) in
          record {
            is1 = c.is1;
            is15 = (λ z. absurd (c.not15 z), λ q. absurd (q.1.1 h.1.0));
            is16 = (λ z. absurd (c.not16 z), λ q. ⊎_elim (λ l. absurd (omega (arith, h.0))) (λ r. absurd (both_said r.1 h.1.1)) q.1);
          }
        where
          both_said : said_of message ≡ Err Framing → said_of message ≡ Ok f → ⊥
          both_said a b = let z : ◌≡◌ {A = ℕ} 0 1 = cc in omega arith

-- ---- The answer
-- each message that is sent can be written, in the octets that an answer has
abbrev Sendable : ℕ → Option Kind → Type 0
Sendable bearer None = Unit {0}
Sendable bearer (Some kind) = (length (octets_of (reply_fields kind bearer)) ≤ answer_octets) × (writable (reply_fields kind bearer) ≡ true)

module _ (bearer : ℕ) (small : bearer ≤ largest_identity) where
  fits : leb bearer largest_identity ≡ true
  fits = le-leb bearer largest_identity small

  accepting_sendable : (kind : Kind) → Sendable bearer (accepting kind)
  unfolding octets_of writable
  accepting_sendable (DedicatedRequest link) = (omega arith, rw fits)
  accepting_sendable DedicatedAccept = tt
  accepting_sendable (DedicatedReject why) = tt
  accepting_sendable ModifyRequest = (omega arith, rw fits)
  accepting_sendable ModifyAccept = tt
  accepting_sendable (ModifyReject why) = tt
  accepting_sendable (DeactivateRequest why) = (omega arith, rw fits)
  accepting_sendable DeactivateAccept = tt
  accepting_sendable (ModificationReject why) = tt

  rejecting_sendable : (kind : Kind) (number : ℕ) → Sendable bearer (rejecting kind number)
  unfolding octets_of writable
  rejecting_sendable (DedicatedRequest link) number = (omega arith, rw fits)
  rejecting_sendable DedicatedAccept number = tt
  rejecting_sendable (DedicatedReject why) number = tt
  rejecting_sendable ModifyRequest number = (omega arith, rw fits)
  rejecting_sendable ModifyAccept number = tt
  rejecting_sendable (ModifyReject why) number = tt
  rejecting_sendable (DeactivateRequest why) number = tt
  rejecting_sendable DeactivateAccept number = tt
  rejecting_sendable (ModificationReject why) number = tt

  reads_as : (s : Option Kind) (b : ℕ) → b ≡ bearer → Sendable bearer s → ReadsAs s b (message_of (sent_by s bearer))
  unfolding pad
  reads_as None b e h = (refl, refl)
  reads_as (Some kind) b e h =
      let xs = octets_of (reply_fields kind bearer) in
      (rw (e, pad_take answer_octets xs h.0) (written_reads (reply_fields kind bearer) h.1), (pad_long answer_octets xs, pad_rests is_zero refl answer_octets xs))

  answer_by : (kind : Kind) (a : Answer) → Answers bearer a → AnswerReads kind a (message_of (sent_by (sending_of kind a) bearer))
  unfolding pad
  answer_by kind (Accept b) h = reads_as (accepting kind) b (h tt) (accepting_sendable kind)
  answer_by kind (Reject b cause place) h = reads_as (rejecting kind (cause_number cause)) b (h tt) (rejecting_sendable kind (cause_number cause))
  answer_by kind (Release default) h = (refl, refl)
  answer_by kind Reattach h = (refl, refl)
  answer_by kind (Started transaction) h = (refl, refl)
  answer_by kind (Closed transaction) h = (refl, refl)
  answer_by kind Synchronised h = (refl, refl)
  answer_by kind (refuses_with refusal) h = (refl, refl)

-- an accept or a reject of a request is sent as a message
abbrev IsSent : Kind → Answer → Type 0
IsSent kind a = SendsReply a → (reply : Kind) × (sending_of kind a ≡ Some reply)

-- of a kind that has a message for both
both_sent : (kind accept : Kind) (reject : ℕ → Kind) → accepting kind ≡ Some accept → ((number : ℕ) → rejecting kind number ≡ Some (reject number)) → (a : Answer) → IsSent kind a
both_sent kind accept reject e r (Accept b) s = (accept, e)
both_sent kind accept reject e r (Reject b cause place) s = (reject (cause_number cause), r (cause_number cause))
both_sent kind accept reject e r (Release default) s = absurd s
both_sent kind accept reject e r Reattach s = absurd s
both_sent kind accept reject e r (Started transaction) s = absurd s
both_sent kind accept reject e r (Closed transaction) s = absurd s
both_sent kind accept reject e r Synchronised s = absurd s
both_sent kind accept reject e r (refuses_with refusal) s = absurd s

module _ (t : Table) where
  refused_bearer : (bearer : ℕ) → Answers bearer (refused_of Unknown t).reply.answer
  refused_bearer bearer = picked (λ (o : Outcome). Answers bearer o.reply.answer) (well_formed t) _ _ (λ s. absurd s) (λ s. absurd s)

  call_bearer : (kind : Kind) (tft : Option (List ℕ)) (bearer x : ℕ) → Answers bearer (call_by kind tft t bearer x).reply.answer
  call_bearer (DedicatedRequest link) tft bearer x = activate_bearer t bearer x link (value_of tft)
  call_bearer DedicatedAccept tft bearer x = refused_bearer bearer
  call_bearer (DedicatedReject why) tft bearer x = refused_bearer bearer
  call_bearer ModifyRequest None bearer x = accept_bearer t bearer x
  call_bearer ModifyRequest (Some value) bearer x = modify_bearer t bearer x value
  call_bearer ModifyAccept tft bearer x = refused_bearer bearer
  call_bearer (ModifyReject why) tft bearer x = refused_bearer bearer
  call_bearer (DeactivateRequest why) tft bearer x = deactivate_bearer t bearer x
  call_bearer DeactivateAccept tft bearer x = refused_bearer bearer
  call_bearer (ModificationReject why) tft bearer x = λ s. absurd (reject_silent t x why s)

  -- a deactivate is never rejected; a modification reject is neither accepted nor rejected
  call_sent : (kind : Kind) (tft : Option (List ℕ)) (bearer x : ℕ) → is_in (type_of kind) reply_types ≡ false → IsSent kind (call_by kind tft t bearer x).reply.answer
  unfolding is_in
  call_sent (DedicatedRequest link) tft bearer x r =
      both_sent (DedicatedRequest link) DedicatedAccept DedicatedReject refl (λ number. refl) (activate_dedicated_of t bearer link x (value_of tft)).reply.answer
  call_sent DedicatedAccept tft bearer x r = absurd (true≢false r)
  call_sent (DedicatedReject why) tft bearer x r = absurd (true≢false r)
  call_sent ModifyRequest tft bearer x r = both_sent ModifyRequest ModifyAccept ModifyReject refl (λ number. refl) (modify_by tft t bearer x).reply.answer
  call_sent ModifyAccept tft bearer x r = absurd (true≢false r)
  call_sent (ModifyReject why) tft bearer x r = absurd (true≢false r)
  call_sent (DeactivateRequest why) tft bearer x r =
      deactivate_answers (IsSent (DeactivateRequest why)) t bearer x (λ s. absurd s) (λ s. (DeactivateAccept, refl))
  call_sent DeactivateAccept tft bearer x r = absurd (true≢false r)
  call_sent (ModificationReject why) tft bearer x r = λ s. absurd (reject_silent t x why s)

  module _ (message : List ℕ) (f : Fields) (asked : asked_by message ≡ Ok f) where
    pub answer_sent : SendsReply (handle_of t message).outcome.reply.answer
        → (reply : Kind) × (sending_of f.kind (handle_of t message).outcome.reply.answer ≡ Some reply)
    unfolding handle_of
    answer_sent = rw asked (call_sent f.kind f.tft f.bearer f.transaction (asked_request message f asked))

    -- what is sent reads as the answer, to the bearer received
    pub answer_reads : All Octet message → AnswerReads f.kind (handle_of t message).outcome.reply.answer (handle_of t message).answer
    unfolding handle_of
    answer_reads octets =
        let b = behind message f (asked_said message f asked) in
        let small : f.bearer ≤ largest_identity = rw (← b.is) (bearer_small message octets b.m b.read) in
        rw asked (answer_by f.bearer small f.kind (call_of f t).reply.answer (call_bearer f.kind f.tft f.bearer f.transaction))

-- to a message that is refused nothing is sent
pub refused_silent : (t : Table) (message : List ℕ) (fault : Fault) → asked_by message ≡ Err fault → ReadsAs None 0 (handle_of t message).answer
unfolding handle_of pad
refused_silent t message fault e = rw e (refl, refl)
