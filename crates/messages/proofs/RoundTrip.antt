-- What the writer writes reads back the same, and what reads can be written.
use mathlib.Core.Path.{◌≡◌, refl, ◌∙◌, subst}
use mathlib.Core.Bool.{Bool, true, false, ◌&&◌, false≢true}
use mathlib.Core.List.{List, [], ◌∷◌, ◌++◌}
use mathlib.Core.Logic.{◌↔◌}
use Prim.Native.Nat.{ℕ, suc, ◌+◌, ◌*◌, ◌/◌, ◌%◌, ◌≤◌, ◌<◌}
use native.Mathlib.Omega.{arith}
use lib.Dec.{leb}
use lib.ListN.{length, take, drop, get_or}
use lib.Seq.{take-length, drop-length, take-append_seam, drop-append_seam, drop-append-add}
use borrow.Author.Tests.{le-leb, leb-true}
use Rattle.std.specs.Prelude.{Option, Some, None, option_map, Ok}
use Rattle.messages.specs.declared.layout.Part.{Part}
use Rattle.laws.specs.Says.{pick, Says}
use Rattle.laws.specs.Lists.{All}
use Rattle.laws.proofs.Lists.{all_append}
use Rattle.laws.proofs.Says.{picked, says_le, unless_here, unless_later, where_here}
use Rattle.laws.proofs.Tests.{both}
use Rattle.element.specs.Meaning.{Octet}
use Rattle.messages.specs.declared.layout.Kind.{Kind}
use Rattle.messages.specs.declared.layout.Kind.TheVariants.{DedicatedRequest, DedicatedAccept, DedicatedReject, ModifyRequest, ModifyAccept}
use Rattle.messages.specs.declared.layout.Kind.TheVariants.{ModifyReject, DeactivateRequest, DeactivateAccept, ModificationReject}
use Rattle.messages.specs.declared.layout.Mandatory.{Mandatory}
use Rattle.messages.specs.declared.layout.Mandatory.TheVariants.{Nothing, Cause, Activation}
use Rattle.messages.specs.declared.layout.Carries.{Carries}
use Rattle.messages.specs.declared.layout.Carries.TheVariants.{Always, Maybe, Never}
use Rattle.messages.specs.Layout.{Listed, discriminator, row_of, carried, type_of, kind_of, form_in, modify_request_lists}
use Rattle.messages.specs.Read.{part, elements, activation_start, read_named, read_of, Fields, said_by, said_of}
use Rattle.messages.specs.declared.write.MessageUnwritten.TheVariants.{Unreadable, NoRoom}
use Rattle.messages.specs.Write.{head_of, largest_identity, longest_tft, carried_fine, tft_fine, writable, value_of, body_of, front_of, octets_of, message_number, MessageOutcome}
use Rattle.messages.specs.Write.{leaves, wrote, write_of}
use Rattle.messages.specs.Meaning.{OctetsInRange, FieldsInRange, Readable, WriteNumbered}
use Rattle.messages.proofs.Inside.{parts, bearer_small}
use Rattle.messages.proofs.Reading.{fields_in, behind, kind_fine, has_fine, read_has, read_short}

-- ---- what is written reads
-- the head, whatever follows it
said_head : (bearer transaction type : ℕ) (xs : List ℕ)
    → said_of (head_of bearer transaction type xs)
    ≡ said_by (read_named (kind_of type (get_or xs 0 0)) (head_of bearer transaction type xs)) (head_of bearer transaction type xs)
unfolding said_of read_of
said_head bearer transaction type xs =
    let long : leb 3 (length (head_of bearer transaction type xs)) ≡ true = le-leb 3 (length (head_of bearer transaction type xs)) (omega arith) in
    let ours : (bearer * 16 + discriminator) % 16 ≡ discriminator = omega arith in
    rw (long, ours)

-- a value that is passed to its end
pass : (listed : List Listed) (at : ℕ) (tft : Option Part) (xs : List ℕ) → elements listed (length xs) at tft xs ≡ Ok tft
unfolding elements
pass listed at tft [] = refl
pass listed at tft (x ∷ xs) = pass listed (suc at) tft xs

-- the TFT of a modify request
pass_tft : (value : List ℕ) → elements modify_request_lists 0 3 None (0x36 ∷ length value ∷ value) ≡ Ok (Some (part 5 (length value)))
unfolding elements form_in
pass_tft value =
    let e : 1 + length value ≡ suc (length value) = omega arith in
    rw e (pass modify_request_lists 5 (Some (part 5 (length value))) value)

no_tft_lem : (tft : Option (List ℕ)) → tft_fine Never tft ≡ true → tft ≡ None
no_tft_lem None e = refl
no_tft_lem (Some value) e = absurd (false≢true e)

module _ (bearer transaction : ℕ) where
  abbrev fields : Kind → Option (List ℕ) → Fields
  fields kind tft = record { kind = kind; bearer = bearer; transaction = transaction; tft = tft }

  same_bearer : (bearer * 16 + discriminator) / 16 ≡ bearer
  same_bearer = omega arith

  reads : (kind : Kind) (tft : Option (List ℕ)) → carried_fine (row_of kind).mandatory (carried kind) ≡ true → tft_fine (row_of kind).tft tft ≡ true
      → said_of (octets_of (fields kind tft)) ≡ Ok (fields kind tft)
  unfolding octets_of kind_of activation_start elements
  reads (DedicatedRequest link) None c t = absurd (false≢true t)
  reads (DedicatedRequest link) (Some value) c t =
      let front : List ℕ = head_of bearer transaction 0xC5 (link ∷ 1 ∷ 9 ∷ length value ∷ []) in
      let fits = le-leb (7 + length value) (length (front ++ value)) (omega arith) in
      let small = leb-true link largest_identity c in
      let same : link % 16 ≡ link = omega arith in
      let rest : drop (7 + length value) (front ++ value) ≡ [] = drop-append-add front value (length value) ∙ drop-length value in
      rw (said_head, fits, rest, same, same_bearer, take-length)
  reads DedicatedAccept tft c t = rw (no_tft_lem tft t, said_head, same_bearer)
  reads (DedicatedReject why) tft c t = rw (no_tft_lem tft t, said_head, same_bearer)
  reads ModifyRequest None c t = rw (said_head, same_bearer)
  reads ModifyRequest (Some value) c t = rw (said_head, pass_tft value, same_bearer, take-length)
  reads ModifyAccept tft c t = rw (no_tft_lem tft t, said_head, same_bearer)
  reads (ModifyReject why) tft c t = rw (no_tft_lem tft t, said_head, same_bearer)
  reads (DeactivateRequest why) tft c t = rw (no_tft_lem tft t, said_head, same_bearer)
  reads DeactivateAccept tft c t = rw (no_tft_lem tft t, said_head, same_bearer)
  reads (ModificationReject why) tft c t = rw (no_tft_lem tft t, said_head, same_bearer)

-- the parts of what can be written
record Fine (f : Fields) : Type 0 where
  bearer : f.bearer ≤ largest_identity
  carried : carried_fine (row_of f.kind).mandatory (carried f.kind) ≡ true
  tft : tft_fine (row_of f.kind).tft f.tft ≡ true

fine : (f : Fields) → writable f ≡ true → Fine f
unfolding writable
fine f w =
    let b = leb f.bearer largest_identity in
    let c = carried_fine (row_of f.kind).mandatory (carried f.kind) in
    let all = both (b && c) (tft_fine (row_of f.kind).tft f.tft) w in
    let first = both b c all.0 in
    record { bearer = leb-true f.bearer largest_identity first.0; carried = first.1; tft = all.1 }

pub written_reads : (f : Fields) → writable f ≡ true → said_of (octets_of f) ≡ Ok f
written_reads f w = reads f.bearer f.transaction f.kind f.tft (fine f w).carried (fine f w).tft

-- ---- what reads can be written
can_write : (f : Fields) → Fine f → writable f ≡ true
unfolding writable
can_write f g = rw (le-leb f.bearer largest_identity g.bearer, g.carried, g.tft)

pub readable_writable : (message : List ℕ) (f : Fields) → All Octet message → said_of message ≡ Ok f → writable f ≡ true
readable_writable message f o e =
    let b = behind message f e in
    let m = b.m in
    rw (← b.is)
    (can_write (fields_in message m)
    (record {
      bearer = bearer_small message o m b.read;
      carried = kind_fine _ _ m.kind (parts message m b.read).named;
      tft = has_fine (row_of m.kind).tft m.tft message (read_has message m b.read) (read_short message m o b.read);
    }))

-- ---- the octets are octets
value_short : (carries : Carries) (tft : Option (List ℕ)) → tft_fine carries tft ≡ true → length (value_of tft) ≤ longest_tft
value_short carries None e = omega arith
value_short Always (Some value) e = leb-true (length value) longest_tft e
value_short Maybe (Some value) e = leb-true (length value) longest_tft e
value_short Never (Some value) e = absurd (false≢true e)

type_octet : (kind : Kind) → Octet (type_of kind)
type_octet (DedicatedRequest link) = omega arith
type_octet DedicatedAccept = omega arith
type_octet (DedicatedReject why) = omega arith
type_octet ModifyRequest = omega arith
type_octet ModifyAccept = omega arith
type_octet (ModifyReject why) = omega arith
type_octet (DeactivateRequest why) = omega arith
type_octet DeactivateAccept = omega arith
type_octet (ModificationReject why) = omega arith

body_octets : (mandatory : Mandatory) (x : ℕ) (tft : Option (List ℕ)) → Octet x → length (value_of tft) ≤ longest_tft
    → All Octet (body_of mandatory x (option_map length tft))
body_octets Nothing x None o l = tt
body_octets Nothing x (Some value) o l = (omega arith, (omega arith, tt))
body_octets Cause x tft o l = (o, tt)
body_octets Activation x None o l = (o, (omega arith, (omega arith, (omega arith, tt))))
body_octets Activation x (Some value) o l = (o, (omega arith, (omega arith, (omega arith, tt))))

value_octets : (tft : Option (List ℕ)) → OctetsInRange tft → All Octet (value_of tft)
value_octets None r = tt
value_octets (Some value) r = r

pub octets_are : (f : Fields) → FieldsInRange f → writable f ≡ true → All Octet (octets_of f)
unfolding octets_of
octets_are f r w =
    let g = fine f w in
    let low = g.bearer in
    let body = body_octets (row_of f.kind).mandatory (carried f.kind) f.tft r.carried (value_short (row_of f.kind).tft f.tft g.tft) in
    all_append Octet (front_of f) (value_of f.tft) (omega arith, (r.transaction, (type_octet f.kind, body))) (value_octets f.tft r.tft)

-- ---- each number is given exactly where its refusal holds, and none before it
writable_says : (f : Fields) → FieldsInRange f → Says (writable f) (Readable f)
writable_says f r =
    record {
      to = λ w. record { message = octets_of f; octets = octets_are f r w; reads = written_reads f w };
      from = λ e. readable_writable e.message f e.octets e.reads;
    }

pub write_numbers : (f : Fields) → FieldsInRange f → (buffer : List ℕ) → WriteNumbered f buffer (message_number (write_of f buffer).written)
unfolding write_of
write_numbers f r buffer =
    let n = length (octets_of f) in
    let w = writable_says f r in
    let l = says_le n (length buffer) in
    subst (WriteNumbered f buffer) (go (writable f) (leb n (length buffer)))
    (record {
      is15 = unless_here w refl (picked (λ (k : ℕ). k ≡ 15 → ⊥) (leb n (length buffer)) 0 9 (λ e. omega arith) (λ e. omega arith));
      is9 = unless_later w (λ e. omega arith) (short (unless_here l refl (λ e. omega arith)));
      is0 = unless_later w (λ e. omega arith) (where_here l refl (λ e. omega arith));
    })
  where
    short : {A : Type 0} → A ↔ (length (octets_of f) ≤ length buffer → ⊥) → A ↔ (length buffer < length (octets_of f))
    short u = (λ a. let n : length (octets_of f) ≤ length buffer → ⊥ = u.0 a in omega arith, λ h. u.1 (λ m. omega arith))

    go : (w l : Bool) → pick w (pick l 0 9) 15 ≡ message_number (pick w (pick l (wrote (octets_of f) buffer) (leaves NoRoom buffer)) (leaves Unreadable buffer)).written
    go true true = refl
    go true false = refl
    go false l = refl

-- ---- what was written reads back
pub written_back : (f : Fields) (buffer : List ℕ) (n : ℕ) → (write_of f buffer).written ≡ Ok n → said_of (take n (write_of f buffer).buffer) ≡ Ok f
unfolding write_of
written_back f buffer n e = go (writable f) refl (leb (length (octets_of f)) (length buffer)) e
  where
    xs : List ℕ
    xs = octets_of f

    out : Bool → Bool → MessageOutcome
    out w l = pick w (pick l (wrote xs buffer) (leaves NoRoom buffer)) (leaves Unreadable buffer)

    go : (w : Bool) → writable f ≡ w → (l : Bool) → (out w l).written ≡ Ok n → said_of (take n (out w l).buffer) ≡ Ok f
    go true w true e =
        let q : length xs ≡ n = cc in
        rw (← q, take-append_seam) (written_reads f w)
    go true w false e = let z : ◌≡◌ {A = ℕ} 0 1 = cc in absurd (omega arith)
    go false w l e = let z : ◌≡◌ {A = ℕ} 0 1 = cc in absurd (omega arith)

-- octets after those written stay
pub written_stays : (f : Fields) (buffer : List ℕ) (n : ℕ) → (write_of f buffer).written ≡ Ok n → drop n (write_of f buffer).buffer ≡ drop n buffer
unfolding write_of
written_stays f buffer n = go (writable f) (leb (length (octets_of f)) (length buffer))
  where
    go : (b c : Bool)
        → let o = pick b (pick c (wrote (octets_of f) buffer) (leaves NoRoom buffer)) (leaves Unreadable buffer) in
        o.written ≡ Ok n → drop n o.buffer ≡ drop n buffer
    go true true e = let q : length (octets_of f) ≡ n = cc in rw (← q) (drop-append_seam (octets_of f) (drop (length (octets_of f)) buffer))
    go true false e = refl
    go false c e = refl
