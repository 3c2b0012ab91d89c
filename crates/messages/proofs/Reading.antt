-- Laws of the reader: the message behind what octets say, its kind by the type octet, and its TFT by the kind.
use mathlib.Core.Path.{◌≡◌, refl, sym}
use mathlib.Core.Bool.{Bool, true, false}
use mathlib.Core.List.{List, [], ◌∷◌}
use Prim.Native.Nat.{ℕ, ◌+◌, ◌%◌, ◌≤◌}
use native.Mathlib.Omega.{arith}
use lib.Dec.{eqb, leb}
use lib.ListN.{length, take, drop, get_or, length-take}
use borrow.Author.Tests.{eqb-true, le-leb}
use Rattle.std.specs.Prelude.{Option, Some, None, Result, Ok, Err}
use Rattle.messages.specs.declared.layout.Part.{Part}
use Rattle.messages.specs.declared.layout.Fault.{Fault}
use Rattle.laws.specs.Says.{pick}
use Rattle.laws.specs.Lists.{All, every}
use Rattle.laws.proofs.Parts.{all_drop}
use Rattle.laws.proofs.Says.{by_test}
use Rattle.laws.proofs.Tests.{both}
use Rattle.element.specs.Meaning.{Octet}
use Rattle.messages.specs.declared.layout.Kind.{Kind}
use Rattle.messages.specs.declared.layout.Kind.TheVariants.{DedicatedRequest, DedicatedAccept, DedicatedReject, ModifyRequest, ModifyAccept}
use Rattle.messages.specs.declared.layout.Kind.TheVariants.{ModifyReject, DeactivateRequest, DeactivateAccept, ModificationReject}
use Rattle.messages.specs.declared.layout.Mandatory.{Mandatory}
use Rattle.messages.specs.declared.layout.Mandatory.TheVariants.{Nothing, Cause, Activation}
use Rattle.messages.specs.declared.layout.Carries.{Carries}
use Rattle.messages.specs.declared.layout.Carries.TheVariants.{Always, Maybe, Never}
use Rattle.messages.specs.declared.layout.Message.{Message}
use Rattle.messages.specs.declared.listed.Form.{Form}
use Rattle.messages.specs.declared.listed.Form.TheVariants.{Half, Two, Tlv, TlvE, Template}
use Rattle.messages.specs.Layout.{Listed, row_of, type_of, carried, kinds_with, named_in, kind_of, is_of, framing, form_in, optional}
use Rattle.messages.specs.Read.{with_element, read_of, octets_at, Fields, said_by, said_of}
use Rattle.messages.specs.Write.{largest_identity, carried_fine, tft_fine, longest_tft}
use Rattle.messages.proofs.Inside.{parts, before_of, part_starts, elements_hold, octet_at}

-- ---- the message behind what octets say
abbrev pub fields_in : List ℕ → Message → Fields
fields_in message m = record { kind = m.kind; bearer = m.bearer; transaction = m.transaction; tft = octets_at message m.tft }

pub record Behind (message : List ℕ) (f : Fields) : Type 0 where
  pub m : Message
  pub read : read_of message ≡ Ok m
  pub is : fields_in message m ≡ f

pub behind : (message : List ℕ) (f : Fields) → said_of message ≡ Ok f → Behind message f
unfolding said_of
behind message f e = go (read_of message) refl e
  where
    go : (parsed : Result Message Fault) → read_of message ≡ parsed → said_by parsed message ≡ Ok f → Behind message f
    go (Ok m) r e = record { m = m; read = r; is = cc }
    go (Err fault) r e = let z : ◌≡◌ {A = ℕ} 0 1 = cc in absurd (omega arith)

-- ---- the kind that a type octet names: it has that type, and what holds of each of the kinds holds of it
module _ (P : Kind → Type 0) (type : ℕ) (kind : Kind) where
  pub named_holds : (kinds : List Kind) → All P kinds → named_in kinds type ≡ Some kind → P kind × (type_of kind ≡ type)
  named_holds [] h e = let z : ◌≡◌ {A = ℕ} 0 1 = cc in absurd (omega arith)
  named_holds (k ∷ kinds) h e = go (eqb type (type_of k)) refl e (named_holds kinds h.1)
    where
      go : (b : Bool) → eqb type (type_of k) ≡ b → pick b (Some k) (named_in kinds type) ≡ Some kind
          → (named_in kinds type ≡ Some kind → P kind × (type_of kind ≡ type)) → P kind × (type_of kind ≡ type)
      go true q e more = let r : k ≡ kind = cc in rw (← r) (h.0, sym (eqb-true type (type_of k) q))
      go false q e more = more e

-- a link is in four bits
pub kind_fine : (type x : ℕ) (kind : Kind) → kind_of type x ≡ Some kind → carried_fine (row_of kind).mandatory (carried kind) ≡ true
unfolding kind_of
kind_fine type x kind e =
    (named_holds (λ k. carried_fine (row_of k).mandatory (carried k) ≡ true) type kind (kinds_with x)
    (le-leb (x % 16) largest_identity (omega arith), (refl, (refl, (refl, (refl, (refl, (refl, (refl, (refl, tt))))))))) e).0

pub kind_type : (type x : ℕ) (kind : Kind) → kind_of type x ≡ Some kind → type_of kind ≡ type
unfolding kind_of
kind_type type x kind e = (named_holds (λ k. Unit {0}) type kind (kinds_with x) (tt, (tt, (tt, (tt, (tt, (tt, (tt, (tt, (tt, tt))))))))) e).1

-- where the octet after the type is not the kind's, it may be any
pub kind_any : (type x y : ℕ) (kind : Kind) → kind_of type x ≡ Some kind → (row_of kind).mandatory ≡ Nothing → kind_of type y ≡ Some kind
unfolding kind_of
kind_any type x y kind e n = rw (← (kind_type type x kind e)) (go kind n)
  where
    go : (kind : Kind) → (row_of kind).mandatory ≡ Nothing → kind_of (type_of kind) y ≡ Some kind
    go (DedicatedRequest link) n = cc
    go DedicatedAccept n = refl
    go (DedicatedReject why) n = cc
    go ModifyRequest n = refl
    go ModifyAccept n = refl
    go (ModifyReject why) n = cc
    go (DeactivateRequest why) n = cc
    go DeactivateAccept n = refl
    go (ModificationReject why) n = cc

-- ---- the TFT: whether it is there goes by the kind, and its length is an octet
abbrev pub octets_in : Option Part → ℕ
octets_in None = 0
octets_in (Some p) = p.octets

abbrev pub Has : Carries → Option Part → Type 0
Has Always None = ⊥
Has Always (Some p) = Unit {0}
Has Maybe tft = Unit {0}
Has Never None = Unit {0}
Has Never (Some p) = ⊥

short_fine : (octets : ℕ) (xs : List ℕ) → octets ≤ longest_tft → leb (length (take octets xs)) longest_tft ≡ true
short_fine octets xs h = le-leb (length (take octets xs)) longest_tft (simp length-take (omega arith))

pub has_fine : (carries : Carries) (tft : Option Part) (message : List ℕ) → Has carries tft → octets_in tft ≤ longest_tft → tft_fine carries (octets_at message tft) ≡ true
has_fine Always None message h s = absurd h
has_fine Always (Some p) message h s = short_fine p.octets (drop p.from message) s
has_fine Maybe None message h s = refl
has_fine Maybe (Some p) message h s = short_fine p.octets (drop p.from message) s
has_fine Never None message h s = refl
has_fine Never (Some p) message h s = absurd h

-- no element of the list is a TFT
abbrev plain : Form → Bool
plain Half = true
plain Two = true
plain Tlv = true
plain TlvE = true
plain Template = false

abbrev AllPlain : List Listed → Type 0
AllPlain listed = every (λ l. plain (framing l)) listed ≡ true

plain_form : (listed : List Listed) → AllPlain listed → (x : ℕ) (form : Form) → form_in listed x ≡ Some form → plain form ≡ true
unfolding every form_in
plain_form [] h x form e = let z : ◌≡◌ {A = ℕ} 0 1 = cc in absurd (omega arith)
plain_form (l ∷ listed) h x form e =
    let here = both (plain (framing l)) (every (λ l. plain (framing l)) listed) h in
    by_test (λ (found : Option Form). found ≡ Some form → plain form ≡ true) (is_of l x) _ _
    (λ i e. let q : framing l ≡ form = cc in rw (← q) here.0) (λ i. plain_form listed here.1 x form) e

plain_element : (form : Form) → plain form ≡ true → (at : ℕ) (xs : List ℕ) (tft : Option Part) → with_element form at xs tft ≡ tft
plain_element Half h at xs tft = refl
plain_element Two h at xs tft = refl
plain_element Tlv h at xs tft = refl
plain_element TlvE h at xs tft = refl
plain_element Template h at xs tft = let z : ◌≡◌ {A = ℕ} 0 1 = cc in absurd (omega arith)

-- a list of a kind that has a TFT always, or never, has none among its optional elements
abbrev Proper : Carries → List Listed → Type 0
Proper Always listed = AllPlain listed
Proper Maybe listed = Unit {0}
Proper Never listed = AllPlain listed

kind_proper : (kind : Kind) → Proper (row_of kind).tft (optional kind)
unfolding every
kind_proper (DedicatedRequest link) = refl
kind_proper DedicatedAccept = refl
kind_proper (DedicatedReject why) = refl
kind_proper ModifyRequest = tt
kind_proper ModifyAccept = refl
kind_proper (ModifyReject why) = refl
kind_proper (DeactivateRequest why) = refl
kind_proper DeactivateAccept = refl
kind_proper (ModificationReject why) = refl

element_has : (carries : Carries) (listed : List Listed) → Proper carries listed → (x at : ℕ) (xs : List ℕ) (tft : Option Part) (form : Form)
    → form_in listed x ≡ Some form → Has carries tft → Has carries (with_element form at xs tft)
element_has Always listed p x at xs tft form e h = rw (plain_element form (plain_form listed p x form e) at xs tft) h
element_has Maybe listed p x at xs tft form e h = tt
element_has Never listed p x at xs tft form e h = rw (plain_element form (plain_form listed p x form e) at xs tft) h

before_has : (kind : Kind) (message : List ℕ) → Has (row_of kind).tft (before_of (row_of kind).mandatory message)
before_has (DedicatedRequest link) message = tt
before_has DedicatedAccept message = tt
before_has (DedicatedReject why) message = tt
before_has ModifyRequest message = tt
before_has ModifyAccept message = tt
before_has (ModifyReject why) message = tt
before_has (DeactivateRequest why) message = tt
before_has DeactivateAccept message = tt
before_has (ModificationReject why) message = tt

pub read_has : (message : List ℕ) (m : Message) → read_of message ≡ Ok m → Has (row_of m.kind).tft m.tft
read_has message m e =
    let p = parts message m e in
    let c = (row_of m.kind).tft in
    (elements_hold (optional m.kind) (λ k at tft xs. Has c tft)
    (λ at tft x xs form e h. element_has c (optional m.kind) (kind_proper m.kind) x at xs tft form e h) (λ k at tft x xs h. h)
    0 p.at p.before (drop p.at message) m.tft (rw (← (part_starts message m p).before) (before_has m.kind message)) p.found).1

-- its length is an octet
abbrev Short : Option Part → Type 0
Short tft = octets_in tft ≤ longest_tft

short_element : (form : Form) (at : ℕ) (xs : List ℕ) (tft : Option Part) → All Octet xs → Short tft → Short (with_element form at xs tft)
short_element Half at xs tft o h = h
short_element Two at xs tft o h = h
short_element Tlv at xs tft o h = h
short_element TlvE at xs tft o h = h
short_element Template at xs tft o h = let x = octet_at xs o 0 in omega arith

before_short : (mandatory : Mandatory) (message : List ℕ) → All Octet message → Short (before_of mandatory message)
before_short Nothing message o = omega arith
before_short Cause message o = omega arith
before_short Activation message o = let x = octet_at message o (5 + get_or message 4 0) in omega arith

pub read_short : (message : List ℕ) (m : Message) → All Octet message → read_of message ≡ Ok m → Short m.tft
read_short message m o e =
    let p = parts message m e in
    (elements_hold (optional m.kind) (λ k at tft xs. All Octet xs × Short tft)
    (λ at tft x xs form e h. (h.0.1, short_element form at xs tft h.0.1 h.1)) (λ k at tft x xs h. (h.0.1, h.1))
    0 p.at p.before (drop p.at message) m.tft
    (all_drop Octet p.at message o, rw (← (part_starts message m p).before) (before_short (row_of m.kind).mandatory message o)) p.found).1.1
