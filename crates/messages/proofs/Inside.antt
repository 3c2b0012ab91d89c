-- Where the TFT of a message that was read stands, and how large the bearer's identity is.
use mathlib.Core.Path.{◌≡◌, refl, sym, ap, ◌∙◌}
use mathlib.Core.Bool.{Bool, true, false}
use Rattle.std.specs.Prelude.{Option, Some, None, ok_or, Result, Ok, Err}
use mathlib.Core.List.{List, [], ◌∷◌}
use Prim.Native.Nat.{ℕ, zero, suc, ◌+◌, ◌/◌, ◌%◌, ◌≤◌, ◌<◌}
use native.Mathlib.Omega.{arith}
use lib.Dec.{eqb, leb}
use lib.ListN.{length, drop, get_or, length-drop}
use borrow.Author.Tests.{eqb-true, eqb-false, leb-true, leb-false, le-leb}
use Rattle.laws.specs.Says.{pick}
use Rattle.laws.specs.Lists.{All}
use Rattle.laws.proofs.Lists.{all_at}
use Rattle.laws.proofs.Says.{by_test}
use Rattle.element.specs.Meaning.{Octet}
use Rattle.messages.specs.declared.layout.Kind.{Kind}
use Rattle.messages.specs.declared.layout.Mandatory.{Mandatory}
use Rattle.messages.specs.declared.layout.Mandatory.TheVariants.{Nothing, Cause, Activation}
use Rattle.messages.specs.declared.layout.Part.{Part}
use Rattle.messages.specs.declared.layout.Fault.{Fault}
use Rattle.messages.specs.declared.read.Reached.{Reached}
use Rattle.messages.specs.declared.layout.Fault.TheVariants.{Unknown, Framing}
use Rattle.messages.specs.declared.layout.Message.{Message}
use Rattle.messages.specs.declared.listed.Form.{Form}
use Rattle.messages.specs.declared.listed.Form.TheVariants.{Half, Two, Tlv, TlvE, Template}
use Rattle.messages.specs.Layout.{Listed, discriminator, head_octets, row_of, kind_of, form_in, optional}
use Rattle.messages.specs.Read.{part, reached, ◌>>=◌, tail_of, is_barred, with_element, elements, activation_start, start_by, read_elements, read_from, read_named, read_of}
use Rattle.messages.specs.Inner.Walk.{end_of, Inside}
use Rattle.messages.proofs.Turns.{read_ours}

-- ---- what holds before the elements, and stays from octet to octet, holds at the end of a list in which none is faulty
module _ (listed : List Listed) (P : ℕ → ℕ → Option Part → List ℕ → Type 0)
    (starts : (at : ℕ) (tft : Option Part) (x : ℕ) (xs : List ℕ) (form : Form) → form_in listed x ≡ Some form → P 0 at tft (x ∷ xs)
    → P (tail_of form xs) (suc at) (with_element form at xs tft) xs)
    (passes : (k at : ℕ) (tft : Option Part) (x : ℕ) (xs : List ℕ) → P (suc k) at tft (x ∷ xs) → P k (suc at) tft xs) where
  pub elements_hold : (k at : ℕ) (tft : Option Part) (xs : List ℕ) (found : Option Part) → P k at tft xs → elements listed k at tft xs ≡ Ok found → (last : ℕ) × P 0 last found []
  unfolding elements
  elements_hold zero at tft [] found h e = let q : tft ≡ found = cc in rw (← q) (at, h)
  elements_hold (suc k) at tft [] found h e = let z : ◌≡◌ {A = ℕ} 0 1 = cc in absurd (omega arith)
  elements_hold zero at tft (x ∷ xs) found h e =
      go (form_in listed x) refl (λ form p. elements_hold (tail_of form xs) (suc at) (with_element form at xs tft) xs found p) e
    where
      by : (b : Bool) {es : Result (Option Part) Fault} → (es ≡ Ok found → (last : ℕ) × P 0 last found []) → pick b (Err Framing) es ≡ Ok found → (last : ℕ) × P 0 last found []
      by true more e = let z : ◌≡◌ {A = ℕ} 0 1 = cc in absurd (omega arith)
      by false more e = more e

      go : (form : Option Form) → form_in listed x ≡ form
          → ((form : Form) → P (tail_of form xs) (suc at) (with_element form at xs tft) xs
          → elements listed (tail_of form xs) (suc at) (with_element form at xs tft) xs ≡ Ok found → (last : ℕ) × P 0 last found [])
          → (ok_or form Framing
          >>= λ form. pick (is_barred form tft) (Err Framing) (elements listed (tail_of form xs) (suc at) (with_element form at xs tft) xs))
          ≡ Ok found → (last : ℕ) × P 0 last found []
      go None q more e = let z : ◌≡◌ {A = ℕ} 0 1 = cc in absurd (omega arith)
      go (Some form) q more e = by (is_barred form tft) (more form (starts at tft x xs form q h)) e
  elements_hold (suc k) at tft (x ∷ xs) found h e = elements_hold k (suc at) tft xs found (passes k at tft x xs h) e

-- their only fault is framing
pub elements_fault : (listed : List Listed) (k at : ℕ) (tft : Option Part) (xs : List ℕ) (fault : Fault) → elements listed k at tft xs ≡ Err fault → fault ≡ Framing
unfolding elements
elements_fault listed zero at tft [] fault e = let z : ◌≡◌ {A = ℕ} 0 1 = cc in absurd (omega arith)
elements_fault listed (suc k) at tft [] fault e = cc
elements_fault listed zero at tft (x ∷ xs) fault e =
    go (form_in listed x) (λ form. elements_fault listed (tail_of form xs) (suc at) (with_element form at xs tft) xs fault) e
  where
    by : (b : Bool) (es : Result (Option Part) Fault) → (es ≡ Err fault → fault ≡ Framing) → pick b (Err Framing) es ≡ Err fault → fault ≡ Framing
    by true es more e = cc
    by false es more e = more e

    go : (form : Option Form)
        → ((form : Form) → elements listed (tail_of form xs) (suc at) (with_element form at xs tft) xs ≡ Err fault → fault ≡ Framing)
        → (ok_or form Framing
        >>= λ form. pick (is_barred form tft) (Err Framing) (elements listed (tail_of form xs) (suc at) (with_element form at xs tft) xs))
        ≡ Err fault → fault ≡ Framing
    go None more e = cc
    go (Some form) more e = by (is_barred form tft) _ (more form) e
elements_fault listed (suc k) at tft (x ∷ xs) fault e = elements_fault listed k (suc at) tft xs fault e

-- ---- where a TFT ends
-- an element's own TFT ends with the element, and one before it before that
element_end : (form : Form) (at : ℕ) (xs : List ℕ) (tft : Option Part) → end_of tft ≤ at → end_of (with_element form at xs tft) ≤ suc at + tail_of form xs
element_end Half at xs tft h = omega arith
element_end Two at xs tft h = omega arith
element_end Tlv at xs tft h = omega arith
element_end TlvE at xs tft h = omega arith
element_end Template at xs tft h = omega arith

-- of n octets in all, what the elements say ends within them
elements_end : (listed : List Listed) (at : ℕ) (tft : Option Part) (xs : List ℕ) (found : Option Part) (n : ℕ) → at + length xs ≡ n → end_of tft ≤ at
    → elements listed 0 at tft xs ≡ Ok found → end_of found ≤ n
elements_end listed at tft xs found n l h e =
    let last = elements_hold listed (λ k at tft xs. (at + length xs ≡ n) × (end_of tft ≤ at + k))
    (λ at tft x xs form q h. (omega arith, element_end form at xs tft (omega arith))) (λ k at tft x xs h. (omega arith, omega arith))
    0 at tft xs found (l, omega arith) e in
    omega arith

-- where something is missing before them, the fault is framing too
missing : (b : Bool) (start : Reached) (fault : Fault) → pick b (Ok start) (Err Framing) ≡ Err fault → fault ≡ Framing
missing true start fault e = let z : ◌≡◌ {A = ℕ} 0 1 = cc in absurd (omega arith)
missing false start fault e = cc

pub start_fault : (mandatory : Mandatory) (message : List ℕ) (fault : Fault) → start_by mandatory message ≡ Err fault → fault ≡ Framing
unfolding activation_start
start_fault Nothing message fault e = let z : ◌≡◌ {A = ℕ} 0 1 = cc in absurd (omega arith)
start_fault Cause message fault e = missing (leb (head_octets + 1) (length message)) _ fault e
start_fault Activation message fault e =
    missing (leb (6 + get_or message 4 0 + get_or message (5 + get_or message 4 0) 0) (length message)) _ fault e

-- ---- a message that was read, part by part
-- it has three octets or more; its elements were found from where they start; and its bearer is in the first octet
pub record Parts (message : List ℕ) (m : Message) : Type 0 where
  pub long : head_octets ≤ length message
  pub ours : get_or message 0 0 % 16 ≡ discriminator
  pub named : kind_of (get_or message 2 0) (get_or message 3 0) ≡ Some m.kind
  pub at : ℕ
  pub before : Option Part
  pub start : start_by (row_of m.kind).mandatory message ≡ Ok (reached at before)
  pub found : elements (optional m.kind) 0 at before (drop at message) ≡ Ok m.tft
  pub bearer : m.bearer ≡ get_or message 0 0 / 16
  pub transaction : m.transaction ≡ get_or message 1 0

-- what holds of a message that is too short, is not ours, lacks something or has a faulty element, or has these parts, holds of what is read
module _ (message : List ℕ) where
  abbrev first : ℕ
  first = get_or message 0 0

  abbrev named : Option Kind
  named = kind_of (get_or message 2 0) (get_or message 3 0)

  module _ (P : Result Message Fault → Type 0) (short : length message < head_octets → P (Err Framing))
      (foreign : head_octets ≤ length message → (first % 16 ≡ discriminator → ⊥) → P (Err Unknown))
      (unnamed : head_octets ≤ length message → first % 16 ≡ discriminator → named ≡ None → P (Err Unknown))
      (broken : head_octets ≤ length message → first % 16 ≡ discriminator → (kind : Kind) → named ≡ Some kind → P (Err Framing))
      (whole : (m : Message) → Parts message m → P (Ok m)) where
    module _ (l : head_octets ≤ length message) (o : first % 16 ≡ discriminator) where
      by_found : (kind : Kind) → named ≡ Some kind → (at : ℕ) (before : Option Part) → start_by (row_of kind).mandatory message ≡ Ok (reached at before)
          → (es : Result (Option Part) Fault) → elements (optional kind) 0 at before (drop at message) ≡ es → P (read_elements es kind message)
      by_found kind n at before s (Err fault) f = rw (elements_fault (optional kind) 0 at before (drop at message) fault f) (broken l o kind n)
      by_found kind n at before s (Ok tft) f =
          whole (record { kind = kind; bearer = first / 16; transaction = get_or message 1 0; tft = tft })
          (record { long = l; ours = o; named = n; at = at; before = before; start = s; found = f; bearer = refl; transaction = refl })

      by_start : (kind : Kind) → named ≡ Some kind → (start : Result Reached Fault) → start_by (row_of kind).mandatory message ≡ start → P (read_from start kind message)
      by_start kind n (Err fault) s = rw (start_fault (row_of kind).mandatory message fault s) (broken l o kind n)
      by_start kind n (Ok start) s = by_found kind n start.at start.tft s (elements (optional kind) 0 start.at start.tft (drop start.at message)) refl

      by_named : (name : Option Kind) → named ≡ name → P (read_named name message)
      by_named None n = unnamed l o n
      by_named (Some kind) n = by_start kind n (start_by (row_of kind).mandatory message) refl

    pub read_holds : P (read_of message)
    unfolding read_of
    read_holds =
        by_test P (leb head_octets (length message)) _ _
        (λ e. let l = leb-true head_octets (length message) e in
        by_test P (eqb (first % 16) discriminator) _ _ (λ o. by_named l (eqb-true (first % 16) discriminator o) named refl)
        (λ o. foreign l (eqb-false (first % 16) discriminator o))) (λ e. short (leb-false head_octets (length message) e))

  pub parts : (m : Message) → read_of message ≡ Ok m → Parts message m
  parts m =
      read_holds (λ (parsed : Result Message Fault). parsed ≡ Ok m → Parts message m) (λ l. not_read Framing) (λ l o. not_read Unknown) (λ l o n. not_read Unknown)
      (λ l o kind n. not_read Framing) (λ n p e. let q : n ≡ m = cc in rw (← q) p)
    where
      not_read : (fault : Fault) → Err fault ≡ Ok m → Parts message m
      not_read fault e = let z : ◌≡◌ {A = ℕ} 0 1 = cc in absurd (omega arith)

-- and the other way round, whatever its elements
pub read_by : (message : List ℕ) (kind : Kind) (at : ℕ) (before : Option Part) → head_octets ≤ length message → get_or message 0 0 % 16 ≡ discriminator
    → kind_of (get_or message 2 0) (get_or message 3 0) ≡ Some kind → start_by (row_of kind).mandatory message ≡ Ok (reached at before)
    → read_of message ≡ read_elements (elements (optional kind) 0 at before (drop at message)) kind message
unfolding read_of
read_by message kind at before l o n s = rw (le-leb head_octets (length message) l, o, n, s)

-- ---- where the optional elements start, and what the TFT before them is
abbrev pub start_of : Mandatory → List ℕ → ℕ
start_of Nothing message = head_octets
start_of Cause message = head_octets + 1
start_of Activation message = 6 + get_or message 4 0 + get_or message (5 + get_or message 4 0) 0

abbrev pub before_of : Mandatory → List ℕ → Option Part
before_of Nothing message = None
before_of Cause message = None
before_of Activation message = Some (part (6 + get_or message 4 0) (get_or message (5 + get_or message 4 0) 0))

-- the mandatory part is there, and they start so
pub record Starts (mandatory : Mandatory) (message : List ℕ) (from : ℕ) (tft : Option Part) : Type 0 where
  pub fits : start_of mandatory message ≤ length message
  pub at : start_of mandatory message ≡ from
  pub before : before_of mandatory message ≡ tft

pub starts : (mandatory : Mandatory) (message : List ℕ) (at : ℕ) (before : Option Part) → head_octets ≤ length message → start_by mandatory message ≡ Ok (reached at before)
    → Starts mandatory message at before
unfolding activation_start
starts mandatory message at before l e = go mandatory e
  where
    by : (mandatory : Mandatory) (b : Bool) → leb (start_of mandatory message) (length message) ≡ b
        → pick b (Ok (reached (start_of mandatory message) (before_of mandatory message))) (Err Framing) ≡ Ok (reached at before) → Starts mandatory message at before
    by mandatory true q e =
        let r : reached (start_of mandatory message) (before_of mandatory message) ≡ reached at before = cc in
        record { fits = leb-true (start_of mandatory message) (length message) q; at = ap (λ (x : Reached). x.at) r; before = ap (λ (x : Reached). x.tft) r }
    by mandatory false q e = let z : ◌≡◌ {A = ℕ} 0 1 = cc in absurd (omega arith)

    go : (mandatory : Mandatory) → start_by mandatory message ≡ Ok (reached at before) → Starts mandatory message at before
    go Nothing e = by Nothing true (le-leb head_octets (length message) l) e
    go Cause e = by Cause (leb (head_octets + 1) (length message)) refl e
    go Activation e = by Activation (leb (start_of Activation message) (length message)) refl e

-- the TFT before them ends where they start
before_end : (mandatory : Mandatory) (message : List ℕ) → end_of (before_of mandatory message) ≤ start_of mandatory message
before_end Nothing message = omega arith
before_end Cause message = omega arith
before_end Activation message = omega arith

pub start_end : (mandatory : Mandatory) (message : List ℕ) (at : ℕ) (before : Option Part) → Starts mandatory message at before
    → (at ≤ length message) × (end_of before ≤ at)
start_end mandatory message at before s = rw (← s.at, ← s.before) (s.fits, before_end mandatory message)

pub part_starts : (message : List ℕ) (m : Message) (p : Parts message m) → Starts (row_of m.kind).mandatory message p.at p.before
part_starts message m p = starts (row_of m.kind).mandatory message p.at p.before p.long p.start

pub tft_inside : (message : List ℕ) (m : Message) → read_of message ≡ Ok m → Inside m.tft message
tft_inside message m e =
    let p = parts message m e in
    let s = start_end (row_of m.kind).mandatory message p.at p.before (part_starts message m p) in
    elements_end (optional m.kind) p.at p.before (drop p.at message) m.tft (length message) (simp length-drop (omega arith)) (omega arith) p.found

-- an octet, also past the end
pub octet_at : (xs : List ℕ) → All Octet xs → (i : ℕ) → Octet (get_or xs i 0)
octet_at xs o i = all_at Octet xs 0 o (omega arith) i

-- the bearer is half an octet
pub bearer_small : (message : List ℕ) → All Octet message → (m : Message) → read_of message ≡ Ok m → m.bearer ≤ 15
bearer_small message o m e =
    let h = octet_at message o 0 in
    omega (arith, (parts message m e).bearer)

-- ---- the reader, exit by exit
module _ (s : List ℕ) (long : head_octets ≤ length s) (ours : get_or s 0 0 % 16 ≡ discriminator) (name : Option Kind) (x : ℕ)
    (is : name ≡ kind_of (get_or s 2 0) x) (octet : x ≡ get_or s 3 0) where
  by_name : read_of s ≡ read_named name s
  by_name = read_ours s long ours ∙ rw (is, octet)

  pub read_unnamed : (fault : Fault) → ok_or name Unknown ≡ Err fault → read_of s ≡ Err fault
  read_unnamed fault e = by_name ∙ go name e
    where
      go : (name : Option Kind) → ok_or name Unknown ≡ Err fault → read_named name s ≡ Err fault
      go None e = cc
      go (Some kind) e = let z : ◌≡◌ {A = ℕ} 0 1 = cc in absurd (omega arith)

  module _ (kind : Kind) (known : ok_or name Unknown ≡ Ok kind) (mandatory : Mandatory) (row : mandatory ≡ (row_of kind).mandatory) (start : Result Reached Fault)
      (begins : start ≡ start_by mandatory s) where
    started : read_of s ≡ read_from start kind s
    started = by_name ∙ go name known ∙ rw (begins, row)
      where
        go : (name : Option Kind) → ok_or name Unknown ≡ Ok kind → read_named name s ≡ read_from (start_by (row_of kind).mandatory s) kind s
        go None e = let z : ◌≡◌ {A = ℕ} 0 1 = cc in absurd (omega arith)
        go (Some k) e = let q : k ≡ kind = cc in rw q

    pub read_unstarted : (fault : Fault) → start ≡ Err fault → read_of s ≡ Err fault
    read_unstarted fault e = started ∙ rw e

    module _ (first : Reached) (e : start ≡ Ok first) where
      pub start_inside : first.at ≤ length s
      start_inside = (start_end mandatory s first.at first.tft (starts mandatory s first.at first.tft long (sym begins ∙ e))).0

      module _ (es : Result (Option Part) Fault) (are : es ≡ elements (optional kind) 0 first.at first.tft (drop first.at s)) where
        by_elements : read_of s ≡ read_elements es kind s
        by_elements = started ∙ rw (e, are)

        pub read_faulty : (fault : Fault) → es ≡ Err fault → read_of s ≡ Err fault
        read_faulty fault f = by_elements ∙ rw f

        pub read_whole : (tft : Option Part) → es ≡ Ok tft
            → read_of s ≡ Ok (record { kind = kind; bearer = get_or s 0 0 / 16; transaction = get_or s 1 0; tft = tft })
        read_whole tft f = by_elements ∙ rw f
