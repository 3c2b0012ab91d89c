-- What a message reads as is what its octets are made of, part after part, and nothing else reads.
use mathlib.Core.Path.{◌≡◌, refl, sym, ap, ◌∙◌, subst}
use mathlib.Core.Bool.{Bool, true, false, true≢false}
use mathlib.Core.List.{List, [], ◌∷◌, ◌++◌, flatten, append_assoc}
use mathlib.Core.Logic.{◌⊎◌, inl, inr, ⊎_elim, ◌↔◌}
use Prim.Native.Nat.{ℕ, zero, suc, ◌+◌, ◌*◌, ◌/◌, ◌%◌, ◌≤◌, ◌<◌}
use native.Mathlib.Omega.{arith}
use lib.Dec.{eqb, leb}
use lib.ListN.{length, take, drop, get_or, length-append, length-drop, take-append-drop}
use lib.Seq.{length-take-le, take-length, take-add, drop-drop, drop-append-add, get_or-append-add, take-append_seam, drop-append_seam, get_or-append_seam}
use borrow.Author.Tests.{eqb-true, leb-true, leb-false}
use Rattle.std.specs.Prelude.{Option, Some, None, ok_or, Result, Ok, Err}
use Rattle.messages.specs.declared.layout.Part.{Part}
use Rattle.messages.specs.declared.layout.Fault.{Fault}
use Rattle.laws.specs.Says.{pick}
use Rattle.laws.specs.Lists.{every, is_in}
use Rattle.laws.proofs.Parts.{drop_next}
use Rattle.laws.proofs.Joined.{in_holds}
use Rattle.laws.proofs.Says.{by_test, never, which}
use Rattle.laws.proofs.Tests.{both}
use Rattle.table.specs.declared.bearer.Table.{Table}
use Rattle.table.specs.Ranges.{TableInRange}
use Rattle.calls.specs.Reply.{number_of}
use Rattle.messages.specs.declared.layout.Kind.{Kind}
use Rattle.messages.specs.declared.layout.Kind.TheVariants.{DedicatedRequest, DedicatedAccept, DedicatedReject, ModifyRequest, ModifyAccept}
use Rattle.messages.specs.declared.layout.Kind.TheVariants.{ModifyReject, DeactivateRequest, DeactivateAccept, ModificationReject}
use Rattle.messages.specs.declared.layout.Mandatory.{Mandatory}
use Rattle.messages.specs.declared.layout.Mandatory.TheVariants.{Nothing, Cause, Activation}
use Rattle.messages.specs.declared.layout.Message.{Message}
use Rattle.messages.specs.declared.layout.Fault.TheVariants.{Unknown, Framing}
use Rattle.messages.specs.declared.listed.Form.{Form}
use Rattle.messages.specs.declared.listed.Form.TheVariants.{Half, Two, Tlv, TlvE, Template}
use Rattle.messages.specs.Layout.{Listed, head_octets, tft_identifier, row_of, type_of, carried, kinds_with, kind_of}
use Rattle.messages.specs.Layout.{is_of, framing, form_in, optional}
use Rattle.messages.specs.Read.{◌>>=◌, tail_of, elements, read_elements, read_of, parsed_number, octets_at, Fields, said_by, said_of}
use Rattle.messages.specs.Handle.{reply_types, handle_of}
use Rattle.messages.specs.Meaning.{types, Ours, Whole, Skipped, MandatoryPart, OptionalPart, Composed, requests, Request, HandleNumbered}
use Rattle.messages.proofs.Inside.{Parts, parts, read_by, start_of, before_of, part_starts}
use Rattle.messages.proofs.Reading.{fields_in, behind, named_holds, kind_type}
use Rattle.messages.proofs.Skipping.{barred_by, with_value, scan, scanned, finds, part_scan, room, then, passes, skips, starts_by}
use Rattle.messages.proofs.Theorems.{Tells, tells, unsaid, NoReply, ask_numbers}

-- ---- the TFT among the optional elements has one identifier
abbrev proper_as : Form → ℕ → Bool
proper_as Template identifier = eqb identifier tft_identifier
proper_as _ identifier = true

abbrev properly : Listed → Bool
properly l = proper_as l.form l.identifier

kind_properly : (kind : Kind) → every properly (optional kind) ≡ true
unfolding every
kind_properly (DedicatedRequest link) = refl
kind_properly DedicatedAccept = refl
kind_properly (DedicatedReject why) = refl
kind_properly ModifyRequest = refl
kind_properly ModifyAccept = refl
kind_properly (ModifyReject why) = refl
kind_properly (DeactivateRequest why) = refl
kind_properly DeactivateAccept = refl
kind_properly (ModificationReject why) = refl

module _ (x : ℕ) where
  template_here : (l : Listed) → properly l ≡ true → is_of l x ≡ true → framing l ≡ Template → x ≡ tft_identifier
  template_here l h i e = eqb-true x l.identifier (rw e at i) ∙ eqb-true l.identifier tft_identifier (rw e at h)

  template_at : (listed : List Listed) → every properly listed ≡ true → form_in listed x ≡ Some Template → x ≡ tft_identifier
  unfolding every form_in
  template_at [] h e = let z : ◌≡◌ {A = ℕ} 0 1 = cc in absurd (omega arith)
  template_at (l ∷ listed) h e =
      let here = both (properly l) (every properly listed) h in
      by_test (λ (form : Option Form). form ≡ Some Template → x ≡ tft_identifier) (is_of l x) _ _ (λ i e. let q : framing l ≡ Template = cc in template_here l here.0 i q)
      (λ i. template_at listed here.1) e

-- ---- the optional elements
-- a length octet and as many octets
valued : (y : ℕ) (xs : List ℕ) → y ≤ length xs → take (1 + y) (y ∷ xs) ≡ length (take y xs) ∷ take y xs
valued y xs h = take-add 1 y (y ∷ xs) ∙ rw (length-take-le y xs h)

module _ (kind : Kind) where
  -- elements one after the other are scanned without fault, and their TFT is found
  template_scan : (value : List ℕ) → form_in (optional kind) tft_identifier ≡ Some Template
      → scan (optional kind) 0 None (tft_identifier ∷ length value ∷ value) ≡ Ok (Some value)
  unfolding scan
  template_scan value t =
      let n : 1 + length value ≡ suc (length value) = omega arith in
      rw (t, take-length, n) (passes (optional kind) (Some value) (length value ∷ value))

  elements_scan : (v w : Option (List ℕ)) (es : List (List ℕ)) → OptionalPart kind v w es → scan (optional kind) 0 v (flatten es) ≡ Ok w
  unfolding scan flatten
  elements_scan v w [] p = rw p
  elements_scan v w (e ∷ es) (inl (s, p)) = then (optional kind) 0 v e v (flatten es) (skips kind e v s) ∙ elements_scan v w es p
  elements_scan v w (e ∷ es) (inr ((b, t), (value, (i, p)))) =
      then (optional kind) 0 v e (Some value) (flatten es) (rw (b, i) (template_scan value t)) ∙ elements_scan (Some value) w es p

  -- octets to pass
  skip : (k : ℕ) (v : Option (List ℕ)) (xs : List ℕ) → k ≤ length xs → scan (optional kind) k v xs ≡ scan (optional kind) 0 v (drop k xs)
  unfolding scan
  skip zero v xs h = refl
  skip (suc k) v [] h = absurd (omega arith)
  skip (suc k) v (x ∷ xs) h = skip k v xs (omega arith)

  -- an identifier and the octets that its form has after it are an element
  skipped : (form : Form) (x : ℕ) (xs : List ℕ) → form_in (optional kind) x ≡ Some form → Whole form xs → Skipped kind (x ∷ xs)
  skipped form x xs q w = record { identifier = x; rest = xs; form = form; is = refl; listed = q; whole = w }

  element : (form : Form) (x : ℕ) → form_in (optional kind) x ≡ Some form → (xs : List ℕ) (v w : Option (List ℕ)) (es : List (List ℕ)) → barred_by form v ≡ false
      → tail_of form xs ≤ length xs → OptionalPart kind (with_value form xs v) w es → OptionalPart kind v w ((x ∷ take (tail_of form xs) xs) ∷ es)
  element Half x q xs v w es b l p = inl (skipped Half x [] q refl, p)
  element Two x q [] v w es b l p = absurd (omega arith)
  element Two x q (y ∷ xs) v w es b l p = inl (skipped Two x (y ∷ []) q (y, refl), p)
  element Tlv x q [] v w es b l p = absurd (omega arith)
  element Tlv x q (y ∷ xs) v w es b l p = inl (skipped Tlv x (take (1 + y) (y ∷ xs)) q (take y xs, valued y xs (omega arith)), p)
  element TlvE x q [] v w es b l p = absurd (omega arith)
  element TlvE x q (y ∷ []) v w es b l p = absurd (omega arith)
  element TlvE x q (y ∷ z ∷ xs) v w es b l p =
      let n : ℕ = y * 256 + z in
      inl (skipped TlvE x (take (2 + n) (y ∷ z ∷ xs)) q (y, (z, (take n xs, (take-add 2 n (y ∷ z ∷ xs), length-take-le n xs (omega arith))))), p)
  element Template x q [] v w es b l p = absurd (omega arith)
  element Template x q (y ∷ xs) None w es b l p =
      let t = template_at x (optional kind) (kind_properly kind) q in
      inr ((refl, rw t at q), (take y xs, (rw (t, valued y xs (omega arith)), p)))
  element Template x q (y ∷ xs) (Some value) w es b l p = absurd (true≢false b)

  -- octets in which the scan finds no fault are elements one after the other
  record Made (v w : Option (List ℕ)) (xs : List ℕ) : Type 0 where
    elements : List (List ℕ)
    are : xs ≡ flatten elements
    part : OptionalPart kind v w elements

  scan_elements : (n : ℕ) (v w : Option (List ℕ)) (xs : List ℕ) → length xs ≤ n → scan (optional kind) 0 v xs ≡ Ok w → Made v w xs
  unfolding scan flatten
  scan_elements zero v w [] l e = record { elements = []; are = refl; part = cc }
  scan_elements zero v w (x ∷ xs) l e = absurd (omega arith)
  scan_elements (suc n) v w [] l e = record { elements = []; are = refl; part = cc }
  scan_elements (suc n) v w (x ∷ xs) l e =
      go (form_in (optional kind) x) refl e (λ form. scan_elements n (with_value form xs v) w (drop (tail_of form xs) xs))
    where
      by : (form : Form) → form_in (optional kind) x ≡ Some form → (b : Bool) → barred_by form v ≡ b
          → pick b (Err Framing) (scan (optional kind) (tail_of form xs) (with_value form xs v) xs) ≡ Ok w
          → (length (drop (tail_of form xs) xs) ≤ n → scan (optional kind) 0 (with_value form xs v) (drop (tail_of form xs) xs) ≡ Ok w
          → Made (with_value form xs v) w (drop (tail_of form xs) xs))
          → Made v w (x ∷ xs)
      by form q true b e more = let z : ◌≡◌ {A = ℕ} 0 1 = cc in absurd (omega arith)
      by form q false b e more =
          let k = tail_of form xs in
          let h = room (optional kind) k (with_value form xs v) xs w e in
          let m = more (simp length-drop (omega arith)) (sym (skip k (with_value form xs v) xs h) ∙ e) in
          record {
            elements = (x ∷ take k xs) ∷ m.elements;
            are = ap (λ (ys : List ℕ). x ∷ ys) (sym (take-append-drop k xs) ∙ ap (λ (ys : List ℕ). take k xs ++ ys) m.are);
            part = element form x q xs v w m.elements b h m.part;
          }

      go : (listed : Option Form) → form_in (optional kind) x ≡ listed
          → (ok_or listed Framing
          >>= λ form. pick (barred_by form v) (Err Framing) (scan (optional kind) (tail_of form xs) (with_value form xs v) xs)) ≡ Ok w
          → ((form : Form) → length (drop (tail_of form xs) xs) ≤ n → scan (optional kind) 0 (with_value form xs v) (drop (tail_of form xs) xs) ≡ Ok w
          → Made (with_value form xs v) w (drop (tail_of form xs) xs))
          → Made v w (x ∷ xs)
      go None q e more = let z : ◌≡◌ {A = ℕ} 0 1 = cc in absurd (omega arith)
      go (Some form) q e more = by form q (barred_by form v) refl e (more form)

-- ---- the octet after the type, by what the kind carries
abbrev CarriedBy : Mandatory → ℕ → ℕ → Type 0
CarriedBy Nothing x c = Unit {0}
CarriedBy Cause x c = x ≡ c
CarriedBy Activation x c = x % 16 ≡ c

kind_carries : (type x : ℕ) (kind : Kind) → kind_of type x ≡ Some kind → CarriedBy (row_of kind).mandatory x (carried kind)
unfolding kind_of
kind_carries type x kind e =
    (named_holds (λ k. CarriedBy (row_of k).mandatory x (carried k)) type kind (kinds_with x)
    (refl, (tt, (refl, (tt, (tt, (refl, (refl, (tt, (refl, tt))))))))) e).0

carries_kind : (x : ℕ) (kind : Kind) → CarriedBy (row_of kind).mandatory x (carried kind) → kind_of (type_of kind) x ≡ Some kind
unfolding kind_of
carries_kind x (DedicatedRequest link) c = rw c
carries_kind x DedicatedAccept c = refl
carries_kind x (DedicatedReject why) c = rw c
carries_kind x ModifyRequest c = refl
carries_kind x ModifyAccept c = refl
carries_kind x (ModifyReject why) c = rw c
carries_kind x (DeactivateRequest why) c = rw c
carries_kind x DeactivateAccept c = refl
carries_kind x (ModificationReject why) c = rw c

-- ---- the mandatory part
-- QoS with its length after four octets, and the TFT with its length after it
module _ (a t y octet q : ℕ) (zs : List ℕ) where
  abbrev activation : List ℕ
  activation = a ∷ t ∷ y ∷ octet ∷ q ∷ zs

  size_at : get_or activation (5 + q) 0 ≡ get_or zs q 0
  size_at = get_or-append-add (a ∷ t ∷ y ∷ octet ∷ q ∷ []) zs q 0

  value_at : drop (6 + q) activation ≡ drop (q + 1) zs
  value_at = let e : 6 + q ≡ 5 + (q + 1) = omega arith in rw e (drop-append-add (a ∷ t ∷ y ∷ octet ∷ q ∷ []) zs (q + 1))

-- the octets up to one, it, so many of those after it, and the rest
parted : (zs : List ℕ) (q : ℕ) → q < length zs
    → let n = get_or zs q 0 in
    (take q zs ++ (n ∷ take n (drop (q + 1) zs))) ++ drop n (drop (q + 1) zs) ≡ zs
parted zs q h =
    let n = get_or zs q 0 in
    append_assoc (take q zs) (n ∷ take n (drop (q + 1) zs)) (drop n (drop (q + 1) zs))
    ∙ rw (take-append-drop n (drop (q + 1) zs), ← (drop_next zs q (q + 1) 0 refl h)) (take-append-drop q zs)

module _ (a t y : ℕ) where
  abbrev message : List ℕ → List ℕ
  message body = a ∷ t ∷ y ∷ body

  -- the octets up to where the reader starts
  record Begins (mandatory : Mandatory) (x : ℕ) (body : List ℕ) : Type 0 where
    octets : List ℕ
    are : body ≡ octets ++ drop (start_of mandatory (message body)) (message body)
    part : MandatoryPart mandatory x (octets_at (message body) (before_of mandatory (message body))) octets

  begins : (mandatory : Mandatory) (x : ℕ) (body : List ℕ) → start_of mandatory (message body) ≤ length (message body) → CarriedBy mandatory (get_or body 0 0) x
      → Begins mandatory x body
  begins Nothing x body l c = record { octets = []; are = refl; part = (refl, refl) }
  begins Cause x [] l c = absurd (omega arith)
  begins Cause x (z ∷ body) l c = record { octets = z ∷ []; are = refl; part = (refl, rw c) }
  begins Activation x [] l c = absurd (omega arith)
  begins Activation x (octet ∷ []) l c = absurd (omega arith)
  begins Activation x (octet ∷ q ∷ zs) l c =
      let n = get_or zs q 0 in
      let size = size_at a t y octet q zs in
      let from = value_at a t y octet q zs in
      let value : List ℕ = take n (drop (q + 1) zs) in
      let h : q < length zs = omega arith in
      let room : n ≤ length (drop (q + 1) zs) = simp length-drop (omega arith) in
      record {
        octets = octet ∷ length (take q zs) ∷ take q zs ++ (length value ∷ value);
        are =
            rw (length-take-le q zs (omega arith), length-take-le n (drop (q + 1) zs) room, size, ← (drop-drop n (6 + q) (activation a t y octet q zs)), from)
            (ap (λ (ys : List ℕ). octet ∷ q ∷ ys) (sym (parted zs q h)));
        part = (octet, (take q zs, (value, ((c, rw (size, from)), refl))));
      }

  -- and the other way round, with any octets after them
  record Begun (mandatory : Mandatory) (x : ℕ) (before : Option (List ℕ)) (body rest : List ℕ) : Type 0 where
    fits : start_of mandatory (message body) ≤ length (message body)
    tft : octets_at (message body) (before_of mandatory (message body)) ≡ before
    left : drop (start_of mandatory (message body)) (message body) ≡ rest
    carries : CarriedBy mandatory (get_or body 0 0) x

  begun : (mandatory : Mandatory) (x : ℕ) (before : Option (List ℕ)) (octets rest : List ℕ) → MandatoryPart mandatory x before octets
      → Begun mandatory x before (octets ++ rest) rest
  begun Nothing x before octets rest (b, e) = rw (e, b) (record { fits = omega arith; tft = refl; left = refl; carries = tt })
  begun Cause x before octets rest (b, e) = rw (e, b) (record { fits = omega arith; tft = refl; left = refl; carries = refl })
  begun Activation x before octets rest (octet, (qos, (value, ((c, b), e)))) =
      let zs : List ℕ = qos ++ (length value ∷ (value ++ rest)) in
      let q = length qos in
      let size : get_or (activation a t y octet q zs) (5 + q) 0 ≡ length value = size_at a t y octet q zs ∙ get_or-append_seam qos (length value) (value ++ rest) 0 in
      let from : drop (6 + q) (activation a t y octet q zs) ≡ value ++ rest = value_at a t y octet q zs ∙ drop-append-add qos (length value ∷ (value ++ rest)) 1 in
      rw (e, b, append_assoc qos (length value ∷ value) rest)
      (record {
        fits = rw (size, length-append, length-append) (omega arith);
        tft = rw (size, from, take-append_seam);
        left = rw (size, ← (drop-drop (length value) (6 + q) (activation a t y octet q zs)), from) (drop-append_seam value rest);
        carries = c;
      })

-- ---- the message
pub composed_says : (message : List ℕ) (f : Fields) → Composed f message → said_of message ≡ Ok f
unfolding said_of
composed_says message f c =
    let row = (row_of f.kind).mandatory in
    let listed = optional f.kind in
    let body : List ℕ = c.mandatory ++ flatten c.elements in
    let s : List ℕ = c.first ∷ f.transaction ∷ type_of f.kind ∷ body in
    let at = start_of row s in
    let before = before_of row s in
    let b = begun c.first f.transaction (type_of f.kind) row (carried f.kind) c.before c.mandatory (flatten c.elements) c.start in
    let read = read_by s f.kind at before (omega arith) c.ours (carries_kind (get_or body 0 0) f.kind b.carries) (starts_by row s b.fits) in
    let found : scan listed 0 (octets_at s before) (drop at s) ≡ Ok f.tft
    = rw (b.tft, b.left) (elements_scan f.kind c.before f.tft c.elements c.rest) in
    rw c.is
    (ap (λ (parsed : Result Message Fault). said_by parsed s) read
    ∙ said s c.bearer refl (elements listed 0 at before (drop at s)) (finds listed s 0 at before (drop at s) refl ∙ found))
  where
    said : (s : List ℕ) → get_or s 0 0 / 16 ≡ f.bearer → get_or s 1 0 ≡ f.transaction → (es : Result (Option Part) Fault) → scanned s es ≡ Ok f.tft
        → said_by (read_elements es f.kind s) s ≡ Ok f
    said s b t (Err fault) e = let z : ◌≡◌ {A = ℕ} 0 1 = cc in absurd (omega arith)
    said s b t (Ok tft) e = let q : octets_at s tft ≡ f.tft = cc in rw (b, t, q)

-- and the other way round
headed : (a : ℕ) {t u y z : ℕ} {xs ys : List ℕ} → t ≡ u → y ≡ z → xs ≡ ys → a ∷ t ∷ y ∷ xs ≡ a ∷ u ∷ z ∷ ys
headed a p q r = rw (p, q, r)

parts_composed : (message : List ℕ) (m : Message) → Parts message m → Composed (fields_in message m) message
parts_composed [] m p = let l = p.long in absurd (omega arith)
parts_composed (a ∷ []) m p = let l = p.long in absurd (omega arith)
parts_composed (a ∷ t ∷ []) m p = let l = p.long in absurd (omega arith)
parts_composed (a ∷ t ∷ y ∷ body) m p =
    let s : List ℕ = a ∷ t ∷ y ∷ body in
    let starts = part_starts s m p in
    let b = begins a t y (row_of m.kind).mandatory (carried m.kind) body starts.fits (kind_carries y (get_or body 0 0) m.kind p.named) in
    let es = scan_elements m.kind (length (drop p.at s)) (octets_at s p.before) (octets_at s m.tft) (drop p.at s) (omega arith) (part_scan s m p) in
    record {
      first = a;
      mandatory = b.octets;
      elements = es.elements;
      before = octets_at s p.before;
      is =
          headed a (sym p.transaction) (sym (kind_type y (get_or body 0 0) m.kind p.named))
          (b.are ∙ ap (λ (n : ℕ). b.octets ++ drop n s) starts.at ∙ ap (λ (ys : List ℕ). b.octets ++ ys) es.are);
      bearer = sym p.bearer;
      ours = p.ours;
      start = subst (λ (tft : Option Part). MandatoryPart (row_of m.kind).mandatory (carried m.kind) (octets_at s tft) b.octets) starts.before b.part;
      rest = es.part;
    }

pub says_composed : (message : List ℕ) (f : Fields) → said_of message ≡ Ok f → Composed f message
says_composed message f e =
    let b = behind message f e in
    rw (← b.is) (parts_composed message b.m (parts message b.m b.read))

pub reads_exactly : (message : List ℕ) (f : Fields) → (said_of message ≡ Ok f) ↔ Composed f message
reads_exactly message f = (says_composed message f, composed_says message f)

-- ---- 16 is what is too short, and what is ours and composed as no message
pub framing_exactly : (message : List ℕ)
    → (parsed_number (read_of message) ≡ 16)
    ↔ ((length message < head_octets) ⊎ ((head_octets ≤ length message) × (Ours message × ((f : Fields) → Composed f message → ⊥))))
unfolding said_of
framing_exactly message = go (read_of message) refl (tells message)
  where
    unless_short : {A : Type 0} → A → (length message < head_octets) ⊎ ((head_octets ≤ length message) × A)
    unless_short a =
        ⊎_elim (λ l. inr (leb-true head_octets (length message) l, a)) (λ l. inl (leb-false head_octets (length message) l)) (which (leb head_octets (length message)))

    go : (parsed : Result Message Fault) → read_of message ≡ parsed → Tells message parsed
        → (parsed_number parsed ≡ 16)
        ↔ ((length message < head_octets) ⊎ ((head_octets ≤ length message) × (Ours message × ((f : Fields) → Composed f message → ⊥))))
    go (Ok m) r h =
        let f = fields_in message m in
        (λ e. absurd (omega arith), ⊎_elim (λ l. absurd (omega (arith, h.0))) (λ q. absurd (q.1.1 f (says_composed message f (rw r)))))
    go (Err Unknown) r h = (λ e. absurd (omega arith), ⊎_elim (λ l. absurd (omega (arith, h.0))) (λ q. absurd (h.1 q.1.0)))
    go (Err Framing) r h = (λ e. ⊎_elim inl (λ o. unless_short (o, λ f c. unsaid message Framing r f (composed_says message f c))) h, λ q. refl)

-- ---- The numbers of handling, by what the octets are
-- of the nine types four are requests, and the others replies
request_says : (message : List ℕ) → Request message ↔ NoReply message
unfolding is_in
request_says message = (
  λ r. ((r.0, in_holds OneOfNine requests (refl, (refl, (refl, (refl, tt)))) type r.1), λ reply. never reply (in_holds NotReply requests (refl, (refl, (refl, (refl, tt)))) type r.1)),
  λ n. (n.0.0, in_holds RequestUnless types (yes, (no, (no, (yes, (no, (no, (yes, (no, (yes, tt))))))))) type n.0.1 n.1),
)
  where
    type : ℕ
    type = get_or message 2 0

    OneOfNine : ℕ → Type 0
    OneOfNine n = is_in n types ≡ true

    NotReply : ℕ → Type 0
    NotReply n = is_in n reply_types ≡ false

    RequestUnless : ℕ → Type 0
    RequestUnless n = (is_in n reply_types ≡ true → ⊥) → is_in n requests ≡ true

    yes : {A : Type 0} {b : Bool} → A → b ≡ b
    yes a = refl

    no : {A : Type 0} → (true ≡ true → ⊥) → A
    no n = absurd (n refl)

-- 16 is framing
framing_said : (message : List ℕ) → parsed_number (read_of message) ≡ 16 → said_of message ≡ Err Framing
unfolding said_of
framing_said message = go (read_of message)
  where
    go : (parsed : Result Message Fault) → parsed_number parsed ≡ 16 → said_by parsed message ≡ Err Framing
    go (Ok m) e = absurd (omega arith)
    go (Err Unknown) e = absurd (omega arith)
    go (Err Framing) e = refl

pub handle_numbers : (t : Table) → TableInRange t → (message : List ℕ) → HandleNumbered t message (number_of (handle_of t message).outcome.reply.answer)
handle_numbers t ok message =
    let n = ask_numbers t ok message in
    let r = request_says message in
    record {
      is1 = n.is1;
      is15 = (λ e. let h = n.is15.0 e in (h.0, (h.1.0, λ q. h.1.1 (r.0 q))), λ h. n.is15.1 (h.0, (h.1.0, λ q. h.1.1 (r.1 q))));
      is16 = (λ e. let h = n.is16.0 e in (h.0, ⊎_elim inl (λ q. inr (r.1 q.0, λ f c. apart f q.1 (composed_says message f c))) h.1), λ h. n.is16.1 (h.0, ⊎_elim inl back h.1));
    }
  where
    apart : (f : Fields) → said_of message ≡ Err Framing → said_of message ≡ Ok f → ⊥
    apart f a b = let z : ◌≡◌ {A = ℕ} 0 1 = cc in omega arith

    back : Request message × ((f : Fields) → Composed f message → ⊥) → (length message < head_octets) ⊎ (NoReply message × (said_of message ≡ Err Framing))
    back q =
        let o = (request_says message).0 q.0 in
        ⊎_elim (λ l. inr (o, framing_said message ((framing_exactly message).1 (inr (leb-true head_octets (length message) l, (o.0, q.1))))))
        (λ l. inl (leb-false head_octets (length message) l)) (which (leb head_octets (length message)))
