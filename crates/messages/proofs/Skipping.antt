-- An element that a message lists, and that is not the TFT, may stand anywhere among its elements: nothing that the message says or does changes.
use mathlib.Core.Path.{◌≡◌, refl, sym, ap, ◌∙◌, subst}
use mathlib.Core.Bool.{Bool, true, false}
use mathlib.Core.List.{List, [], ◌∷◌, ◌++◌, flatten, append_assoc}
use Prim.Native.Nat.{ℕ, zero, suc, ◌+◌, ◌%◌, ◌≤◌, ◌<◌}
use native.Mathlib.Numerals.{add-one}
use native.Mathlib.Omega.{arith}
use lib.ListN.{length, take, drop, get_or, length-append, length-drop, get_or-append}
use lib.Seq.{drop-drop, take-append-le, drop-append-le}
use borrow.Author.Tests.{le-leb}
use Rattle.std.specs.Prelude.{Option, Some, None, ok_or, Result, Ok, Err}
use Rattle.messages.specs.declared.layout.Part.{Part}
use Rattle.messages.specs.declared.layout.Fault.{Fault}
use Rattle.laws.specs.Says.{pick}
use Rattle.laws.specs.Lists.{All, is_in}
use Rattle.table.specs.declared.bearer.Table.{Table}
use Rattle.messages.specs.declared.layout.Kind.{Kind}
use Rattle.messages.specs.declared.layout.Fault.TheVariants.{Unknown, Framing}
use Rattle.messages.specs.declared.layout.Message.{Message}
use Rattle.messages.specs.declared.layout.Mandatory.{Mandatory}
use Rattle.messages.specs.declared.layout.Mandatory.TheVariants.{Nothing, Cause, Activation}
use Rattle.messages.specs.declared.listed.Form.{Form}
use Rattle.messages.specs.declared.listed.Form.TheVariants.{Half, Two, Tlv, TlvE, Template}
use Rattle.messages.specs.Layout.{Listed, head_octets, discriminator, row_of, kind_of, form_in, optional}
use Rattle.messages.specs.Read.{reached, ◌>>=◌, tail_of, is_barred, with_element, elements, activation_start, start_by, octets_at, read_elements, read_of, Fields, said_by, said_of}
use Rattle.messages.specs.Handle.{reply_types, request_of, asked_by, handled_by, handle_of}
use Rattle.messages.specs.Meaning.{Whole, Skipped}
use Rattle.messages.specs.Inner.Walk.{Inside}
use Rattle.messages.proofs.Inside.{Parts, parts, read_by, start_of, before_of, Starts, start_end, part_starts}
use Rattle.messages.proofs.Reading.{Behind, behind, kind_any}

-- ---- the elements without their offsets
abbrev pub barred_by : Form → Option (List ℕ) → Bool
barred_by Half v = false
barred_by Two v = false
barred_by Tlv v = false
barred_by TlvE v = false
barred_by Template None = false
barred_by Template (Some value) = true

abbrev pub with_value : Form → List ℕ → Option (List ℕ) → Option (List ℕ)
with_value Half xs v = v
with_value Two xs v = v
with_value Tlv xs v = v
with_value TlvE xs v = v
with_value Template xs v = Some (take (get_or xs 0 0) (drop 1 xs))

-- what the octets say after the TFT so far, where k octets of the last element are still to pass
unfoldable pub scan : List Listed → ℕ → Option (List ℕ) → List ℕ → Result (Option (List ℕ)) Fault
scan listed zero v [] = Ok v
scan listed (suc k) v [] = Err Framing
scan listed zero v (x ∷ xs) =
    ok_or (form_in listed x) Framing
    >>= λ form. pick (barred_by form v) (Err Framing) (scan listed (tail_of form xs) (with_value form xs v) xs)
scan listed (suc k) v (x ∷ xs) = scan listed k v xs

-- ---- it is what the reader finds
abbrev pub scanned : List ℕ → Result (Option Part) Fault → Result (Option (List ℕ)) Fault
scanned message (Err fault) = Err fault
scanned message (Ok tft) = Ok (octets_at message tft)

same_barred : (form : Form) (message : List ℕ) (tft : Option Part) → is_barred form tft ≡ barred_by form (octets_at message tft)
same_barred Half message tft = refl
same_barred Two message tft = refl
same_barred Tlv message tft = refl
same_barred TlvE message tft = refl
same_barred Template message None = refl
same_barred Template message (Some p) = refl

same_value : (form : Form) (message : List ℕ) (at : ℕ) (xs : List ℕ) (tft : Option Part) → drop (suc at) message ≡ xs
    → octets_at message (with_element form at xs tft) ≡ with_value form xs (octets_at message tft)
same_value Half message at xs tft d = refl
same_value Two message at xs tft d = refl
same_value Tlv message at xs tft d = refl
same_value TlvE message at xs tft d = refl
same_value Template message at xs tft d =
    let n : at + 2 ≡ suc at + 1 = omega arith in
    rw (n, ← drop-drop, d)

next : (message : List ℕ) (at x : ℕ) (xs : List ℕ) → drop at message ≡ x ∷ xs → drop (suc at) message ≡ xs
next message at x xs d = rw (← add-one, ← drop-drop, d)

pub finds : (listed : List Listed) (message : List ℕ) (k at : ℕ) (tft : Option Part) (xs : List ℕ) → drop at message ≡ xs
    → scanned message (elements listed k at tft xs) ≡ scan listed k (octets_at message tft) xs
unfolding elements scan
finds listed message zero at tft [] d = refl
finds listed message (suc k) at tft [] d = refl
finds listed message zero at tft (x ∷ xs) d =
    go (form_in listed x) (λ form. finds listed message (tail_of form xs) (suc at) (with_element form at xs tft) xs (next message at x xs d))
  where
    by : (b : Bool) (es : Result (Option Part) Fault) (s : Result (Option (List ℕ)) Fault) → scanned message es ≡ s
        → scanned message (pick b (Err Framing) es) ≡ pick b (Err Framing) s
    by true es s e = refl
    by false es s e = e

    go : (listed_as : Option Form)
        → ((form : Form) → scanned message (elements listed (tail_of form xs) (suc at) (with_element form at xs tft) xs)
        ≡ scan listed (tail_of form xs) (octets_at message (with_element form at xs tft)) xs)
        → scanned message
        (ok_or listed_as Framing
        >>= λ form. pick (is_barred form tft) (Err Framing) (elements listed (tail_of form xs) (suc at) (with_element form at xs tft) xs))
        ≡ (ok_or listed_as Framing
        >>= λ form. pick (barred_by form (octets_at message tft)) (Err Framing)
        (scan listed (tail_of form xs) (with_value form xs (octets_at message tft)) xs))
    go None more = refl
    go (Some form) more =
        rw (← (same_barred form message tft), ← (same_value form message at xs tft (next message at x xs d)))
        (by (is_barred form tft) _ _ (more form))
finds listed message (suc k) at tft (x ∷ xs) d = finds listed message k (suc at) tft xs (next message at x xs d)

-- of a message that was read, from where its elements start
pub part_scan : (message : List ℕ) (m : Message) (p : Parts message m)
    → scan (optional m.kind) 0 (octets_at message p.before) (drop p.at message) ≡ Ok (octets_at message m.tft)
part_scan message m p = sym (finds (optional m.kind) message 0 p.at p.before (drop p.at message) refl) ∙ ap (scanned message) p.found

-- ---- octets after octets in which nothing is broken
-- what is still to pass is there
pub room : (listed : List Listed) (k : ℕ) (v : Option (List ℕ)) (xs : List ℕ) (w : Option (List ℕ)) → scan listed k v xs ≡ Ok w → k ≤ length xs
unfolding scan
room listed zero v xs w e = omega arith
room listed (suc k) v [] w e = let z : ◌≡◌ {A = ℕ} 0 1 = cc in absurd (omega arith)
room listed (suc k) v (x ∷ xs) w e = let h = room listed k v xs w e in omega arith

-- and so its length, and the TFT's value
same_tail : (form : Form) (xs ys : List ℕ) → tail_of form xs ≤ length xs → tail_of form (xs ++ ys) ≡ tail_of form xs
same_tail Half xs ys h = refl
same_tail Two xs ys h = refl
same_tail Tlv xs ys h = rw (get_or-append xs ys 0 0 (omega arith))
same_tail TlvE xs ys h = rw (get_or-append xs ys 0 0 (omega arith), get_or-append xs ys 0 1 (omega arith))
same_tail Template xs ys h = rw (get_or-append xs ys 0 0 (omega arith))

same_with : (form : Form) (xs ys : List ℕ) (v : Option (List ℕ)) → tail_of form xs ≤ length xs → with_value form (xs ++ ys) v ≡ with_value form xs v
same_with Half xs ys v h = refl
same_with Two xs ys v h = refl
same_with Tlv xs ys v h = refl
same_with TlvE xs ys v h = refl
same_with Template xs ys v h =
    let l : get_or xs 0 0 ≤ length (drop 1 xs) = simp length-drop (omega arith) in
    rw (get_or-append xs ys 0 0 (omega arith), drop-append-le 1 xs ys (omega arith), take-append-le (get_or xs 0 0) (drop 1 xs) ys l)

pub then : (listed : List Listed) (k : ℕ) (v : Option (List ℕ)) (xs : List ℕ) (w : Option (List ℕ)) (ys : List ℕ) → scan listed k v xs ≡ Ok w → scan listed k v (xs ++ ys) ≡ scan listed 0 w ys
unfolding scan
then listed zero v [] w ys e = let q : v ≡ w = cc in rw q
then listed (suc k) v [] w ys e = let z : ◌≡◌ {A = ℕ} 0 1 = cc in absurd (omega arith)
then listed zero v (x ∷ xs) w ys e = go (form_in listed x) e (λ form. then listed (tail_of form xs) (with_value form xs v) xs w ys)
  where
    by : (form : Form) (b : Bool) → pick b (Err Framing) (scan listed (tail_of form xs) (with_value form xs v) xs) ≡ Ok w
        → (scan listed (tail_of form xs) (with_value form xs v) xs ≡ Ok w → scan listed (tail_of form xs) (with_value form xs v) (xs ++ ys) ≡ scan listed 0 w ys)
        → pick b (Err Framing) (scan listed (tail_of form (xs ++ ys)) (with_value form (xs ++ ys) v) (xs ++ ys)) ≡ scan listed 0 w ys
    by form true e more = let z : ◌≡◌ {A = ℕ} 0 1 = cc in absurd (omega arith)
    by form false e more =
        let h = room listed (tail_of form xs) (with_value form xs v) xs w e in
        rw (same_tail form xs ys h, same_with form xs ys v h) (more e)

    go : (listed_as : Option Form)
        → (ok_or listed_as Framing >>= λ form. pick (barred_by form v) (Err Framing) (scan listed (tail_of form xs) (with_value form xs v) xs)) ≡ Ok w
        → ((form : Form) → scan listed (tail_of form xs) (with_value form xs v) xs ≡ Ok w
        → scan listed (tail_of form xs) (with_value form xs v) (xs ++ ys) ≡ scan listed 0 w ys)
        → (ok_or listed_as Framing
        >>= λ form. pick (barred_by form v) (Err Framing) (scan listed (tail_of form (xs ++ ys)) (with_value form (xs ++ ys) v) (xs ++ ys)))
        ≡ scan listed 0 w ys
    go None e more = let z : ◌≡◌ {A = ℕ} 0 1 = cc in absurd (omega arith)
    go (Some form) e more = by form (barred_by form v) e (more form)
then listed (suc k) v (x ∷ xs) w ys e = then listed k v xs w ys e

-- ---- a skipped element
pub passes : (listed : List Listed) (v : Option (List ℕ)) (xs : List ℕ) → scan listed (length xs) v xs ≡ Ok v
unfolding scan
passes listed v [] = refl
passes listed v (x ∷ xs) = passes listed v xs

-- it is not is_barred, it is whole, and it is no TFT
record Passed (form : Form) (xs : List ℕ) (v : Option (List ℕ)) : Type 0 where
  free : barred_by form v ≡ false
  through : tail_of form xs ≡ length xs
  kept : with_value form xs v ≡ v

passed : (form : Form) (xs : List ℕ) (v : Option (List ℕ)) → Whole form xs → Passed form xs v
passed Half xs v w = record { free = refl; through = rw w; kept = refl }
passed Two xs v w = record { free = refl; through = rw w.1; kept = refl }
passed Tlv xs v w = record { free = refl; through = rw w.1 (omega arith); kept = refl }
passed TlvE xs v w = record { free = refl; through = rw w.1.1.1.0 (omega (arith, w.1.1.1.1)); kept = refl }
passed Template xs v w = absurd w

pub skips : (kind : Kind) (e : List ℕ) (v : Option (List ℕ)) → Skipped kind e → scan (optional kind) 0 v e ≡ Ok v
unfolding scan
skips kind e v s =
    let p = passed s.form s.rest v s.whole in
    rw (s.is, s.listed, p.free, p.through, p.kept) (passes (optional kind) v s.rest)

-- ---- octets after a message that reads
-- its TFT is the same ..
same_octets : (tft : Option Part) (xs ys : List ℕ) → Inside tft xs → octets_at (xs ++ ys) tft ≡ octets_at xs tft
same_octets None xs ys h = refl
same_octets (Some p) xs ys h =
    let l : p.octets ≤ length (drop p.from xs) = simp length-drop (omega arith) in
    rw (drop-append-le p.from xs ys (omega arith), take-append-le p.octets (drop p.from xs) ys l)

-- .. and its mandatory part
pub starts_by : (mandatory : Mandatory) (xs : List ℕ) → start_of mandatory xs ≤ length xs → start_by mandatory xs ≡ Ok (reached (start_of mandatory xs) (before_of mandatory xs))
unfolding activation_start
starts_by Nothing xs l = refl
starts_by Cause xs l = rw (le-leb (start_of Cause xs) (length xs) l)
starts_by Activation xs l = rw (le-leb (start_of Activation xs) (length xs) l)

module _ (xs ys : List ℕ) where
  same_at : (i : ℕ) → i < length xs → get_or (xs ++ ys) i 0 ≡ get_or xs i 0
  same_at i l = get_or-append xs ys 0 i l

  start_same : (mandatory : Mandatory) → start_of mandatory xs ≤ length xs
      → (start_of mandatory (xs ++ ys) ≡ start_of mandatory xs) × (before_of mandatory (xs ++ ys) ≡ before_of mandatory xs)
  start_same Nothing l = (refl, refl)
  start_same Cause l = (refl, refl)
  start_same Activation l =
      let qos = same_at 4 (omega arith) in
      let octets = same_at (5 + get_or xs 4 0) (omega arith) in
      (rw (qos, octets), rw (qos, octets))

  same_start : (mandatory : Mandatory) (at : ℕ) (before : Option Part) → Starts mandatory xs at before → start_by mandatory (xs ++ ys) ≡ Ok (reached at before)
  same_start mandatory at before s =
      let same = start_same mandatory s.fits in
      let l : start_of mandatory (xs ++ ys) ≤ length (xs ++ ys) = rw (same.0, length-append) (omega (arith, s.fits)) in
      starts_by mandatory (xs ++ ys) l ∙ rw (same.0, same.1, s.at, s.before)

  -- the octet after the type counts where the mandatory part has it
  same_kind : (kind : Kind) → head_octets ≤ length xs → start_of (row_of kind).mandatory xs ≤ length xs → kind_of (get_or xs 2 0) (get_or xs 3 0) ≡ Some kind
      → kind_of (get_or (xs ++ ys) 2 0) (get_or (xs ++ ys) 3 0) ≡ Some kind
  same_kind kind l fits e = rw (same_at 2 (omega arith)) (go (row_of kind).mandatory refl fits)
    where
      go : (mandatory : Mandatory) → (row_of kind).mandatory ≡ mandatory → start_of mandatory xs ≤ length xs → kind_of (get_or xs 2 0) (get_or (xs ++ ys) 3 0) ≡ Some kind
      go Nothing q fits = kind_any (get_or xs 2 0) (get_or xs 3 0) (get_or (xs ++ ys) 3 0) kind e q
      go Cause q fits = rw (same_at 3 (omega arith)) e
      go Activation q fits = rw (same_at 3 (omega arith)) e

-- what is said, by the elements
abbrev said_from : Message → Result (Option (List ℕ)) Fault → Result Fields Fault
said_from m (Err fault) = Err fault
said_from m (Ok v) = Ok (record { kind = m.kind; bearer = m.bearer; transaction = m.transaction; tft = v })

module _ (xs : List ℕ) (m : Message) (r : read_of xs ≡ Ok m) (ys : List ℕ) where
  abbrev listed : List Listed
  listed = optional m.kind

  p : Parts xs m
  p = parts xs m r

  begins : Starts (row_of m.kind).mandatory xs p.at p.before
  begins = part_starts xs m p

  -- the elements of both, from where they start
  both_scan : scanned (xs ++ ys) (elements listed 0 p.at p.before (drop p.at (xs ++ ys))) ≡ scan listed 0 (octets_at xs m.tft) ys
  both_scan =
      let s = start_end (row_of m.kind).mandatory xs p.at p.before begins in
      let d = drop-append-le p.at xs ys s.0 in
      finds listed (xs ++ ys) 0 p.at p.before (drop p.at (xs ++ ys)) refl
      ∙ rw (d, same_octets p.before xs ys (omega arith)) (then listed 0 (octets_at xs p.before) (drop p.at xs) (octets_at xs m.tft) ys (part_scan xs m p))

  said_elements : (es : Result (Option Part) Fault) → said_by (read_elements es m.kind (xs ++ ys)) (xs ++ ys) ≡ said_from m (scanned (xs ++ ys) es)
  said_elements (Err fault) = refl
  said_elements (Ok tft) = let l = p.long in rw (same_at xs ys 0 (omega arith), same_at xs ys 1 (omega arith), p.bearer, p.transaction)

  -- what a message with more octets behind it says
  continued : said_of (xs ++ ys) ≡ said_from m (scan listed 0 (octets_at xs m.tft) ys)
  unfolding said_of
  continued =
      let l = p.long in
      let long : head_octets ≤ length (xs ++ ys) = simp length-append (omega arith) in
      let ours : get_or (xs ++ ys) 0 0 % 16 ≡ discriminator = rw (same_at xs ys 0 (omega arith)) p.ours in
      let named = same_kind xs ys m.kind l begins.fits p.named in
      let start = same_start xs ys (row_of m.kind).mandatory p.at p.before begins in
      ap (λ (parsed : Result Message Fault). said_by parsed (xs ++ ys)) (read_by (xs ++ ys) m.kind p.at p.before long ours named start)
      ∙ said_elements (elements listed 0 p.at p.before (drop p.at (xs ++ ys)))
      ∙ ap (said_from m) both_scan

-- ---- the theorems
module _ (front e tail : List ℕ) (f : Fields) (reads : said_of front ≡ Ok f) (s : Skipped f.kind e) where
  b : Behind front f
  b = behind front f reads

  pub skipped_changes_nothing : said_of (front ++ (e ++ tail)) ≡ said_of (front ++ tail)
  skipped_changes_nothing =
      let m = b.m in
      let v = octets_at front m.tft in
      let listed = optional m.kind in
      let k : Skipped m.kind e = subst (λ (f : Fields). Skipped f.kind e) (sym b.is) s in
      continued front m b.read (e ++ tail)
      ∙ ap (said_from m) (then listed 0 v e v tail (skips m.kind e v k))
      ∙ sym (continued front m b.read tail)

  -- the type octet stands in the front
  asked : (xs : List ℕ) → asked_by (front ++ xs) ≡ pick (is_in (get_or front 2 0) reply_types) (Err Unknown) (said_of (front ++ xs))
  unfolding said_of request_of
  asked xs =
      let l = (parts front b.m b.read).long in
      rw (same_at front xs 2 (omega arith)) (by (is_in (get_or front 2 0) reply_types))
    where
      by : (reply : Bool) → said_by (pick reply (Err Unknown) (read_of (front ++ xs))) (front ++ xs)
          ≡ pick reply (Err Unknown) (said_by (read_of (front ++ xs)) (front ++ xs))
      by true = refl
      by false = refl

  pub skipped_handled : (t : Table) → handle_of t (front ++ (e ++ tail)) ≡ handle_of t (front ++ tail)
  unfolding handle_of
  skipped_handled t =
      ap (λ (said : Result Fields Fault). handled_by said t)
      (asked (e ++ tail) ∙ ap (pick (is_in (get_or front 2 0) reply_types) (Err Unknown)) skipped_changes_nothing ∙ sym (asked tail))

-- several of them, one after the other; so two messages that differ in skipped elements alone say the same
module _ (front tail : List ℕ) (f : Fields) (reads : said_of front ≡ Ok f) where
  pub skipped_all : (es : List (List ℕ)) → All (Skipped f.kind) es → said_of (front ++ (flatten es ++ tail)) ≡ said_of (front ++ tail)
  unfolding flatten
  skipped_all [] s = refl
  skipped_all (e ∷ es) s =
      ap (λ (xs : List ℕ). said_of (front ++ xs)) (append_assoc e (flatten es) tail) ∙ skipped_changes_nothing front e (flatten es ++ tail) f reads s.0 ∙ skipped_all es s.1

  pub skipped_alike : (es fs : List (List ℕ)) → All (Skipped f.kind) es → All (Skipped f.kind) fs
      → said_of (front ++ (flatten es ++ tail)) ≡ said_of (front ++ (flatten fs ++ tail))
  skipped_alike es fs s u = skipped_all es s ∙ sym (skipped_all fs u)
