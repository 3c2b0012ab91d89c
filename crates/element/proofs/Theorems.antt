-- The theorems of the layer.
use mathlib.Core.Path.{◌≡◌, refl, ◌∙◌, ap, subst}
use mathlib.Core.Bool.{Bool, true, false, false≢true}
use mathlib.Core.List.{List, [], ◌∷◌}
use mathlib.Core.Logic.{◌⊎◌, inl, inr, ◌↔◌}
use Prim.Native.Nat.{ℕ, ◌≤◌, ◌<◌}
use native.Mathlib.Omega.{arith}
use lib.Dec.{eqb, leb}
use lib.ListN.{length, take, drop}
use lib.Seq.{take_at}
use borrow.Author.Tests.{leb-true, leb-false, le-leb, lt-leb}
use Rattle.laws.specs.Says.{Says, pick}
use Rattle.laws.specs.Lists.{All, every}
use Rattle.laws.proofs.Says.{says_ne, says_no}
use Rattle.filter.specs.declared.component.Filter.{Filter}
use Rattle.element.specs.declared.answer.SetOperation.TheVariants.{Create}
use Rattle.element.specs.declared.answer.Refusal.{Refusal}
use Rattle.element.specs.declared.answer.Answer.{Answer}
use Rattle.element.specs.declared.answer.Answer.TheVariants.{Filters, Identifiers, Bare, Refused}
use Rattle.element.specs.declared.answer.Element.{Element}
use Rattle.element.specs.declared.answer.Cause.{Cause}
use Rattle.element.specs.declared.answer.Cause.TheVariants.{Operation, Semantics, Coding}
use Rattle.element.specs.declared.write.Unwritten.{Unwritten}
use Rattle.element.specs.declared.write.Unwritten.TheVariants.{NotGiven, TooLong, NoRoom}
use Rattle.std.proofs.Common.{Result, Ok, Err}
use Rattle.element.specs.Numbers.{verdict_on, number_of, placed_number, written_number}
use Rattle.element.specs.Head.{longest, operation_of, create, extension_in, count_in}
use Rattle.element.specs.Framing.{Raw, Split, cut, split, split_of, rest_fits, not_framed, filters, framed_split, framed_set, framed_by, framed_of}
use Rattle.element.specs.Places.{framed_place, place_of}
use Rattle.element.specs.Read.{refused, entry_fittable, Entries, badly, coded, entries_of, twice, filter_set, judged_entries, judged_frame, read_value, unplaced, at_place, read_element}
use Rattle.element.specs.Write.{octets_of, given_by, given, written_by, write_of}
use Rattle.element.specs.Order.{InOrder}
use Rattle.element.specs.Meaning.{Octet, ElementInRange, ReadsAs, IsCause, TooLongOrUnframed, SomeFilterBadlyCoded, SomeFilterUnfit, SomethingTwice, PlaceSays, TakenApart}
use Rattle.element.proofs.RoundTrip.{round, octets_octets}
use Rattle.element.proofs.Ordered.{in_order_lem}
use Rattle.element.proofs.Given.{reads_given}
use Rattle.element.proofs.Causes.{some_number, cause_says}
use Rattle.element.proofs.Placing.{placed_same, read_number_lem, verdict_place}
use Rattle.element.proofs.Earliest.{badly_earliest, unfit_earliest, twice_earliest, place_within}
use Rattle.element.proofs.Unframed.{unframed_within_lem, breaks_says}

-- ---- the writer takes exactly what some list of octets, of whatever length, reads as
operation : (a : Answer) (row : List Filter) (marks : List Bool) → given_by a row marks ≡ true → number_of a ≡ 0
operation (Filters op) row marks g = refl
operation Identifiers row marks g = refl
operation (Bare op) row marks g = refl
operation (Refused refusal) row marks g = absurd (false≢true g)

pub given_says : (e : Element) → ElementInRange e → Says (given e) (ReadsAs e)
unfolding given
given_says e r =
    record {
      to = λ g. record { octets = octets_of e; each = octets_octets e r g; reads = round e r g; operation = operation e.answer e.filters e.marks g };
      from = λ s.
          let h = reads_given s.octets s.each (ap (λ (x : Element). number_of x.answer) s.reads ∙ s.operation) in
          rw s.reads at h;
    }

-- ---- what the writer does, and where
-- a number other than 0 is of one refusal
same_refusal : (w : Result ℕ Unwritten) (u : Unwritten) → written_number w ≡ written_number (Err u) → w ≡ Err u
same_refusal (Ok n) NotGiven q = absurd (omega arith)
same_refusal (Ok n) TooLong q = absurd (omega arith)
same_refusal (Ok n) NoRoom q = absurd (omega arith)
same_refusal (Err NotGiven) NotGiven q = refl
same_refusal (Err NotGiven) TooLong q = absurd (omega arith)
same_refusal (Err NotGiven) NoRoom q = absurd (omega arith)
same_refusal (Err TooLong) NotGiven q = absurd (omega arith)
same_refusal (Err TooLong) TooLong q = refl
same_refusal (Err TooLong) NoRoom q = absurd (omega arith)
same_refusal (Err NoRoom) NotGiven q = absurd (omega arith)
same_refusal (Err NoRoom) TooLong q = absurd (omega arith)
same_refusal (Err NoRoom) NoRoom q = refl

module _ (e : Element) (r : ElementInRange e) (buffer : List ℕ) where
  abbrev size : ℕ
  size = length (octets_of e)

  -- n octets were put into the buffer, and they are the element's
  record Put (n : ℕ) (after : List ℕ) : Type 0 where
    taken : given e ≡ true
    short : size ≤ longest
    octets : take n after ≡ octets_of e

  -- where the writer refuses so
  abbrev Refuses : Unwritten → Type 0
  Refuses NotGiven = ReadsAs e → ⊥
  Refuses TooLong = ReadsAs e × (longest < size)
  Refuses NoRoom = (ReadsAs e × (size ≤ longest)) × (length buffer < size)

  abbrev Why : Result ℕ Unwritten → List ℕ → Type 0
  Why (Ok n) after = Put n after
  Why (Err u) after = Refuses u

  why_by : (b c d : Bool) → given e ≡ b → leb size longest ≡ c → leb size (length buffer) ≡ d
      → Why (written_by b c d e buffer).written (written_by b c d e buffer).buffer
  why_by false c d g s f = says_ne (given_says e r) g
  why_by true false d g s f = ((given_says e r).to g, leb-false size longest s)
  why_by true true false g s f = (((given_says e r).to g, leb-true size longest s), leb-false size (length buffer) f)
  why_by true true true g s f =
      record { taken = g; short = leb-true size longest s; octets = take_at (octets_of e) (drop size buffer) size refl }

  why : (w : Result ℕ Unwritten) → (write_of e buffer).written ≡ w → Why w (write_of e buffer).buffer
  unfolding write_of
  why w q =
      subst (λ (w : Result ℕ Unwritten). Why w (write_of e buffer).buffer) q
      (why_by (given e) (leb size longest) (leb size (length buffer)) refl refl refl)

  refuses : (u : Unwritten) → Refuses u → (write_of e buffer).written ≡ Err u
  unfolding write_of
  refuses NotGiven h = rw (says_no (given_says e r) h)
  refuses TooLong h = rw ((given_says e r).from h.0, lt-leb size longest h.1)
  refuses NoRoom h = rw ((given_says e r).from h.0.0, le-leb size longest h.0.1, lt-leb size (length buffer) h.1)

  refusal_says : (u : Unwritten) → (written_number (write_of e buffer).written ≡ written_number (Err u)) ↔ Refuses u
  refusal_says u = (λ q. why (Err u) (same_refusal (write_of e buffer).written u q), λ h. ap written_number (refuses u h))

  -- ---- "Writer: 10, 11, 9": each number is given exactly where its test refuses, and those before it do not
  pub writer_10 : (written_number (write_of e buffer).written ≡ 10) ↔ (ReadsAs e → ⊥)
  writer_10 = refusal_says NotGiven

  pub writer_11 : (written_number (write_of e buffer).written ≡ 11) ↔ ReadsAs e × (longest < length (octets_of e))
  writer_11 = refusal_says TooLong

  pub writer_9 : (written_number (write_of e buffer).written ≡ 9) ↔ (ReadsAs e × (length (octets_of e) ≤ longest)) × (length buffer < length (octets_of e))
  writer_9 = refusal_says NoRoom

  -- ---- "an operation written and read again is the same", for every operation that the writer accepts
  pub written_reads : (n : ℕ) → (write_of e buffer).written ≡ Ok n → read_element (take n (write_of e buffer).buffer) ≡ e
  unfolding read_element unplaced given
  written_reads n w =
      let put = why (Ok n) w in
      rw (put.octets, le-leb size longest put.short, round e r put.taken)
      (placed_same (place_of (octets_of e)) e (operation e.answer e.filters e.marks put.taken))

  -- ---- "The writer puts filters in rising identifier and components in rising type."
  pub writer_order : (n : ℕ) → (write_of e buffer).written ≡ Ok n → InOrder (framed_of (take n (write_of e buffer).buffer))
  writer_order n w =
      let put = why (Ok n) w in
      rw put.octets (in_order_lem e r put.taken)

-- ---- the reader gives each of its numbers exactly where a step with that number refuses the value, and those before it do not
pub reader_42 : (xs : List ℕ) → (number_of (read_element xs).answer ≡ 42) ↔ TooLongOrUnframed xs
reader_42 xs = rw (read_number_lem xs) (cause_says xs Operation tt)

pub reader_44 : (xs : List ℕ) → All Octet xs → (number_of (read_element xs).answer ≡ 44) ↔ SomeFilterUnfit xs
reader_44 xs octets = rw (read_number_lem xs) (cause_says xs Semantics octets)

pub reader_45 : (xs : List ℕ) → All Octet xs → (number_of (read_element xs).answer ≡ 45) ↔ SomeFilterBadlyCoded xs ⊎ SomethingTwice xs
reader_45 xs octets = rw (read_number_lem xs) (cause_says xs Coding octets)

-- ---- a value whose operation is create reads as a create or as a cause
abbrev CreateOrCause : Answer → Type 0
CreateOrCause a = (a ≡ Filters Create) ⊎ IsCause a

a_cause : (cause : Cause) → CreateOrCause (refused cause).answer
a_cause cause = inr (record { refusal = record { cause = cause; place = 0 }; is = refl })

entries_create : (es : Entries) → CreateOrCause (judged_entries Create es).answer
entries_create badly = a_cause Coding
entries_create (coded es) = go (every entry_fittable es) (twice es)
  where
    go : (b c : Bool) → CreateOrCause (pick b (pick c (refused Coding) (filter_set Create es)) (refused Semantics)).answer
    go true true = a_cause Coding
    go true false = inl refl
    go false c = a_cause Semantics

set_create : (e n : ℕ) (xs : List ℕ) → CreateOrCause (judged_frame (framed_set Create e n xs)).answer
set_create e n xs = go (eqb n 0) (split_of n xs)
  where
    rest : (b : Bool) (rs : List Raw) → CreateOrCause (judged_frame (pick b (filters Create rs) not_framed)).answer
    rest true rs = entries_create (entries_of rs)
    rest false rs = a_cause Operation

    go : (b : Bool) (q : Split) → CreateOrCause (judged_frame (pick b not_framed (framed_split Create e q))).answer
    go true q = a_cause Operation
    go false cut = a_cause Operation
    go false (split rs r) = rest (rest_fits e r) rs

value_create : (xs : List ℕ) → operation_of xs ≡ create → CreateOrCause (read_value xs).answer
unfolding read_value framed_of framed_by
value_create [] h = absurd (omega arith)
value_create (x ∷ xs) h = rw h (set_create (extension_in x) (count_in x) xs)

placed_create : (place : ℕ) (a : Answer) → CreateOrCause a → CreateOrCause (at_place place a)
placed_create place a (inl q) = inl (rw q refl)
placed_create place a (inr c) = inr (record { refusal = record { cause = c.refusal.cause; place = place }; is = rw c.is refl })

pub create_reads : (xs : List ℕ) → operation_of xs ≡ create → ((read_element xs).answer ≡ Filters Create) ⊎ IsCause (read_element xs).answer
unfolding read_element unplaced
create_reads xs h = placed_create (place_of xs) (unplaced xs).answer (go (leb (length xs) longest))
  where
    go : (b : Bool) → CreateOrCause (pick b (read_value xs) (refused Operation)).answer
    go true = value_create xs h
    go false = a_cause Operation

-- ---- Where a refused value broke
module _ (xs : List ℕ) where
  place_octet : place_of xs ≤ longest
  unfolding place_of
  place_octet = go (leb (length xs) longest) refl
    where
      go : (b : Bool) → leb (length xs) longest ≡ b → pick b (framed_place (framed_of xs) xs) 0 ≤ longest
      go true e = let l = leb-true (length xs) longest e in let p = rw e at (place_within xs (unframed_within_lem xs)) in omega arith
      go false e = omega arith

  pub place_says : All Octet xs → PlaceSays xs (place_of xs)
  place_says octets =
      record {
        within = place_within xs (unframed_within_lem xs);
        octet = place_octet;
        breaks = breaks_says xs;
        badly = badly_earliest xs;
        unfit = unfit_earliest xs octets;
        repeated = twice_earliest xs;
      }

  module _ (refusal : Refusal) (is : (read_element xs).answer ≡ Refused refusal) where
    its_place : refusal.place ≡ place_of xs
    its_place = verdict_place xs refusal (ap verdict_on is)

    pub refusal_placed : All Octet xs → PlaceSays xs refusal.place
    refusal_placed octets = rw its_place (place_says octets)

  -- the one number of the C side is the cause and the place
  pub refusal_apart : TakenApart (placed_number (read_element xs).answer) (read_element xs).answer
  refusal_apart = go (read_element xs).answer (λ refusal is. rw (its_place refusal is) place_octet)
    where
      go : (a : Answer) → ((refusal : Refusal) → a ≡ Refused refusal → refusal.place ≤ longest) → TakenApart (placed_number a) a
      go (Filters operation) h = record { reads = λ q. refl; cause = refl; place = λ refusal q. absurd (let z : ◌≡◌ {A = ℕ} 0 1 = cc in omega arith) }
      go Identifiers h = record { reads = λ q. refl; cause = refl; place = λ refusal q. absurd (let z : ◌≡◌ {A = ℕ} 0 1 = cc in omega arith) }
      go (Bare kind) h = record { reads = λ q. refl; cause = refl; place = λ refusal q. absurd (let z : ◌≡◌ {A = ℕ} 0 1 = cc in omega arith) }
      go (Refused r) h =
          let small = h r refl in
          record { reads = λ q. some_number r.cause q; cause = omega arith; place = λ refusal q. let same : r ≡ refusal = cc in rw (← same) (omega arith) }
