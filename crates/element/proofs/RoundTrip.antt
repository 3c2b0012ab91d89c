-- What is written is read back: for an element that can be written, the reader gives that element from its octets.
-- Assumes nothing.
use mathlib.Core.Path.{◌≡◌, refl, sym, ap, ◌∙◌}
use mathlib.Core.Bool.{Bool, true, false, not, ◌&&◌, false≢true}
use mathlib.Core.List.{List, [], ◌∷◌, ◌++◌, map}
use mathlib.Core.Logic.{◌⊎◌, inl, inr, ⊎_elim}
use Prim.Native.Nat.{ℕ, suc, ◌+◌, ◌*◌, ◌/◌, ◌%◌, ◌≤◌, ◌<◌}
use native.Mathlib.Omega.{arith}
use lib.Dec.{leb}
use lib.ListN.{length, replicate, length-append}
use lib.Seq.{take-append_seam, drop-append_seam, take-length, drop-length, append_snoc}
use borrow.Author.Tests.{le-leb, leb-true, ne_eqb, not-true}
use Rattle.std.proofs.Common.{Some}
use Rattle.laws.specs.Lists.{All, Each, every, is_in, repeats}
use Rattle.laws.proofs.Lists.{all_append, all_alike, snoc_long, snoc_set}
use Rattle.laws.proofs.Tests.{both, either}
use Rattle.filter.specs.declared.component.Filter.{Filter}
use Rattle.filter.specs.Coding.{held, well_coded, empty_place}
use Rattle.filter.specs.Fittable.{fittable, place_fine}
use Rattle.filter.specs.Ranges.{FilterInRange}
use Rattle.filter.proofs.Empty.{empty_says}
use Rattle.filter.specs.Sizes.{place_count}
use Rattle.element.specs.declared.answer.SetOperation.{SetOperation}
use Rattle.element.specs.declared.answer.SetOperation.TheVariants.{Create, Add, Replace}
use Rattle.element.specs.declared.answer.BareOperation.{BareOperation}
use Rattle.element.specs.declared.answer.BareOperation.TheVariants.{DeleteTft, NoOperation}
use Rattle.element.specs.declared.answer.Answer.{Answer}
use Rattle.element.specs.declared.answer.Answer.TheVariants.{Filters, Identifiers, Bare, Refused}
use Rattle.element.specs.declared.answer.Element.{Element}
use Rattle.filter.specs.Build.{empty_filter}
use Rattle.element.specs.Read.{no_filters, no_marks, without_sets, Entry, precedence_of, entry_fittable, coded, entries_of, twice, in_places, marked, read_value}
use Rattle.element.specs.Contents.{coded_of}
use Rattle.element.specs.Framing.{Raw, identifier_of, direction_of, split, split_of, rest_fits, framed_set, framed_by, framed_of, filters, identifiers}
use Rattle.element.specs.Write.{contents_octets, entry_octets, entries_from, entries_octets, marks_from, set_number, octets_by, octets_of, one_to_fifteen, row_given, marks_given, given_by, given}
use Rattle.element.specs.Meaning.{Octet, ElementInRange}
use Rattle.element.proofs.RoundContents.{WellCoded, well_coded_lem, contents_round, contents_many}

-- ---- one filter of a value
record Good (e : Entry) : Type 0 where
  in_range : FilterInRange e.filter
  well : WellCoded e.filter
  fits : entry_fittable e ≡ true
  below : e.identifier < place_count

abbrev pub raw_of : Entry → Raw
raw_of e =
    record {
      first = e.filter.direction * 16 + e.identifier;
      precedence = e.filter.precedence;
      contents = contents_octets e.filter;
    }

split_round : (es : List Entry) → split_of (length es) (entries_octets es) ≡ split (map raw_of es) []
unfolding split_of entries_octets entry_octets
split_round [] = refl
split_round (e ∷ es) =
    let xs = contents_octets e.filter in
    let l : length xs ≤ length (xs ++ entries_octets es) = simp length-append (omega arith) in
    rw (
      le-leb (length xs) (length (xs ++ entries_octets es)) l,
      take-append_seam xs (entries_octets es),
      drop-append_seam xs (entries_octets es),
      split_round es,
    )

coded_round : (e : Entry) → Good e → coded_of (raw_of e) ≡ Some e.filter
unfolding coded_of
coded_round e g =
    let low = g.well.direction in
    let d : direction_of (raw_of e) ≡ e.filter.direction = omega (arith, g.below) in
    rw d (contents_round e.filter g.in_range g.well)

entries_round : (es : List Entry) → All Good es → entries_of (map raw_of es) ≡ coded es
unfolding entries_of
entries_round [] g = refl
entries_round (e ∷ es) g =
    let i : identifier_of (raw_of e) ≡ e.identifier = omega (arith, g.0.below) in
    rw (i, coded_round e g.0, entries_round es g.1)

-- ---- a place that holds no filter
empty_place_lem : (f : Filter) → empty_place f ≡ true → f ≡ empty_filter
empty_place_lem f = (empty_says f).to

-- ---- a row's filters, its places counted from i
record Row (i : ℕ) (fs : List Filter) (es : List Entry) : Type 0 where
  good : All Good es
  above : (x : ℕ) → x < i → is_in x (map (λ e. e.identifier) es) ≡ false
  once : repeats (map (λ e. e.identifier) es) ≡ false
  back : (front : List Filter) → length front ≡ i → in_places es (front ++ replicate (length fs) empty_filter) ≡ front ++ fs

row_none : (i : ℕ) → Row i [] []
unfolding is_in repeats in_places
row_none i = record { good = tt; above = λ x h. refl; once = refl; back = λ front e. refl }

row_held : (i : ℕ) (f : Filter) (fs : List Filter) (es : List Entry) → Good (record { identifier = i; filter = f }) → Row (suc i) fs es
    → Row i (f ∷ fs) (record { identifier = i; filter = f } ∷ es)
unfolding is_in repeats in_places
row_held i f fs es g r =
    record {
      good = (g, r.good);
      above = λ x h. rw (ne_eqb x i (λ e. omega arith), r.above x (omega arith));
      once = rw (r.above i (omega arith), r.once);
      back = λ front e. ap (in_places es) (snoc_set front empty_filter _ f i e) ∙ r.back (front ++ (f ∷ [])) (snoc_long front f i e) ∙ append_snoc front f fs;
    }

row_empty : (i : ℕ) (f : Filter) (fs : List Filter) (es : List Entry) → f ≡ empty_filter → Row (suc i) fs es → Row i (f ∷ fs) es
row_empty i f fs es o r =
    record {
      good = r.good;
      above = λ x h. r.above x (omega arith);
      once = r.once;
      back = λ front e.
          rw o
          (ap (in_places es) (sym (append_snoc front empty_filter _))
          ∙ r.back (front ++ (empty_filter ∷ [])) (snoc_long front empty_filter i e)
          ∙ append_snoc front empty_filter fs);
    }

-- a place is empty, or holds a filter that can be written
place_cases : (f : Filter) → place_fine f ≡ true
    → ((held f ≡ true) × WellCoded f × (fittable f ≡ true)) ⊎ ((held f ≡ false) × (f ≡ empty_filter))
unfolding empty_place
place_cases f e =
    ⊎_elim (λ o. inr (not-true (held f) (both _ _ (both _ _ o).0).0, empty_place_lem f o))
    (λ g. let w = well_coded_lem f (both (well_coded f) (fittable f) g).0 in inl (w.held, w, (both (well_coded f) (fittable f) g).1))
    (either (empty_place f) (well_coded f && fittable f) e)

row_of : (i : ℕ) (fs : List Filter) → i + length fs ≤ place_count → All FilterInRange fs → every place_fine fs ≡ true → Row i fs (entries_from i fs)
unfolding entries_from every
row_of i [] l r g = row_none i
row_of i (f ∷ fs) l r g =
    let here = both (place_fine f) (every place_fine fs) g in
    let more : Row (suc i) fs (entries_from (suc i) fs) = row_of (suc i) fs (omega arith) r.1 here.1 in
    ⊎_elim
    (λ h. rw h.0 (row_held i f fs _ (record { in_range = r.0; well = h.1; fits = h.2; below = omega arith }) more))
    (λ h. rw h.0 (row_empty i f fs _ h.1 more)) (place_cases f here.0)

row_back : (row : List Filter) (es : List Entry) → length row ≡ place_count → Row 0 row es → in_places es no_filters ≡ row
unfolding no_filters
row_back row es l r = ap (λ (n : ℕ). in_places es (replicate n empty_filter)) (sym l) ∙ r.back [] refl

-- ---- the marks, counted from i
marks_from_lem : (i : ℕ) (ms front : List Bool) → i + length ms ≤ place_count → length front ≡ i
    → marked (marks_from i ms) (front ++ replicate (length ms) false) ≡ front ++ ms
unfolding marked marks_from
marks_from_lem i [] front l e = refl
marks_from_lem i (true ∷ ms) front l e =
    let x : i % 16 ≡ i = omega arith in
    ap (marked (marks_from (suc i) ms)) (rw x (snoc_set front false (replicate (length ms) false) true i e))
    ∙ marks_from_lem (suc i) ms (front ++ (true ∷ [])) (omega arith) (snoc_long front true i e)
    ∙ append_snoc front true ms
marks_from_lem i (false ∷ ms) front l e =
    ap (marked (marks_from (suc i) ms)) (sym (append_snoc front false (replicate (length ms) false)))
    ∙ marks_from_lem (suc i) ms (front ++ (false ∷ [])) (omega arith) (snoc_long front false i e)
    ∙ append_snoc front false ms

marks_back : (marks : List Bool) → length marks ≡ place_count → marked (marks_from 0 marks) no_marks ≡ marks
unfolding no_marks
marks_back marks l = ap (λ (n : ℕ). marked (marks_from 0 marks) (replicate n false)) (sym l) ∙ marks_from_lem 0 marks [] (omega arith) refl

-- ---- places all alike
empty_row : (row : List Filter) → length row ≡ place_count → every empty_place row ≡ true → row ≡ no_filters
unfolding no_filters
empty_row row l e = all_alike empty_place empty_filter empty_place_lem place_count row l e

empty_marks : (marks : List Bool) → length marks ≡ place_count → every not marks ≡ true → marks ≡ no_marks
unfolding no_marks
empty_marks marks l e = all_alike not false not-true place_count marks l e

-- ---- the first octet
first_octet_lem : (k n : ℕ) (xs : List ℕ) → n < 16 → framed_of ((k * 32 + n) ∷ xs) ≡ framed_by k 0 n xs
unfolding framed_of
first_octet_lem k n xs h =
    let operation : (k * 32 + n) / 32 ≡ k = omega arith in
    let e : (k * 32 + n) / 16 % 2 ≡ 0 = omega arith in
    let count : (k * 32 + n) % 16 ≡ n = omega arith in
    rw (operation, e, count)

set_framed : (operation : SetOperation) (n : ℕ) (xs : List ℕ) → framed_by (set_number operation) 0 n xs ≡ framed_set operation 0 n xs
unfolding framed_by
set_framed Create n xs = refl
set_framed Add n xs = refl
set_framed Replace n xs = refl

-- ---- what "could be given" says
-- at least one and at most 15
pub record Counted (n : ℕ) : Type 0 where
  some : 1 ≤ n
  few : n ≤ 15

pub counted : (n : ℕ) → one_to_fifteen n ≡ true → Counted n
counted n e =
    let h = both (leb 1 n) (leb n 15) e in
    record { some = leb-true 1 n h.0; few = leb-true n 15 h.1 }

pub filters_framed : (operation : SetOperation) (es : List Entry) → Counted (length es)
    → framed_of ((set_number operation * 32 + length es) ∷ entries_octets es) ≡ filters operation (map raw_of es)
unfolding rest_fits
filters_framed operation es c =
    first_octet_lem (set_number operation) (length es) (entries_octets es) (omega arith)
    ∙ set_framed operation (length es) (entries_octets es)
    ∙ rw (ne_eqb (length es) 0 (λ e. omega arith), split_round es)

pub marks_framed : (xs : List ℕ) → Counted (length xs) → framed_of ((5 * 32 + length xs) ∷ xs) ≡ identifiers xs
unfolding rest_fits framed_by
marks_framed xs c =
    first_octet_lem 5 (length xs) xs (omega arith)
    ∙ rw (ne_eqb (length xs) 0 (λ e. omega arith), le-leb (length xs) (length xs) (omega arith), drop-length xs, take-length xs)

pub record RowGiven (row : List Filter) : Type 0 where
  pub count : Counted (length (entries_from 0 row))
  held : Row 0 row (entries_from 0 row)
  precedences : repeats (map precedence_of (entries_from 0 row)) ≡ false

pub row_given_lem : (row : List Filter) → Each FilterInRange place_count row → row_given row ≡ true → RowGiven row
unfolding row_given
row_given_lem row r e =
    let es = entries_from 0 row in
    let all = both (every place_fine row && one_to_fifteen (length es)) (not (repeats (map precedence_of es))) e in
    let places = both (every place_fine row) (one_to_fifteen (length es)) all.0 in
    record {
      count = counted (length es) places.1;
      held = row_of 0 row (omega (arith, r.count)) r.all places.0;
      precedences = not-true (repeats (map precedence_of es)) all.1;
    }

-- ---- the four answers
all_fit : (es : List Entry) → All Good es → every entry_fittable es ≡ true
unfolding every
all_fit [] g = refl
all_fit (e ∷ es) g = rw g.0.fits (all_fit es g.1)

bare_round : (operation : BareOperation) → read_value (octets_by (Bare operation) no_filters no_marks) ≡ without_sets (Bare operation)
unfolding read_value framed_of framed_by rest_fits
bare_round DeleteTft = refl
bare_round NoOperation = refl

round_by : (answer : Answer) (row : List Filter) (marks : List Bool) → Each FilterInRange place_count row → length marks ≡ place_count → given_by answer row marks ≡ true
    → read_value (octets_by answer row marks) ≡ record { answer = answer; filters = row; marks = marks }
unfolding read_value marks_given twice
round_by (Filters operation) row marks r l e =
    let es = entries_from 0 row in
    let all = both (row_given row) (every not marks) e in
    let g = row_given_lem row r all.0 in
    rw (
      filters_framed operation es g.count,
      entries_round es g.held.good,
      all_fit es g.held.good,
      g.held.once,
      g.precedences,
      row_back row es r.count g.held,
      empty_marks marks l all.1,
    )
round_by Identifiers row marks r l e =
    let all = both (every empty_place row) (marks_given marks) e in
    rw (marks_framed (marks_from 0 marks) (counted _ all.1), marks_back marks l, empty_row row r.count all.0)
round_by (Bare operation) row marks r l e =
    let all = both (every empty_place row) (every not marks) e in
    rw (empty_row row r.count all.0, empty_marks marks l all.1) (bare_round operation)
round_by (Refused refusal) row marks r l e = absurd (false≢true e)

pub round : (e : Element) → ElementInRange e → given e ≡ true → read_value (octets_of e) ≡ e
unfolding octets_of given
round e r g = round_by e.answer e.filters e.marks r.filters r.marks g

-- ---- the octets are octets
entries_octets_lem : (es : List Entry) → All Good es → All Octet (entries_octets es)
unfolding entries_octets entry_octets
entries_octets_lem [] g = tt
entries_octets_lem (e ∷ es) g =
    let many = contents_many e.filter in
    let low = g.0.well.direction in
    let rest = all_append Octet (contents_octets e.filter) (entries_octets es) many.each (entries_octets_lem es g.1) in
    (omega (arith, g.0.below), (g.0.in_range.precedence, (omega arith, rest)))

marks_octets : (i : ℕ) (ms : List Bool) → i + length ms ≤ place_count → All Octet (marks_from i ms)
unfolding marks_from
marks_octets i [] l = tt
marks_octets i (true ∷ ms) l = (omega arith, marks_octets (suc i) ms (omega arith))
marks_octets i (false ∷ ms) l = marks_octets (suc i) ms (omega arith)

set_number_lem : (operation : SetOperation) → set_number operation ≤ 4
set_number_lem Create = omega arith
set_number_lem Add = omega arith
set_number_lem Replace = omega arith

octets_by_lem : (answer : Answer) (row : List Filter) (marks : List Bool) → Each FilterInRange place_count row → length marks ≡ place_count → given_by answer row marks ≡ true
    → All Octet (octets_by answer row marks)
unfolding marks_given
octets_by_lem (Filters operation) row marks r l e =
    let g = row_given_lem row r (both (row_given row) (every not marks) e).0 in
    let few = g.count.few in
    (omega (arith, set_number_lem operation), entries_octets_lem (entries_from 0 row) g.held.good)
octets_by_lem Identifiers row marks r l e =
    let few = (counted (length (marks_from 0 marks)) (both (every empty_place row) (marks_given marks) e).1).few in
    (omega arith, marks_octets 0 marks (omega arith))
octets_by_lem (Bare DeleteTft) row marks r l e = (omega arith, tt)
octets_by_lem (Bare NoOperation) row marks r l e = (omega arith, tt)
octets_by_lem (Refused refusal) row marks r l e = tt

pub octets_octets : (e : Element) → ElementInRange e → given e ≡ true → All Octet (octets_of e)
unfolding octets_of given
octets_octets e r g = octets_by_lem e.answer e.filters e.marks r.filters r.marks g
