-- What the reader can give: every operation read is one that the writer takes.
use mathlib.Core.Path.{◌≡◌, refl, sym, ap, ◌∙◌}
use mathlib.Core.Bool.{Bool, true, false, not, ◌&&◌}
use mathlib.Core.List.{List, [], ◌∷◌, map}
use Prim.Native.Nat.{ℕ, ◌%◌, ◌<◌}
use native.Mathlib.Omega.{arith}
use lib.Dec.{leb}
use lib.ListN.{length, get_or, set, length-set}
use borrow.Author.Tests.{le-leb, not-true}
use Rattle.laws.specs.Says.{pick}
use Rattle.laws.specs.Lists.{every, All, Each, repeats}
use Rattle.laws.proofs.Lists.{all_set, each_replicate}
use Rattle.laws.proofs.Tests.{both, or_right}
use Rattle.filter.specs.declared.component.Filter.{Filter}
use Rattle.filter.specs.Coding.{held, well_coded, empty_place}
use Rattle.filter.specs.Ranges.{FilterInRange}
use Rattle.filter.proofs.Ranges.{nothing_in_range}
use Rattle.filter.specs.Fittable.{place_fine}
use Rattle.element.specs.declared.answer.SetOperation.{SetOperation}
use Rattle.element.specs.declared.answer.Cause.TheVariants.{Operation, Semantics, Coding}
use Rattle.element.specs.declared.answer.Answer.{Answer}
use Rattle.element.specs.declared.answer.Element.{Element}
use Rattle.element.specs.Numbers.{number_of}
use Rattle.filter.specs.Sizes.{place_count}
use Rattle.filter.specs.Build.{empty_filter}
use Rattle.element.specs.Read.{no_filters, no_marks, without_sets, refused, Entry, precedence_of, entry_fittable, Entries, badly, coded, entries_of, twice, in_places, filter_set, marked, identifier_set, judged_entries, judged_frame, read_value, unplaced, read_element}
use Rattle.element.specs.Framing.{Framed, not_framed, filters, identifiers, bare, framed_of}
use Rattle.element.specs.Write.{entries_from, one_to_fifteen, row_given, marks_from, marks_given, given}
use Rattle.element.specs.Meaning.{Octet, ElementInRange}
use Rattle.element.proofs.Decoded.{well_coded_lem, EntryDecoded, OneTo15, FramedInto, framed_into, EntriesInto, entries_into}
use Rattle.element.proofs.Causes.{some_number}
use Rattle.element.proofs.Placing.{read_number_lem, read_same}
use Rattle.element.proofs.Laid.{precedences, entries_precedences, entries_count, distinct, laid_first, laid_every, marked_few, marked_some}

-- ---- Every operation read is one that the writer takes.
some_not_all : (n : ℕ) → OneTo15 n → one_to_fifteen n ≡ true
some_not_all n h = rw (le-leb 1 n h.some, le-leb n 15 h.few)

row_given_lem : (row : List Filter) → every place_fine row ≡ true → OneTo15 (length (precedences row)) → repeats (precedences row) ≡ false → row_given row ≡ true
unfolding row_given
row_given_lem row p n fresh = rw (p, entries_count 0 row, some_not_all (length (precedences row)) n, entries_precedences 0 row, fresh)

all_given : (es : List Entry) → All EntryDecoded es → every entry_fittable es ≡ true → All (λ e. place_fine e.filter ≡ true) es
unfolding every
all_given [] d h = tt
all_given (e ∷ es) d h =
    let fit = both (entry_fittable e) (every entry_fittable es) h in
    (or_right (empty_place e.filter) (well_coded e.filter && entry_fittable e) (rw (well_coded_lem e.filter d.0.filter, fit.0) refl), all_given es d.1 fit.1)

-- no filter, and no mark
none_held : every empty_place no_filters ≡ true
unfolding every no_filters empty_place held
none_held = refl

none_given : every place_fine no_filters ≡ true
unfolding every no_filters empty_place held
none_given = refl

marks_none : (length no_marks ≡ place_count) × (length (marks_from 0 no_marks) ≡ 0)
unfolding no_marks marks_from
marks_none = (refl, refl)

none_marked_lem : every not no_marks ≡ true
unfolding every no_marks
none_marked_lem = refl

filters_given : (operation : SetOperation) (es : List Entry) → OneTo15 (length es) → All EntryDecoded es → every entry_fittable es ≡ true → twice es ≡ false
    → given (filter_set operation es) ≡ true
unfolding given
filters_given operation es n d f t =
    let holds = laid_first es d t in
    let count : length (precedences (in_places es no_filters)) ≡ length es = (let c = holds.count in omega arith) in
    let places = laid_every place_fine es no_filters (all_given es d f) none_given in
    rw (row_given_lem (in_places es no_filters) places (rw count n) holds.fresh, none_marked_lem)

identifiers_given : (xs : List ℕ) → OneTo15 (length xs) → given (identifier_set xs) ≡ true
unfolding given marks_given
identifiers_given xs n =
    let few = marked_few xs no_marks in
    rw (
      none_held,
      some_not_all (length (marks_from 0 (marked xs no_marks)))
          (record { some = marked_some xs no_marks marks_none.0 n.some; few = let h = n.few in let z = marks_none.1 in omega arith }),
    )

module _ (n : ℕ) (count : OneTo15 n) (operation : SetOperation) where
  entries_given : (E : Entries) → EntriesInto n E → number_of (judged_entries operation E).answer ≡ 0 → given (judged_entries operation E) ≡ true
  entries_given badly d q = some_number Coding q
  entries_given (coded es) d q = go (every entry_fittable es) refl (twice es) refl q
    where
      judged : Bool → Bool → Element
      judged f t = pick f (pick t (refused Coding) (filter_set operation es)) (refused Semantics)

      go : (f : Bool) → every entry_fittable es ≡ f → (t : Bool) → twice es ≡ t → number_of (judged f t).answer ≡ 0 → given (judged f t) ≡ true
      go true f true t q = some_number Coding q
      go true f false t q = filters_given operation es (rw d.0 count) d.1 f t
      go false f t u q = some_number Semantics q

frame_given : (F : Framed) → FramedInto F → number_of (judged_frame F).answer ≡ 0 → given (judged_frame F) ≡ true
unfolding given
frame_given not_framed h q = some_number Operation q
frame_given (filters operation rs) h q = entries_given (length rs) h.0 operation (entries_of rs) (entries_into rs h.1) q
frame_given (identifiers xs) h q = identifiers_given xs h
frame_given (bare kind) h q = rw (none_held, none_marked_lem)

pub reads_given : (xs : List ℕ) → All Octet xs → number_of (read_value xs).answer ≡ 0 → given (read_value xs) ≡ true
unfolding read_value
reads_given xs octets q = frame_given (framed_of xs) (framed_into xs octets) q

-- ---- No two filters of a row that the writer takes have one precedence.
pub row_distinct : (row : List Filter) → row_given row ≡ true → (j l : ℕ) → j < length row → l < length row
    → held (get_or row j empty_filter) ≡ true → held (get_or row l empty_filter) ≡ true
    → (get_or row j empty_filter).precedence ≡ (get_or row l empty_filter).precedence → j ≡ l
unfolding row_given
row_distinct row g =
    let n = length (entries_from 0 row) in
    let fresh = not-true (repeats (map precedence_of (entries_from 0 row))) (both (every place_fine row && one_to_fifteen n) _ g).1 in
    distinct row (rw (entries_precedences 0 row) at fresh)

-- what a value of at most 255 octets says
pub element_given : (xs : List ℕ) → All Octet xs → number_of (read_element xs).answer ≡ 0 → given (read_element xs) ≡ true
unfolding unplaced
element_given xs octets q = ap given (read_same xs q) ∙ go (leb (length xs) 255) (sym (read_number_lem xs) ∙ q)
  where
    go : (b : Bool) → number_of (pick b (read_value xs) (refused Operation)).answer ≡ 0 → given (pick b (read_value xs) (refused Operation)) ≡ true
    go true q = reads_given xs octets q
    go false q = some_number Operation q

-- ---- What is read is in the ranges of the code's types.
none_in_range : Each FilterInRange place_count no_filters
unfolding no_filters
none_in_range = each_replicate FilterInRange place_count empty_filter nothing_in_range

laid_in_range : (es : List Entry) (row : List Filter) → All EntryDecoded es → Each FilterInRange place_count row → Each FilterInRange place_count (in_places es row)
unfolding in_places
laid_in_range [] row d r = r
laid_in_range (e ∷ es) row d r =
    laid_in_range es (set row e.identifier e.filter) d.1
    (record {
      count = length-set row e.identifier e.filter ∙ r.count;
      all = all_set FilterInRange row e.identifier e.filter r.all d.0.filter.sound.in_range;
    })

marked_long : (xs : List ℕ) (marks : List Bool) → length marks ≡ place_count → length (marked xs marks) ≡ place_count
unfolding marked
marked_long [] marks l = l
marked_long (x ∷ xs) marks l = marked_long xs (set marks (x % 16) true) (length-set marks (x % 16) true ∙ l)

without_in_range : (answer : Answer) → ElementInRange (without_sets answer)
without_in_range answer = record { filters = none_in_range; marks = marks_none.0 }

entries_in_range : (n : ℕ) (operation : SetOperation) (E : Entries) → EntriesInto n E → ElementInRange (judged_entries operation E)
entries_in_range n operation badly d = without_in_range (refused Coding).answer
entries_in_range n operation (coded es) d = go (every entry_fittable es) (twice es)
  where
    go : (f t : Bool) → ElementInRange (pick f (pick t (refused Coding) (filter_set operation es)) (refused Semantics))
    go true true = without_in_range (refused Coding).answer
    go true false = record { filters = laid_in_range es no_filters d.1 none_in_range; marks = marks_none.0 }
    go false t = without_in_range (refused Semantics).answer

frame_in_range : (F : Framed) → FramedInto F → ElementInRange (judged_frame F)
frame_in_range not_framed h = without_in_range (refused Operation).answer
frame_in_range (filters operation rs) h = entries_in_range (length rs) operation (entries_of rs) (entries_into rs h.1)
frame_in_range (identifiers xs) h = record { filters = none_in_range; marks = marked_long xs no_marks marks_none.0 }
frame_in_range (bare operation) h = without_in_range (judged_frame (bare operation)).answer

pub read_in_range : (xs : List ℕ) → All Octet xs → ElementInRange (read_element xs)
unfolding read_element unplaced read_value
read_in_range xs octets = let r = go (leb (length xs) 255) in record { filters = r.filters; marks = r.marks }
  where
    go : (b : Bool) → ElementInRange (pick b (judged_frame (framed_of xs)) (refused Operation))
    go true = frame_in_range (framed_of xs) (framed_into xs octets)
    go false = without_in_range (refused Operation).answer
