-- The reader. "What the reader gives is one of: a filter set with its operation, an identifier set, a bare operation, or a cause. Its causes are those of
-- steps 4, 6, 7, 8 and 9 below, in that order." What is read stands first, causes without their places; the end of this page joins the two.
use Rattle.std.specs.Prelude.{ℕ, Bool, true, false, ◌||◌, List, [], ◌∷◌, map, leb, length, set, replicate, None, Option, Some}
use Rattle.laws.specs.Says.{pick}
use Rattle.laws.specs.Lists.{every, repeats}
use Rattle.filter.specs.declared.component.Filter.{Filter}
use Rattle.filter.specs.Sizes.{place_count}
use Rattle.filter.specs.Build.{empty_filter}
use Rattle.filter.specs.Fittable.{fittable}
use Rattle.element.specs.declared.answer.SetOperation.{SetOperation}
use Rattle.element.specs.declared.answer.Cause.{Cause, TheVariants.Operation, TheVariants.Semantics, TheVariants.Coding}
use Rattle.element.specs.declared.answer.Answer.{Answer, TheVariants.Filters, TheVariants.Identifiers, TheVariants.Bare, TheVariants.Refused}
use Rattle.element.specs.declared.answer.Element.{Element}
use Rattle.element.specs.Head.{longest}
use Rattle.element.specs.Framing.{Raw, identifier_in, identifier_of, Framed, not_framed, filters, identifiers, bare, framed_of}
use Rattle.element.specs.Contents.{coded_of}
use Rattle.element.specs.Places.{place_of}

unfoldable pub no_filters : List Filter
no_filters = replicate place_count empty_filter

unfoldable pub no_marks : List Bool
no_marks = replicate place_count false

abbrev pub without_sets : Answer → Element
without_sets answer = record { answer = answer; filters = no_filters; marks = no_marks }

-- its place is said apart, and is 0 until then
abbrev pub refused : Cause → Element
refused cause = without_sets (Refused (record { cause = cause; place = 0 }))

pub record Entry : Type 0 where
  pub identifier : ℕ
  pub filter : Filter

abbrev pub precedence_of : Entry → ℕ
precedence_of e = e.filter.precedence

abbrev pub entry_fittable : Entry → Bool
entry_fittable e = fittable e.filter

-- ---- Step 7: "A badly coded filter"
pub data Entries : Type 0 where
  badly : Entries
  coded : List Entry → Entries

abbrev pub with_entry : ℕ → Option Filter → Entries → Entries
with_entry identifier None es = badly
with_entry identifier (Some f) badly = badly
with_entry identifier (Some f) (coded es) = coded (record { identifier = identifier; filter = f } ∷ es)

unfoldable pub entries_of : List Raw → Entries
entries_of [] = coded []
entries_of (r ∷ rs) = with_entry (identifier_of r) (coded_of r) (entries_of rs)

-- ---- Step 9: "An identifier twice, or a precedence twice"
unfoldable pub twice : List Entry → Bool
twice es = repeats (map (λ e. e.identifier) es) || repeats (map precedence_of es)

-- "a filter with identifier n stands in place n"
unfoldable pub in_places : List Entry → List Filter → List Filter
in_places [] row = row
in_places (e ∷ es) row = in_places es (set row e.identifier e.filter)

abbrev pub filter_set : SetOperation → List Entry → Element
filter_set operation es = record { answer = Filters operation; filters = in_places es no_filters; marks = no_marks }

-- "repeats are one deletion"
unfoldable pub marked : List ℕ → List Bool → List Bool
marked [] marks = marks
marked (x ∷ xs) marks = marked xs (set marks (identifier_in x) true)

abbrev pub identifier_set : List ℕ → Element
identifier_set xs = record { answer = Identifiers; filters = no_filters; marks = marked xs no_marks }

-- ---- Steps 7, 8 and 9, each over every filter before the next
abbrev pub judged_entries : SetOperation → Entries → Element
judged_entries operation badly = refused Coding
judged_entries operation (coded es) =
    pick (every entry_fittable es) (pick (twice es) (refused Coding) (filter_set operation es)) (refused Semantics)

abbrev pub judged_frame : Framed → Element
judged_frame not_framed = refused Operation
judged_frame (filters operation rs) = judged_entries operation (entries_of rs)
judged_frame (identifiers xs) = identifier_set xs
judged_frame (bare operation) = without_sets (Bare operation)

-- what a value of any length says
unfoldable pub read_value : List ℕ → Element
read_value xs = judged_frame (framed_of xs)

-- "The value is 1 to 255 octets."
unfoldable pub unplaced : List ℕ → Element
unplaced xs = pick (leb (length xs) longest) (read_value xs) (refused Operation)

-- ---- "Every refusal of the element reader should carry a place", and "Cause numbers and their order stay."
abbrev pub at_place : ℕ → Answer → Answer
at_place place (Filters operation) = Filters operation
at_place place Identifiers = Identifiers
at_place place (Bare operation) = Bare operation
at_place place (Refused refusal) = Refused (record { cause = refusal.cause; place = place })

abbrev pub placed : ℕ → Element → Element
placed place e = record { answer = at_place place e.answer; filters = e.filters; marks = e.marks }

unfoldable pub read_element : List ℕ → Element
read_element xs = placed (place_of xs) (unplaced xs)
