-- How the code walks: what its inner functions give. Nothing here is claimed of the element; the layer's theorems tie it to Read and Write.
use Rattle.std.specs.Prelude.{◌≡◌, ℕ, ◌+◌, Bool, true, false, not, ◌&&◌, List, [], ◌∷◌, leb, length, take, drop, replicate, None, Option, Some, Result, Ok, Err}
use Rattle.laws.specs.Says.{pick}
use Rattle.laws.specs.Lists.{every}
use Rattle.filter.specs.declared.component.Filter.{Filter}
use Rattle.filter.specs.Sizes.{precedence_count}
use Rattle.filter.specs.Build.{excluded, added}
use Rattle.filter.specs.Coding.{held}
use Rattle.element.specs.declared.answer.Cause.{Cause}
use Rattle.element.specs.declared.answer.Cause.TheVariants.{Operation, Semantics, Coding}
use Rattle.element.specs.declared.answer.Refusal.{Refusal}
use Rattle.element.specs.declared.answer.Answer.{Answer}
use Rattle.element.specs.declared.answer.Answer.TheVariants.{Refused}
use Rattle.element.specs.declared.portions.Unfinished.{Unfinished}
use Rattle.element.specs.declared.framing.RawFilter.{RawFilter}
use Rattle.element.specs.declared.framing.Frame.{Frame}
use Rattle.element.specs.declared.framing.Frame.TheVariants.{Filters as FiltersFrame, Identifiers as IdentifiersFrame, Bare as BareFrame}
use Rattle.element.specs.Read.{no_filters, entry_fittable, Entries, badly, coded, entries_of, twice, in_places}
use Rattle.element.specs.Head.{longest}
use Rattle.element.specs.Contents.{length_of, known, component_of, coded_of}
use Rattle.element.specs.Framing.{Raw, identifier_of, Split, cut, split, Framed, not_framed, filters, identifiers, bare, framed_of}
use Rattle.element.specs.Places.{unframed_place, filters_place}
use Rattle.element.specs.declared.entries.Handed.{Handed}
use Rattle.element.specs.declared.entries.Handed.TheVariants.{Identifier, End}
use Rattle.element.specs.declared.entries.RawEntry.{RawEntry}
use Rattle.element.specs.declared.entries.RawEntry.TheVariants.{Filter as FilterEntry, Identifier as IdentifierEntry}
use Rattle.element.specs.Entries.{Located, located_filters, coded_filter}
use Rattle.element.specs.Write.{entry_octets}
use Rattle.std.proofs.lemmas.List.Edits.{sets}

-- what a function returned, seen without where it lies in memory
abbrev pub Gives : {X Y : Type 0} → (X → Y) → Option X → Option Y → Type 0
Gives see None y = y ≡ None
Gives see (Some x) y = y ≡ Some (see x)

-- ---- the component at the front of the contents, and the octets after it
abbrev pub component_by : ℕ → ℕ → Filter → List ℕ → Option (Filter × List ℕ)
component_by t w f xs = pick (known t && not (excluded f t) && leb w (length xs)) (Some (added f (component_of t (take w xs)), drop w xs)) None

unfoldable pub next_component : Filter → List ℕ → Option (Filter × List ℕ)
next_component f [] = None
next_component f (t ∷ xs) = component_by t (length_of t) f xs

-- ---- the filter at the front of the octets, and the octets after it
abbrev pub seen : RawFilter → Raw
seen r = record { first = r.first; precedence = r.precedence; contents = r.contents.now }

abbrev pub next_filter : List ℕ → Option (Raw × List ℕ)
next_filter [] = None
next_filter (a ∷ []) = None
next_filter (a ∷ p ∷ []) = None
next_filter (a ∷ p ∷ l ∷ xs) = pick (leb l (length xs)) (Some (record { first = a; precedence = p; contents = take l xs }, drop l xs)) None

-- the octets after the parameter at the front
abbrev pub next_parameter : List ℕ → Option (List ℕ)
next_parameter [] = None
next_parameter (i ∷ []) = None
next_parameter (i ∷ l ∷ xs) = pick (leb l (length xs)) (Some (drop l xs)) None

-- how a value is framed, with the count of its list; or where it breaks
abbrev pub frame_by : Framed → ℕ → Result Frame ℕ
frame_by not_framed place = Err place
frame_by (filters operation rs) place = Ok (FiltersFrame operation (length rs))
frame_by (identifiers xs) place = Ok (IdentifiersFrame (length xs))
frame_by (bare operation) place = Ok (BareFrame operation)

abbrev pub whole : Split → Bool
whole cut = false
whole (split rs rest) = true

-- ---- the entries at their offsets
abbrev pub located_split : ℕ → Split → List Located
located_split at cut = []
located_split at (split rs rest) = located_filters at rs

-- what an entry of the value is handed out as
abbrev pub handed_as : RawEntry → Handed
handed_as (FilterEntry r) = coded_filter (identifier_of (seen r)) (coded_of (seen r))
handed_as (IdentifierEntry identifier) = Identifier identifier

-- an entry and the offset after it, found at an offset
abbrev pub located_as : ℕ → Option (RawEntry × ℕ) → Located
located_as at None = record { at = at; after = at; entry = End }
located_as at (Some x) = record { at = at; after = x.1; entry = handed_as x.0 }

-- ---- the filters of a value
abbrev pub raws_in : Split → List Raw
raws_in cut = []
raws_in (split rs rest) = rs

abbrev pub refusal : Cause → ℕ → Refusal
refusal cause place = record { cause = cause; place = place }

-- what was found wrong before, if anything; else this, if it is wrong
abbrev pub first_of : Option Refusal → Bool → Refusal → Option Refusal
first_of None wrong r = pick wrong (Some r) None
first_of (Some found) wrong r = Some found

-- the row of a filter set, or why it is refused
abbrev pub judged_by : ℕ → Entries → Result (List Filter) Refusal
judged_by place badly = Err (refusal Coding place)
judged_by place (coded es) =
    pick (every entry_fittable es) (pick (twice es) (Err (refusal Coding place)) (Ok (in_places es no_filters))) (Err (refusal Semantics place))

-- what was laid into a row, where nothing was refused
abbrev pub rowed : Result (Unit {0}) Refusal → List Filter → Result (List Filter) Refusal
rowed (Ok u) row = Ok row
rowed (Err r) row = Err r

abbrev pub judged_row : List Raw → Result (List Filter) Refusal
judged_row rs = judged_by (filters_place rs) (entries_of rs)

-- ---- how a value of at most 255 octets is framed, and where another breaks
abbrev pub framed_within : List ℕ → Framed
framed_within s = pick (leb (length s) longest) (framed_of s) not_framed

abbrev pub unframed_within : List ℕ → ℕ
unframed_within s = pick (leb (length s) longest) (unframed_place s) 0

abbrev pub refused_frame : Result Frame ℕ → Result Frame Refusal
refused_frame (Ok frame) = Ok frame
refused_frame (Err place) = Err (refusal Operation place)

abbrev pub answered : Result Answer Refusal → Answer
answered (Ok answer) = answer
answered (Err r) = Refused r

unfoldable pub no_precedences : List Bool
no_precedences = replicate precedence_count false

-- ---- octets were stored from a place on, and the place after them
pub record Puts (at : ℕ) (octets old new : List ℕ) (end : ℕ) : Type 0 where
  pub after : end ≡ at + length octets
  pub stored : new ≡ sets old at octets

-- ---- a place of a row, or of the marks, as it is written
unfoldable pub place_octets : ℕ → Filter → List ℕ
place_octets i f = pick (held f) (entry_octets (record { identifier = i; filter = f })) []

abbrev pub mark_octets : ℕ → Bool → List ℕ
mark_octets i m = pick m (i ∷ []) []

-- ---- Portions: how many octets of the state a finish reads
abbrev pub read_end : Result (Unit {0}) Unfinished → ℕ → ℕ
read_end (Ok u) fed = fed
read_end (Err why) fed = 0
