-- What the layer's theorems say, where that is no computation.
use Rattle.std.specs.Prelude.{◌≡◌, true, List, [], ◌∷◌, ◌++◌, ◌⊎◌, ℕ, ◌/◌, ◌%◌, ◌≤◌, ◌<◌, length, take, get_or, None, Some as Well}
use Rattle.laws.specs.Lists.{All, Some, Each}
use Rattle.filter.specs.declared.component.Filter.{Filter}
use Rattle.filter.specs.Ranges.{FilterInRange}
use Rattle.filter.specs.Fittable.{SomePacketFits}
use Rattle.element.specs.declared.answer.SetOperation.{SetOperation}
use Rattle.element.specs.declared.answer.Refusal.{Refusal}
use Rattle.element.specs.declared.answer.Answer.{Answer}
use Rattle.element.specs.declared.answer.Answer.TheVariants.{Refused}
use Rattle.element.specs.declared.answer.Element.{Element}
use Rattle.element.specs.Head.{longest, operation_of, extension_in, count_in, create, delete_tft, add, replace, delete_filters, no_operation}
use Rattle.element.specs.Numbers.{number_of}
use Rattle.filter.specs.Sizes.{place_count}
use Rattle.element.specs.Framing.{Raw, identifier_of, not_framed, filters, framed_of}
use Rattle.element.specs.Read.{Entry, coded, entries_of, twice, read_value}
use Rattle.element.specs.Contents.{coded_of}

abbrev pub Octet : ℕ → Type 0
Octet x = x < 256

-- an element as the code's types hold it
pub record ElementInRange (e : Element) : Type 0 where
  pub filters : Each FilterInRange place_count e.filters
  pub marks : length e.marks ≡ place_count

-- some octets, however many, read as this operation: an answer that is no cause
pub record ReadsAs (e : Element) : Type 0 where
  pub octets : List ℕ
  pub each : All Octet octets
  pub reads : read_value octets ≡ e
  pub operation : number_of e.answer ≡ 0

-- an answer that is a cause
pub record IsCause (answer : Answer) : Type 0 where
  pub refusal : Refusal
  pub is : answer ≡ Refused refusal

abbrev pub NoPacketFits : Entry → Type 0
NoPacketFits e = SomePacketFits e.filter → ⊥

-- ---- "Its causes are those of steps 4, 6, 7, 8 and 9 below, in that order": where each is the cause
-- the value is of at most 255 octets, and framed as a list of filters
pub record FilterList (xs : List ℕ) : Type 0 where
  pub short : length xs ≤ longest
  pub operation : SetOperation
  pub raws : List Raw
  pub framed : framed_of xs ≡ filters operation raws

-- .. and every filter of it is well coded
pub record CodedList (xs : List ℕ) : Type 0 where
  pub list : FilterList xs
  pub entries : List Entry
  pub decoded : entries_of list.raws ≡ coded entries

-- step 4: "Value length 0 or above 255, operation 0 or 7"; step 6: "Count 0 for 1, 3, 4, 5; count above 0 for 2, 6; an entry past the end; octets left
-- over; bad parameter framing". All but the 255 is told by the framing
abbrev pub TooLongOrUnframed : List ℕ → Type 0
TooLongOrUnframed xs = (length xs ≤ longest → ⊥) ⊎ (framed_of xs ≡ not_framed)

-- step 7: "A badly coded filter"
pub record SomeFilterBadlyCoded (xs : List ℕ) : Type 0 where
  pub list : FilterList xs
  pub badly : Some (λ r. coded_of r ≡ None) list.raws

-- step 8: "A filter that no packet fits"
pub record SomeFilterUnfit (xs : List ℕ) : Type 0 where
  pub list : CodedList xs
  pub unfit : Some NoPacketFits list.entries

-- step 9: "An identifier twice, or a precedence twice"
pub record SomethingTwice (xs : List ℕ) : Type 0 where
  pub list : CodedList xs
  pub fit : All (λ e. SomePacketFits e.filter) list.entries
  pub again : twice list.entries ≡ true

-- ---- The place of a filter: "the first octet of the earliest such filter in the message"
-- a filter as it stands in the value, and several
abbrev pub raw_octets : Raw → List ℕ
raw_octets r = r.first ∷ r.precedence ∷ length r.contents ∷ r.contents

abbrev pub raws_octets : List Raw → List ℕ
raws_octets [] = []
raws_octets (r ∷ rs) = raw_octets r ++ raws_octets rs

-- what is wrong of a filter, of which it is known which stand before it
abbrev pub IsBadlyCoded : List Raw → Raw → Type 0
IsBadlyCoded before r = coded_of r ≡ None

abbrev pub FitsNoPacket : List Raw → Raw → Type 0
FitsNoPacket before r = (f : Filter) × ((coded_of r ≡ Well f) × (SomePacketFits f → ⊥))

-- "the earliest filter that repeats one before it"
abbrev pub RepeatsOne : List Raw → Raw → Type 0
RepeatsOne before r = Some (λ b. (identifier_of b ≡ identifier_of r) ⊎ (b.precedence ≡ r.precedence)) before

-- the value is octet 1, the filters before, the filter that is wrong, and what follows; the place is where that filter's octets begin, and no filter before it is
-- wrong so
pub record EarliestAt (xs : List ℕ) (Wrong : List Raw → Raw → Type 0) (place : ℕ) : Type 0 where
  pub list : FilterList xs
  pub before : List Raw
  pub here : Raw
  pub after : List Raw
  pub filters : list.raws ≡ before ++ here ∷ after
  pub first : ℕ
  pub rest : List ℕ
  pub octets : xs ≡ first ∷ raws_octets before ++ (raw_octets here ++ rest)
  pub begins : place ≡ length (first ∷ raws_octets before)
  pub wrong : Wrong before here
  pub none : (earlier later : List Raw) (r : Raw) → before ≡ earlier ++ r ∷ later → Wrong earlier r → ⊥

-- ---- The place of a value that is not framed
-- "Length, operation or count wrong": "The value is 1 to 255 octets"; "0 and 7 are refused", and no octet has an operation above 7; "Count 0 for 1, 3, 4,
-- 5; count above 0 for 2, 6"
abbrev pub LengthWrong : List ℕ → Type 0
LengthWrong xs = (length xs ≡ 0) ⊎ (longest < length xs)

abbrev pub OperationWrong : ℕ → Type 0
OperationWrong operation = (operation ≡ 0) ⊎ (7 ≤ operation)

abbrev pub HasEntries : ℕ → Type 0
HasEntries operation = (((operation ≡ create) ⊎ (operation ≡ add)) ⊎ (operation ≡ replace)) ⊎ (operation ≡ delete_filters)

abbrev pub HasNone : ℕ → Type 0
HasNone operation = (operation ≡ delete_tft) ⊎ (operation ≡ no_operation)

abbrev pub CountWrong : ℕ → ℕ → Type 0
CountWrong operation n = (HasEntries operation × (n ≡ 0)) ⊎ (HasNone operation × (0 < n))

abbrev pub HeadWrong : List ℕ → Type 0
HeadWrong xs = LengthWrong xs ⊎ (OperationWrong (operation_of xs) ⊎ CountWrong (operation_of xs) (count_in (get_or xs 0 0)))

-- cut anywhere, the value is not framed: an entry is past the end, or missing
abbrev pub NoFrontFramed : List ℕ → Type 0
NoFrontFramed xs = (n : ℕ) → framed_of (take n xs) ≡ not_framed

-- "A wrong count comes first."
pub data BreaksAt (xs : List ℕ) (place : ℕ) : Type 0 where
  -- "Length, operation or count wrong: 0."
  at_head : HeadWrong xs → place ≡ 0 → BreaksAt xs place
  -- "An entry or parameter past the end or missing: the value's length." Of a value with E no more is said than that it
  -- is set: parameters fill what the entries leave, so that nothing else can be wrong
  at_end : (HeadWrong xs → ⊥) → place ≡ length xs → (extension_in (get_or xs 0 0) ≡ 1) ⊎ NoFrontFramed xs → BreaksAt xs place
  -- "Left-over octets: the first of them." The octets before it are framed. That no other front of a value without E is framed is not shown; which place it
  -- is, the equation `place_of` fixes
  at_left : (HeadWrong xs → ⊥) → extension_in (get_or xs 0 0) ≡ 0 → place < length xs → (framed_of (take place xs) ≡ not_framed → ⊥) → BreaksAt xs place

-- ---- The place, for whichever reason the value is refused: the theorems `place_says` and `refusal_placed`
pub record PlaceSays (xs : List ℕ) (place : ℕ) : Type 0 where
  pub within : place ≤ length xs
  -- it fits an octet, since a value above 255 octets has place 0
  pub octet : place ≤ longest
  pub breaks : TooLongOrUnframed xs → BreaksAt xs place
  pub badly : SomeFilterBadlyCoded xs → EarliestAt xs IsBadlyCoded place
  pub unfit : SomeFilterUnfit xs → EarliestAt xs FitsNoPacket place
  pub repeated : SomethingTwice xs → EarliestAt xs RepeatsOne place

-- the one number for the C side: 0 of what reads; else the cause and the place can be taken apart
pub record TakenApart (number : ℕ) (answer : Answer) : Type 0 where
  pub reads : number_of answer ≡ 0 → number ≡ 0
  pub cause : number / 256 ≡ number_of answer
  pub place : (refusal : Refusal) → answer ≡ Refused refusal → number % 256 ≡ refusal.place
