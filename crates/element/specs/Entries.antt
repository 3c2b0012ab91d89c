-- "a reader that holds the element's bytes and hands out the next entry is wanted too: entries in byte order, repeats included, or at once the cause
-- where the element reads as one"
use Rattle.std.specs.Prelude.{◌≡◌, ℕ, zero, suc, ◌+◌, Bool, true, List, [], ◌∷◌, map, eqb, length, get_or, set, None, Option, Some}
use Rattle.std.specs.Borrow.{Bor}
use Rattle.laws.specs.Says.{pick}
use Rattle.laws.specs.Lists.{All, fold}
use Rattle.filter.specs.declared.component.Filter.{Filter as PacketFilter}
use Rattle.element.specs.declared.answer.Refusal.{Refusal}
use Rattle.element.specs.declared.answer.Element.{Element}
use Rattle.element.specs.declared.entries.Handed.{Handed}
use Rattle.element.specs.declared.entries.Handed.TheVariants.{Filter, Identifier, Refused, End}
use Rattle.element.specs.declared.entries.Entries.{Entries}
use Rattle.element.specs.Numbers.{Verdict, accepted, refused_for, verdict_on}
use Rattle.element.specs.Framing.{Raw, identifier_in, identifier_of, Framed, not_framed, filters, identifiers, bare, framed_of}
use Rattle.element.specs.Read.{no_filters, no_marks, read_element}
use Rattle.element.specs.Contents.{coded_of}

-- ---- "entries in byte order, repeats included": an entry, the offset of its first octet and the offset after it
pub record Located : Type 0 where
  pub at : ℕ
  pub after : ℕ
  pub entry : Handed

-- "For 1, 3, 4 each filter is": three octets and its contents. A badly coded one is no entry, and the element reads as a cause
abbrev pub coded_filter : ℕ → Option PacketFilter → Handed
coded_filter identifier None = End
coded_filter identifier (Some f) = Filter identifier f

abbrev pub located_filter : ℕ → Raw → Located
located_filter at r = record { at = at; after = at + 3 + length r.contents; entry = coded_filter (identifier_of r) (coded_of r) }

unfoldable pub located_filters : ℕ → List Raw → List Located
located_filters at [] = []
located_filters at (r ∷ rs) = located_filter at r ∷ located_filters (located_filter at r).after rs

-- "For 5 each is one octet"
unfoldable pub located_identifiers : ℕ → List ℕ → List Located
located_identifiers at [] = []
located_identifiers at (x ∷ xs) = record { at = at; after = at + 1; entry = Identifier (identifier_in x) } ∷ located_identifiers (at + 1) xs

-- octet 1 has offset 0, and the entries begin after it
abbrev pub located_in : Framed → List Located
located_in not_framed = []
located_in (filters operation rs) = located_filters 1 rs
located_in (identifiers xs) = located_identifiers 1 xs
located_in (bare kind) = []

unfoldable pub located_of : List ℕ → List Located
located_of xs = located_in (framed_of xs)

unfoldable pub handed_out : List ℕ → List Handed
handed_out xs = map (λ p. p.entry) (located_of xs)

-- ---- "or at once the cause where the element reads as one": what entry n is, counted from 0; after the last, the end
abbrev pub nth_by : Verdict → List Handed → ℕ → Handed
nth_by accepted hs n = get_or hs n End
nth_by (refused_for refusal) hs n = Refused refusal

unfoldable pub nth_of : List ℕ → ℕ → Handed
nth_of xs n = nth_by (verdict_on (read_element xs).answer) (handed_out xs) n

-- ---- The offset. At first: 0 where the element reads as a cause, else 1, where its entries begin
abbrev pub first_offset_by : Verdict → ℕ
first_offset_by accepted = 1
first_offset_by (refused_for refusal) = 0

unfoldable pub first_offset : List ℕ → ℕ
first_offset xs = first_offset_by (verdict_on (read_element xs).answer)

-- ---- What is handed out at an offset: at 0 the cause, if there is one; at an entry's offset that entry; anywhere else the end
abbrev pub cause_in : Verdict → Handed
cause_in accepted = End
cause_in (refused_for refusal) = Refused refusal

-- the entry that begins at an offset; where none does, the end, which stays there
unfoldable pub located_at : List Located → ℕ → Located
located_at [] at = record { at = at; after = at; entry = End }
located_at (p ∷ ps) at = pick (eqb p.at at) p (located_at ps at)

unfoldable pub look_at : List ℕ → ℕ → Handed
look_at xs at = pick (eqb at 0) (cause_in (verdict_on (read_element xs).answer)) (located_at (located_of xs) at).entry

-- the offset after it. Where nothing begins, and at 0, it stays, so that the cause and the end come again and again; past a badly coded filter, whose element
-- reads as a cause, it goes on
unfoldable pub after_at : List ℕ → ℕ → ℕ
after_at xs at = (located_at (located_of xs) at).after

unfoldable pub after_all : List ℕ → ℕ → ℕ → ℕ
after_all xs at zero = at
after_all xs at (suc n) = after_all xs (after_at xs at) n

-- ---- The reader: the octets and the offset
abbrev pub begun : Bor (List ℕ) → Entries
begun value = record { value = value; at = first_offset value.now }

abbrev pub moved : Entries → ℕ → Entries
moved e at = record { value = e.value; at = at }

abbrev pub advanced_of : Entries → Entries
advanced_of e = moved e (after_at e.value.now e.at)

abbrev pub skipped_of : Entries → ℕ → Entries
skipped_of e n = moved e (after_all e.value.now e.at n)

-- ---- The entries that are left from an offset on, up to one that is badly coded; none where no entry begins
abbrev pub handed_before : Handed → List Handed → List Handed
handed_before (Filter identifier f) hs = Filter identifier f ∷ hs
handed_before (Identifier identifier) hs = Identifier identifier ∷ hs
handed_before (Refused refusal) hs = []
handed_before End hs = []

unfoldable pub handed_in : List Located → List Handed
handed_in [] = []
handed_in (p ∷ ps) = handed_before p.entry (handed_in ps)

unfoldable pub left_from : List Located → ℕ → List Handed
left_from [] at = []
left_from (p ∷ ps) at = pick (eqb p.at at) (handed_in (p ∷ ps)) (left_from ps at)

-- the reader behind the entry that it is at; where it is at none, as it is
abbrev pub next_by : Handed → Entries → Entries
next_by (Filter identifier f) e = advanced_of e
next_by (Identifier identifier) e = advanced_of e
next_by (Refused refusal) e = e
next_by End e = e

abbrev pub next_of : Entries → Entries
next_of e = next_by (look_at e.value.now e.at) e

abbrev pub entries_left : Entries → List Handed
entries_left e = left_from (located_of e.value.now) e.at

-- ---- What stepping from the beginning to the end gives
abbrev pub IsEntry : Handed → Type 0
IsEntry (Filter identifier f) = Unit {0}
IsEntry (Identifier identifier) = Unit {0}
IsEntry (Refused refusal) = ⊥
IsEntry End = ⊥

-- at an offset is this entry, and after it that offset
abbrev pub Shows : List ℕ → ℕ → Handed → ℕ → Type 0
Shows xs at entry after = (look_at xs at ≡ entry) × (after_at xs at ≡ after)

-- stepping from an offset hands these out in turn, and then the end, again and again
abbrev pub StepsThrough : List ℕ → ℕ → List Handed → Type 0
StepsThrough xs at [] = Shows xs at End at
StepsThrough xs at (h ∷ hs) = (look_at xs at ≡ h) × StepsThrough xs (after_at xs at) hs

-- a set of filters and one of identifiers, and an entry laid into them
pub record Sets : Type 0 where
  pub filters : List PacketFilter
  pub marks : List Bool

abbrev pub empty_sets : Sets
empty_sets = record { filters = no_filters; marks = no_marks }

abbrev pub sets_of : Element → Sets
sets_of e = record { filters = e.filters; marks = e.marks }

abbrev pub laid_into : Sets → Handed → Sets
laid_into s (Filter identifier f) = record { filters = set s.filters identifier f; marks = s.marks }
laid_into s (Identifier identifier) = record { filters = s.filters; marks = set s.marks identifier true }
laid_into s (Refused refusal) = s
laid_into s End = s

-- of an element that does not read as a cause
pub record HandsOutAll (xs : List ℕ) : Type 0 where
  pub entries : All IsEntry (handed_out xs)
  pub steps : StepsThrough xs (first_offset xs) (handed_out xs)
  pub sets : fold laid_into empty_sets (handed_out xs) ≡ sets_of (read_element xs)

-- of an element that does
pub record HandsOutCause (xs : List ℕ) (refusal : Refusal) : Type 0 where
  pub cause : look_at xs (first_offset xs) ≡ Refused refusal
  pub again : after_at xs (first_offset xs) ≡ first_offset xs

-- of every value: at 0 the cause, if there is one; each entry at its offset; at an offset that is neither 0 nor an entry's the end
pub record Everywhere (xs : List ℕ) : Type 0 where
  pub first : Shows xs 0 (cause_in (verdict_on (read_element xs).answer)) 0
  pub there : All (λ p. Shows xs p.at p.entry p.after) (located_of xs)
  pub elsewhere : (at : ℕ) → (at ≡ 0 → ⊥) → All (λ p. p.at ≡ at → ⊥) (located_of xs) → Shows xs at End at
