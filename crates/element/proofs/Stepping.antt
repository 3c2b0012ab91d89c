-- Stepping from the beginning to the end hands out every entry of the value in its order, and then the end; laid into empty sets, they give what the reader gives.
use mathlib.Core.Path.{◌≡◌, refl, sym, ap, ◌∙◌}
use mathlib.Core.Bool.{Bool, true, false}
use mathlib.Core.List.{List, [], ◌∷◌, map}
use Prim.Native.Nat.{ℕ, zero, suc, ◌+◌, ◌≤◌}
use native.Mathlib.Omega.{arith}
use lib.Dec.{leb}
use lib.ListN.{length, get_or, set}
use borrow.Author.Tests.{eq-eqb, ne_eqb}
use Rattle.std.proofs.Common.{None, Option, Some}
use Rattle.laws.specs.Says.{pick}
use Rattle.laws.specs.Lists.{All, every, fold}
use Rattle.filter.specs.declared.component.Filter.{Filter as PacketFilter}
use Rattle.element.specs.declared.answer.SetOperation.{SetOperation}
use Rattle.element.specs.declared.answer.Cause.TheVariants.{Operation, Semantics, Coding}
use Rattle.element.specs.declared.answer.Refusal.{Refusal}
use Rattle.element.specs.declared.answer.Answer.{Answer}
use Rattle.element.specs.declared.answer.Answer.TheVariants.{Filters, Identifiers, Bare, Refused as refused_with}
use Rattle.element.specs.declared.answer.Element.{Element}
use Rattle.element.specs.declared.entries.Handed.{Handed}
use Rattle.element.specs.declared.entries.Handed.TheVariants.{Filter, Identifier, Refused, End}
use Rattle.element.specs.Numbers.{number_of, verdict_on, handed_number}
use Rattle.element.specs.Framing.{Raw, identifier_in, identifier_of, Framed, not_framed, filters, identifiers, bare, framed_of}
use Rattle.element.specs.Read.{no_filters, no_marks, refused, Entry, entry_fittable, Entries as DecodedEntries, badly, coded, with_entry, entries_of, twice, in_places, filter_set, marked, judged_entries, judged_frame, read_value, unplaced, read_element}
use Rattle.element.specs.Contents.{coded_of}
use Rattle.element.specs.Entries.{Located, coded_filter, located_filter, located_filters, located_identifiers, located_in, located_of, handed_out, nth_by, nth_of, first_offset_by, first_offset, cause_in, located_at, look_at, after_at, after_all, IsEntry, Shows, StepsThrough, empty_sets, sets_of, laid_into, HandsOutAll, HandsOutCause, Everywhere}
use Rattle.element.proofs.Causes.{some_number}
use Rattle.element.proofs.Placing.{read_number_lem, read_same}
use Rattle.element.proofs.Offsets.{nothing_at, nothing_there, Chained, placed_chained, nothing_before}

-- ---- Each entry is handed out at its offset, and the next one at the offset after it
module _ (s : List ℕ) where
  -- the entries ps, the last ones of the value, of which the first begins at an offset
  record Last (at : ℕ) (ps : List Located) : Type 0 where
    begun : 1 ≤ at
    chained : Chained at ps
    found : (q : ℕ) → at ≤ q → located_at (located_of s) q ≡ located_at ps q

  shown : (at : ℕ) (p : Located) → 1 ≤ at → located_at (located_of s) at ≡ p → Shows s at p.entry p.after
  unfolding look_at after_at
  shown at p b e = (rw (ne_eqb at 0 (λ z. omega arith), e), ap (λ (x : Located). x.after) e)

  first_shown : (at : ℕ) (p : Located) (ps : List Located) → Last at (p ∷ ps) → Shows s at p.entry p.after
  unfolding located_at
  first_shown at p ps l = shown at p l.begun (l.found at (omega arith) ∙ rw (eq-eqb p.at at l.chained.0))

  later : (at : ℕ) (p : Located) (ps : List Located) → Last at (p ∷ ps) → Last p.after ps
  unfolding located_at
  later at p ps l =
      let b = l.begun in
      let e = l.chained.0 in
      let m = l.chained.1 in
      record { begun = omega arith; chained = l.chained.2; found = λ q h. l.found q (omega arith) ∙ rw (ne_eqb p.at q (λ z. omega arith)) }

  all_shown : (at : ℕ) (ps : List Located) → Last at ps → All (λ p. Shows s p.at p.entry p.after) ps
  all_shown at [] l = tt
  all_shown at (p ∷ ps) l = (rw l.chained.0 (first_shown at p ps l), all_shown p.after ps (later at p ps l))

  steps_through : (at : ℕ) (ps : List Located) → Last at ps → StepsThrough s at (map (λ p. p.entry) ps)
  unfolding located_at
  steps_through at [] l = shown at (nothing_at at) l.begun (l.found at (omega arith))
  steps_through at (p ∷ ps) l =
      let h = first_shown at p ps l in
      (h.0, rw h.1 (steps_through p.after ps (later at p ps l)))

  placed : Last 1 (located_of s)
  unfolding located_of
  placed = record { begun = omega arith; chained = placed_chained (framed_of s); found = λ q h. refl }

  at_first : Shows s 0 (cause_in (verdict_on (read_element s).answer)) 0
  unfolding look_at after_at
  at_first = (refl, ap (λ (p : Located). p.after) (nothing_before (located_of s) 1 0 placed.chained (omega arith)))

  pub everywhere : Everywhere s
  unfolding located_at
  everywhere =
      record {
        first = at_first;
        there = all_shown 1 (located_of s) placed;
        elsewhere = λ at z h. shown at (nothing_at at) (let n : at ≡ 0 → ⊥ = z in omega (arith, n)) (nothing_there (located_of s) at h);
      }

-- ---- Laid into sets
-- the filters that are well coded, handed out
abbrev handed : List Entry → List Handed
handed es = map (λ e. Filter e.identifier e.filter) es

abbrev HandedAs : List Handed → DecodedEntries → Type 0
HandedAs hs badly = Unit {0}
HandedAs hs (coded es) = hs ≡ handed es

filters_handed : (at : ℕ) (rs : List Raw) → HandedAs (map (λ p. p.entry) (located_filters at rs)) (entries_of rs)
unfolding located_filters entries_of
filters_handed at [] = refl
filters_handed at (r ∷ rs) = go (coded_of r) (entries_of rs) (filters_handed (located_filter at r).after rs)
  where
    hs : List Handed
    hs = map (λ p. p.entry) (located_filters (located_filter at r).after rs)

    go : (c : Option PacketFilter) (es : DecodedEntries) → HandedAs hs es → HandedAs (coded_filter (identifier_of r) c ∷ hs) (with_entry (identifier_of r) c es)
    go None es h = tt
    go (Some f) badly h = tt
    go (Some f) (coded es) h = ap (λ (x : List Handed). Filter (identifier_of r) f ∷ x) h

identifiers_handed : (at : ℕ) (xs : List ℕ) → map (λ p. p.entry) (located_identifiers at xs) ≡ map (λ x. Identifier (identifier_in x)) xs
unfolding located_identifiers
identifiers_handed at [] = refl
identifiers_handed at (x ∷ xs) = ap (λ (hs : List Handed). Identifier (identifier_in x) ∷ hs) (identifiers_handed (at + 1) xs)

filters_lay : (es : List Entry) (row : List PacketFilter) (marks : List Bool)
    → fold laid_into (record { filters = row; marks = marks }) (handed es) ≡ record { filters = in_places es row; marks = marks }
unfolding fold in_places
filters_lay [] row marks = refl
filters_lay (e ∷ es) row marks = filters_lay es (set row e.identifier e.filter) marks

identifiers_lay : (xs : List ℕ) (row : List PacketFilter) (marks : List Bool)
    → fold laid_into (record { filters = row; marks = marks }) (map (λ x. Identifier (identifier_in x)) xs) ≡ record { filters = row; marks = marked xs marks }
unfolding fold marked
identifiers_lay [] row marks = refl
identifiers_lay (x ∷ xs) row marks = identifiers_lay xs row (set marks (identifier_in x) true)

-- ---- Entries all of them
filters_entries : (es : List Entry) → All IsEntry (handed es)
filters_entries [] = tt
filters_entries (e ∷ es) = (tt, filters_entries es)

identifiers_entries : (xs : List ℕ) → All IsEntry (map (λ x. Identifier (identifier_in x)) xs)
identifiers_entries [] = tt
identifiers_entries (x ∷ xs) = (tt, identifiers_entries xs)

-- ---- A value that was judged, and that is no cause
record HandsFrame (F : Framed) (hs : List Handed) : Type 0 where
  entries : All IsEntry hs
  sets : fold laid_into empty_sets hs ≡ sets_of (judged_frame F)

module _ (operation : SetOperation) (rs : List Raw) where
  entries_hand : (hs : List Handed) (E : DecodedEntries) → entries_of rs ≡ E → HandedAs hs E → number_of (judged_entries operation E).answer ≡ 0 → HandsFrame (filters operation rs) hs
  entries_hand hs badly e h q = some_number Coding q
  entries_hand hs (coded es) e h q = rw h (record { entries = filters_entries es; sets = rw e (go (every entry_fittable es) (twice es) q) })
    where
      judged : Bool → Bool → Element
      judged b c = pick b (pick c (refused Coding) (filter_set operation es)) (refused Semantics)

      go : (b c : Bool) → number_of (judged b c).answer ≡ 0 → fold laid_into empty_sets (handed es) ≡ sets_of (judged b c)
      go true true q = some_number Coding q
      go true false q = filters_lay es no_filters no_marks
      go false c q = some_number Semantics q

frame_hands : (F : Framed) → number_of (judged_frame F).answer ≡ 0 → HandsFrame F (map (λ p. p.entry) (located_in F))
unfolding fold
frame_hands not_framed q = some_number Operation q
frame_hands (filters operation rs) q = entries_hand operation rs _ (entries_of rs) refl (filters_handed 1 rs) q
frame_hands (identifiers xs) q = rw (identifiers_handed 1 xs) (record { entries = identifiers_entries xs; sets = identifiers_lay xs no_filters no_marks })
frame_hands (bare kind) q = record { entries = tt; sets = refl }

-- ---- The whole value
-- an answer that is no cause
record NoCause (a : Answer) : Type 0 where
  start : first_offset_by (verdict_on a) ≡ 1
  nth : (hs : List Handed) (n : ℕ) → nth_by (verdict_on a) hs n ≡ get_or hs n End

no_cause : (a : Answer) → number_of a ≡ 0 → NoCause a
no_cause (Filters operation) q = record { start = refl; nth = λ hs n. refl }
no_cause Identifiers q = record { start = refl; nth = λ hs n. refl }
no_cause (Bare kind) q = record { start = refl; nth = λ hs n. refl }
no_cause (refused_with refusal) q = some_number refusal.cause q

module _ (s : List ℕ) where
  judged : number_of (read_element s).answer ≡ 0 → read_element s ≡ judged_frame (framed_of s)
  unfolding unplaced read_value
  judged q = read_same s q ∙ go (leb (length s) 255) (sym (read_number_lem s) ∙ q)
    where
      go : (b : Bool) → number_of (pick b (judged_frame (framed_of s)) (refused Operation)).answer ≡ 0
          → pick b (judged_frame (framed_of s)) (refused Operation) ≡ judged_frame (framed_of s)
      go true q = refl
      go false q = some_number Operation q

  pub hands_out_all : number_of (read_element s).answer ≡ 0 → HandsOutAll s
  unfolding first_offset located_of handed_out
  hands_out_all q =
      let e = judged q in
      let h = frame_hands (framed_of s) (rw e at q) in
      record { entries = h.entries; steps = rw (no_cause (read_element s).answer q).start (steps_through s 1 (located_of s) (placed s)); sets = rw e h.sets }

  pub hands_out_cause : (refusal : Refusal) → (read_element s).answer ≡ refused_with refusal → HandsOutCause s refusal
  unfolding first_offset
  hands_out_cause refusal e =
      let h = at_first s in
      record { cause = rw e (h.0 ∙ rw e); again = rw e h.1 }

-- ---- Entry n is what n steps come to
module _ (s : List ℕ) where
  still : (n at : ℕ) → after_at s at ≡ at → after_all s at n ≡ at
  unfolding after_all
  still zero at e = refl
  still (suc n) at e = rw e (still n at e)

  steps_nth : (hs : List Handed) (at n : ℕ) → StepsThrough s at hs → look_at s (after_all s at n) ≡ get_or hs n End
  unfolding after_all
  steps_nth [] at n h = rw (still n at h.1) h.0
  steps_nth (x ∷ hs) at zero h = h.0
  steps_nth (x ∷ hs) at (suc n) h = steps_nth hs (after_at s at) n h.1

  pub nth_steps : (n : ℕ) → look_at s (after_all s (first_offset s) n) ≡ nth_of s n
  unfolding nth_of
  nth_steps n = go (read_element s).answer refl
    where
      all : number_of (read_element s).answer ≡ 0 → look_at s (after_all s (first_offset s) n) ≡ nth_by (verdict_on (read_element s).answer) (handed_out s) n
      all q = steps_nth (handed_out s) (first_offset s) n (hands_out_all s q).steps ∙ sym ((no_cause (read_element s).answer q).nth (handed_out s) n)

      go : (a : Answer) → (read_element s).answer ≡ a → look_at s (after_all s (first_offset s) n) ≡ nth_by (verdict_on (read_element s).answer) (handed_out s) n
      go (Filters operation) e = all (rw e)
      go Identifiers e = all (rw e)
      go (Bare kind) e = all (rw e)
      go (refused_with refusal) e =
          let h = hands_out_cause s refusal e in
          rw (still n (first_offset s) h.again, e) h.cause

-- ---- Whatever is handed out has the number of what the reader gives: 0, or its cause
entry_number : (hs : List Handed) → All IsEntry hs → (n : ℕ) → handed_number (get_or hs n End) ≡ 0
entry_number [] h n = refl
entry_number (Filter identifier f ∷ hs) h zero = refl
entry_number (Identifier identifier ∷ hs) h zero = refl
entry_number (Refused refusal ∷ hs) h zero = absurd h.0
entry_number (End ∷ hs) h zero = absurd h.0
entry_number (x ∷ hs) h (suc n) = entry_number hs h.1 n

pub nth_number : (s : List ℕ) (n : ℕ) → handed_number (nth_of s n) ≡ number_of (read_element s).answer
unfolding nth_of
nth_number s n = go (read_element s).answer refl
  where
    go : (a : Answer) → (read_element s).answer ≡ a → handed_number (nth_by (verdict_on (read_element s).answer) (handed_out s) n) ≡ number_of (read_element s).answer
    go (Filters operation) e = rw e (entry_number (handed_out s) (hands_out_all s (rw e)).entries n)
    go Identifiers e = rw e (entry_number (handed_out s) (hands_out_all s (rw e)).entries n)
    go (Bare kind) e = rw e (entry_number (handed_out s) (hands_out_all s (rw e)).entries n)
    go (refused_with refusal) e = rw e
