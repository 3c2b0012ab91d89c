-- The filters judged one after the other, each decoded once, are judged as the reader's steps 7, 8 and 9 say, each over every filter, and the place is that of the
-- earliest; and what is made of a value, by how it is framed, is the element that the reader gives.
use mathlib.Core.Path.{◌≡◌, refl, sym, ap, ◌∙◌, subst}
use mathlib.Core.Bool.{Bool, true, false, not, ◌||◌}
use mathlib.Core.List.{List, [], ◌∷◌, ◌++◌, map, map-append}
use Prim.Native.Nat.{ℕ, ◌+◌, ◌≤◌, ◌<◌}
use native.Mathlib.Omega.{arith}
use lib.Dec.{eqb, leb}
use lib.ListN.{length, take, drop, get_or, set}
use borrow.Author.Tests.{leb-true, ne_eqb}
use Rattle.std.proofs.Common.{Option, None, Some, Result, Ok, Err}
use Rattle.std.specs.Option.{option_or}
use Rattle.laws.specs.Says.{pick}
use Rattle.laws.specs.Lists.{All, every}
use Rattle.laws.proofs.Marks.{Marks, marks_none, marks_more}
use Rattle.filter.specs.declared.component.Filter.{Filter}
use Rattle.filter.specs.Sizes.{place_count, precedence_count}
use Rattle.filter.specs.Fittable.{fittable}
use Rattle.element.specs.declared.answer.SetOperation.{SetOperation}
use Rattle.element.specs.declared.answer.BareOperation.{BareOperation}
use Rattle.element.specs.declared.answer.Cause.{Cause}
use Rattle.element.specs.declared.answer.Cause.TheVariants.{Operation, Semantics, Coding}
use Rattle.element.specs.declared.answer.Refusal.{Refusal}
use Rattle.element.specs.declared.answer.Answer.TheVariants.{Filters, Bare, Refused}
use Rattle.element.specs.declared.answer.Element.{Element}
use Rattle.element.specs.declared.framing.Frame.{Frame}
use Rattle.element.specs.declared.framing.Frame.TheVariants.{Filters as FiltersFrame, Identifiers as IdentifiersFrame, Bare as BareFrame}
use Rattle.element.specs.Head.{longest}
use Rattle.element.specs.Framing.{Raw, identifier_of, split_of, Framed, not_framed, filters, identifiers, bare, framed_of}
use Rattle.element.specs.Contents.{coded_of}
use Rattle.element.specs.Places.{after_raw, earliest, badly_coded, fits_nothing, precedence_in, repeats_one, filters_place, framed_place, place_of}
use Rattle.element.specs.Read.{no_filters, no_marks, without_sets, refused, entry_fittable, Entries, badly, coded, with_entry, entries_of, twice, in_places, identifier_set, judged_entries, judged_frame, read_value, unplaced, placed, read_element}
use Rattle.element.specs.Inner.Walk.{frame_by, refused_frame, refusal, first_of, judged_by, judged_row, raws_in, whole, no_precedences, framed_within, unframed_within}
use Rattle.element.proofs.Splitting.{OctetPrecedence}
use Rattle.element.proofs.Frames.{Listed, listed, FrameSays, framed_says, filters_framed, filters_whole, identifiers_framed}
use Rattle.element.proofs.Earliest.{badly_none, unfit_none, repeats_none}

-- ---- the walk: the row so far, the identifiers and precedences seen, what was found wrong, and where the next filter begins
pub record State : Type 0 where
  pub row : List Filter
  pub identifiers : List Bool
  pub precedences : List Bool
  pub unfit : Option Refusal
  pub repeated : Option Refusal
  pub at : ℕ

abbrev pub start : State
start = record { row = no_filters; identifiers = no_marks; precedences = no_precedences; unfit = None; repeated = None; at = 1 }

-- after a filter that is well coded
abbrev pub after : State → Raw → Filter → State
after st r f =
    record {
      row = set st.row (identifier_of r) f;
      identifiers = set st.identifiers (identifier_of r) true;
      precedences = set st.precedences r.precedence true;
      unfit = first_of st.unfit (not (fittable f)) (refusal Semantics st.at);
      repeated =
          first_of st.repeated (get_or st.identifiers (identifier_of r) false || get_or st.precedences r.precedence false) (refusal Coding st.at);
      at = after_raw st.at r;
    }

abbrev pub decided : Option Refusal → Option Refusal → List Filter → Result (List Filter) Refusal
decided None None row = Ok row
decided None (Some r) row = Err r
decided (Some u) r row = Err u

abbrev pub coded_by : Option Filter → Refusal → (Filter → Result (List Filter) Refusal) → Result (List Filter) Refusal
coded_by None r go = Err r
coded_by (Some f) r go = go f

pub judge_from : State → List Raw → Result (List Filter) Refusal
judge_from st [] = decided st.unfit st.repeated st.row
judge_from st (r ∷ rs) = coded_by (coded_of r) (refusal Coding st.at) (λ f. judge_from (after st r f) rs)

pub judge_badly : (st : State) (r : Raw) (rs : List Raw) → coded_of r ≡ None → judge_from st (r ∷ rs) ≡ Err (refusal Coding st.at)
unfolding judge_from
judge_badly st r rs e = rw e

pub judge_well : (st : State) (r : Raw) (rs : List Raw) (f : Filter) → coded_of r ≡ Some f → judge_from st (r ∷ rs) ≡ judge_from (after st r f) rs
unfolding judge_from
judge_well st r rs f e = rw e

pub judge_end : (st : State) → judge_from st [] ≡ decided st.unfit st.repeated st.row
unfolding judge_from
judge_end st = refl

pub decided_some : (unfit repeated : Option Refusal) (row : List Filter) (r : Refusal) → Some r ≡ option_or unfit repeated → Err r ≡ decided unfit repeated row
decided_some None None row r e = absurd (let z : ◌≡◌ {A = ℕ} 0 1 = cc in omega arith)
decided_some None (Some p) row r e = let q : r ≡ p = cc in ap Err q
decided_some (Some u) p row r e = let q : r ≡ u = cc in ap Err q

pub decided_none : (unfit repeated : Option Refusal) (row : List Filter) → None ≡ option_or unfit repeated → Ok row ≡ decided unfit repeated row
decided_none None None row e = refl
decided_none None (Some p) row e = absurd (let z : ◌≡◌ {A = ℕ} 0 1 = cc in omega arith)
decided_none (Some u) p row e = absurd (let z : ◌≡◌ {A = ℕ} 0 1 = cc in omega arith)

-- ---- what is found first is kept
abbrev or_place : Option Refusal → Cause → ℕ → Option Refusal
or_place None cause place = pick (eqb place 0) None (Some (refusal cause place))
or_place (Some r) cause place = Some r

or_none : (found : Option Refusal) (cause : Cause) → or_place found cause 0 ≡ found
or_none None cause = refl
or_none (Some r) cause = refl

or_first : (found : Option Refusal) (wrong : Bool) (cause : Cause) (at later : ℕ) → 0 < at
    → or_place (first_of found wrong (refusal cause at)) cause later ≡ or_place found cause (pick wrong at later)
or_first None true cause at later h = rw (ne_eqb at 0 (λ q. omega arith))
or_first None false cause at later h = refl
or_first (Some r) wrong cause at later h = refl

-- what is marked are the identifiers and the precedences of the filters before
abbrev Marked : State → List Raw → Type 0
Marked st before = Marks place_count st.identifiers (map identifier_of before) × Marks precedence_count st.precedences (map precedence_in before)

marked_start : Marked start []
unfolding no_marks no_precedences
marked_start = (marks_none place_count, marks_none precedence_count)

marked_turn : (st : State) (before : List Raw) (r : Raw) (f : Filter) → OctetPrecedence r → Marked st before → Marked (after st r f) (before ++ r ∷ [])
marked_turn st before r f o k =
    rw (map-append identifier_of before (r ∷ []), map-append precedence_in before (r ∷ [])) (
      marks_more place_count st.identifiers (map identifier_of before) (identifier_of r) (omega arith) k.0,
      marks_more precedence_count st.precedences (map precedence_in before) (precedence_in r) o k.1,
    )

-- what a walk gives from a state on, told by the entries that are left
abbrev judged_as : State → List Raw → List Raw → Entries → Result (List Filter) Refusal
judged_as st before rs badly = Err (refusal Coding (earliest badly_coded before st.at rs))
judged_as st before rs (coded es) =
    decided (or_place st.unfit Semantics (earliest fits_nothing before st.at rs)) (or_place st.repeated Coding (earliest repeats_one before st.at rs)) (in_places es st.row)

module _ (st : State) (before : List Raw) (r : Raw) (rs : List Raw) (h : 0 < st.at) (o : OctetPrecedence r) (k : Marked st before) where
  again : repeats_one before r ≡ get_or st.identifiers (identifier_of r) false || get_or st.precedences r.precedence false
  unfolding repeats_one
  again = sym (rw (k.0.tells (identifier_of r) (omega arith), k.1.tells (precedence_in r) o))

  judged_well : (f : Filter) → coded_of r ≡ Some f → (E : Entries)
      → judged_as (after st r f) (before ++ r ∷ []) rs E ≡ judged_as st before (r ∷ rs) (with_entry (identifier_of r) (Some f) E)
  unfolding earliest in_places
  judged_well f e badly = rw e
  judged_well f e (coded es) =
      rw (e, again, or_first st.unfit (not (fittable f)) Semantics st.at _ h)
      (rw (or_first st.repeated (get_or st.identifiers (identifier_of r) false || get_or st.precedences r.precedence false) Coding st.at _ h))

  judged_turn : (c : Option Filter) → coded_of r ≡ c
      → ((f : Filter) → judge_from (after st r f) rs ≡ judged_as (after st r f) (before ++ r ∷ []) rs (entries_of rs))
      → coded_by c (refusal Coding st.at) (λ f. judge_from (after st r f) rs) ≡ judged_as st before (r ∷ rs) (with_entry (identifier_of r) c (entries_of rs))
  unfolding earliest
  judged_turn None e later = rw e
  judged_turn (Some f) e later = later f ∙ judged_well f e (entries_of rs)

judged : (st : State) (before rs : List Raw) → 0 < st.at → All OctetPrecedence rs → Marked st before → judge_from st rs ≡ judged_as st before rs (entries_of rs)
unfolding judge_from entries_of earliest in_places
judged st before [] h small k = rw (or_none st.unfit Semantics, or_none st.repeated Coding)
judged st before (r ∷ rs) h small k =
    judged_turn st before r rs h small.0 k (coded_of r) refl
    (λ f. judged (after st r f) (before ++ r ∷ []) rs (omega arith) small.1 (marked_turn st before r f small.0 k))

-- ---- all the filters
module _ (rs : List Raw) where
  whole_row : (E : Entries) → entries_of rs ≡ E → judged_as start [] rs E ≡ judged_by (filters_place rs) E
  unfolding filters_place
  whole_row badly e = let w : eqb (earliest badly_coded [] 1 rs) 0 ≡ false = badly_none [] 1 rs (omega arith) ∙ rw e in rw w
  whole_row (coded es) e =
      go (every entry_fittable es) (twice es)
      (badly_none [] 1 rs (omega arith) ∙ rw e) (unfit_none [] 1 rs es (omega arith) e) (repeats_none 1 rs es (omega arith) e)
    where
      place : ℕ
      place = pick (eqb (earliest badly_coded [] 1 rs) 0) (pick (eqb (earliest fits_nothing [] 1 rs) 0) (earliest repeats_one [] 1 rs) (earliest fits_nothing [] 1 rs)) (earliest badly_coded [] 1 rs)

      go : (fit twice : Bool) → eqb (earliest badly_coded [] 1 rs) 0 ≡ true → eqb (earliest fits_nothing [] 1 rs) 0 ≡ fit → eqb (earliest repeats_one [] 1 rs) 0 ≡ not twice
          → judged_as start [] rs (coded es) ≡ pick fit (pick twice (Err (refusal Coding place)) (Ok (in_places es no_filters))) (Err (refusal Semantics place))
      go true true b u r = rw (b, u, r)
      go true false b u r = rw (u, r)
      go false twice b u r = rw (b, u)

  pub row_judged : All OctetPrecedence rs → judge_from start rs ≡ judged_row rs
  row_judged small = judged start [] rs (omega arith) small marked_start ∙ whole_row (entries_of rs) refl

-- ---- the element of a filter set, by its row or by why it is refused
abbrev pub set_element : SetOperation → Result (List Filter) Refusal → Element
set_element operation (Ok row) = record { answer = Filters operation; filters = row; marks = no_marks }
set_element operation (Err r) = without_sets (Refused r)

set_judged : (operation : SetOperation) (place : ℕ) (E : Entries) → set_element operation (judged_by place E) ≡ placed place (judged_entries operation E)
set_judged operation place badly = refl
set_judged operation place (coded es) = go (every entry_fittable es) (twice es)
  where
    go : (fit twice : Bool)
        → set_element operation (pick fit (pick twice (Err (refusal Coding place)) (Ok (in_places es no_filters))) (Err (refusal Semantics place)))
        ≡ placed place (pick fit (pick twice (refused Coding) (record { answer = Filters operation; filters = in_places es no_filters; marks = no_marks })) (refused Semantics))
    go true true = refl
    go true false = refl
    go false twice = refl

-- ---- a value's element, by how the value is framed
module _ (s : List ℕ) where
  -- the place of a value that is framed so, or not at all
  abbrev place_for : Framed → ℕ
  place_for not_framed = unframed_within s
  place_for (filters operation rs) = filters_place rs
  place_for (identifiers xs) = 0
  place_for (bare kind) = 0

  place_short : leb (length s) longest ≡ true → (F : Framed) → place_for F ≡ framed_place F s
  place_short e not_framed = rw e
  place_short e (filters operation rs) = refl
  place_short e (identifiers xs) = refl
  place_short e (bare kind) = refl

  read_framed : placed (place_for (framed_within s)) (judged_frame (framed_within s)) ≡ read_element s
  unfolding read_element unplaced read_value place_of
  read_framed = go (leb (length s) longest) refl
    where
      go : (b : Bool) → leb (length s) longest ≡ b
          → placed (place_for (pick b (framed_of s) not_framed)) (judged_frame (pick b (framed_of s) not_framed))
          ≡ placed (pick b (framed_place (framed_of s) s) 0) (pick b (judged_frame (framed_of s)) (refused Operation))
      go true e = ap (λ (p : ℕ). placed p (judged_frame (framed_of s))) (place_short e (framed_of s))
      go false e = ap (λ (p : ℕ). placed p (refused Operation)) (rw e)

  pub read_unframed : framed_within s ≡ not_framed → without_sets (Refused (refusal Operation (unframed_within s))) ≡ read_element s
  read_unframed e = rw e at read_framed

  pub read_filters : (operation : SetOperation) (rs : List Raw) → framed_within s ≡ filters operation rs → set_element operation (judged_row rs) ≡ read_element s
  read_filters operation rs e = set_judged operation (filters_place rs) (entries_of rs) ∙ rw e at read_framed

  pub read_identifiers : (xs : List ℕ) → framed_within s ≡ identifiers xs → identifier_set xs ≡ read_element s
  read_identifiers xs e = rw e at read_framed

  pub read_bare : (operation : BareOperation) → framed_within s ≡ bare operation → without_sets (Bare operation) ≡ read_element s
  read_bare operation e = rw e at read_framed

  -- what is framed is short, and not empty
  abbrev Fits : Framed → Type 0
  Fits not_framed = Unit {0}
  Fits (filters operation rs) = (0 < length s) × (length s ≤ longest)
  Fits (identifiers xs) = (0 < length s) × (length s ≤ longest)
  Fits (bare kind) = (0 < length s) × (length s ≤ longest)

  framed_fits : (F : Framed) → 0 < length s → length s ≤ longest → Fits F
  framed_fits not_framed h l = tt
  framed_fits (filters operation rs) h l = (h, l)
  framed_fits (identifiers xs) h l = (h, l)
  framed_fits (bare kind) h l = (h, l)

  pub listed_within : Listed s (framed_within s)
  listed_within = go (leb (length s) longest)
    where
      go : (b : Bool) → Listed s (pick b (framed_of s) not_framed)
      go true = listed s
      go false = tt

pub fits_within : (s : List ℕ) → Fits s (framed_within s)
unfolding framed_of
fits_within [] = tt
fits_within (x ∷ xs) = go (leb (length (x ∷ xs)) longest) refl
  where
    go : (b : Bool) → leb (length (x ∷ xs)) longest ≡ b → Fits (x ∷ xs) (pick b (framed_of (x ∷ xs)) not_framed)
    go true e = framed_fits (x ∷ xs) (framed_of (x ∷ xs)) (omega arith) (leb-true (length (x ∷ xs)) longest e)
    go false e = tt

-- ---- the same, told by how the code frames the value
module _ (s : List ℕ) where
  abbrev Told : Result Frame Refusal → Type 0
  Told r = r ≡ refused_frame (frame_by (framed_within s) (unframed_within s))

  frame_told : (frame : Frame) → Told (Ok frame) → FrameSays (Ok frame) (framed_within s) (unframed_within s)
  frame_told frame e = framed_says (framed_within s) (unframed_within s) (Ok frame) (go (frame_by (framed_within s) (unframed_within s)) e)
    where
      go : (r : Result Frame ℕ) → Ok frame ≡ refused_frame r → Ok frame ≡ r
      go (Ok f) e = let q : frame ≡ f = cc in ap Ok q
      go (Err p) e = absurd (let z : ◌≡◌ {A = ℕ} 0 1 = cc in omega arith)

  pub told_unframed : (r : Refusal) → Told (Err r) → without_sets (Refused r) ≡ read_element s
  told_unframed r e = go (framed_within s) refl e
    where
      go : (F : Framed) → framed_within s ≡ F → Err r ≡ refused_frame (frame_by F (unframed_within s)) → without_sets (Refused r) ≡ read_element s
      go not_framed q e = let k : r ≡ refusal Operation (unframed_within s) = cc in rw k (read_unframed s q)
      go (filters operation rs) q e = absurd (let z : ◌≡◌ {A = ℕ} 0 1 = cc in omega arith)
      go (identifiers xs) q e = absurd (let z : ◌≡◌ {A = ℕ} 0 1 = cc in omega arith)
      go (bare kind) q e = absurd (let z : ◌≡◌ {A = ℕ} 0 1 = cc in omega arith)

  pub record FramedFilters (operation : SetOperation) (n : ℕ) : Type 0 where
    pub fits : (0 < length s) × (length s ≤ longest)
    pub whole : whole (split_of n (drop 1 s)) ≡ true
    pub read : (r : Result (List Filter) Refusal) → r ≡ judged_row (raws_in (split_of n (drop 1 s))) → set_element operation r ≡ read_element s

  pub told_filters : (operation : SetOperation) (n : ℕ) → Told (Ok (FiltersFrame operation n)) → FramedFilters operation n
  told_filters operation n e =
      let says = frame_told (FiltersFrame operation n) e in
      let framed = filters_framed s n says.0 (subst (Listed s) says.1 (listed_within s)) says.2 in
      record {
        fits = subst (Fits s) says.1 (fits_within s);
        whole = filters_whole s n says.0 framed;
        read = λ r q. rw (q, framed.there) (read_filters s operation says.0 says.1);
      }

  pub record FramedIdentifiers (n : ℕ) : Type 0 where
    pub few : 1 + n ≤ length s
    pub read : identifier_set (take n (drop 1 s)) ≡ read_element s

  pub told_identifiers : (n : ℕ) → Told (Ok (IdentifiersFrame n)) → FramedIdentifiers n
  told_identifiers n e =
      let says = frame_told (IdentifiersFrame n) e in
      let framed = identifiers_framed s n says.0 (subst (Listed s) says.1 (listed_within s)) says.2 in
      record { few = framed.few; read = rw framed.first (read_identifiers s says.0 says.1) }

  pub told_bare : (operation : BareOperation) → Told (Ok (BareFrame operation)) → without_sets (Bare operation) ≡ read_element s
  told_bare operation e = read_bare s operation (frame_told (BareFrame operation) e)
