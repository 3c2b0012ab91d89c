-- The place of the earliest filter that is wrong: it is 0 exactly where none is wrong, lies within the octets of the filters else, and is where that filter
-- begins; and the place of a value is that of the first step that finds a filter wrong.
use mathlib.Core.Path.{◌≡◌, refl, sym, ap, ap₂, ◌∙◌, subst}
use mathlib.Core.Bool.{Bool, true, false, not, ◌&&◌, ◌||◌, true≢false, false≢true, and-true, and-false, not-not}
use mathlib.Core.List.{List, [], ◌∷◌, ◌++◌, map, map-append, append-nil, append_assoc}
use mathlib.Core.Logic.{◌⊎◌, inl, inr, ⊎_elim}
use Prim.Native.Nat.{ℕ, zero, suc, ◌+◌, ◌≤◌, ◌<◌}
use native.Mathlib.Omega.{arith}
use lib.Dec.{eqb, leb}
use lib.ListN.{length, take, drop, length-append, take-append-drop}
use lib.Seq.{length-take-le, append_snoc}
use borrow.Author.Tests.{ne_eqb, leb-true, le-leb}
use Rattle.std.proofs.Common.{None, Option, Some as Well}
use Rattle.laws.specs.Says.{pick, Says}
use Rattle.laws.specs.Lists.{All, Some, every, is_in, repeats}
use Rattle.laws.proofs.Says.{by_test, picked, says_true, says_eq, says_not, says_or, says_so, says_no, says_ne}
use Rattle.laws.proofs.Lists.{all_among}
use Rattle.laws.proofs.Marks.{again, is_listed, with_listed, listed_repeat}
use Rattle.filter.specs.declared.component.Filter.{Filter}
use Rattle.filter.specs.Build.{bare}
use Rattle.filter.specs.Fittable.{fittable, SomePacketFits}
use Rattle.filter.proofs.Asked.{any_asked, asked_fits}
use Rattle.filter.proofs.Theorems.{fittable_says}
use Rattle.element.specs.Head.{longest}
use Rattle.element.specs.Framing.{Raw, identifier_of, direction_of, Split, cut, split, with_raw, split_of, Framed, not_framed, filters, identifiers, bare as bare_framed, framed_of}
use Rattle.element.specs.Contents.{coded_of}
use Rattle.element.specs.Read.{Entry, precedence_of, entry_fittable, Entries, badly, coded, with_entry, entries_of, twice}
use Rattle.element.specs.Places.{unframed_place, after_raw, earliest, is_badly, is_unfit, badly_coded, fits_nothing, precedence_in, repeats_one, or_else, filters_place, framed_place, place_of}
use Rattle.element.specs.Meaning.{Octet, NoPacketFits, FilterList, CodedList, SomeFilterBadlyCoded, SomeFilterUnfit, SomethingTwice, raw_octets, raws_octets, IsBadlyCoded, FitsNoPacket, RepeatsOne, EarliestAt}
use Rattle.element.proofs.Keeping.{coded_keeps}
use Rattle.element.proofs.Frames.{Listed, listed}
use Rattle.element.proofs.Decoded.{DecodedAs, RawOctets, EntryDecoded, raw_decoded, list_octets, list_decoded}

-- ---- No filter is wrong
module _ (wrong : List Raw → Raw → Bool) where
  abbrev none_wrong : List Raw → List Raw → Bool
  none_wrong before [] = true
  none_wrong before (r ∷ rs) = not (wrong before r) && none_wrong (before ++ r ∷ []) rs

  earliest_none : (before : List Raw) (at : ℕ) (rs : List Raw) → 0 < at → eqb (earliest wrong before at rs) 0 ≡ none_wrong before rs
  unfolding earliest
  earliest_none before at [] l = refl
  earliest_none before at (r ∷ rs) l = go (wrong before r) (earliest_none (before ++ r ∷ []) (after_raw at r) rs (omega arith))
    where
      go : (b : Bool) → eqb (earliest wrong (before ++ r ∷ []) (after_raw at r) rs) 0 ≡ none_wrong (before ++ r ∷ []) rs
          → eqb (pick b at (earliest wrong (before ++ r ∷ []) (after_raw at r) rs)) 0 ≡ not b && none_wrong (before ++ r ∷ []) rs
      go true e = ne_eqb at 0 (λ q. omega arith)
      go false e = e

  -- ---- The place lies within the filters' octets
  pub earliest_small : (before : List Raw) (at : ℕ) (rs : List Raw) → 0 < at
      → (earliest wrong before at rs ≡ 0) ⊎ (earliest wrong before at rs < at + length (raws_octets rs))
  unfolding earliest
  earliest_small before at [] l = inl refl
  earliest_small before at (r ∷ rs) l = go (wrong before r) (earliest_small (before ++ r ∷ []) (after_raw at r) rs (omega arith))
    where
      later : ℕ
      later = earliest wrong (before ++ r ∷ []) (after_raw at r) rs

      go : (b : Bool) → (later ≡ 0) ⊎ (later < after_raw at r + length (raws_octets rs))
          → (pick b at later ≡ 0) ⊎ (pick b at later < at + length (raw_octets r ++ raws_octets rs))
      go true h = inr (omega arith)
      go false (inl h) = inl h
      go false (inr h) = inr (simp length-append (omega arith))

-- ---- The filters and the entries that they are coded as, one by one
record EntryOf (r : Raw) (e : Entry) : Type 0 where
  identifier : e.identifier ≡ identifier_of r
  decoded : coded_of r ≡ Well e.filter

abbrev Paired : List Raw → List Entry → Type 0
Paired [] [] = Unit {0}
Paired [] (e ∷ es) = ⊥
Paired (r ∷ rs) [] = ⊥
Paired (r ∷ rs) (e ∷ es) = EntryOf r e × Paired rs es

abbrev PairedWith : List Raw → Entries → Type 0
PairedWith rs badly = Unit {0}
PairedWith rs (coded es) = Paired rs es

paired_with : (r : Raw) (rs : List Raw) (c : Option Filter) (E : Entries) → coded_of r ≡ c → PairedWith rs E → PairedWith (r ∷ rs) (with_entry (identifier_of r) c E)
paired_with r rs None E q h = tt
paired_with r rs (Well f) badly q h = tt
paired_with r rs (Well f) (coded es) q h = (record { identifier = refl; decoded = q }, h)

paired : (rs : List Raw) → PairedWith rs (entries_of rs)
unfolding entries_of
paired [] = tt
paired (r ∷ rs) = paired_with r rs (coded_of r) (entries_of rs) refl (paired rs)

coded_paired : (rs : List Raw) (es : List Entry) → entries_of rs ≡ coded es → Paired rs es
coded_paired rs es q = subst (PairedWith rs) q (paired rs)

-- ---- Step 7
abbrev pub is_coded : Entries → Bool
is_coded badly = false
is_coded (coded es) = true

none_badly : (before rs : List Raw) → none_wrong badly_coded before rs ≡ is_coded (entries_of rs)
unfolding entries_of
none_badly before [] = refl
none_badly before (r ∷ rs) = rw (none_badly (before ++ r ∷ []) rs) (go (coded_of r) (entries_of rs))
  where
    go : (c : Option Filter) (E : Entries) → not (is_badly c) && is_coded E ≡ is_coded (with_entry (identifier_of r) c E)
    go None E = refl
    go (Well f) badly = refl
    go (Well f) (coded es) = refl

pub badly_none : (before : List Raw) (at : ℕ) (rs : List Raw) → 0 < at → eqb (earliest badly_coded before at rs) 0 ≡ is_coded (entries_of rs)
badly_none before at rs l = earliest_none badly_coded before at rs l ∙ none_badly before rs

-- ---- Step 8
none_unfit : (before rs : List Raw) (es : List Entry) → Paired rs es → none_wrong fits_nothing before rs ≡ every entry_fittable es
unfolding every
none_unfit before [] [] h = refl
none_unfit before (r ∷ rs) (e ∷ es) h =
    ap₂ ◌&&◌ (ap (λ (c : Option Filter). not (is_unfit c)) h.0.decoded ∙ not-not (entry_fittable e)) (none_unfit (before ++ r ∷ []) rs es h.1)
none_unfit before [] (e ∷ es) h = elim h [ ]
none_unfit before (r ∷ rs) [] h = elim h [ ]

pub unfit_none : (before : List Raw) (at : ℕ) (rs : List Raw) (es : List Entry) → 0 < at → entries_of rs ≡ coded es
    → eqb (earliest fits_nothing before at rs) 0 ≡ every entry_fittable es
unfit_none before at rs es l q = earliest_none fits_nothing before at rs l ∙ none_unfit before rs es (coded_paired rs es q)

-- ---- Step 9
entry_precedence : (r : Raw) (e : Entry) → EntryOf r e → precedence_of e ≡ precedence_in r
unfolding coded_of
entry_precedence r e h = (coded_keeps (bare r.precedence (direction_of r)) r.contents e.filter h.decoded).precedence

same_identifiers : (rs : List Raw) (es : List Entry) → Paired rs es → map identifier_of rs ≡ map (λ e. e.identifier) es
same_identifiers [] [] h = refl
same_identifiers (r ∷ rs) (e ∷ es) h = ap₂ ◌∷◌ (sym h.0.identifier) (same_identifiers rs es h.1)
same_identifiers [] (e ∷ es) h = elim h [ ]
same_identifiers (r ∷ rs) [] h = elim h [ ]

same_precedences : (rs : List Raw) (es : List Entry) → Paired rs es → map precedence_in rs ≡ map precedence_of es
same_precedences [] [] h = refl
same_precedences (r ∷ rs) (e ∷ es) h = ap₂ ◌∷◌ (sym (entry_precedence r e h.0)) (same_precedences rs es h.1)
same_precedences [] (e ∷ es) h = elim h [ ]
same_precedences (r ∷ rs) [] h = elim h [ ]

-- whether one comes again, of the numbers that f gives, after those before, of which something was found or not
came_again : (Raw → ℕ) → List Raw → List Raw → Bool → Bool
came_again f before rs found = again is_listed with_listed (map f rs) (map f before) found

came_again_lem : (f : Raw → ℕ) (before : List Raw) (r : Raw) (rs : List Raw) (found : Bool)
    → came_again f (before ++ r ∷ []) rs (found || is_in (f r) (map f before)) ≡ came_again f before (r ∷ rs) found
unfolding came_again again
came_again_lem f before r rs found = rw (map-append f before (r ∷ []))

none_again : (before rs : List Raw) (a b : Bool)
    → not (a || b) && none_wrong repeats_one before rs ≡ not (came_again identifier_of before rs a || came_again precedence_in before rs b)
unfolding repeats_one came_again again
none_again before [] a b = and-true (not (a || b))
none_again before (r ∷ rs) a b =
    let i = is_in (identifier_of r) (map identifier_of before) in
    let p = is_in (precedence_in r) (map precedence_in before) in
    go a b i p (none_wrong repeats_one (before ++ r ∷ []) rs)
    ∙ none_again (before ++ r ∷ []) rs (a || i) (b || p)
    ∙ ap not (ap₂ ◌||◌ (came_again_lem identifier_of before r rs a) (came_again_lem precedence_in before r rs b))
  where
    go : (a b i p n : Bool) → not (a || b) && (not (i || p) && n) ≡ not ((a || i) || (b || p)) && n
    go true b i p n = refl
    go false true true p n = refl
    go false true false p n = refl
    go false false true p n = refl
    go false false false p n = refl

pub repeats_none : (at : ℕ) (rs : List Raw) (es : List Entry) → 0 < at → entries_of rs ≡ coded es
    → eqb (earliest repeats_one [] at rs) 0 ≡ not (twice es)
unfolding twice came_again
repeats_none at rs es l q =
    earliest_none repeats_one [] at rs l
    ∙ none_again [] rs false false
    ∙ ap not
    (ap₂ ◌||◌
    (listed_repeat (map identifier_of rs) ∙ ap repeats (same_identifiers rs es (coded_paired rs es q)))
    (listed_repeat (map precedence_in rs) ∙ ap repeats (same_precedences rs es (coded_paired rs es q))))

-- ---- The octets of the filters that a list is split into
abbrev OctetsOf : List ℕ → Split → Type 0
OctetsOf xs cut = Unit {0}
OctetsOf xs (split rs rest) = xs ≡ raws_octets rs ++ rest

octets_with : (r : Raw) (xs : List ℕ) (s : Split) → OctetsOf xs s → OctetsOf (raw_octets r ++ xs) (with_raw r s)
octets_with r xs cut h = tt
octets_with r xs (split rs rest) h = ap (λ (ys : List ℕ). raw_octets r ++ ys) h ∙ sym (append_assoc (raw_octets r) (raws_octets rs) rest)

octets_of_lem : (n : ℕ) (xs : List ℕ) → OctetsOf xs (split_of n xs)
unfolding split_of
octets_of_lem zero xs = refl
octets_of_lem (suc n) [] = tt
octets_of_lem (suc n) (a ∷ []) = tt
octets_of_lem (suc n) (a ∷ p ∷ []) = tt
octets_of_lem (suc n) (a ∷ p ∷ l ∷ xs) = go (leb l (length xs)) refl (octets_of_lem n (drop l xs))
  where
    r : Raw
    r = record { first = a; precedence = p; contents = take l xs }

    go : (b : Bool) → leb l (length xs) ≡ b → OctetsOf (drop l xs) (split_of n (drop l xs))
        → OctetsOf (a ∷ p ∷ l ∷ xs) (pick b (with_raw r (split_of n (drop l xs))) cut)
    go false q h = tt
    go true q h =
        let whole : raw_octets r ++ drop l xs ≡ a ∷ p ∷ l ∷ xs
        = rw (length-take-le l xs (leb-true l (length xs) q), take-append-drop l xs) in
        subst (λ (ys : List ℕ). OctetsOf ys (with_raw r (split_of n (drop l xs)))) whole (octets_with r (drop l xs) (split_of n (drop l xs)) h)

pub raws_octets_lem : (n : ℕ) (xs : List ℕ) (rs : List Raw) (rest : List ℕ) → split_of n xs ≡ split rs rest → xs ≡ raws_octets rs ++ rest
raws_octets_lem n xs rs rest q = subst (OctetsOf xs) q (octets_of_lem n xs)

-- ---- The filter at the place is wrong, and none before it is
module _ (wrong : List Raw → Raw → Bool) where
  -- of the filters rs, which begin at an offset and have others before them
  record WrongFirst (before : List Raw) (at : ℕ) (rs : List Raw) (place : ℕ) : Type 0 where
    passed : List Raw
    here : Raw
    after : List Raw
    filters : rs ≡ passed ++ here ∷ after
    begins : place ≡ at + length (raws_octets passed)
    told : wrong (before ++ passed) here ≡ true
    none : (earlier later : List Raw) (r : Raw) → passed ≡ earlier ++ r ∷ later → wrong (before ++ earlier) r ≡ false

  first_here : (before : List Raw) (at : ℕ) (r : Raw) (rs : List Raw) → wrong before r ≡ true → WrongFirst before at (r ∷ rs) at
  first_here before at r rs q =
      record { passed = []; here = r; after = rs; filters = refl; begins = omega arith; told = rw append-nil q; none = λ earlier later x e. absurd (nothing earlier later x e) }
    where
      nothing : (earlier later : List Raw) (x : Raw) → [] ≡ earlier ++ x ∷ later → ⊥
      nothing [] later x e = let z : ◌≡◌ {A = ℕ} 0 1 = cc in omega arith
      nothing (y ∷ earlier) later x e = let z : ◌≡◌ {A = ℕ} 0 1 = cc in omega arith

  first_later : (before : List Raw) (at : ℕ) (r : Raw) (rs : List Raw) (place : ℕ) → wrong before r ≡ false
      → WrongFirst (before ++ r ∷ []) (after_raw at r) rs place → WrongFirst before at (r ∷ rs) place
  first_later before at r rs place q w =
      record {
        passed = r ∷ w.passed;
        here = w.here;
        after = w.after;
        filters = ap (λ (ys : List Raw). r ∷ ys) w.filters;
        begins = w.begins ∙ simp length-append (omega arith);
        told = rw append_snoc at w.told;
        none = none;
      }
    where
      none : (earlier later : List Raw) (x : Raw) → r ∷ w.passed ≡ earlier ++ x ∷ later → wrong (before ++ earlier) x ≡ false
      none [] later x e = let same : r ≡ x = cc in rw (append-nil before, ← same) q
      none (y ∷ earlier) later x e =
          let same : r ≡ y = cc in
          let rest : w.passed ≡ earlier ++ x ∷ later = cc in
          rw (← same) (rw append_snoc at (w.none earlier later x rest))

  wrong_first : (before : List Raw) (at : ℕ) (rs : List Raw) → eqb (earliest wrong before at rs) 0 ≡ false
      → WrongFirst before at rs (earliest wrong before at rs)
  unfolding earliest
  wrong_first before at [] q = absurd (true≢false q)
  wrong_first before at (r ∷ rs) q = go (wrong before r) refl q (wrong_first (before ++ r ∷ []) (after_raw at r) rs)
    where
      later : ℕ
      later = earliest wrong (before ++ r ∷ []) (after_raw at r) rs

      go : (b : Bool) → wrong before r ≡ b → eqb (pick b at later) 0 ≡ false → (eqb later 0 ≡ false → WrongFirst (before ++ r ∷ []) (after_raw at r) rs later)
          → WrongFirst before at (r ∷ rs) (pick b at later)
      go true e q h = first_here before at r rs e
      go false e q h = first_later before at r rs later e (h q)

-- ---- .. in a value that is a list of filters
raws_append : (rs ss : List Raw) → raws_octets (rs ++ ss) ≡ raws_octets rs ++ raws_octets ss
raws_append [] ss = refl
raws_append (r ∷ rs) ss = rw (raws_append rs ss) (sym (append_assoc (raw_octets r) (raws_octets rs) (raws_octets ss)))

-- the octets of one filter among those of all, and of what is left
octets_around : (rs before : List Raw) (here : Raw) (after : List Raw) (rest : List ℕ) → rs ≡ before ++ here ∷ after
    → raws_octets rs ++ rest ≡ raws_octets before ++ (raw_octets here ++ (raws_octets after ++ rest))
octets_around rs before here after rest q = rw (q, raws_append before (here ∷ after)) (simp append_assoc)

-- octet 1, the filters, and what is left
record Octets (xs : List ℕ) (rs : List Raw) : Type 0 where
  first : ℕ
  rest : List ℕ
  octets : xs ≡ first ∷ raws_octets rs ++ rest

list_of_octets : (xs : List ℕ) (l : FilterList xs) → Octets xs l.raws
unfolding framed_of
list_of_octets [] l = absurd (let q = l.framed in let z : ◌≡◌ {A = ℕ} 0 1 = cc in omega arith)
list_of_octets (x ∷ xs) l =
    let there : Listed (x ∷ xs) (filters l.operation l.raws) = subst (Listed (x ∷ xs)) l.framed (listed (x ∷ xs)) in
    record { first = x; rest = there.rest; octets = ap (λ (ys : List ℕ). x ∷ ys) (raws_octets_lem (length l.raws) xs l.raws there.rest there.there) }

module _ (xs : List ℕ) (l : FilterList xs) (wrong : List Raw → Raw → Bool) (Wrong : List Raw → Raw → Type 0)
    (says : (before after : List Raw) (r : Raw) → l.raws ≡ before ++ r ∷ after → Says (wrong before r) (Wrong before r)) where
  earliest_at : eqb (earliest wrong [] 1 l.raws) 0 ≡ false → EarliestAt xs Wrong (earliest wrong [] 1 l.raws)
  earliest_at q =
      let w = wrong_first wrong [] 1 l.raws q in
      let o = list_of_octets xs l in
      record {
        list = l;
        before = w.passed;
        here = w.here;
        after = w.after;
        filters = w.filters;
        first = o.first;
        rest = raws_octets w.after ++ o.rest;
        octets = o.octets ∙ ap (λ (ys : List ℕ). o.first ∷ ys) (octets_around l.raws w.passed w.here w.after o.rest w.filters);
        begins = w.begins ∙ omega arith;
        wrong = (says w.passed w.after w.here w.filters).to w.told;
        none = λ earlier later r e h.
            says_ne (says earlier (later ++ w.here ∷ w.after) r (w.filters ∙ rw e (simp append_assoc))) (w.none earlier later r e) h;
      }

-- ---- What each test says of a filter
badly_says : (before : List Raw) (r : Raw) → Says (badly_coded before r) (IsBadlyCoded before r)
badly_says before r = go (coded_of r)
  where
    go : (c : Option Filter) → Says (is_badly c) (c ≡ None)
    go None = says_true refl
    go (Well f) = record { to = λ e. absurd (false≢true e); from = λ q. absurd (let z : ◌≡◌ {A = ℕ} 0 1 = cc in omega arith) }

unfit_says : (before : List Raw) (r : Raw) → RawOctets r → Says (fits_nothing before r) (FitsNoPacket before r)
unfit_says before r octets = go (coded_of r) (raw_decoded r octets)
  where
    go : (c : Option Filter) → DecodedAs c → Says (is_unfit c) ((f : Filter) × ((c ≡ Well f) × (SomePacketFits f → ⊥)))
    go None d = record { to = λ e. absurd (false≢true e); from = λ h. absurd (let q = h.1.0 in let z : ◌≡◌ {A = ℕ} 0 1 = cc in omega arith) }
    go (Well f) d =
        says_so (says_not (fittable_says f d.sound.in_range)) (λ n. (f, (refl, n)))
        (λ h s. let q = h.1.0 in let same : f ≡ h.0 = cc in h.1.1 (subst SomePacketFits same s))

repeats_says : (before : List Raw) (r : Raw) → Says (repeats_one before r) (RepeatsOne before r)
unfolding repeats_one is_in
repeats_says [] r = record { to = λ e. absurd (false≢true e); from = λ h. absurd h }
repeats_says (b ∷ before) r =
    subst (λ (t : Bool). Says t (RepeatsOne (b ∷ before) r))
    (go (eqb (identifier_of r) (identifier_of b)) (is_in (identifier_of r) (map identifier_of before)) (eqb (precedence_in r) (precedence_in b)) (is_in (precedence_in r) (map precedence_in before)))
    (says_or (says_or (same (identifier_of r) (identifier_of b)) (same (precedence_in r) (precedence_in b))) (repeats_says before r))
  where
    same : (x y : ℕ) → Says (eqb x y) (y ≡ x)
    same x y = says_so (says_eq x y) sym sym

    go : (a i b p : Bool) → (a || b) || (i || p) ≡ (a || i) || (b || p)
    go true i b p = refl
    go false true true p = refl
    go false true false p = refl
    go false false b p = refl

-- ---- Which of the three places is the value's
badly_told : (before rs : List Raw) → Some (λ r. coded_of r ≡ None) rs → none_wrong badly_coded before rs ≡ false
badly_told before (r ∷ rs) (inl h) = rw h
badly_told before (r ∷ rs) (inr h) = rw (badly_told (before ++ r ∷ []) rs h) (and-false (not (is_badly (coded_of r))))
badly_told before [] x' = elim x' [ ]

unfit_told : (es : List Entry) → All EntryDecoded es → Some NoPacketFits es → every entry_fittable es ≡ false
unfolding every
unfit_told (e ∷ es) d (inl h) = rw (says_no (fittable_says e.filter d.0.filter.sound.in_range) h)
unfit_told (e ∷ es) d (inr h) = rw (unfit_told es d.1 h) (and-false (entry_fittable e))
unfit_told [] d x'' = elim x'' [ ]

-- that a packet fits is told so of any filter, its numbers in range or not
fit_told : (es : List Entry) → All (λ e. SomePacketFits e.filter) es → every entry_fittable es ≡ true
unfolding every fittable
fit_told [] h = refl
fit_told (e ∷ es) h =
    let s = h.0 in
    rw (asked_fits e.filter (any_asked e.filter s.header s.valid s.agrees)) (fit_told es h.1)

module _ (xs : List ℕ) where
  list_place : (l : FilterList xs) → place_of xs ≡ filters_place l.raws
  unfolding place_of
  list_place l = rw (le-leb (length xs) longest l.short, l.framed)

  coded_place : (l : CodedList xs) → place_of xs ≡ or_else (earliest fits_nothing [] 1 l.list.raws) (earliest repeats_one [] 1 l.list.raws)
  unfolding filters_place
  coded_place l =
      let none : eqb (earliest badly_coded [] 1 l.list.raws) 0 ≡ true = badly_none [] 1 l.list.raws (omega arith) ∙ ap is_coded l.decoded in
      list_place l.list ∙ rw none

  pub badly_earliest : SomeFilterBadlyCoded xs → EarliestAt xs IsBadlyCoded (place_of xs)
  unfolding filters_place
  badly_earliest s =
      let rs = s.list.raws in
      let some : eqb (earliest badly_coded [] 1 rs) 0 ≡ false = earliest_none badly_coded [] 1 rs (omega arith) ∙ badly_told [] rs s.badly in
      let place : place_of xs ≡ earliest badly_coded [] 1 rs = list_place s.list ∙ rw some in
      subst (EarliestAt xs IsBadlyCoded) (sym place) (earliest_at xs s.list badly_coded IsBadlyCoded (λ before after r q. badly_says before r) some)

  pub unfit_earliest : All Octet xs → SomeFilterUnfit xs → EarliestAt xs FitsNoPacket (place_of xs)
  unfit_earliest octets s =
      let l = s.list.list in
      let rs = l.raws in
      let some : eqb (earliest fits_nothing [] 1 rs) 0 ≡ false
      = unfit_none [] 1 rs s.list.entries (omega arith) s.list.decoded ∙ unfit_told s.list.entries (list_decoded xs octets s.list) s.unfit in
      let place : place_of xs ≡ earliest fits_nothing [] 1 rs = coded_place s.list ∙ rw some in
      subst (EarliestAt xs FitsNoPacket) (sym place)
      (earliest_at xs l fits_nothing FitsNoPacket (λ before after r q. unfit_says before r (all_among RawOctets before r after (subst (All RawOctets) q (list_octets xs octets l)))) some)

  pub twice_earliest : SomethingTwice xs → EarliestAt xs RepeatsOne (place_of xs)
  twice_earliest s =
      let l = s.list.list in
      let rs = l.raws in
      let fit : eqb (earliest fits_nothing [] 1 rs) 0 ≡ true
      = unfit_none [] 1 rs s.list.entries (omega arith) s.list.decoded ∙ fit_told s.list.entries s.fit in
      let some : eqb (earliest repeats_one [] 1 rs) 0 ≡ false = repeats_none 1 rs s.list.entries (omega arith) s.list.decoded ∙ ap not s.again in
      let place : place_of xs ≡ earliest repeats_one [] 1 rs = coded_place s.list ∙ rw fit in
      subst (EarliestAt xs RepeatsOne) (sym place) (earliest_at xs l repeats_one RepeatsOne (λ before after r q. repeats_says before r) some)

  -- ---- The place lies in the value, or is its length
  earliest_within : (l : FilterList xs) (wrong : List Raw → Raw → Bool) → earliest wrong [] 1 l.raws ≤ length xs
  earliest_within l wrong =
      let o = list_of_octets xs l in
      let long : length xs ≡ 1 + length (raws_octets l.raws ++ o.rest) = ap length o.octets ∙ omega arith in
      ⊎_elim (λ e. omega arith) (λ e. omega (arith, length-append (raws_octets l.raws) o.rest)) (earliest_small wrong [] 1 l.raws (omega arith))

  filters_within : (l : FilterList xs) → filters_place l.raws ≤ length xs
  unfolding filters_place
  filters_within l =
      either (earliest badly_coded [] 1 l.raws) _ (earliest_within l badly_coded)
      (either (earliest fits_nothing [] 1 l.raws) _ (earliest_within l fits_nothing) (earliest_within l repeats_one))
    where
      either : (place later : ℕ) → place ≤ length xs → later ≤ length xs → or_else place later ≤ length xs
      either place later p q = picked (λ n. n ≤ length xs) (eqb place 0) later place q p

  pub place_within : unframed_place xs ≤ length xs → place_of xs ≤ length xs
  unfolding place_of
  place_within unframed =
      by_test (λ n. n ≤ length xs) (leb (length xs) longest) (framed_place (framed_of xs) xs) 0
      (λ q. go (leb-true (length xs) longest q) (framed_of xs) refl) (λ q. omega arith)
    where
      go : length xs ≤ longest → (F : Framed) → framed_of xs ≡ F → framed_place F xs ≤ length xs
      go short not_framed q = unframed
      go short (filters operation rs) q = filters_within (record { short = short; operation = operation; raws = rs; framed = q })
      go short (identifiers ids) q = omega arith
      go short (bare_framed kind) q = omega arith
