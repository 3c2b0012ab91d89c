-- Where a value that is not framed breaks.
use mathlib.Core.Path.{◌≡◌, refl, sym, ap, ◌∙◌}
use mathlib.Core.Bool.{Bool, true, false, not, ◌&&◌, ◌||◌, false≢true}
use mathlib.Core.List.{List, [], ◌∷◌}
use mathlib.Core.Logic.{◌⊎◌, inl, inr, ⊎_elim}
use Prim.Native.Nat.{ℕ, zero, suc, ◌+◌, ◌-◌, ◌≤◌, ◌<◌}
use native.Mathlib.Nat.{zero-add}
use native.Mathlib.Omega.{arith}
use lib.Dec.{eqb, leb}
use lib.ListN.{length, take, drop, length-take, length-drop, drop_of_length-le}
use lib.Seq.{length-take-le}
use borrow.Author.Tests.{le-leb, lt-leb, leb-true, leb-false, eqb-true, eqb-false, ne_eqb}
use Rattle.std.proofs.Common.{Option, None, Some}
use Rattle.laws.specs.Says.{pick, Says}
use Rattle.laws.proofs.Says.{which, by_test, picked, says_eq, says_le, says_or, says_no, says_ne}
use Rattle.laws.proofs.Tests.{and_false}
use Rattle.laws.proofs.Parts.{part_skip}
use Rattle.element.specs.declared.answer.SetOperation.{SetOperation}
use Rattle.element.specs.declared.answer.SetOperation.TheVariants.{Create, Add, Replace}
use Rattle.element.specs.declared.answer.BareOperation.{BareOperation}
use Rattle.element.specs.declared.answer.BareOperation.TheVariants.{DeleteTft, NoOperation}
use Rattle.element.specs.Head.{longest, operation_in, extension_in, count_in, create, delete_tft, add, replace, delete_filters, no_operation}
use Rattle.element.specs.Framing.{Raw, Split, cut, split, with_raw, split_of, rest_fits, Framed, not_framed, filters, identifiers, bare, framed_split, framed_set, framed_identifiers, framed_bare, framed_by, framed_of}
use Rattle.element.specs.Places.{brings_filters, is_bare, count_fits, left_by, left_after, left_place, unframed_place, framed_place, place_of}
use Rattle.element.specs.Meaning.{OperationWrong, HasEntries, HasNone, CountWrong, HeadWrong, BreaksAt, at_head, at_end, at_left, TooLongOrUnframed}

-- ---- a list of entries in a front of the octets: the front up to what is left after the list has the list, and no more; where an entry is past the end, it is past the
-- end of every front
abbrev Fronts : (List ℕ → Option (List ℕ)) → List ℕ → Option (List ℕ) → Type 0
Fronts after xs None = (m : ℕ) → after (take m xs) ≡ None
Fronts after xs (Some rest) = (length rest ≤ length xs) × (after (take (length xs - length rest) xs) ≡ Some [])

-- .. of filters
abbrev after_filters : ℕ → List ℕ → Option (List ℕ)
after_filters n xs = left_by (split_of n xs)

after_raw_lem : (r : Raw) (q : Split) → left_by (with_raw r q) ≡ left_by q
after_raw_lem r cut = refl
after_raw_lem r (split rs rest) = refl

short_past : (n : ℕ) (xs : List ℕ) → length xs < 3 → after_filters (suc n) xs ≡ None
unfolding split_of
short_past n [] h = refl
short_past n (a ∷ []) h = refl
short_past n (a ∷ p ∷ []) h = refl
short_past n (a ∷ p ∷ l ∷ xs) h = absurd (omega arith)

short_fronts : (n : ℕ) (xs : List ℕ) → length xs < 3 → (m : ℕ) → after_filters (suc n) (take m xs) ≡ None
short_fronts n xs h m = let long = length-take m xs in short_past n (take m xs) (omega arith)

module _ (n a p l : ℕ) where
  there : (xs : List ℕ) → l ≤ length xs → after_filters (suc n) (a ∷ p ∷ l ∷ xs) ≡ after_filters n (drop l xs)
  unfolding split_of
  there xs h = rw (le-leb l (length xs) h) (after_raw_lem _ (split_of n (drop l xs)))

  not_there : (xs : List ℕ) → length xs < l → after_filters (suc n) (a ∷ p ∷ l ∷ xs) ≡ None
  unfolding split_of
  not_there xs h = rw (lt-leb l (length xs) h)

  module _ (xs : List ℕ) where
    -- in a front
    front_there : (k : ℕ) → l ≤ length (take k xs) → after_filters (suc n) (a ∷ p ∷ l ∷ take k xs) ≡ after_filters n (take (k - l) (drop l xs))
    front_there k h =
        let long = length-take k xs in
        there (take k xs) h ∙ rw (part_skip xs 0 k l (omega arith), zero-add l)

    fronts_past : ((k : ℕ) → l ≤ length (take k xs) → after_filters (suc n) (a ∷ p ∷ l ∷ take k xs) ≡ None)
        → (m : ℕ) → after_filters (suc n) (take m (a ∷ p ∷ l ∷ xs)) ≡ None
    fronts_past f zero = short_past n [] (omega arith)
    fronts_past f (suc zero) = short_past n (a ∷ []) (omega arith)
    fronts_past f (suc (suc zero)) = short_past n (a ∷ p ∷ []) (omega arith)
    fronts_past f (suc (suc (suc k))) =
        ⊎_elim (λ t. f k (leb-true l (length (take k xs)) t)) (λ u. not_there (take k xs) (leb-false l (length (take k xs)) u)) (which (leb l (length (take k xs))))

    fronts_more : l ≤ length xs → (q : Option (List ℕ)) → Fronts (after_filters n) (drop l xs) q → Fronts (after_filters (suc n)) (a ∷ p ∷ l ∷ xs) q
    fronts_more h None f = fronts_past (λ k g. front_there k g ∙ f (k - l))
    fronts_more h (Some rest) f =
        let m = length xs - length rest in
        let long = length-drop l xs in
        let within = f.0 in
        let front = length-take-le m xs (omega arith) in
        let e : length (a ∷ p ∷ l ∷ xs) - length rest ≡ suc (suc (suc m)) = omega arith in
        let k : m - l ≡ length (drop l xs) - length rest = omega arith in
        (omega arith, rw e (front_there m (omega arith) ∙ rw k f.1))

filters_fronts : (n : ℕ) (xs : List ℕ) → Fronts (after_filters n) xs (after_filters n xs)
unfolding split_of
filters_fronts zero xs = let e : length xs - length xs ≡ 0 = omega arith in (omega arith, rw e)
filters_fronts (suc n) [] = short_fronts n [] (omega arith)
filters_fronts (suc n) (a ∷ []) = short_fronts n (a ∷ []) (omega arith)
filters_fronts (suc n) (a ∷ p ∷ []) = short_fronts n (a ∷ p ∷ []) (omega arith)
filters_fronts (suc n) (a ∷ p ∷ l ∷ xs) =
    ⊎_elim
    (λ t. let h = leb-true l (length xs) t in rw (there n a p l xs h) (fronts_more n a p l xs h (after_filters n (drop l xs)) (filters_fronts n (drop l xs))))
    (λ u.
    let h = leb-false l (length xs) u in
    rw (not_there n a p l xs h) (fronts_past n a p l xs (λ k g. let long = length-take k xs in absurd (omega arith))))
    (which (leb l (length xs)))

-- .. and of octets
abbrev after_octets : ℕ → List ℕ → Option (List ℕ)
after_octets n xs = pick (leb n (length xs)) (Some (drop n xs)) None

octets_fronts : (n : ℕ) (xs : List ℕ) → Fronts (after_octets n) xs (after_octets n xs)
octets_fronts n xs =
    by_test (Fronts (after_octets n) xs) (leb n (length xs)) (Some (drop n xs)) None
    (λ t.
    let h = leb-true n (length xs) t in
    let long = length-drop n xs in
    let front = length-take-le n xs h in
    let e : length xs - length (drop n xs) ≡ n = omega arith in
    (omega arith, rw (e, le-leb n (length (take n xs)) (omega arith), drop_of_length-le (take n xs) {i = n} (omega arith))))
    (λ u m.
    let h = leb-false n (length xs) u in
    let long = length-take m xs in
    rw (lt-leb n (length (take m xs)) (omega arith)))

module _ (operation n : ℕ) (xs : List ℕ) where
  fronts : Fronts (left_after operation n) xs (left_after operation n xs)
  fronts = go (brings_filters operation)
    where
      go : (b : Bool) → Fronts (λ ys. pick b (after_filters n ys) (after_octets n ys)) xs (pick b (after_filters n xs) (after_octets n xs))
      go true = filters_fronts n xs
      go false = octets_fronts n xs

-- ---- how far the place goes
left_within : (total e : ℕ) (l : Option (List ℕ)) → left_place total e l ≤ total
left_within total e None = omega arith
left_within total e (Some rest) = picked (λ (p : ℕ). p ≤ total) (eqb e 0) (total - length rest) total (omega arith) (omega arith)

pub unframed_within_lem : (s : List ℕ) → unframed_place s ≤ length s
unfolding unframed_place
unframed_within_lem [] = omega arith
unframed_within_lem (x ∷ xs) =
    picked (λ (p : ℕ). p ≤ length (x ∷ xs)) (count_fits (operation_in x) (count_in x)) _ 0
    (let h = left_within (1 + length xs) (extension_in x) (left_after (operation_in x) (count_in x) xs) in omega arith) (omega arith)

-- ---- a head that is right, as a test and as a type
abbrev Fault : ℕ → ℕ → Type 0
Fault operation n = OperationWrong operation ⊎ CountWrong operation n

module _ (operation : ℕ) where
  entries_says : Says (brings_filters operation || eqb operation delete_filters) (HasEntries operation)
  entries_says =
      says_or (says_or (says_or (says_eq operation create) (says_eq operation add)) (says_eq operation replace)) (says_eq operation delete_filters)

  none_says : Says (is_bare operation) (HasNone operation)
  none_says = says_or (says_eq operation delete_tft) (says_eq operation no_operation)

  only_none : HasNone operation → (0 < operation) × (operation < 7) × (HasEntries operation → ⊥)
  only_none (inl e) = (omega arith, omega arith, λ h. absurd (says_ne entries_says (rw e) h))
  only_none (inr e) = (omega arith, omega arith, λ h. absurd (says_ne entries_says (rw e) h))

  only_entries : HasEntries operation → (0 < operation) × (operation < 7)
  only_entries (inl (inl (inl e))) = (omega arith, omega arith)
  only_entries (inl (inl (inr e))) = (omega arith, omega arith)
  only_entries (inl (inr e)) = (omega arith, omega arith)
  only_entries (inr e) = (omega arith, omega arith)

  module _ (n : ℕ) where
    entries_right : HasEntries operation → 1 ≤ n → Fault operation n → ⊥
    entries_right h some (inl (inl z)) = let k = only_entries h in omega arith
    entries_right h some (inl (inr z)) = let k = only_entries h in omega arith
    entries_right h some (inr (inl (_, z))) = omega arith
    entries_right h some (inr (inr (none, _))) = (only_none none).2 h

    none_right : HasNone operation → n ≡ 0 → Fault operation n → ⊥
    none_right h empty (inl (inl z)) = let k = only_none h in omega arith
    none_right h empty (inl (inr z)) = let k = only_none h in omega arith
    none_right h empty (inr (inl (entries, _))) = (only_none h).2 entries
    none_right h empty (inr (inr (_, z))) = omega arith

neither_one : (operation : ℕ) → (HasEntries operation → ⊥) → (HasNone operation → ⊥) → OperationWrong operation
neither_one zero ne nn = inl refl
neither_one (suc zero) ne nn = absurd (ne (inl (inl (inl refl))))
neither_one (suc (suc zero)) ne nn = absurd (nn (inl refl))
neither_one (suc (suc (suc zero))) ne nn = absurd (ne (inl (inl (inr refl))))
neither_one (suc (suc (suc (suc zero)))) ne nn = absurd (ne (inl (inr refl)))
neither_one (suc (suc (suc (suc (suc zero))))) ne nn = absurd (ne (inr refl))
neither_one (suc (suc (suc (suc (suc (suc zero)))))) ne nn = absurd (nn (inr refl))
neither_one (suc (suc (suc (suc (suc (suc (suc k))))))) ne nn = inr (omega arith)

-- the count's test is true where nothing of the two is wrong, and false where something is
module _ (operation n : ℕ) where
  abbrev Told : Bool → Type 0
  Told true = Fault operation n → ⊥
  Told false = Fault operation n

  told : Told (count_fits operation n)
  told =
      by_test Told (brings_filters operation || eqb operation delete_filters) (leb 1 n) _
      (λ t. let h = (entries_says operation).to t in go_some h (leb 1 n) refl)
      (λ u. by_test Told (is_bare operation) (eqb n 0) false
      (λ t. let h = (none_says operation).to t in go_none h (eqb n 0) refl)
      (λ v. inl (neither_one operation (says_ne (entries_says operation) u) (says_ne (none_says operation) v))))
    where
      go_some : HasEntries operation → (b : Bool) → leb 1 n ≡ b → Told b
      go_some h true e = entries_right operation n h (leb-true 1 n e)
      go_some h false e = let z = leb-false 1 n e in inr (inl (h, omega arith))

      go_none : HasNone operation → (b : Bool) → eqb n 0 ≡ b → Told b
      go_none h true e = none_right operation n h (eqb-true n 0 e)
      go_none h false e = let z : n ≡ 0 → ⊥ = eqb-false n 0 e in inr (inr (h, omega arith))

-- ---- a value is framed exactly where its count fits and what is left after its list is what E says
abbrev is_framed : Framed → Bool
is_framed not_framed = false
is_framed (filters operation rs) = true
is_framed (identifiers ids) = true
is_framed (bare kind) = true

abbrev fits_left : ℕ → Option (List ℕ) → Bool
fits_left e None = false
fits_left e (Some rest) = rest_fits e rest

framed_pick : (b : Bool) (F : Framed) → is_framed F ≡ true → is_framed (pick b F not_framed) ≡ b
framed_pick true F h = h
framed_pick false F h = refl

some_count : (n : ℕ) → not (eqb n 0) ≡ leb 1 n
some_count zero = refl
some_count (suc n) = rw (le-leb 1 (suc n) (omega arith), ne_eqb (suc n) 0 (λ z. absurd (omega arith)))

module _ (e n : ℕ) (xs : List ℕ) where
  set_framed : (operation : SetOperation) → is_framed (framed_set operation e n xs) ≡ leb 1 n && fits_left e (after_filters n xs)
  set_framed operation = rw (← some_count n) (go (eqb n 0) (split_of n xs))
    where
      go : (b : Bool) (q : Split) → is_framed (pick b not_framed (framed_split operation e q)) ≡ not b && fits_left e (left_by q)
      go true q = refl
      go false cut = refl
      go false (split rs rest) = framed_pick (rest_fits e rest) (filters operation rs) refl

  identifiers_framed : is_framed (framed_identifiers e n xs) ≡ leb 1 n && fits_left e (after_octets n xs)
  identifiers_framed =
      framed_pick (not (eqb n 0) && leb n (length xs) && rest_fits e (drop n xs)) (identifiers (take n xs)) refl ∙ rw (some_count n) (go (leb 1 n) (leb n (length xs)))
    where
      go : (a b : Bool) → a && b && rest_fits e (drop n xs) ≡ a && fits_left e (pick b (Some (drop n xs)) None)
      go true true = refl
      go true false = refl
      go false b = refl

bare_framed_lem : (e n : ℕ) (xs : List ℕ) (operation : BareOperation) → is_framed (framed_bare operation e n xs) ≡ eqb n 0 && fits_left e (after_octets n xs)
bare_framed_lem e zero xs operation = framed_pick (rest_fits e xs) (bare operation) refl ∙ rw (le-leb 0 (length xs) (omega arith))
bare_framed_lem e (suc n) xs kind = rw (ne_eqb (suc n) 0 (λ z. absurd (omega arith)))

other_framed : (e n : ℕ) (xs : List ℕ) (operation : ℕ) → 7 ≤ operation
    → is_framed (framed_by operation e n xs) ≡ count_fits operation n && fits_left e (left_after operation n xs)
unfolding framed_by
other_framed e n xs operation h = rw (other 1 (omega arith), other 2 (omega arith), other 3 (omega arith), other 4 (omega arith), other 5 (omega arith), other 6 (omega arith))
  where
    other : (k : ℕ) → k < 7 → eqb operation k ≡ false
    other k l = ne_eqb operation k (λ z. absurd (omega arith))

framed_test : (operation e n : ℕ) (xs : List ℕ) → is_framed (framed_by operation e n xs) ≡ count_fits operation n && fits_left e (left_after operation n xs)
unfolding framed_by
framed_test zero e n xs = refl
framed_test (suc zero) e n xs = set_framed e n xs Create
framed_test (suc (suc zero)) e n xs = bare_framed_lem e n xs DeleteTft
framed_test (suc (suc (suc zero))) e n xs = set_framed e n xs Add
framed_test (suc (suc (suc (suc zero)))) e n xs = set_framed e n xs Replace
framed_test (suc (suc (suc (suc (suc zero))))) e n xs = identifiers_framed e n xs
framed_test (suc (suc (suc (suc (suc (suc zero)))))) e n xs = bare_framed_lem e n xs NoOperation
framed_test (suc (suc (suc (suc (suc (suc (suc k))))))) e n xs = other_framed e n xs (suc (suc (suc (suc (suc (suc (suc k))))))) (omega arith)

-- ---- where such a value breaks
unframed : (F : Framed) → is_framed F ≡ false → F ≡ not_framed
unframed not_framed h = refl
unframed (filters operation rs) h = absurd (false≢true (sym h))
unframed (identifiers ids) h = absurd (false≢true (sym h))
unframed (bare kind) h = absurd (false≢true (sym h))

module _ (x : ℕ) (xs : List ℕ) where
  abbrev counts : Bool
  counts = count_fits (operation_in x) (count_in x)

  abbrev left_in : List ℕ → Option (List ℕ)
  left_in = left_after (operation_in x) (count_in x)

  module _ (short : length (x ∷ xs) ≤ longest) (broken : framed_of (x ∷ xs) ≡ not_framed) where
    head_fine_lem : (Fault (operation_in x) (count_in x) → ⊥) → HeadWrong (x ∷ xs) → ⊥
    head_fine_lem fine (inl (inl z)) = omega arith
    head_fine_lem fine (inl (inr z)) = omega arith
    head_fine_lem fine (inr fault) = fine fault

    head_framed : (ys : List ℕ) → is_framed (framed_of (x ∷ ys)) ≡ counts && fits_left (extension_in x) (left_in ys)
    unfolding framed_of
    head_framed ys = framed_test (operation_in x) (extension_in x) (count_in x) ys

    no_front : ((m : ℕ) → left_in (take m xs) ≡ None) → (m : ℕ) → framed_of (take m (x ∷ xs)) ≡ not_framed
    unfolding framed_of
    no_front f zero = refl
    no_front f (suc m) = unframed (framed_of (x ∷ take m xs)) (head_framed (take m xs) ∙ rw (f m) (and_false counts))

    module _ (right : counts ≡ true) (fine : HeadWrong (x ∷ xs) → ⊥) where
      nothing_left : (ys : List ℕ) → extension_in x ≡ 0 → left_in ys ≡ Some [] → framed_of (x ∷ ys) ≡ not_framed → ⊥
      unfolding rest_fits
      nothing_left ys plain e q = false≢true (sym (ap is_framed q) ∙ head_framed ys ∙ rw (right, e, plain))

      some_left : extension_in x ≡ 0 → (rest : List ℕ) → left_in xs ≡ Some rest → 0 < length rest
      some_left plain [] e = absurd (nothing_left xs plain e broken)
      some_left plain (y ∷ rest) e = omega arith

      list_breaks : (l : Option (List ℕ)) → left_in xs ≡ l → Fronts left_in xs l → BreaksAt (x ∷ xs) (left_place (1 + length xs) (extension_in x) l)
      list_breaks None e f = at_end fine (omega arith) (inr (no_front f))
      list_breaks (Some rest) e f =
          by_test (BreaksAt (x ∷ xs)) (eqb (extension_in x) 0) (1 + length xs - length rest) (1 + length xs)
          (λ t.
          let plain = eqb-true (extension_in x) 0 t in
          let some = some_left plain rest e in
          let k : 1 + length xs - length rest ≡ suc (length xs - length rest) = omega (arith, f.0) in
          at_left fine plain (omega arith) (rw k (nothing_left (take (length xs - length rest) xs) plain f.1)))
          (λ u. let some : extension_in x ≡ 0 → ⊥ = eqb-false (extension_in x) 0 u in at_end fine (omega arith) (inl (omega arith)))

    value_breaks : BreaksAt (x ∷ xs) (unframed_place (x ∷ xs))
    unfolding unframed_place
    value_breaks = go counts refl (told (operation_in x) (count_in x))
      where
        go : (b : Bool) → counts ≡ b → Told (operation_in x) (count_in x) b → BreaksAt (x ∷ xs) (pick b (left_place (1 + length xs) (extension_in x) (left_in xs)) 0)
        go true e fine = list_breaks e (head_fine_lem fine) (left_in xs) refl (fronts (operation_in x) (count_in x) xs)
        go false e fault = at_head (inr fault) refl

unframed_breaks : (xs : List ℕ) → length xs ≤ longest → framed_of xs ≡ not_framed → BreaksAt xs (unframed_place xs)
unfolding unframed_place
unframed_breaks [] short broken = at_head (inl (inl refl)) refl
unframed_breaks (x ∷ xs) short broken = value_breaks x xs short broken

pub breaks_says : (xs : List ℕ) → TooLongOrUnframed xs → BreaksAt xs (place_of xs)
unfolding place_of
breaks_says xs (inl long) = rw (says_no (says_le (length xs) longest) long) (at_head (inl (inr (let z : length xs ≤ longest → ⊥ = long in omega arith))) refl)
breaks_says xs (inr broken) =
    by_test (BreaksAt xs) (leb (length xs) longest) (framed_place (framed_of xs) xs) 0
    (λ t. rw broken (unframed_breaks xs (leb-true (length xs) longest t) broken)) (λ u. at_head (inl (inr (leb-false (length xs) longest u))) refl)
