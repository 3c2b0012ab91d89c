-- Laws of what a row of filters, or the marks, are written as, one place after the other.
use mathlib.Core.Path.{◌≡◌, refl, sym, ap, ◌∙◌}
use mathlib.Core.Bool.{Bool, true, false, false≢true, ◌&&◌, not, cond}
use mathlib.Core.Logic.{⊎_elim}
use mathlib.Core.List.{List, [], ◌∷◌, ◌++◌}
use Prim.Native.Nat.{ℕ, suc, ◌+◌, ◌≤◌}
use native.Mathlib.Omega.{arith}
use lib.Dec.{eqb, leb}
use lib.ListN.{length}
use borrow.Author.Tests.{leb-true, not-true}
use Rattle.std.specs.List.{list_all, count_by}
use Rattle.std.proofs.lemmas.List.Sums.{sum_by-cons}
use Rattle.laws.specs.Says.{pick}
use Rattle.laws.specs.Lists.{every}
use Rattle.laws.proofs.Loops.{ByPlaces}
use Rattle.laws.proofs.Tests.{both, either}
use Rattle.filter.specs.declared.component.Filter.{Filter}
use Rattle.filter.specs.Coding.{held, well_coded, empty_place}
use Rattle.filter.specs.Fittable.{fittable, place_fine}
use Rattle.element.specs.Read.{Entry}
use Rattle.element.specs.Write.{entry_octets, entries_from, entries_octets, marks_from}
use Rattle.element.specs.Inner.Walk.{place_octets, mark_octets}

one_more : {A : Type 0} (b : Bool) (x : A) (xs : List A) → pick b (x ∷ xs) xs ≡ pick b (x ∷ []) [] ++ xs
one_more true x xs = refl
one_more false x xs = refl

pub marks_by_places : ByPlaces mark_octets marks_from
unfolding marks_from
marks_by_places = record { none = λ i. refl; more = λ i m ms. one_more m i (marks_from (suc i) ms) }

pub octets_by_places : ByPlaces place_octets (λ i row. entries_octets (entries_from i row))
unfolding entries_octets entries_from place_octets
octets_by_places =
    record {
      none = λ i. refl;
      more = λ i f fs. go (held f) (record { identifier = i; filter = f }) (entries_from (suc i) fs);
    }
  where
    go : (b : Bool) (e : Entry) (es : List Entry) → entries_octets (pick b (e ∷ es) es) ≡ pick b (entry_octets e) [] ++ entries_octets es
    go true e es = refl
    go false e es = refl

-- ---- how many there are
pub entries_counted : (i : ℕ) (row : List Filter) → count_by held row ≡ length (entries_from i row)
unfolding entries_from
entries_counted i [] = refl
entries_counted i (f ∷ fs) = sum_by-cons (λ f. cond (held f) 1 0) f fs ∙ go (held f) (entries_counted (suc i) fs)
  where
    go : (b : Bool) → count_by held fs ≡ length (entries_from (suc i) fs)
        → cond b 1 0 + count_by held fs ≡ length (pick b (record { identifier = i; filter = f } ∷ entries_from (suc i) fs) (entries_from (suc i) fs))
    go true e = omega arith
    go false e = omega arith

pub marks_counted : (i : ℕ) (marks : List Bool) → count_by (λ m. m) marks ≡ length (marks_from i marks)
unfolding marks_from
marks_counted i [] = refl
marks_counted i (m ∷ ms) = sum_by-cons (λ m. cond m 1 0) m ms ∙ go m (marks_counted (suc i) ms)
  where
    go : (b : Bool) → count_by (λ m. m) ms ≡ length (marks_from (suc i) ms)
        → cond b 1 0 + count_by (λ m. m) ms ≡ length (pick b (i ∷ marks_from (suc i) ms) (marks_from (suc i) ms))
    go true e = omega arith
    go false e = omega arith

pub every_all : {A : Type 0} (test : A → Bool) (xs : List A) → list_all test xs ≡ every test xs
unfolding every
every_all test [] = refl
every_all test (x ∷ xs) = ap (λ (b : Bool). test x && b) (every_all test xs)

-- a filter that is held in a place that the reader could give is well coded
pub given_direction : (f : Filter) → place_fine f ≡ true → held f ≡ true → f.direction ≤ 3
unfolding empty_place well_coded
given_direction f g h =
    ⊎_elim (λ e. absurd (held_empty (both (not (held f)) _ (both (not (held f) && eqb f.precedence 0) _ e).0).0))
    (λ w. leb-true f.direction 3 (both (held f) _ (both (held f && leb f.direction 3) _ (both (well_coded f) _ w).0).0).1)
    (either (empty_place f) (well_coded f && fittable f) g)
  where
    held_empty : not (held f) ≡ true → ⊥
    held_empty e = false≢true (sym (not-true (held f) e) ∙ h)
