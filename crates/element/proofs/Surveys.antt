-- What a survey of a row tells: how many places hold a filter, whether the reader could give each, and whether two precedences are one.
use mathlib.Core.Path.{◌≡◌, refl, sym, ap, ◌∙◌}
use mathlib.Core.Bool.{Bool, true, false, not, ◌&&◌, ◌||◌, and_assoc, and-true}
use mathlib.Core.List.{List, [], ◌∷◌, map}
use Prim.Native.Nat.{ℕ, suc, ◌+◌, ◌<◌}
use native.Mathlib.Nat.{zero-add}
use native.Mathlib.Omega.{arith}
use lib.Dec.{leb}
use lib.ListN.{length, get_or, set}
use Rattle.laws.specs.Says.{pick}
use Rattle.laws.specs.Lists.{All, Each, every, fold, repeats}
use Rattle.laws.proofs.Marks.{again, is_marked, with_mark, bools_repeat}
use Rattle.filter.specs.declared.component.Filter.{Filter}
use Rattle.filter.specs.Coding.{held}
use Rattle.filter.specs.Ranges.{FilterInRange}
use Rattle.filter.specs.Fittable.{place_fine}
use Rattle.filter.specs.Sizes.{place_count, precedence_count}
use Rattle.element.specs.Read.{Entry, precedence_of}
use Rattle.element.specs.Write.{entries_from, row_given}
use Rattle.element.specs.Inner.Walk.{no_precedences}

-- of the places so far: how many hold a filter, whether the reader could give each, whether a precedence came again, and the precedences seen
pub record Survey : Type 0 where
  pub count : ℕ
  pub given : Bool
  pub repeated : Bool
  pub precedences : List Bool

abbrev pub survey_start : Survey
survey_start = record { count = 0; given = true; repeated = false; precedences = no_precedences }

abbrev pub surveyed_by : Bool → Survey → Filter → Survey
surveyed_by true st f =
    record {
      count = st.count + 1;
      given = st.given && place_fine f;
      repeated = st.repeated || get_or st.precedences f.precedence false;
      precedences = set st.precedences f.precedence true;
    }
surveyed_by false st f = record { count = st.count; given = st.given && place_fine f; repeated = st.repeated; precedences = st.precedences }

pub surveyed : Survey → Filter → Survey
surveyed st f = surveyed_by (held f) st f

pub surveyed_held : (st : Survey) (f : Filter) → held f ≡ true → surveyed st f ≡ surveyed_by true st f
unfolding surveyed
surveyed_held st f e = rw e

pub surveyed_not : (st : Survey) (f : Filter) → held f ≡ false → surveyed st f ≡ surveyed_by false st f
unfolding surveyed
surveyed_not st f e = rw e

survey_count : (row : List Filter) (i : ℕ) (st : Survey) → (fold surveyed st row).count ≡ st.count + length (entries_from i row)
unfolding fold surveyed entries_from
survey_count [] i st = omega arith
survey_count (f ∷ fs) i st =
    survey_count fs (suc i) (surveyed st f) ∙ go (held f) (record { identifier = i; filter = f }) (entries_from (suc i) fs)
  where
    go : (b : Bool) (e : Entry) (es : List Entry) → (surveyed_by b st f).count + length es ≡ st.count + length (pick b (e ∷ es) es)
    go true e es = omega arith
    go false e es = refl

survey_given : (row : List Filter) (st : Survey) → (fold surveyed st row).given ≡ st.given && every place_fine row
unfolding fold surveyed every
survey_given [] st = sym (and-true st.given)
survey_given (f ∷ fs) st =
    survey_given fs (surveyed st f)
    ∙ ap (λ (b : Bool). b && every place_fine fs) (go (held f))
    ∙ and_assoc st.given (place_fine f) (every place_fine fs)
  where
    go : (b : Bool) → (surveyed_by b st f).given ≡ st.given && place_fine f
    go true = refl
    go false = refl

survey_repeated : (row : List Filter) (i : ℕ) (st : Survey)
    → (fold surveyed st row).repeated ≡ again is_marked with_mark (map precedence_of (entries_from i row)) st.precedences st.repeated
unfolding fold surveyed entries_from again
survey_repeated [] i st = refl
survey_repeated (f ∷ fs) i st = survey_repeated fs (suc i) (surveyed st f) ∙ go (held f) (entries_from (suc i) fs)
  where
    go : (b : Bool) (es : List Entry)
        → again is_marked with_mark (map precedence_of es) (surveyed_by b st f).precedences (surveyed_by b st f).repeated
        ≡ again is_marked with_mark (map precedence_of (pick b (record { identifier = i; filter = f } ∷ es) es)) st.precedences st.repeated
    go true es = refl
    go false es = refl

precedences_small : (row : List Filter) (i : ℕ) → All FilterInRange row → All (λ x. x < precedence_count) (map precedence_of (entries_from i row))
unfolding entries_from
precedences_small [] i h = tt
precedences_small (f ∷ fs) i h = go (held f) (entries_from (suc i) fs) (precedences_small fs (suc i) h.1)
  where
    go : (b : Bool) (es : List Entry) → All (λ x. x < precedence_count) (map precedence_of es)
        → All (λ x. x < precedence_count) (map precedence_of (pick b (record { identifier = i; filter = f } ∷ es) es))
    go true es g = (h.0.precedence, g)
    go false es g = g

-- the test at the end of the survey
pub survey_row : (row : List Filter) → Each FilterInRange place_count row → (st : Survey) → st ≡ fold surveyed survey_start row
    → st.given && leb 1 st.count && leb st.count 15 && not st.repeated ≡ row_given row
unfolding row_given no_precedences
survey_row row ok st e =
    let n : st.count ≡ length (entries_from 0 row) = ap (λ (s : Survey). s.count) e ∙ survey_count row 0 survey_start ∙ zero-add _ in
    let given : st.given ≡ every place_fine row = ap (λ (s : Survey). s.given) e ∙ survey_given row survey_start in
    let repeated : st.repeated ≡ repeats (map precedence_of (entries_from 0 row)) =
    ap (λ (s : Survey). s.repeated) e ∙ survey_repeated row 0 survey_start
    ∙ bools_repeat precedence_count (map precedence_of (entries_from 0 row)) (precedences_small row 0 ok.all) in
    rw (n, given, repeated)
    (ap (λ (b : Bool). b && not (repeats (map precedence_of (entries_from 0 row))))
    (and_assoc (every place_fine row) (leb 1 (length (entries_from 0 row))) (leb (length (entries_from 0 row)) 15)))
