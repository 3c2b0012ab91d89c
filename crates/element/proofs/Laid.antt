-- Rows and marks as the reader lays them: what a row holds after each entry was stored at its identifier.
use mathlib.Core.Path.{◌≡◌, refl, sym, ◌∙◌, ap}
use mathlib.Core.Bool.{Bool, true, false, false≢true}
use mathlib.Core.List.{List, [], ◌∷◌, map}
use Prim.Native.Nat.{ℕ, zero, suc, ◌+◌, ◌%◌, ◌≤◌, ◌<◌}
use native.Mathlib.Nat.{not-suc-le-zero, le_of_suc-le-suc, zero-add}
use native.Mathlib.Omega.{arith}
use lib.Dec.{eqb}
use lib.ListN.{length, get_or, set, length-set, length-map, get_or-replicate}
use lib.Seq.{get_or-set_other}
use borrow.Author.Tests.{eqb-false, eq-eqb}
use Rattle.laws.specs.Says.{pick}
use Rattle.laws.specs.Lists.{every, All, is_in, repeats}
use Rattle.laws.proofs.Parts.{every_set}
use Rattle.laws.proofs.Repeats.{not_in, no_repeat, turned, With, here, there, with_length, with_out, with_fresh}
use Rattle.laws.proofs.Tests.{or_right, neither}
use Rattle.filter.specs.declared.component.Filter.{Filter}
use Rattle.filter.specs.Coding.{held}
use Rattle.filter.specs.Build.{empty_filter}
use Rattle.filter.specs.Sizes.{place_count}
use Rattle.element.specs.Read.{no_filters, Entry, precedence_of, twice, in_places, marked}
use Rattle.element.specs.Write.{entries_from, marks_from}
use Rattle.element.proofs.Decoded.{EntryDecoded}

-- ---- The precedences of the filters that a row holds
unfoldable pub precedences : List Filter → List ℕ
precedences [] = []
precedences (f ∷ fs) = pick (held f) (f.precedence ∷ precedences fs) (precedences fs)

pub entries_precedences : (i : ℕ) (row : List Filter) → map precedence_of (entries_from i row) ≡ precedences row
unfolding entries_from precedences
entries_precedences i [] = refl
entries_precedences i (f ∷ fs) = go (held f) (entries_precedences (suc i) fs)
  where
    go : (b : Bool) → map precedence_of (entries_from (suc i) fs) ≡ precedences fs
        → map precedence_of (pick b (record { identifier = i; filter = f } ∷ entries_from (suc i) fs) (entries_from (suc i) fs))
        ≡ pick b (f.precedence ∷ precedences fs) (precedences fs)
    go true e = ap (λ (ps : List ℕ). f.precedence ∷ ps) e
    go false e = e

pub entries_count : (i : ℕ) (row : List Filter) → length (entries_from i row) ≡ length (precedences row)
entries_count i row = sym (length-map (entries_from i row) precedence_of) ∙ ap length (entries_precedences i row)

-- a filter that a row holds has its precedence among them
held_in : (row : List Filter) (k : ℕ) → k < length row → held (get_or row k empty_filter) ≡ true → is_in (get_or row k empty_filter).precedence (precedences row) ≡ true
unfolding precedences is_in
held_in [] k l h = absurd (not-suc-le-zero l)
held_in (f ∷ fs) zero l h = rw h (rw (eq-eqb f.precedence f.precedence refl))
held_in (f ∷ fs) (suc k) l h = go (held f) (held_in fs k (le_of_suc-le-suc l) h)
  where
    go : (b : Bool) → is_in (get_or fs k empty_filter).precedence (precedences fs) ≡ true
        → is_in (get_or fs k empty_filter).precedence (pick b (f.precedence ∷ precedences fs) (precedences fs)) ≡ true
    go true e = or_right (eqb (get_or fs k empty_filter).precedence f.precedence) (is_in (get_or fs k empty_filter).precedence (precedences fs)) e
    go false e = e

-- so two filters that it holds differ in precedence where none of them repeats
module _ (f : Filter) (fs : List Filter) (fresh : repeats (precedences (f ∷ fs)) ≡ false) where
  rest_fresh : repeats (precedences fs) ≡ false
  unfolding precedences
  rest_fresh = go (held f) fresh
    where
      go : (b : Bool) → repeats (pick b (f.precedence ∷ precedences fs) (precedences fs)) ≡ false → repeats (precedences fs) ≡ false
      go true e = (no_repeat f.precedence (precedences fs) e).1
      go false e = e

  front_differs : (k : ℕ) → k < length fs → held f ≡ true → held (get_or fs k empty_filter) ≡ true → f.precedence ≡ (get_or fs k empty_filter).precedence → ⊥
  unfolding precedences
  front_differs k l h g e =
      let apart = (no_repeat f.precedence (precedences fs) (rw h at fresh)).0 in
      false≢true (sym apart ∙ (ap (λ (p : ℕ). is_in p (precedences fs)) e ∙ held_in fs k l g))

pub distinct : (row : List Filter) → repeats (precedences row) ≡ false → (j l : ℕ) → j < length row → l < length row
    → held (get_or row j empty_filter) ≡ true → held (get_or row l empty_filter) ≡ true
    → (get_or row j empty_filter).precedence ≡ (get_or row l empty_filter).precedence → j ≡ l
distinct [] fresh j l p q g h e = absurd (not-suc-le-zero p)
distinct (f ∷ fs) fresh zero zero p q g h e = refl
distinct (f ∷ fs) fresh zero (suc l) p q g h e = absurd (front_differs f fs fresh l (le_of_suc-le-suc q) g h e)
distinct (f ∷ fs) fresh (suc j) zero p q g h e = absurd (front_differs f fs fresh j (le_of_suc-le-suc p) h g (sym e))
distinct (f ∷ fs) fresh (suc j) (suc l) p q g h e = ap suc (distinct fs (rest_fresh f fs fresh) j l (le_of_suc-le-suc p) (le_of_suc-le-suc q) g h e)

-- ---- A filter stored where the row held none
with_set : (row : List Filter) (k : ℕ) (f : Filter) → k < length row → held (get_or row k empty_filter) ≡ false → held f ≡ true
    → With f.precedence (precedences row) (precedences (set row k f))
unfolding precedences
with_set [] k f l e h = absurd (not-suc-le-zero l)
with_set (g ∷ row) zero f l e h = rw (e, h) here
with_set (g ∷ row) (suc k) f l e h = go (held g) (with_set row k f (le_of_suc-le-suc l) e h)
  where
    go : (b : Bool) → With f.precedence (precedences row) (precedences (set row k f))
        → With f.precedence (pick b (g.precedence ∷ precedences row) (precedences row)) (pick b (g.precedence ∷ precedences (set row k f)) (precedences (set row k f)))
    go true w = there w
    go false w = w

-- ---- Laying entries whose places are free and whose precedences are new
abbrev Free : List Filter → Entry → Type 0
Free row e = held (get_or row e.identifier empty_filter) ≡ false

abbrev New : List ℕ → Entry → Type 0
New ps e = is_in (precedence_of e) ps ≡ false

free_set : (row : List Filter) (i : ℕ) (f : Filter) (es : List Entry) → is_in i (map (λ e. e.identifier) es) ≡ false → All (Free row) es → All (Free (set row i f)) es
free_set row i f [] e h = tt
free_set row i f (x ∷ es) e h =
    let apart = not_in i x.identifier (map (λ e. e.identifier) es) e in
    (rw (get_or-set_other row i x.identifier f empty_filter (λ s. eqb-false i x.identifier apart.0 (sym s))) h.0, free_set row i f es apart.1 h.1)

new_with : {p : ℕ} {ps qs : List ℕ} (es : List Entry) → With p ps qs → is_in p (map precedence_of es) ≡ false → All (New ps) es → All (New qs) es
new_with [] w e h = tt
new_with {p} (x ∷ es) w e h =
    let apart = not_in p (precedence_of x) (map precedence_of es) e in
    (with_out (precedence_of x) w (turned p (precedence_of x) apart.0) h.0, new_with es w apart.1 h.1)

-- the row holds what it held and the entries, and no precedence repeats
pub record Holds (ps : List ℕ) (es : List Entry) (row : List Filter) : Type 0 where
  pub count : length (precedences row) ≡ length es + length ps
  pub fresh : repeats (precedences row) ≡ false

laid_holds : (es : List Entry) (row : List Filter) → length row ≡ place_count → All EntryDecoded es
    → repeats (map (λ e. e.identifier) es) ≡ false → repeats (map precedence_of es) ≡ false
    → All (Free row) es → All (New (precedences row)) es → repeats (precedences row) ≡ false → Holds (precedences row) es (in_places es row)
unfolding in_places
laid_holds [] row l d i p free new fresh = record { count = sym (zero-add _); fresh = fresh }
laid_holds (e ∷ es) row l d i p free new fresh =
    let ids = no_repeat e.identifier (map (λ e. e.identifier) es) i in
    let ps = no_repeat (precedence_of e) (map precedence_of es) p in
    let w = with_set row e.identifier e.filter (let b = d.0.identifier in omega arith) free.0 d.0.filter.held in
    let rest = laid_holds es (set row e.identifier e.filter) (length-set row e.identifier e.filter ∙ l) d.1 ids.1 ps.1
    (free_set row e.identifier e.filter es ids.0 free.1) (new_with es w ps.0 new.1) (with_fresh w new.0 fresh) in
    record { count = (let c = rest.count in let m = with_length w in omega arith); fresh = rest.fresh }

all_free : (es : List Entry) → All EntryDecoded es → All (Free no_filters) es
unfolding no_filters held
all_free [] d = tt
all_free (e ∷ es) d = (rw (get_or-replicate place_count e.identifier empty_filter empty_filter d.0.identifier) refl, all_free es d.1)

all_new : (es : List Entry) → All (New []) es
unfolding is_in
all_new [] = tt
all_new (e ∷ es) = (refl, all_new es)

none_held : precedences no_filters ≡ []
unfolding precedences no_filters held
none_held = refl

-- from a row that holds none
pub laid_first : (es : List Entry) → All EntryDecoded es → twice es ≡ false → Holds [] es (in_places es no_filters)
unfolding twice no_filters repeats
laid_first es d t =
    let apart = neither (repeats (map (λ e. e.identifier) es)) (repeats (map precedence_of es)) t in
    rw none_held at (laid_holds es no_filters refl d apart.0 apart.1 (all_free es d) (rw none_held (all_new es)) (rw none_held refl))

pub laid_every : (test : Filter → Bool) (es : List Entry) (row : List Filter) → All (λ e. test e.filter ≡ true) es → every test row ≡ true → every test (in_places es row) ≡ true
unfolding in_places
laid_every test [] row h e = e
laid_every test (x ∷ es) row h e = laid_every test es (set row x.identifier x.filter) h.1 (every_set test row x.identifier x.filter e h.0)

-- ---- Marks: each number sets one mark at most, and the first sets one
abbrev marks_count : ℕ → List Bool → ℕ
marks_count i marks = length (marks_from i marks)

marks_set : (marks : List Bool) (i k : ℕ) → (marks_count i marks ≤ marks_count i (set marks k true)) × (marks_count i (set marks k true) ≤ suc (marks_count i marks))
unfolding marks_from
marks_set [] i k = (omega arith, omega arith)
marks_set (true ∷ marks) i zero = (omega arith, omega arith)
marks_set (false ∷ marks) i zero = (omega arith, omega arith)
marks_set (true ∷ marks) i (suc k) = let h = marks_set marks (suc i) k in (omega arith, omega arith)
marks_set (false ∷ marks) i (suc k) = marks_set marks (suc i) k

some_set : (marks : List Bool) (i k : ℕ) → k < length marks → 1 ≤ marks_count i (set marks k true)
unfolding marks_from
some_set [] i k l = absurd (not-suc-le-zero l)
some_set (m ∷ marks) i zero l = omega arith
some_set (true ∷ marks) i (suc k) l = omega arith
some_set (false ∷ marks) i (suc k) l = some_set marks (suc i) k (le_of_suc-le-suc l)

pub marked_few : (xs : List ℕ) (marks : List Bool) → (marks_count 0 marks ≤ marks_count 0 (marked xs marks)) × (marks_count 0 (marked xs marks) ≤ length xs + marks_count 0 marks)
unfolding marked
marked_few [] marks = (omega arith, omega arith)
marked_few (x ∷ xs) marks =
    let h = marked_few xs (set marks (x % 16) true) in
    let g = marks_set marks 0 (x % 16) in
    (omega arith, omega arith)

pub marked_some : (xs : List ℕ) (marks : List Bool) → length marks ≡ place_count → 1 ≤ length xs → 1 ≤ marks_count 0 (marked xs marks)
unfolding marked
marked_some [] marks e l = absurd (not-suc-le-zero l)
marked_some (x ∷ xs) marks e l =
    let h = marked_few xs (set marks (x % 16) true) in
    let g = some_set marks 0 (x % 16) (omega arith) in
    omega arith
