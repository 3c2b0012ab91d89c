-- Repeats by marks: a walk that marks each number as it comes finds a number marked already exactly where one is there twice, however the marks are kept.
use mathlib.Core.Path.{◌≡◌, refl, sym, ap, ap₂, ◌∙◌}
use mathlib.Core.Bool.{Bool, true, false, ◌||◌, or-false}
use mathlib.Core.List.{List, [], ◌∷◌, ◌++◌}
use Prim.Native.Nat.{ℕ, ◌<◌}
use lib.Dec.{eqb}
use lib.ListN.{length, get_or, set, length-set, replicate, length-replicate, get_or-replicate}
use Rattle.laws.specs.Says.{pick}
use Rattle.laws.specs.Lists.{All, is_in, repeats}
use Rattle.laws.proofs.Index.{set_seen}
use Rattle.laws.proofs.Says.{says_eq, says_so, says_same}

swap : (i m j a : Bool) → (i || m) || (a || j) ≡ (m || a) || (i || j)
swap true true j a = refl
swap true false j true = refl
swap true false j false = refl
swap false true j a = refl
swap false false j true = refl
swap false false j false = refl

turn : (b m r a i : Bool) → (b || m) || (r || (a || i)) ≡ b || ((i || r) || (m || a))
turn true m r a i = refl
turn false true r a true = refl
turn false true true a false = refl
turn false true false a false = refl
turn false false true a true = refl
turn false false true a false = refl
turn false false false true true = refl
turn false false false true false = refl
turn false false false false true = refl
turn false false false false false = refl

-- marks kept as an S: `has` tells whether a number is marked, `with` marks it
module _ {S : Type 0} (has : S → ℕ → Bool) (with : S → ℕ → S) where
  -- whether some number was marked already when it came; b: what was found before these
  unfoldable pub again : List ℕ → S → Bool → Bool
  again [] s b = b
  again (x ∷ xs) s b = again xs (with s x) (b || has s x)

  -- some number is marked
  abbrev any_marked : List ℕ → S → Bool
  any_marked [] s = false
  any_marked (x ∷ xs) s = has s x || any_marked xs s

  -- marks that tell the numbers of some kind apart: a number is marked after x was, where it is x or was marked before
  pub record Tells (Ok : S → Type 0) (Good : ℕ → Type 0) : Type 0 where
    pub keeps : (s : S) (x : ℕ) → Ok s → Ok (with s x)
    pub marks : (s : S) (x y : ℕ) → Ok s → Good x → Good y → has (with s x) y ≡ eqb x y || has s y

  module _ {Ok : S → Type 0} {Good : ℕ → Type 0} (tells : Tells Ok Good) where
    any_with : (xs : List ℕ) (s : S) (x : ℕ) → Ok s → Good x → All Good xs → any_marked xs (with s x) ≡ any_marked xs s || is_in x xs
    unfolding is_in
    any_with [] s x o g h = refl
    any_with (y ∷ xs) s x o g h =
        ap₂ ◌||◌ (tells.marks s x y o g h.0) (any_with xs s x o g h.1) ∙ swap (eqb x y) (has s y) (is_in x xs) (any_marked xs s)

    again_from : (xs : List ℕ) (s : S) (b : Bool) → Ok s → All Good xs → again xs s b ≡ b || (repeats xs || any_marked xs s)
    unfolding again repeats
    again_from [] s true o h = refl
    again_from [] s false o h = refl
    again_from (x ∷ xs) s b o h =
        again_from xs (with s x) (b || has s x) (tells.keeps s x o) h.1
        ∙ ap (λ (t : Bool). (b || has s x) || (repeats xs || t)) (any_with xs s x o h.0 h.1)
        ∙ turn b (has s x) (repeats xs) (any_marked xs s) (is_in x xs)

    none_marked_lem : (xs : List ℕ) (s : S) → ((x : ℕ) → Good x → has s x ≡ false) → All Good xs → any_marked xs s ≡ false
    none_marked_lem [] s e h = refl
    none_marked_lem (x ∷ xs) s e h = rw (e x h.0) (none_marked_lem xs s e h.1)

    -- from no marks, one is marked when it comes exactly where a number is there twice
    pub again_repeats : (xs : List ℕ) (s : S) → Ok s → ((x : ℕ) → Good x → has s x ≡ false) → All Good xs → again xs s false ≡ repeats xs
    again_repeats xs s o e h = again_from xs s false o h ∙ rw (none_marked_lem xs s e h) (or-false (repeats xs))

-- ---- a Bool for each number
abbrev pub is_marked : List Bool → ℕ → Bool
is_marked marks x = get_or marks x false

abbrev pub with_mark : List Bool → ℕ → List Bool
with_mark marks x = set marks x true

bools_tell : (n : ℕ) → Tells is_marked with_mark (λ marks. length marks ≡ n) (λ x. x < n)
bools_tell n =
    record {
      keeps = λ marks x e. length-set marks x true ∙ e;
      marks = λ marks x y e l m. set_seen marks x y true false (λ q. rw e m) ∙ go (eqb x y) (get_or marks y false);
    }
  where
    go : (b m : Bool) → pick b true m ≡ b || m
    go true m = refl
    go false m = refl

pub bools_repeat : (n : ℕ) (xs : List ℕ) → All (λ x. x < n) xs → again is_marked with_mark xs (replicate n false) false ≡ repeats xs
bools_repeat n xs h = again_repeats is_marked with_mark (bools_tell n) xs (replicate n false) (length-replicate n false) (λ x l. get_or-replicate n x false false l) h

-- ---- the numbers themselves, in a list
abbrev pub is_listed : List ℕ → ℕ → Bool
is_listed xs x = is_in x xs

abbrev pub with_listed : List ℕ → ℕ → List ℕ
with_listed xs x = xs ++ x ∷ []

eqb_turned : (x y : ℕ) → eqb x y ≡ eqb y x
eqb_turned x y = says_same (says_eq x y) (says_so (says_eq y x) sym sym)

in_with : (xs : List ℕ) (x y : ℕ) → is_in y (xs ++ x ∷ []) ≡ eqb x y || is_in y xs
unfolding is_in
in_with [] x y = ap (λ (b : Bool). b || false) (eqb_turned y x)
in_with (z ∷ xs) x y = rw (in_with xs x y) (go (eqb y z) (eqb x y) (is_in y xs))
  where
    go : (a b c : Bool) → a || (b || c) ≡ b || (a || c)
    go true true c = refl
    go true false c = refl
    go false b c = refl

listed_tell : Tells is_listed with_listed (λ xs. Unit {0}) (λ x. Unit {0})
listed_tell = record { keeps = λ xs x o. tt; marks = λ xs x y o g h. in_with xs x y }

all_listed : (xs : List ℕ) → All (λ x. Unit {0}) xs
all_listed [] = tt
all_listed (x ∷ xs) = (tt, all_listed xs)

pub listed_repeat : (xs : List ℕ) → again is_listed with_listed xs [] false ≡ repeats xs
unfolding is_in
listed_repeat xs = again_repeats is_listed with_listed listed_tell xs [] tt (λ x g. refl) (all_listed xs)

-- ---- Bools that mark exactly these numbers
pub record Marks (n : ℕ) (marks : List Bool) (xs : List ℕ) : Type 0 where
  pub long : length marks ≡ n
  pub tells : (x : ℕ) → x < n → is_marked marks x ≡ is_in x xs

pub marks_none : (n : ℕ) → Marks n (replicate n false) []
unfolding is_in
marks_none n = record { long = length-replicate n false; tells = λ x l. get_or-replicate n x false false l }

pub marks_more : (n : ℕ) (marks : List Bool) (xs : List ℕ) (y : ℕ) → y < n → Marks n marks xs → Marks n (with_mark marks y) (xs ++ y ∷ [])
marks_more n marks xs y h m =
    record {
      long = (bools_tell n).keeps marks y m.long;
      tells = λ x l. (bools_tell n).marks marks y x m.long h l ∙ ap (λ (b : Bool). eqb y x || b) (m.tells x l) ∙ sym (in_with xs y x);
    }
