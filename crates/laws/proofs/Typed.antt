-- What a type tells of its values, and what holds of each element of an array.
use mathlib.Core.Path.{sym, subst}
use Prim.Native.Nat.{ℕ, zero, suc, ◌<◌}
use native.Mathlib.Nat.{not-suc-le-zero, le_of_suc-le-suc}
use mathlib.Core.List.{List, [], ◌∷◌}
use lib.ListN.{length, get_or}
use mir.Val.{Val}
use denote.RattleType.{RattleType}
use denote.Laws.{Is}
use denote.Array.{each, Array}
use denote.Shadow.{shadow}
use denote.Struct.Field.{Field}
use Rattle.laws.specs.Lists.{All, Each}

-- P holds of the author's value wherever the machine's value is one of the field's type
abbrev pub Tells : (F : Field) → (F.Value → Type 0) → Type 0
Tells F P = (x : F.Value) (vs : List Val) → Is F.row (F.into x) vs → P x

module _ {A : Type 0} (P : A → Type 0) where
  pub all_at : (xs : List A) → All P xs → (d : A) (i : ℕ) → i < length xs → P (get_or xs i d)
  all_at [] h d i l = absurd (not-suc-le-zero l)
  all_at (x ∷ xs) h d zero l = h.0
  all_at (x ∷ xs) h d (suc i) l = all_at xs h.1 d i (le_of_suc-le-suc l)

  -- from each place of the list
  pub all_of : (d : A) (xs : List A) → ((k : ℕ) → P (get_or xs k d)) → All P xs
  all_of d [] h = tt
  all_of d (x ∷ xs) h = (h 0, all_of d xs (λ k. h (suc k)))

pub each_at : {A : Type 0} {P : A → Type 0} {n : ℕ} {xs : List A} → Each P n xs → (d : A) (i : ℕ) → i < n → P (get_or xs i d)
each_at {A} {P} {n} {xs} h d i l = all_at P xs h.all d i (subst (λ (k : ℕ). i < k) (sym h.count) l)

-- of an array that is a parameter, a result or a local of its own: R is the element's row, `the_row` of a declared type
module _ (R : RattleType) (P : R.Denot → Type 0) (tells : (x : R.Denot) (vs : List Val) → Is R x vs → P x) where
  rows_tell : (xs : List R.Denot) (us : List Val) → shadow (each R.Denot R.own_val xs us) → All P xs
  rows_tell [] us h = tt
  rows_tell (x ∷ xs) [] h = absurd h
  rows_tell (x ∷ xs) (u ∷ us) h = (tells x (u ∷ []) h.0, rows_tell xs us h.1)

  pub list_tells : (n : ℕ) (xs : List R.Denot) (vs : List Val) → Is (Array R n) xs vs → Each P n xs
  list_tells n xs vs is = record { count = is.1.0.1; all = rows_tell xs is.0 is.1.1 }
