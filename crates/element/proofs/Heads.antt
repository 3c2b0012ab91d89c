-- What step 4 refuses, the reader refuses so too: 42, and the place is 0.
use mathlib.Core.Path.{◌≡◌, refl}
use mathlib.Core.Bool.{Bool, true, false, ◌&&◌, false≢true}
use mathlib.Core.List.{List, [], ◌∷◌}
use Prim.Native.Nat.{ℕ, ◌≤◌}
use native.Mathlib.Omega.{arith}
use lib.Dec.{eqb, leb}
use lib.ListN.{length}
use borrow.Author.Tests.{leb-true, le-leb, ne_eqb}
use Rattle.laws.specs.Says.{pick}
use Rattle.element.specs.declared.answer.Cause.TheVariants.{Operation}
use Rattle.element.specs.Head.{longest, operation_in, extension_in, count_in, head_fine, create, no_operation}
use Rattle.element.specs.Framing.{not_framed, framed_by, framed_of}
use Rattle.element.specs.Places.{unframed_place, framed_place, place_of}
use Rattle.element.specs.Read.{refused, judged_frame, read_value, unplaced, placed, read_element}

-- no operation is 0 or above 6
abbrev Between : ℕ → Bool
Between operation = leb create operation && leb operation no_operation

no_operation_lem : (operation : ℕ) → Between operation ≡ false → (k : ℕ) → Between k ≡ true → eqb operation k ≡ false
no_operation_lem operation h k b = ne_eqb operation k (λ q. false≢true (let z = rw q at h in cc))

unlisted : (operation e n : ℕ) (xs : List ℕ) → Between operation ≡ false → framed_by operation e n xs ≡ not_framed
unfolding framed_by
unlisted operation e n xs h =
    let other = no_operation_lem operation h in
    rw (other 1 refl, other 2 refl, other 3 refl, other 4 refl, other 5 refl, other 6 refl)

head_unframed : (xs : List ℕ) → head_fine xs ≡ false → length xs ≤ longest → framed_of xs ≡ not_framed
unfolding head_fine framed_of
head_unframed [] h l = refl
head_unframed (x ∷ xs) h l =
    unlisted (operation_in x) (extension_in x) (count_in x) xs (rw (le-leb 1 (length (x ∷ xs)) (omega arith), le-leb (length (x ∷ xs)) longest l) at h)

head_place : (xs : List ℕ) → head_fine xs ≡ false → length xs ≤ longest → unframed_place xs ≡ 0
unfolding head_fine unframed_place
head_place [] h l = refl
head_place (x ∷ xs) h l =
    let other = no_operation_lem (operation_in x) (rw (le-leb 1 (length (x ∷ xs)) (omega arith), le-leb (length (x ∷ xs)) longest l) at h) in
    rw (other 1 refl, other 2 refl, other 3 refl, other 4 refl, other 5 refl, other 6 refl)

pub head_refused : (xs : List ℕ) → head_fine xs ≡ false → read_element xs ≡ refused Operation
unfolding read_element unplaced read_value place_of
head_refused xs h = go (leb (length xs) longest) refl
  where
    go : (b : Bool) → leb (length xs) longest ≡ b
        → placed (pick b (framed_place (framed_of xs) xs) 0) (pick b (judged_frame (framed_of xs)) (refused Operation)) ≡ refused Operation
    go true e = let l = leb-true (length xs) longest e in rw (head_unframed xs h l, head_place xs h l)
    go false e = refl
