-- How a value is framed: the list of entries that it has after octet 1, and the count of that list.
use mathlib.Core.Path.{◌≡◌, refl, sym, ◌∙◌, subst}
use mathlib.Core.Bool.{Bool, true, false, not, ◌&&◌}
use mathlib.Core.List.{List, [], ◌∷◌}
use Prim.Native.Nat.{ℕ, ◌+◌, ◌≤◌, ◌<◌}
use native.Mathlib.Omega.{arith}
use lib.Dec.{eqb, leb}
use lib.ListN.{length, take, drop}
use lib.Seq.{length-take-le}
use borrow.Author.Tests.{leb-true, le-leb, ne_eqb}
use Rattle.std.proofs.Common.{Option, None, Some, Result, Ok, Err}
use Rattle.laws.specs.Says.{pick}
use Rattle.element.specs.declared.answer.SetOperation.{SetOperation}
use Rattle.element.specs.declared.answer.SetOperation.TheVariants.{Create, Add, Replace}
use Rattle.element.specs.declared.answer.BareOperation.{BareOperation}
use Rattle.element.specs.declared.answer.BareOperation.TheVariants.{DeleteTft, NoOperation}
use Rattle.element.specs.declared.framing.Frame.{Frame}
use Rattle.element.specs.declared.framing.Frame.TheVariants.{Filters, Identifiers, Bare}
use Rattle.element.specs.Head.{operation_in, extension_in, count_in, create, delete_tft, add, replace, delete_filters, no_operation}
use Rattle.element.specs.Framing.{Raw, Split, cut, split, split_of, rest_fits, Framed, not_framed, filters, identifiers, bare, framed_split, framed_set, framed_identifiers, framed_bare, framed_by, framed_of}
use Rattle.element.specs.Places.{left_by, left_place}
use Rattle.element.specs.Inner.Walk.{frame_by, whole}
use Rattle.element.proofs.Splitting.{rest_at, split_count}

-- ---- a list of filters, by what is left after it
module _ (operation : SetOperation) (e n : ℕ) (s : List ℕ) where
  abbrev place : Option (List ℕ) → ℕ
  place = left_place (1 + length s) e

  abbrev pub set_frame : Result Frame ℕ
  set_frame = frame_by (framed_set operation e n s) (pick (leb 1 n) (place (left_by (split_of n s))) 0)

  abbrev frame_split : Split → Result Frame ℕ
  frame_split q = frame_by (framed_split operation e q) (place (left_by q))

  module _ (some : 0 < n) where
    counted : set_frame ≡ frame_split (split_of n s)
    counted = rw (ne_eqb n 0 (λ z. omega arith), le-leb 1 n (omega arith))

    pub set_cut : left_by (split_of n s) ≡ None → Err (1 + length s) ≡ set_frame
    set_cut h = sym (counted ∙ go (split_of n s) h)
      where
        go : (q : Split) → left_by q ≡ None → frame_split q ≡ Err (1 + length s)
        go cut h = refl
        go (split rs rest) h = absurd (let z : ◌≡◌ {A = ℕ} 0 1 = cc in omega arith)

    module _ (rest : List ℕ) (h : left_by (split_of n s) ≡ Some rest) where
      pub set_left : pick (rest_fits e rest) (Ok (Filters operation n)) (Err (place (Some rest))) ≡ set_frame
      set_left = sym (counted ∙ go (split_of n s) refl h)
        where
          by : (b : Bool) (rs : List Raw) → length rs ≡ n
              → frame_by (pick b (filters operation rs) not_framed) (place (Some rest)) ≡ pick b (Ok (Filters operation n)) (Err (place (Some rest)))
          by true rs k = rw k
          by false rs k = refl

          go : (q : Split) → split_of n s ≡ q → left_by q ≡ Some rest → frame_split q ≡ pick (rest_fits e rest) (Ok (Filters operation n)) (Err (place (Some rest)))
          go cut q h = absurd (let z : ◌≡◌ {A = ℕ} 0 1 = cc in omega arith)
          go (split rs r) q h =
              let same : r ≡ rest = cc in
              rw same (by (rest_fits e rest) rs (split_count n s rs r q))

pub left_short : (n : ℕ) (s rest : List ℕ) → left_by (split_of n s) ≡ Some rest → length rest ≤ length s
left_short n s rest h = go (split_of n s) refl h
  where
    go : (q : Split) → split_of n s ≡ q → left_by q ≡ Some rest → length rest ≤ length s
    go cut e h = absurd (let z : ◌≡◌ {A = ℕ} 0 1 = cc in omega arith)
    go (split rs r) e h = let same : r ≡ rest = cc in rw (← same) (rest_at n s rs r e).0

-- ---- the list that a framed value has
pub record FilterList (s : List ℕ) (rs : List Raw) : Type 0 where
  pub rest : List ℕ
  pub there : split_of (length rs) (drop 1 s) ≡ split rs rest

pub record IdentifierList (s xs : List ℕ) : Type 0 where
  pub few : 1 + length xs ≤ length s
  pub first : take (length xs) (drop 1 s) ≡ xs

abbrev pub Listed : List ℕ → Framed → Type 0
Listed s not_framed = Unit {0}
Listed s (filters operation rs) = FilterList s rs
Listed s (identifiers xs) = IdentifierList s xs
Listed s (bare kind) = Unit {0}

module _ (x : ℕ) (xs : List ℕ) where
  set_listed : (operation : SetOperation) (e n : ℕ) → Listed (x ∷ xs) (framed_set operation e n xs)
  set_listed operation e n = go (eqb n 0) (split_of n xs) refl
    where
      rest : (b : Bool) (rs : List Raw) (r : List ℕ) → split_of n xs ≡ split rs r → Listed (x ∷ xs) (pick b (filters operation rs) not_framed)
      rest true rs r h = record { rest = r; there = rw (split_count n xs rs r h) h }
      rest false rs r h = tt

      go : (b : Bool) (q : Split) → split_of n xs ≡ q → Listed (x ∷ xs) (pick b not_framed (framed_split operation e q))
      go true q h = tt
      go false cut h = tt
      go false (split rs r) h = rest (rest_fits e r) rs r h

  identifiers_listed : (e n : ℕ) → Listed (x ∷ xs) (framed_identifiers e n xs)
  identifiers_listed e n = go (eqb n 0) (leb n (length xs)) (rest_fits e (drop n xs)) refl
    where
      go : (z l r : Bool) → leb n (length xs) ≡ l → Listed (x ∷ xs) (pick (not z && l && r) (identifiers (take n xs)) not_framed)
      go true l r h = tt
      go false false r h = tt
      go false true false h = tt
      go false true true h =
          let g = leb-true n (length xs) h in
          let k : length (take n xs) ≡ n = length-take-le n xs g in
          record { few = omega arith; first = rw k }

  bare_listed : (operation : BareOperation) (e n : ℕ) → Listed (x ∷ xs) (framed_bare operation e n xs)
  bare_listed operation e n = go (eqb n 0 && rest_fits e xs)
    where
      go : (b : Bool) → Listed (x ∷ xs) (pick b (bare operation) not_framed)
      go true = tt
      go false = tt

  by_listed : (operation e n : ℕ) → Listed (x ∷ xs) (framed_by operation e n xs)
  unfolding framed_by
  by_listed operation e n =
      case create _ _ (set_listed Create e n)
      (case delete_tft _ _ (bare_listed DeleteTft e n)
      (case add _ _ (set_listed Add e n)
      (case replace _ _ (set_listed Replace e n) (case delete_filters _ _ (identifiers_listed e n) (case no_operation _ _ (bare_listed NoOperation e n) tt)))))
    where
      either : (b : Bool) (F G : Framed) → Listed (x ∷ xs) F → Listed (x ∷ xs) G → Listed (x ∷ xs) (pick b F G)
      either true F G p q = p
      either false F G p q = q

      case : (k : ℕ) (F G : Framed) → Listed (x ∷ xs) F → Listed (x ∷ xs) G → Listed (x ∷ xs) (pick (eqb operation k) F G)
      case k = either (eqb operation k)

pub listed : (s : List ℕ) → Listed s (framed_of s)
unfolding framed_of
listed [] = tt
listed (x ∷ xs) = by_listed x xs (operation_in x) (extension_in x) (count_in x)

-- ---- and what its frame says of it
abbrev FramedAs : Frame → Framed → Type 0
FramedAs (Filters operation n) F = (rs : List Raw) × (F ≡ filters operation rs) × (length rs ≡ n)
FramedAs (Identifiers n) F = (xs : List ℕ) × (F ≡ identifiers xs) × (length xs ≡ n)
FramedAs (Bare operation) F = F ≡ bare operation

abbrev pub FrameSays : Result Frame ℕ → Framed → ℕ → Type 0
FrameSays (Ok frame) F place = FramedAs frame F
FrameSays (Err p) F place = (F ≡ not_framed) × (p ≡ place)

frame_says : (F : Framed) (place : ℕ) → FrameSays (frame_by F place) F place
frame_says not_framed place = (refl, refl)
frame_says (filters operation rs) place = (rs, refl, refl)
frame_says (identifiers xs) place = (xs, refl, refl)
frame_says (bare operation) place = refl

pub framed_says : (F : Framed) (place : ℕ) (r : Result Frame ℕ) → r ≡ frame_by F place → FrameSays r F place
framed_says F place r e = subst (λ (r : Result Frame ℕ). FrameSays r F place) (sym e) (frame_says F place)

pub record FiltersFramed (s : List ℕ) (n : ℕ) (rs : List Raw) : Type 0 where
  pub rest : List ℕ
  pub there : split_of n (drop 1 s) ≡ split rs rest

pub filters_whole : (s : List ℕ) (n : ℕ) (rs : List Raw) → FiltersFramed s n rs → whole (split_of n (drop 1 s)) ≡ true
filters_whole s n rs f = rw f.there

pub record IdentifiersFramed (s : List ℕ) (n : ℕ) (xs : List ℕ) : Type 0 where
  pub few : 1 + n ≤ length s
  pub first : take n (drop 1 s) ≡ xs

module _ (s : List ℕ) (n : ℕ) where
  pub filters_framed : (rs : List Raw) → FilterList s rs → length rs ≡ n → FiltersFramed s n rs
  filters_framed rs l k = record { rest = l.rest; there = rw k at l.there }

  pub identifiers_framed : (xs : List ℕ) → IdentifierList s xs → length xs ≡ n → IdentifiersFramed s n xs
  identifiers_framed xs l k = record { few = rw k at l.few; first = rw k at l.first }

-- a value that is framed has octet 1
pub filters_some : (s : List ℕ) (operation : SetOperation) (rs : List Raw) → framed_of s ≡ filters operation rs → 0 < length s
unfolding framed_of
filters_some [] operation rs e = absurd (let z : ◌≡◌ {A = ℕ} 0 1 = cc in omega arith)
filters_some (x ∷ xs) operation rs e = omega arith
