-- Laws of `split_of`: the filter at the front of the octets, what is left after all of them, and what octets give.
use mathlib.Core.Path.{◌≡◌, refl, sym, ap, ◌∙◌}
use mathlib.Core.Bool.{Bool, true, false, false≢true}
use mathlib.Core.List.{List, [], ◌∷◌}
use Prim.Native.Nat.{ℕ, zero, suc, ◌+◌, ◌-◌, ◌≤◌, ◌<◌}
use native.Mathlib.Omega.{arith}
use lib.Dec.{leb}
use lib.ListN.{length, take, drop, length-drop}
use lib.Seq.{drop-drop, length-take-le}
use borrow.Author.Tests.{leb-true}
use Rattle.std.proofs.Common.{None, Some}
use Rattle.laws.specs.Says.{pick}
use Rattle.laws.specs.Lists.{All}
use Rattle.laws.proofs.Parts.{all_drop}
use Rattle.element.specs.Framing.{Raw, Split, cut, split, with_raw, split_of}
use Rattle.element.specs.Inner.Walk.{next_filter, whole, raws_in}
use Rattle.element.specs.Meaning.{Octet}
use Rattle.element.proofs.Ending.{split_turn}

abbrev pub OctetPrecedence : Raw → Type 0
OctetPrecedence r = r.precedence < 256

-- ---- the filter at the front
pub next_long : (xs : List ℕ) (x : Raw × List ℕ) → next_filter xs ≡ Some x → length xs ≡ 3 + length x.0.contents + length x.1
next_long [] x e = absurd (let z : ◌≡◌ {A = ℕ} 0 1 = cc in omega arith)
next_long (a ∷ []) x e = absurd (let z : ◌≡◌ {A = ℕ} 0 1 = cc in omega arith)
next_long (a ∷ p ∷ []) x e = absurd (let z : ◌≡◌ {A = ℕ} 0 1 = cc in omega arith)
next_long (a ∷ p ∷ l ∷ xs) x e = by (leb l (length xs)) refl e
  where
    r : Raw
    r = record { first = a; precedence = p; contents = take l xs }

    by : (b : Bool) → leb l (length xs) ≡ b → pick b (Some (r, drop l xs)) None ≡ Some x → length (a ∷ p ∷ l ∷ xs) ≡ 3 + length x.0.contents + length x.1
    by true h q =
        let front : r ≡ x.0 = cc in
        let back : drop l xs ≡ x.1 = cc in
        let within = leb-true l (length xs) h in
        rw (← front, ← back) (let m = length-take-le l xs within in let k = length-drop l xs in omega arith)
    by false h q = absurd (let z : ◌≡◌ {A = ℕ} 0 1 = cc in omega arith)

whole_after : (r : Raw) (q : Split) → whole (with_raw r q) ≡ whole q
whole_after r cut = refl
whole_after r (split rs rest) = refl

-- a turn of a walk over n filters, of which i are passed
module _ (n i : ℕ) (more : i < n) (xs : List ℕ) where
  pub turn : (x : Raw × List ℕ) → next_filter xs ≡ Some x → split_of (n - i) xs ≡ with_raw x.0 (split_of (n - (i + 1)) x.1)
  turn x e =
      let k : n - i ≡ suc (n - (i + 1)) = omega arith in
      rw (k, split_turn (n - (i + 1)) xs, e)

  module _ (there : whole (split_of (n - i) xs) ≡ true) where
    pub turn_there : next_filter xs ≡ None → ⊥
    turn_there e =
        let k : n - i ≡ suc (n - (i + 1)) = omega arith in
        false≢true (rw (k, split_turn (n - (i + 1)) xs, e) at there)

    pub turn_whole : (x : Raw × List ℕ) → next_filter xs ≡ Some x → whole (split_of (n - (i + 1)) x.1) ≡ true
    turn_whole x e = sym (ap whole (turn x e) ∙ whole_after x.0 (split_of (n - (i + 1)) x.1)) ∙ there

-- the filters that are all there
with_raws : (r : Raw) (q : Split) → whole q ≡ true → raws_in (with_raw r q) ≡ r ∷ raws_in q
with_raws r cut h = absurd (false≢true h)
with_raws r (split rs rest) h = refl

pub turn_raws : (n i : ℕ) → i < n → (xs : List ℕ) (x : Raw × List ℕ) → next_filter xs ≡ Some x → whole (split_of (n - i) xs) ≡ true
    → raws_in (split_of (n - i) xs) ≡ x.0 ∷ raws_in (split_of (n - (i + 1)) x.1)
turn_raws n i more xs x e there =
    ap raws_in (turn n i more xs x e) ∙ with_raws x.0 (split_of (n - (i + 1)) x.1) (turn_whole n i more xs there x e)

pub raws_end : (n i : ℕ) → n ≤ i → (xs : List ℕ) → raws_in (split_of (n - i) xs) ≡ []
unfolding split_of
raws_end n i h xs = let k : n - i ≡ 0 = omega arith in rw k

-- ---- what is left after the filters stands at the end of the octets
abbrev Ends : List ℕ → Split → Type 0
Ends xs cut = Unit {0}
Ends xs (split rs rest) = (length rest ≤ length xs) × (drop (length xs - length rest) xs ≡ rest)

-- after k octets more
ends_after : (k : ℕ) (xs : List ℕ) (r : Raw) (q : Split) → k ≤ length xs → Ends (drop k xs) q → Ends xs (with_raw r q)
ends_after k xs r cut h e = tt
ends_after k xs r (split rs rest) h e =
    let n : length (drop k xs) ≡ length xs - k = length-drop k xs in
    let m : length xs - length rest ≡ k + (length (drop k xs) - length rest) = omega (arith, e.0) in
    (omega (arith, e.0), rw (m, ← drop-drop) e.1)

ends : (n : ℕ) (xs : List ℕ) → Ends xs (split_of n xs)
unfolding split_of
ends zero xs = let e : length xs - length xs ≡ 0 = omega arith in (omega arith, rw e)
ends (suc n) [] = tt
ends (suc n) (a ∷ []) = tt
ends (suc n) (a ∷ p ∷ []) = tt
ends (suc n) (a ∷ p ∷ l ∷ xs) = go (leb l (length xs)) refl (ends n (drop l xs))
  where
    r : Raw
    r = record { first = a; precedence = p; contents = take l xs }

    go : (b : Bool) → leb l (length xs) ≡ b → Ends (drop l xs) (split_of n (drop l xs)) → Ends (a ∷ p ∷ l ∷ xs) (pick b (with_raw r (split_of n (drop l xs))) cut)
    go true h e = let u = leb-true l (length xs) h in ends_after (suc (suc (suc l))) (a ∷ p ∷ l ∷ xs) r (split_of n (drop l xs)) (omega arith) e
    go false h e = tt

pub rest_at : (n : ℕ) (xs : List ℕ) (rs : List Raw) (rest : List ℕ) → split_of n xs ≡ split rs rest
    → (length rest ≤ length xs) × (drop (length xs - length rest) xs ≡ rest)
rest_at n xs rs rest e = rw e at (ends n xs)

-- ---- as many filters as were asked for
abbrev Counted : ℕ → Split → Type 0
Counted n cut = Unit {0}
Counted n (split rs rest) = length rs ≡ n

counted : (n : ℕ) (xs : List ℕ) → Counted n (split_of n xs)
unfolding split_of
counted zero xs = refl
counted (suc n) [] = tt
counted (suc n) (a ∷ []) = tt
counted (suc n) (a ∷ p ∷ []) = tt
counted (suc n) (a ∷ p ∷ l ∷ xs) = go (leb l (length xs)) (split_of n (drop l xs)) (counted n (drop l xs))
  where
    go : (b : Bool) (q : Split) → Counted n q → Counted (suc n) (pick b (with_raw (record { first = a; precedence = p; contents = take l xs }) q) cut)
    go true cut e = tt
    go true (split rs rest) e = ap suc e
    go false q e = tt

pub split_count : (n : ℕ) (xs : List ℕ) (rs : List Raw) (rest : List ℕ) → split_of n xs ≡ split rs rest → length rs ≡ n
split_count n xs rs rest e = rw e at (counted n xs)

-- ---- octets give precedences below 256
abbrev Narrow : Split → Type 0
Narrow cut = Unit {0}
Narrow (split rs rest) = All OctetPrecedence rs

narrow_after : (r : Raw) (q : Split) → OctetPrecedence r → Narrow q → Narrow (with_raw r q)
narrow_after r cut h e = tt
narrow_after r (split rs rest) h e = (h, e)

narrow : (n : ℕ) (xs : List ℕ) → All Octet xs → Narrow (split_of n xs)
unfolding split_of
narrow zero xs h = tt
narrow (suc n) [] h = tt
narrow (suc n) (a ∷ []) h = tt
narrow (suc n) (a ∷ p ∷ []) h = tt
narrow (suc n) (a ∷ p ∷ l ∷ xs) h = go (leb l (length xs)) (narrow n (drop l xs) (all_drop Octet l xs h.1.1.1))
  where
    r : Raw
    r = record { first = a; precedence = p; contents = take l xs }

    go : (b : Bool) → Narrow (split_of n (drop l xs)) → Narrow (pick b (with_raw r (split_of n (drop l xs))) cut)
    go true e = narrow_after r (split_of n (drop l xs)) h.1.0 e
    go false e = tt

pub raws_narrow : (n : ℕ) (xs : List ℕ) → All Octet xs → All OctetPrecedence (raws_in (split_of n xs))
raws_narrow n xs h = go (split_of n xs) (narrow n xs h)
  where
    go : (q : Split) → Narrow q → All OctetPrecedence (raws_in q)
    go cut h = tt
    go (split rs rest) h = h
