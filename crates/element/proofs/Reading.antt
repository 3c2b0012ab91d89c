-- Laws of a filter's contents: how the definition goes over the component at a place of the octets.
-- Assumes nothing.
use mathlib.Core.Path.{◌≡◌, refl, ap, ◌∙◌}
use mathlib.Core.Bool.{Bool, true, false, not, ◌&&◌}
use mathlib.Core.List.{List, [], ◌∷◌}
use Prim.Native.Nat.{ℕ, zero, suc, ◌≤◌, ◌<◌}
use native.Mathlib.Nat.{le_of_suc-le-suc, not-suc-le-zero}
use native.Mathlib.Omega.{arith}
use lib.Dec.{leb}
use lib.ListN.{length, take, drop, length-drop}
use borrow.Author.Tests.{leb-true, leb-false}
use Rattle.std.proofs.Common.{None, Option, Some}
use Rattle.laws.specs.Says.{pick}
use Rattle.filter.specs.declared.component.Filter.{Filter}
use Rattle.filter.specs.Build.{excluded, added}
use Rattle.element.specs.Contents.{length_of, known, component_of, contents_from, contents_of}
use Rattle.element.specs.Inner.Walk.{next_component}

-- what is to pass, passed
pub pass : (k : ℕ) (f : Filter) (xs : List ℕ) → k ≤ length xs → contents_from k f xs ≡ contents_from 0 f (drop k xs)
unfolding contents_from
pass zero f xs h = refl
pass (suc k) f [] h = absurd (not-suc-le-zero h)
pass (suc k) f (x ∷ xs) h = pass k f xs (le_of_suc-le-suc h)

pub cut : (k : ℕ) (f : Filter) (xs : List ℕ) → length xs < k → contents_from k f xs ≡ None
unfolding contents_from
cut zero f xs h = absurd (not-suc-le-zero h)
cut (suc k) f [] h = refl
cut (suc k) f (x ∷ xs) h = cut k f xs (le_of_suc-le-suc h)

pub nothing : (f : Filter) (s : List ℕ) → length s ≡ 0 → contents_of f s ≡ None
unfolding contents_of
nothing f [] h = refl
nothing f (x ∷ s) h = absurd (omega arith)

pub start : (f : Filter) (s : List ℕ) → 0 < length s → contents_from 0 f s ≡ contents_of f s
unfolding contents_of
start f [] h = absurd (not-suc-le-zero h)
start f (x ∷ s) h = refl

pub end : (f : Filter) (s : List ℕ) → length s ≡ 0 → contents_from 0 f s ≡ Some f
unfolding contents_from
end f [] h = refl
end f (x ∷ s) h = absurd (omega arith)

-- the rest of the contents, after the component at their front
abbrev further : Option (Filter × List ℕ) → Option Filter
further None = None
further (Some x) = contents_from 0 x.0 x.1

-- the octets after the type, of which w are the component's
rest : (w : ℕ) (g : Filter) (xs : List ℕ) → contents_from w g xs ≡ further (pick (leb w (length xs)) (Some (g, drop w xs)) None)
rest w g xs = by (leb w (length xs)) refl
  where
    by : (b : Bool) → leb w (length xs) ≡ b → contents_from w g xs ≡ further (pick b (Some (g, drop w xs)) None)
    by true e = pass w g xs (leb-true w (length xs) e)
    by false e = cut w g xs (leb-false w (length xs) e)

-- by the tests of the type
chosen : (a b : Bool) (w : ℕ) (g : Filter) (xs : List ℕ)
    → pick (a && b) (contents_from w g xs) None ≡ further (pick (a && b && leb w (length xs)) (Some (g, drop w xs)) None)
chosen true true w g xs = rest w g xs
chosen true false w g xs = refl
chosen false b w g xs = refl

turn : (f : Filter) (s : List ℕ) → 0 < length s → contents_from 0 f s ≡ further (next_component f s)
unfolding contents_from next_component
turn f [] h = absurd (not-suc-le-zero h)
turn f (t ∷ xs) h = chosen (known t) (not (excluded f t)) (length_of t) (added f (component_of t (take (length_of t) xs))) xs

pub goes_on : (f : Filter) (s : List ℕ) (x : Filter × List ℕ) → 0 < length s → next_component f s ≡ Some x → contents_from 0 f s ≡ contents_from 0 x.0 x.1
goes_on f s x h e = turn f s h ∙ ap further e

pub fails : (f : Filter) (s : List ℕ) → 0 < length s → next_component f s ≡ None → contents_from 0 f s ≡ None
fails f s h e = turn f s h ∙ ap further e

pub shrinks : (f : Filter) (s : List ℕ) (x : Filter × List ℕ) → next_component f s ≡ Some x → length x.1 < length s
unfolding next_component
shrinks f [] x e = absurd (let z : ◌≡◌ {A = ℕ} 0 1 = cc in omega arith)
shrinks f (t ∷ xs) x e = by (known t && not (excluded f t) && leb (length_of t) (length xs)) e
  where
    by : (b : Bool) → pick b (Some (added f (component_of t (take (length_of t) xs)), drop (length_of t) xs)) None ≡ Some x → length x.1 < length (t ∷ xs)
    by true e = let q : drop (length_of t) xs ≡ x.1 = cc in omega (arith, ap length q, length-drop (length_of t) xs)
    by false e = absurd (let z : ◌≡◌ {A = ℕ} 0 1 = cc in omega arith)
