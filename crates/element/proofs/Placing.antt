-- The reading with its place: what it says is what it said without.
use mathlib.Core.Path.{◌≡◌, refl, sym, ◌∙◌, ap}
use mathlib.Core.List.{List}
use Prim.Native.Nat.{ℕ}
use native.Mathlib.Omega.{arith}
use Rattle.element.specs.declared.answer.Refusal.{Refusal}
use Rattle.element.specs.declared.answer.Answer.{Answer}
use Rattle.element.specs.declared.answer.Answer.TheVariants.{Filters, Identifiers, Bare, Refused}
use Rattle.element.specs.declared.answer.Element.{Element}
use Rattle.element.specs.Numbers.{refused_for, verdict_on, number_of}
use Rattle.element.specs.Places.{place_of}
use Rattle.element.specs.Read.{unplaced, at_place, placed, read_element}
use Rattle.element.proofs.Causes.{some_number}

placed_number_lem : (place : ℕ) (a : Answer) → number_of (at_place place a) ≡ number_of a
placed_number_lem place (Filters operation) = refl
placed_number_lem place Identifiers = refl
placed_number_lem place (Bare kind) = refl
placed_number_lem place (Refused refusal) = refl

placed_still : (place : ℕ) (a : Answer) → number_of a ≡ 0 → at_place place a ≡ a
placed_still place (Filters operation) q = refl
placed_still place Identifiers q = refl
placed_still place (Bare kind) q = refl
placed_still place (Refused refusal) q = some_number refusal.cause q

pub placed_same : (place : ℕ) (e : Element) → number_of e.answer ≡ 0 → placed place e ≡ e
placed_same place e q = ap (λ (a : Answer). record { answer = a; filters = e.filters; marks = e.marks }) (placed_still place e.answer q)

module _ (xs : List ℕ) where
  -- "Cause numbers and their order stay."
  pub read_number_lem : number_of (read_element xs).answer ≡ number_of (unplaced xs).answer
  unfolding read_element
  read_number_lem = placed_number_lem (place_of xs) (unplaced xs).answer

  pub read_same : number_of (read_element xs).answer ≡ 0 → read_element xs ≡ unplaced xs
  unfolding read_element
  read_same q = placed_same (place_of xs) (unplaced xs) (sym (placed_number_lem (place_of xs) (unplaced xs).answer) ∙ q)

  -- every refusal has its place
  pub verdict_place : (refusal : Refusal) → verdict_on (read_element xs).answer ≡ refused_for refusal → refusal.place ≡ place_of xs
  unfolding read_element
  verdict_place refusal = go (unplaced xs).answer
    where
      go : (a : Answer) → verdict_on (at_place (place_of xs) a) ≡ refused_for refusal → refusal.place ≡ place_of xs
      go (Filters operation) q = absurd (let z : ◌≡◌ {A = ℕ} 0 1 = cc in omega arith)
      go Identifiers q = absurd (let z : ◌≡◌ {A = ℕ} 0 1 = cc in omega arith)
      go (Bare kind) q = absurd (let z : ◌≡◌ {A = ℕ} 0 1 = cc in omega arith)
      go (Refused r) q = let s : record { cause = r.cause; place = place_of xs } ≡ refusal = cc in ap (λ (r : Refusal). r.place) (sym s)
