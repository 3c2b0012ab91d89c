-- Two tests of fit, and the routes that are right by the one and by the other.
use mathlib.Core.Path.{◌≡◌, sym, ◌∙◌}
use mathlib.Core.Bool.{Bool}
use mathlib.Core.Logic.{◌↔◌}
use Prim.Native.Nat.{ℕ}
use Rattle.filter.specs.declared.component.Filter.{Filter}
use Rattle.filter.specs.declared.packet.Header.{Header}
use Rattle.table.specs.declared.bearer.Table.{Table}
use Rattle.table.specs.Bearers.{filter_at}
use Rattle.route.specs.declared.answer.Route.{Route}
use Rattle.table.specs.Positions.{Uplink}
use Rattle.route.specs.Rule.{FittingBy, RightBy, by_filter, by_default, discarded}

module _ (t : Table) (default : ℕ) (h : Header) where
  -- every uplink filter of the connection fits the header by the one as by the other
  abbrev pub Alike : (Filter → Header → Bool) → (Filter → Header → Bool) → Type 0
  Alike a b = (i j : ℕ) → Uplink t default i j → a (filter_at t i j) h ≡ b (filter_at t i j) h

  alike_back : (a b : Filter → Header → Bool) → Alike a b → Alike b a
  alike_back a b same i j u = sym (same i j u)

  fitting_to : (a b : Filter → Header → Bool) → Alike a b → (i j : ℕ) → FittingBy a t default h i j → FittingBy b t default h i j
  fitting_to a b same i j g = record { uplink = g.uplink; fit = sym (same i j g.uplink) ∙ g.fit }

  right_to : (a b : Filter → Header → Bool) → Alike a b → (r : Route) → RightBy a t default h r → RightBy b t default h r
  right_to a b same r x = go x
    where
      back : (i j : ℕ) → FittingBy b t default h i j → FittingBy a t default h i j
      back = fitting_to b a (alike_back a b same)

      go : RightBy a t default h r → RightBy b t default h r
      go (by_filter i j l e) = by_filter i j (record { fitting = fitting_to a b same i j l.fitting; least = λ k m g. l.least k m (back k m g) }) e
      go (by_default none own e) = by_default (λ i j g. none i j (back i j g)) own e
      go (discarded none j own e) = discarded (λ i k g. none i k (back i k g)) j own e

  -- .. and then the right routes are the same
  pub right_same : (a b : Filter → Header → Bool) → Alike a b → (r : Route) → RightBy a t default h r ↔ RightBy b t default h r
  right_same a b same r = (right_to a b same r, right_to b a (alike_back a b same) r)
