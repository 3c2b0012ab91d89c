-- The theorems of the layer: the route is the one that the rule gives.
use mathlib.Core.Path.{◌≡◌, refl, sym, ◌∙◌, ap, subst}
use mathlib.Core.Bool.{Bool, true, false}
use mathlib.Core.Logic.{◌↔◌}
use Prim.Native.Nat.{ℕ}
use native.Mathlib.Omega.{arith}
use Rattle.laws.specs.Says.{pick}
use Rattle.laws.proofs.Says.{picked, says_it, unless_here, unless_later, where_here}
use Rattle.filter.specs.declared.packet.Header.{Header}
use Rattle.filter.specs.Fit.{valid_header}
use Rattle.table.specs.declared.bearer.Table.{Table}
use Rattle.table.specs.Bearers.{identity_of, is_default, role_of}
use Rattle.table.specs.Lists.{held_list}
use Rattle.table.specs.Ranges.{TableInRange}
use Rattle.table.specs.WellFormed.{well_formed, WellFormed}
use Rattle.table.proofs.Listing.{same_place}
use Rattle.table.proofs.Meaning.{default_of, well_says}
use Rattle.route.specs.declared.answer.Route.{Route}
use Rattle.route.specs.declared.answer.Route.TheVariants.{Bearer}
use Rattle.route.specs.declared.answer.Refusal.TheVariants.{NotWellFormed, NoDefault, InvalidHeader}
use Rattle.std.specs.Prelude.{Ok, Err}
use Rattle.route.specs.declared.answer.Why.{Why}
use Rattle.route.specs.declared.answer.Why.TheVariants.{Filter, Default, Discard as why_discard}
use Rattle.route.specs.Routes.{number_of, route_on, route_of}
use Rattle.route.specs.Rule.{Right, by_filter, by_default, discarded, RouteNumbered}
use Rattle.route.specs.Why.{route_by, why_on, why_of, why_number, WhySays}
use Rattle.route.proofs.Whys.{why_right, why_routes, list_routes, number_same}

-- ---- the route
module _ (t : Table) (ok : TableInRange t) (w : WellFormed t) (default : ℕ) (h : Header) where
  -- what the rule says of the reason, it says of the route
  reason_right : (a : Why) (r : Route) → route_by a ≡ r → WhySays t default h (Ok a) → Right t default h r
  reason_right (Filter b j p) r e x = by_filter x.index j x.least (sym e ∙ ap Bearer x.bearer_is)
  reason_right (Default d) r e x = by_default x.0 x.1.0 (sym e ∙ ap Bearer x.1.1)
  reason_right why_discard r e x = discarded x.0 x.1.at x.1.holds (sym e)

  -- the route by the list is right by the rule
  pub route_right : Right t default h (route_on t default h (held_list t default))
  route_right = reason_right (why_on t default h (held_list t default)) _ (list_routes t default h (held_list t default)) (why_right t ok w default h)

-- the rule admits one route only
pub right_one : (t : Table) → WellFormed t → (default : ℕ) (h : Header) (r s : Route) → Right t default h r → Right t default h s → r ≡ s
right_one t w default h r s (by_filter i j a e) (by_filter k l b f) =
    let same = same_place t w.bearers default i j k l a.fitting.uplink b.fitting.uplink (omega (arith, a.least k l b.fitting, b.least i j a.fitting)) in
    e ∙ ap (λ (n : ℕ). Bearer (identity_of n)) same.0 ∙ sym f
right_one t w default h r s (by_filter i j a e) (by_default n o f) = absurd (n i j a.fitting)
right_one t w default h r s (by_filter i j a e) (discarded n k o f) = absurd (n i j a.fitting)
right_one t w default h r s (by_default n o e) (by_filter k l b f) = absurd (n k l b.fitting)
right_one t w default h r s (by_default n o e) (by_default m q f) = e ∙ sym f
right_one t w default h r s (by_default n o e) (discarded m k q f) = absurd (o k q)
right_one t w default h r s (discarded n j o e) (by_filter k l b f) = absurd (n k l b.fitting)
right_one t w default h r s (discarded n j o e) (by_default m q f) = absurd (q j o)
right_one t w default h r s (discarded n j o e) (discarded m k q f) = e ∙ sym f

-- ---- what a call gives
module _ (t : Table) (default : ℕ) (h : Header) where
  -- the number, by the tests in turn
  number_by : (w d v : Bool) (route : Route)
      → number_of (pick w (pick d (pick v (Ok route) (Err InvalidHeader)) (Err NoDefault)) (Err NotWellFormed)) ≡ pick w (pick d (pick v 0 2) 8) 1
  number_by true true true route = refl
  number_by true true false route = refl
  number_by true false v route = refl
  number_by false d v route = refl

  pub route_numbers_lem : TableInRange t → RouteNumbered t default h (number_of (route_of t default h))
  unfolding route_of
  route_numbers_lem ok =
      let w = well_says t ok in
      let d = default_of t default in
      let v = says_it (valid_header h) in
      subst (RouteNumbered t default h) (sym (number_by (well_formed t) (is_default (role_of t default)) (valid_header h) (route_on t default h (held_list t default))))
      (record {
        is1 = unless_here w refl
            (picked (λ (k : ℕ). k ≡ 1 → ⊥) (is_default (role_of t default)) _ 8 (picked (λ (k : ℕ). k ≡ 1 → ⊥) (valid_header h) 0 2 (λ e. omega arith) (λ e. omega arith))
            (λ e. omega arith));
        is8 = unless_later w (λ e. omega arith) (unless_here d refl (picked (λ (k : ℕ). k ≡ 8 → ⊥) (valid_header h) 0 2 (λ e. omega arith) (λ e. omega arith)));
        is2 = unless_later w (λ e. omega arith) (unless_later d (λ e. omega arith) (unless_here v refl (λ e. omega arith)));
        is0 = unless_later w (λ e. omega arith) (unless_later d (λ e. omega arith) (where_here v refl (λ e. omega arith)));
      })

  -- .. and so of the reason
  pub why_numbers : TableInRange t → RouteNumbered t default h (why_number (why_of t default h))
  why_numbers ok = subst (RouteNumbered t default h) (sym (number_same (why_of t default h) ∙ ap number_of (why_routes t default h))) (route_numbers_lem ok)

  -- otherwise it gives a route exactly where the route is right
  module _ (ok : TableInRange t) (e : well_formed t ≡ true) (d : is_default (role_of t default) ≡ true) (v : valid_header h ≡ true) where
    routed : route_of t default h ≡ Ok (route_on t default h (held_list t default))
    unfolding route_of
    routed = rw (e, d, v)

    pub route_says : (r : Route) → (route_of t default h ≡ Ok r) ↔ Right t default h r
    route_says r =
        let w = (well_says t ok).to e in
        let given : Route = route_on t default h (held_list t default) in
        let right : Right t default h given = route_right t ok w default h in (
          λ q. let z : Ok given ≡ Ok r = sym routed ∙ q in let same : given ≡ r = cc in subst (Right t default h) same right,
          λ x. routed ∙ ap Ok (right_one t w default h given r right x),
        )
