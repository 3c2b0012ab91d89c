-- What is told of a packet is what the rule gives, and the route is exactly that.
use mathlib.Core.Path.{◌≡◌, refl, sym, ◌∙◌, ap, ap₂, subst}
use mathlib.Core.Bool.{Bool, true, false, ◌&&◌}
use mathlib.Core.List.{List}
use mathlib.Core.Logic.{inl, inr, ⊎_elim, ◌↔◌}
use Prim.Native.Nat.{ℕ, ◌+◌, ◌<◌, ◌≤◌}
use native.Mathlib.Omega.{arith}
use lib.ListN.{length, get_or}
use Rattle.std.proofs.lemmas.Bool.{cases_lt}
use Rattle.std.proofs.lemmas.List.{get_or_default, get_or_past}
use Rattle.std.proofs.lemmas.List.Folds.{Any-from_list_any, list_any_at}
use Rattle.laws.specs.Says.{pick, Says}
use Rattle.laws.specs.Index.{SomeBelow}
use Rattle.laws.proofs.Says.{never, says_ne}
use Rattle.laws.proofs.Typed.{each_at}
use Rattle.filter.specs.declared.packet.Header.{Header}
use Rattle.filter.specs.declared.component.Filter.{Filter as TheFilter}
use Rattle.filter.specs.Build.{empty_filter}
use Rattle.filter.specs.Coding.{uplink}
use Rattle.filter.specs.Fit.{valid_header}
use Rattle.filter.specs.Sizes.{place_count}
use Rattle.table.specs.declared.bearer.Bearer.{Bearer as TheBearer}
use Rattle.table.specs.declared.bearer.Table.{Table}
use Rattle.table.specs.declared.list.Entry.{Entry}
use Rattle.table.specs.Bearers.{bearer_count, index_of, identity_of, no_bearer, bearer_at, is_default, role_of}
use Rattle.table.specs.Lists.{is_uplink, precedence_at, nothing, held_list}
use Rattle.table.specs.Positions.{Stands}
use Rattle.table.specs.Ranges.{TableInRange}
use Rattle.table.specs.WellFormed.{well_formed, WellFormed}
use Rattle.table.proofs.Listing.{held_length, list_stands, list_at, position, same_place}
use Rattle.table.proofs.Meaning.{unheld, well_says}
use Rattle.route.specs.declared.answer.Route.TheVariants.{Bearer, Discard as discard}
use Rattle.route.specs.declared.answer.Refusal.{Refusal}
use Rattle.route.specs.declared.answer.Refusal.TheVariants.{NotWellFormed, NoDefault, InvalidHeader}
use Rattle.std.specs.Prelude.{Result, Ok, Err}
use Rattle.route.specs.declared.answer.Why.{Why}
use Rattle.route.specs.declared.answer.Why.TheVariants.{Filter, Default, Discard}
use Rattle.route.specs.Routes.{number_of, entry_fits, has_uplink, otherwise_of, route_on, route_of}
use Rattle.route.specs.Rule.{OwnUplink, Fitting, NoneFits}
use Rattle.route.specs.Why.{why_number, route_by, routed_by, first_entry, why_none, why_on, why_of, ByFilter, WhySays}
use Rattle.route.proofs.Firsts.{entry_fits_lem, nothing_fits, First, Never, first_cases, tells, first_told, never_told, told_routes}

-- ---- where none fits
module _ (t : Table) (ok : TableInRange t) (default : ℕ) where
  own_says : Says (has_uplink (bearer_at t (index_of default)).row) (SomeBelow place_count (λ j. OwnUplink t default j))
  unfolding has_uplink
  own_says =
      record {
        to = λ e.
            let a = Any-from_list_any is_uplink row e in
            record { at = a.0; below = omega (arith, a.2, short); holds = (omega (arith, a.2, short), ap is_uplink (get_or_default row a.0 empty_filter a.1 a.2 ∙ a.3) ∙ a.4) };
        from = λ s. ⊎_elim (λ l. list_any_at is_uplink row s.at empty_filter l s.holds.1) (λ l. never s.holds.1 (ap is_uplink (get_or_past row s.at empty_filter l) ∙ ap (λ (b : Bool). b && uplink empty_filter) unheld)) (cases_lt s.at (length row));
      }
    where
      row : List TheFilter
      row = (bearer_at t (index_of default)).row

      short : length row ≤ place_count
      short = ⊎_elim (λ l. omega (arith, (each_at ok.bearers no_bearer (index_of default) l).row.count)) (λ l. omega (arith, ap (λ (b : TheBearer). length b.row) (get_or_past t.bearers (index_of default) no_bearer (omega (arith, l, ok.bearers.count))))) (cases_lt (index_of default) bearer_count)

  none_says : (h : Header) → NoneFits t default h → WhySays t default h (Ok (why_none t default))
  unfolding why_none
  none_says h none = go (has_uplink (bearer_at t (index_of default)).row) refl
    where
      go : (b : Bool) → has_uplink (bearer_at t (index_of default)).row ≡ b → WhySays t default h (Ok (pick b Discard (Default default)))
      go true e = (none, own_says.to e)
      go false e = (none, (λ j o. says_ne own_says e (record { at = j; below = o.0; holds = o }), refl))

-- ---- what is told by the held list is so by the rule
module _ (t : Table) (ok : TableInRange t) (w : WellFormed t) (default : ℕ) (h : Header) where
  at_fits : (i j : ℕ) → Fitting t default h i j → entry_fits t h (get_or (held_list t default) (precedence_at t i j) nothing) ≡ true
  at_fits i j f = ap (entry_fits t h) (list_at t ok w default i j f.uplink) ∙ entry_fits_lem t h i j ∙ f.fit

  filter_says : (f : First t h (held_list t default)) → Stands t default f.at (get_or (held_list t default) f.at nothing)
      → let e = get_or (held_list t default) f.at nothing in ByFilter t default h e.bearer e.place f.at
  filter_says f (inl n) =
      subst (λ (e : Entry). ByFilter t default h e.bearer e.place f.at) (sym n.is)
      (record {
        index = n.index;
        least = record {
          fitting = record { uplink = n.uplink; fit = sym (entry_fits_lem t h n.index n.spot) ∙ ap (entry_fits t h) (sym n.is) ∙ f.fit };
          least = λ k l g.
              let before : precedence_at t k l < f.at → ⊥ = λ b. never (at_fits k l g) (f.before (precedence_at t k l) b) in
              omega (arith, n.precedence);
        };
        bearer_is = refl;
        precedence_is = n.precedence;
      })
  filter_says f (inr v) = never f.fit (ap (entry_fits t h) v.is ∙ nothing_fits t h)

  none_fits : Never t h (held_list t default) → NoneFits t default h
  none_fits n i j f = never (at_fits i j f) (n.none (precedence_at t i j) (omega (arith, held_length t default, position t ok default i j f.uplink)))

  pub why_right : WhySays t default h (Ok (why_on t default h (held_list t default)))
  unfolding why_on
  why_right = ⊎_elim some none (first_cases t h (held_list t default))
    where
      es : List Entry
      es = held_list t default

      some : First t h es → WhySays t default h (Ok (first_entry t h (why_none t default) 0 es))
      some f =
          let told : first_entry t h (why_none t default) 0 es ≡ tells t h f.at (get_or es f.at nothing) =
          first_told t h (why_none t default) 0 f.at es f.below f.fit f.before ∙ (let q : 0 + f.at ≡ f.at = omega arith in ap (λ (p : ℕ). tells t h p (get_or es f.at nothing)) q) in
          subst (λ (why : Why). WhySays t default h (Ok why)) (sym told) (filter_says f (list_stands t w default f.at (omega (arith, f.below, held_length t default))))

      none : Never t h es → WhySays t default h (Ok (first_entry t h (why_none t default) 0 es))
      none n = subst (λ (why : Why). WhySays t default h (Ok why)) (sym (never_told t h (why_none t default) 0 es n.none)) (none_says t ok default h (none_fits n))

-- the rule admits one reason only
pub why_one : (t : Table) → WellFormed t → (default : ℕ) (h : Header) (a b : Result Why Refusal) → WhySays t default h a → WhySays t default h b → a ≡ b
why_one t w default h (Ok (Filter b j p)) (Ok (Filter c l q)) x y =
    let same = same_place t w.bearers default x.index j y.index l x.least.fitting.uplink y.least.fitting.uplink
    (omega (arith, x.least.least y.index l y.least.fitting, y.least.least x.index j x.least.fitting)) in
    let bearers : b ≡ c = x.bearer_is ∙ ap identity_of same.0 ∙ sym y.bearer_is in
    let places : j ≡ l = same.1 in
    let precedences : p ≡ q = sym x.precedence_is ∙ ap₂ (precedence_at t) same.0 same.1 ∙ y.precedence_is in
    rw (bearers, places, precedences)
why_one t w default h (Ok (Filter b j p)) (Ok (Default d)) x y = absurd (y.0 x.index j x.least.fitting)
why_one t w default h (Ok (Filter b j p)) (Ok Discard) x y = absurd (y.0 x.index j x.least.fitting)
why_one t w default h (Ok (Default d)) (Ok (Filter c l q)) x y = absurd (x.0 y.index l y.least.fitting)
why_one t w default h (Ok (Default d)) (Ok (Default e)) x y = ap (λ (n : ℕ). Ok (Default n)) (x.1.1 ∙ sym y.1.1)
why_one t w default h (Ok (Default d)) (Ok Discard) x y = absurd (x.1.0 y.1.at y.1.holds)
why_one t w default h (Ok Discard) (Ok (Filter c l q)) x y = absurd (x.0 y.index l y.least.fitting)
why_one t w default h (Ok Discard) (Ok (Default e)) x y = absurd (y.1.0 x.1.at x.1.holds)
why_one t w default h (Ok Discard) (Ok Discard) x y = refl
why_one t w default h (Ok a) (Err r) x y = absurd y
why_one t w default h (Err r) b x y = absurd x

-- ---- what a call gives
pub number_same : (a : Result Why Refusal) → why_number a ≡ number_of (routed_by a)
number_same (Ok why) = refl
number_same (Err refusal) = refl

module _ (t : Table) (default : ℕ) (h : Header) where
  none_routes : route_by (why_none t default) ≡ otherwise_of t default
  unfolding why_none otherwise_of
  none_routes = go (has_uplink (bearer_at t (index_of default)).row)
    where
      go : (b : Bool) → route_by (pick b Discard (Default default)) ≡ pick b discard (Bearer default)
      go true = refl
      go false = refl

  pub list_routes : (list : List Entry) → route_by (why_on t default h list) ≡ route_on t default h list
  unfolding why_on route_on
  list_routes list = told_routes t h (why_none t default) (otherwise_of t default) 0 list none_routes

  -- the route is exactly what is told, on every table: the bearer of the filter, the default, discard, or the same refusal
  pub why_routes : routed_by (why_of t default h) ≡ route_of t default h
  unfolding why_of route_of
  why_routes = go (well_formed t) (is_default (role_of t default)) (valid_header h)
    where
      go : (w d v : Bool)
          → routed_by (pick w (pick d (pick v (Ok (why_on t default h (held_list t default))) (Err InvalidHeader)) (Err NoDefault)) (Err NotWellFormed))
          ≡ pick w (pick d (pick v (Ok (route_on t default h (held_list t default))) (Err InvalidHeader)) (Err NoDefault)) (Err NotWellFormed)
      go true true true = ap Ok (list_routes (held_list t default))
      go true true false = refl
      go true false v = refl
      go false d v = refl

  pub reason_routes : (r : Why) → why_of t default h ≡ Ok r → Ok (route_by r) ≡ route_of t default h
  reason_routes r e = ap routed_by (sym e) ∙ why_routes

  pub refusal_routes : (r : Refusal) → why_of t default h ≡ Err r → Err r ≡ route_of t default h
  refusal_routes r e = ap routed_by (sym e) ∙ why_routes

  -- where nothing is refused, a reason is told exactly where it is so by the rule
  module _ (ok : TableInRange t) (e : well_formed t ≡ true) (d : is_default (role_of t default) ≡ true) (v : valid_header h ≡ true) where
    pub why_given : why_of t default h ≡ Ok (why_on t default h (held_list t default))
    unfolding why_of
    why_given = rw (e, d, v)

    -- so nothing is refused
    pub why_says : (r : Result Why Refusal) → (why_of t default h ≡ r) ↔ WhySays t default h r
    why_says r =
        let w = (well_says t ok).to e in
        let right = why_right t ok w default h in (
          λ q. subst (WhySays t default h) (sym why_given ∙ q) right,
          λ x. why_given ∙ why_one t w default h (Ok (why_on t default h (held_list t default))) r right x,
        )
