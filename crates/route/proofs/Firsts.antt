-- The first entry that fits, position by position.
use mathlib.Core.Path.{◌≡◌, refl, sym, ◌∙◌, ap}
use mathlib.Core.Bool.{Bool, true, false}
use mathlib.Core.List.{List, [], ◌∷◌}
use mathlib.Core.Logic.{◌⊎◌, inl, inr}
use Prim.Native.Nat.{ℕ, zero, suc, ◌+◌, ◌*◌, ◌^◌, ◌<◌, ◌≤◌}
use native.Mathlib.Nat.{not-suc-le-zero, le_of_suc-le-suc}
use native.Mathlib.Omega.{arith}
use borrow.Author.Count.{below_more}
use lib.ListN.{length, get_or}
use Rattle.laws.specs.Says.{pick}
use Rattle.laws.proofs.Says.{which, says_eq, says_no}
use Rattle.laws.proofs.Index.{tab_at}
use Rattle.filter.specs.declared.packet.Header.{Header}
use Rattle.filter.specs.Fit.{fits}
use Rattle.table.specs.declared.bearer.Table.{Table}
use Rattle.table.specs.Bearers.{last_identity, is_identity, index_of, identity_of, filter_at}
use Rattle.table.specs.Ranges.{TableInRange}
use Rattle.laws.proofs.Lists.{all_at}
use Rattle.table.specs.declared.list.Entry.{Entry}
use Rattle.table.specs.Lists.{entry_of, nothing, decoded, held_at, held_list}
use Rattle.table.proofs.Listing.{held_length}
use Rattle.filter.specs.Sizes.{place_count, precedence_count}
use Rattle.route.specs.declared.answer.Route.{Route}
use Rattle.route.specs.declared.answer.Route.TheVariants.{Bearer}
use Rattle.route.specs.declared.answer.Why.{Why}
use Rattle.route.specs.declared.answer.Why.TheVariants.{Filter}
use Rattle.route.specs.Routes.{filter_of, entry_fits, first_fit}
use Rattle.route.specs.Why.{route_by, first_entry, why_none, why_on}

-- ---- what an entry names
module _ (t : Table) (h : Header) where
  pub entry_fits_lem : (i j : ℕ) → entry_fits t h (entry_of (identity_of i) j) ≡ fits (filter_at t i j) h
  unfolding entry_fits filter_of
  entry_fits_lem i j =
      let back : index_of (identity_of i) ≡ i = omega arith in
      rw (says_no (says_eq (identity_of i) 0) (λ e. omega arith), back)

  pub nothing_fits : entry_fits t h nothing ≡ false
  unfolding entry_fits
  nothing_fits = refl

  abbrev pub fits_in : List Entry → ℕ → Bool
  fits_in es p = entry_fits t h (get_or es p nothing)

  -- ---- the first position that fits, over any list
  pub record First (es : List Entry) : Type 0 where
    pub at : ℕ
    pub below : at < length es
    pub fit : fits_in es at ≡ true
    pub before : (p : ℕ) → p < at → fits_in es p ≡ false

  pub record Never (es : List Entry) : Type 0 where
    pub none : (p : ℕ) → p < length es → fits_in es p ≡ false

  pub first_cases : (es : List Entry) → First es ⊎ Never es
  first_cases [] = inr (record { none = λ p l. absurd (not-suc-le-zero l) })
  first_cases (e ∷ es) = go (which (entry_fits t h e)) (first_cases es)
    where
      after : (n : ℕ) → entry_fits t h e ≡ false → ((p : ℕ) → p < n → fits_in es p ≡ false) → (p : ℕ) → p < suc n → fits_in (e ∷ es) p ≡ false
      after n q f zero l = q
      after n q f (suc p) l = f p (le_of_suc-le-suc l)

      go : (entry_fits t h e ≡ true) ⊎ (entry_fits t h e ≡ false) → First es ⊎ Never es → First (e ∷ es) ⊎ Never (e ∷ es)
      go (inl q) _ = inl (record { at = 0; below = omega arith; fit = q; before = λ p l. absurd (not-suc-le-zero l) })
      go (inr q) (inl f) = inl (record { at = suc f.at; below = omega (arith, f.below); fit = f.fit; before = after f.at q f.before })
      go (inr q) (inr f) = inr (record { none = after (length es) q f.none })

  -- .. is the one that is told, with its entry ..
  abbrev pub tells : ℕ → Entry → Why
  tells p e = Filter e.bearer e.place p

  pub first_told : (otherwise : Why) (p r : ℕ) (es : List Entry) → r < length es → fits_in es r ≡ true → ((q : ℕ) → q < r → fits_in es q ≡ false)
      → first_entry t h otherwise p es ≡ tells (p + r) (get_or es r nothing)
  unfolding first_entry
  first_told otherwise p r [] l fit before = absurd (not-suc-le-zero l)
  first_told otherwise p zero (e ∷ es) l fit before = rw fit (let q : p ≡ p + 0 = omega arith in ap (λ (n : ℕ). tells n e) q)
  first_told otherwise p (suc r) (e ∷ es) l fit before =
      let later = first_told otherwise (p + 1) r es (le_of_suc-le-suc l) fit (λ q m. before (suc q) (omega arith)) in
      rw (before 0 (omega arith)) (later ∙ (let q : p + 1 + r ≡ p + suc r = omega arith in ap (λ (n : ℕ). tells n (get_or es r nothing)) q))

  -- .. and where there is none, that is told
  pub never_told : (otherwise : Why) (p : ℕ) (es : List Entry) → ((q : ℕ) → q < length es → fits_in es q ≡ false) → first_entry t h otherwise p es ≡ otherwise
  unfolding first_entry
  never_told otherwise p [] none = refl
  never_told otherwise p (e ∷ es) none = rw (none 0 (omega arith)) (never_told otherwise (p + 1) es (λ q l. none (suc q) (omega arith)))

  -- the bearer of the first fit is that of the entry told
  pub told_routes : (otherwise : Why) (route : Route) (p : ℕ) (es : List Entry) → route_by otherwise ≡ route
      → route_by (first_entry t h otherwise p es) ≡ first_fit t h route es
  unfolding first_entry first_fit
  told_routes otherwise route p [] same = same
  told_routes otherwise route p (e ∷ es) same = go (entry_fits t h e) (told_routes otherwise route (p + 1) es same)
    where
      go : (b : Bool) → route_by (first_entry t h otherwise (p + 1) es) ≡ first_fit t h route es
          → route_by (pick b (tells p e) (first_entry t h otherwise (p + 1) es)) ≡ pick b (Bearer e.bearer) (first_fit t h route es)
      go true later = refl
      go false later = later

  -- ---- over the held list
  module _ (default : ℕ) where
    -- an entry is an octet, so the place that it names is there
    pub held_place : TableInRange t → (p : ℕ) → ((held_at t default p).bearer ≤ last_identity) × ((held_at t default p).place < place_count)
    unfolding decoded
    held_place ok p = go (is_identity default)
      where
        cell : ℕ
        cell = get_or t.lists (index_of default * precedence_count + p) 0

        small : cell < 2 ^ 8
        small = all_at (λ (n : ℕ). n < 2 ^ 8) t.lists 0 ok.lists.all (omega arith) (index_of default * precedence_count + p)

        go : (b : Bool) → ((pick b (decoded cell) nothing).bearer ≤ last_identity) × ((pick b (decoded cell) nothing).place < place_count)
        go true = (omega (arith, small), omega arith)
        go false = (omega arith, omega arith)

    -- none of the entries at the positions below n fits
    pub record NoneBelow (n : ℕ) : Type 0 where
      pub within : n ≤ precedence_count
      pub none : (p : ℕ) → p < n → entry_fits t h (held_at t default p) ≡ false

    pub none_start : NoneBelow 0
    none_start = record { within = omega arith; none = λ p l. absurd (not-suc-le-zero l) }

    pub none_more : (n : ℕ) → n < precedence_count → NoneBelow n → entry_fits t h (held_at t default n) ≡ false → NoneBelow (n + 1)
    none_more n l so here = record { within = omega arith; none = below_more (λ (p : ℕ). entry_fits t h (held_at t default p) ≡ false) n so.none here }

    held_here : (p : ℕ) → p < precedence_count → get_or (held_list t default) p nothing ≡ held_at t default p
    unfolding held_list
    held_here p l = tab_at (held_at t default) precedence_count p nothing l

    in_list : (n : ℕ) → NoneBelow n → (p : ℕ) → p < n → fits_in (held_list t default) p ≡ false
    in_list n so p l = ap (entry_fits t h) (held_here p (omega (arith, so.within))) ∙ so.none p l

    -- the first that fits is told ..
    pub held_told : (p : ℕ) → p < precedence_count → NoneBelow p → entry_fits t h (held_at t default p) ≡ true
        → tells p (held_at t default p) ≡ why_on t default h (held_list t default)
    unfolding why_on
    held_told p l so fit =
        ap (tells p) (sym (held_here p l))
        ∙ (let q : p ≡ 0 + p = omega arith in ap (λ (n : ℕ). tells n (get_or (held_list t default) p nothing)) q)
        ∙ sym (first_told (why_none t default) 0 p (held_list t default) (omega (arith, held_length t default)) (ap (entry_fits t h) (held_here p l) ∙ fit) (in_list p so))

    -- .. and where there is none, what is done then
    pub held_never : NoneBelow precedence_count → why_none t default ≡ why_on t default h (held_list t default)
    unfolding why_on
    held_never so = sym (never_told (why_none t default) 0 (held_list t default) (λ q l. in_list precedence_count so q (omega (arith, held_length t default))))
