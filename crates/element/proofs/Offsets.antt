-- Laws of the entries' offsets: what begins at an offset, and what is found where nothing does.
use mathlib.Core.Path.{◌≡◌, refl, sym, ap, ◌∙◌, subst}
use mathlib.Core.Bool.{Bool, true, false, false≢true}
use mathlib.Core.List.{List, [], ◌∷◌}
use Prim.Native.Nat.{ℕ, zero, suc, ◌+◌, ◌-◌, ◌≤◌, ◌<◌}
use native.Mathlib.Omega.{arith}
use lib.Dec.{eqb}
use lib.ListN.{length, take, drop, get_or}
use borrow.Author.Tests.{eqb-true, eqb-false, eq-eqb, ne_eqb}
use Rattle.laws.specs.Says.{pick}
use Rattle.laws.specs.Lists.{All}
use Rattle.laws.proofs.Parts.{drop_next}
use Rattle.element.specs.declared.answer.SetOperation.{SetOperation}
use Rattle.element.specs.declared.answer.BareOperation.{BareOperation}
use Rattle.element.specs.declared.entries.Handed.{Handed}
use Rattle.element.specs.declared.entries.Handed.TheVariants.{Filter, Identifier, Refused, End}
use Rattle.element.specs.Numbers.{Verdict, accepted, refused_for, verdict_on}
use Rattle.element.specs.Read.{read_element}
use Rattle.element.specs.Contents.{coded_of}
use Rattle.element.specs.Framing.{Raw, identifier_in, identifier_of, Split, cut, split, with_raw, split_of, Framed, not_framed, filters, identifiers, bare, framed_of}
use Rattle.element.specs.Entries.{cause_in, look_at, after_at, IsEntry, handed_before, handed_in, left_from, Located, coded_filter, located_filter, located_filters, located_identifiers, located_in, located_of, located_at}
use Rattle.element.specs.Inner.Walk.{whole, located_split}
use Rattle.element.proofs.Frames.{FiltersFramed, IdentifiersFramed}

abbrev pub nothing_at : ℕ → Located
nothing_at at = record { at = at; after = at; entry = End }

-- ---- where no entry begins
pub nothing_there : (ps : List Located) (at : ℕ) → All (λ p. p.at ≡ at → ⊥) ps → located_at ps at ≡ nothing_at at
unfolding located_at
nothing_there [] at h = refl
nothing_there (p ∷ ps) at h = rw (ne_eqb p.at at h.0) (nothing_there ps at h.1)

-- ---- each entry begins where the one before it ends
abbrev pub Chained : ℕ → List Located → Type 0
Chained at [] = Unit {0}
Chained at (p ∷ ps) = (p.at ≡ at) × (at < p.after) × Chained p.after ps

filters_chained : (at : ℕ) (rs : List Raw) → Chained at (located_filters at rs)
unfolding located_filters
filters_chained at [] = tt
filters_chained at (r ∷ rs) = (refl, omega arith, filters_chained (located_filter at r).after rs)

identifiers_chained : (at : ℕ) (xs : List ℕ) → Chained at (located_identifiers at xs)
unfolding located_identifiers
identifiers_chained at [] = tt
identifiers_chained at (x ∷ xs) = (refl, omega arith, identifiers_chained (at + 1) xs)

pub placed_chained : (F : Framed) → Chained 1 (located_in F)
placed_chained not_framed = tt
placed_chained (filters operation rs) = filters_chained 1 rs
placed_chained (identifiers xs) = identifiers_chained 1 xs
placed_chained (bare kind) = tt

pub nothing_before : (ps : List Located) (from at : ℕ) → Chained from ps → at < from → located_at ps at ≡ nothing_at at
unfolding located_at
nothing_before [] from at h l = refl
nothing_before (p ∷ ps) from at h l =
    let e = h.0 in
    let m = h.1 in
    rw (ne_eqb p.at at (λ q. omega arith)) (nothing_before ps p.after at h.2 (omega arith))

-- ---- the first of some filters
module _ (from at : ℕ) (r : Raw) (q : Split) (there : whole q ≡ true) where
  first_located : located_split from (with_raw r q) ≡ located_filter from r ∷ located_split (located_filter from r).after q
  unfolding located_filters
  first_located = go q there
    where
      go : (q : Split) → whole q ≡ true → located_split from (with_raw r q) ≡ located_filter from r ∷ located_split (located_filter from r).after q
      go cut h = absurd (false≢true h)
      go (split rs rest) h = refl

  pub filter_here : from ≡ at → located_at (located_split from (with_raw r q)) at ≡ located_filter from r
  unfolding located_at
  filter_here e = rw (first_located, eq-eqb from at e)

  pub filter_later : (from ≡ at → ⊥) → located_at (located_split from (with_raw r q)) at ≡ located_at (located_split (located_filter from r).after q) at
  unfolding located_at
  filter_later e = rw (first_located, ne_eqb from at e)

pub filter_found : (from at after : ℕ) (entry : Handed) (r : Raw) → from ≡ at → after ≡ from + 3 + length r.contents → entry ≡ coded_filter (identifier_of r) (coded_of r)
    → record { at = at; after = after; entry = entry } ≡ located_filter from r
filter_found from at after entry r p q e = rw (← p, q, e)

pub filters_none : (at from n i : ℕ) → n ≤ i → (xs : List ℕ) → located_at (located_split from (split_of (n - i) xs)) at ≡ nothing_at at
unfolding split_of located_filters located_at
filters_none at from n i h xs = let k : n - i ≡ 0 = omega arith in rw k

module _ (s : List ℕ) where
  -- ---- the identifiers of n octets
  abbrev pub identifier_at : ℕ → Located
  identifier_at at = record { at = at; after = at + 1; entry = Identifier (identifier_in (get_or s at 0)) }

  identifier_from : (n from at : ℕ) → from ≤ at → at < from + n → from + n ≤ length s → located_at (located_identifiers from (take n (drop from s))) at ≡ identifier_at at
  unfolding located_identifiers located_at
  identifier_from zero from at l m w = absurd (omega arith)
  identifier_from (suc n) from at l m w = rw (drop_next s from (from + 1) 0 refl (omega arith)) (go (eqb from at) refl (identifier_from n (from + 1) at))
    where
      ps : List Located
      ps = located_identifiers (from + 1) (take n (drop (from + 1) s))

      go : (b : Bool) → eqb from at ≡ b → (from + 1 ≤ at → at < from + 1 + n → from + 1 + n ≤ length s → located_at ps at ≡ identifier_at at)
          → pick b (identifier_at from) (located_at ps at) ≡ identifier_at at
      go true e rec = ap identifier_at (eqb-true from at e)
      go false e rec =
          let z = eqb-false from at e in
          rec (omega arith) (omega arith) (omega arith)

  identifier_past : (n from at : ℕ) → from + n ≤ at → from + n ≤ length s → located_at (located_identifiers from (take n (drop from s))) at ≡ nothing_at at
  unfolding located_identifiers located_at
  identifier_past zero from at l w = refl
  identifier_past (suc n) from at l w =
      rw (drop_next s from (from + 1) 0 refl (omega arith), ne_eqb from at (λ e. omega arith)) (identifier_past n (from + 1) at (omega arith) (omega arith))

  module _ (n at : ℕ) (few : 1 + n ≤ length s) where
    pub identifier_there : 1 ≤ at → at ≤ n → located_at (located_identifiers 1 (take n (drop 1 s))) at ≡ identifier_at at
    identifier_there l m = identifier_from n 1 at l (omega arith) few

    pub identifier_past_lem : n < at → located_at (located_identifiers 1 (take n (drop 1 s))) at ≡ nothing_at at
    identifier_past_lem l = identifier_past n 1 at (omega arith) few

    pub identifier_before : at < 1 → located_at (located_identifiers 1 (take n (drop 1 s))) at ≡ nothing_at at
    identifier_before l = nothing_before _ 1 at (identifiers_chained 1 (take n (drop 1 s))) l

-- ---- the entries of a value, by its frame
module _ (s : List ℕ) where
  pub placed_none : framed_of s ≡ not_framed → located_of s ≡ []
  unfolding located_of
  placed_none e = rw e

  pub placed_filters : (operation : SetOperation) (n : ℕ) (rs : List Raw) → framed_of s ≡ filters operation rs → FiltersFramed s n rs
      → located_of s ≡ located_split 1 (split_of n (drop 1 s))
  unfolding located_of
  placed_filters operation n rs e f = rw (e, f.there)

  pub placed_identifiers : (n : ℕ) (xs : List ℕ) → framed_of s ≡ identifiers xs → IdentifiersFramed s n xs
      → located_of s ≡ located_identifiers 1 (take n (drop 1 s))
  unfolding located_of
  placed_identifiers n xs e f = rw (e, f.first)

  pub placed_bare : (operation : BareOperation) → framed_of s ≡ bare operation → located_of s ≡ []
  unfolding located_of
  placed_bare operation e = rw e

-- ---- the entries that are left
is_end : (h : Handed) → (IsEntry h → ⊥) → (hs : List Handed) → handed_before h hs ≡ []
is_end (Filter identifier f) n hs = absurd (n tt)
is_end (Identifier identifier) n hs = absurd (n tt)
is_end (Refused refusal) n hs = refl
is_end End n hs = refl

is_first : (h : Handed) → IsEntry h → (hs : List Handed) → handed_before h hs ≡ h ∷ hs
is_first (Filter identifier f) n hs = refl
is_first (Identifier identifier) n hs = refl
is_first (Refused refusal) n hs = absurd n
is_first End n hs = absurd n

pub none_left : (ps : List Located) (at : ℕ) → (IsEntry (located_at ps at).entry → ⊥) → left_from ps at ≡ []
unfolding left_from handed_in located_at
none_left [] at n = refl
none_left (p ∷ ps) at n = go (eqb p.at at) n (none_left ps at)
  where
    go : (b : Bool) → (IsEntry (pick b p (located_at ps at)).entry → ⊥) → ((IsEntry (located_at ps at).entry → ⊥) → left_from ps at ≡ [])
        → pick b (handed_before p.entry (handed_in ps)) (left_from ps at) ≡ []
    go true n later = is_end p.entry n (handed_in ps)
    go false n later = later n

-- an entry ends after where the first begins
ends_later : (ps : List Located) (from at : ℕ) → Chained from ps → IsEntry (located_at ps at).entry → from < (located_at ps at).after
unfolding located_at
ends_later [] from at c n = absurd n
ends_later (p ∷ ps) from at c n = go (eqb p.at at) n (ends_later ps p.after at c.2)
  where
    go : (b : Bool) → IsEntry (pick b p (located_at ps at)).entry → (IsEntry (located_at ps at).entry → p.after < (located_at ps at).after)
        → from < (pick b p (located_at ps at)).after
    go true n later = c.1
    go false n later = let h = c.1 in let k = later n in omega arith

after_first : (ps : List Located) (at : ℕ) → Chained at ps → left_from ps at ≡ handed_in ps
unfolding left_from handed_in
after_first [] at c = refl
after_first (p ∷ ps) at c = rw (eq-eqb p.at at c.0)

pub one_left : (ps : List Located) (from at : ℕ) → Chained from ps → IsEntry (located_at ps at).entry
    → left_from ps at ≡ (located_at ps at).entry ∷ left_from ps (located_at ps at).after
unfolding left_from handed_in located_at
one_left [] from at c n = absurd n
one_left (p ∷ ps) from at c n = go (eqb p.at at) n (one_left ps p.after at c.2) (ends_later ps p.after at c.2)
  where
    go : (b : Bool) → IsEntry (pick b p (located_at ps at)).entry
        → (IsEntry (located_at ps at).entry → left_from ps at ≡ (located_at ps at).entry ∷ left_from ps (located_at ps at).after)
        → (IsEntry (located_at ps at).entry → p.after < (located_at ps at).after)
        → pick b (handed_before p.entry (handed_in ps)) (left_from ps at)
        ≡ (pick b p (located_at ps at)).entry ∷ pick (eqb p.at (pick b p (located_at ps at)).after) (handed_before p.entry (handed_in ps)) (left_from ps (pick b p (located_at ps at)).after)
    go true n later further =
        let begins = c.0 in
        let ends = c.1 in
        rw (ne_eqb p.at p.after (λ e. omega arith), after_first ps p.after c.2) (is_first p.entry n (handed_in ps))
    go false n later further =
        let begins = c.0 in
        let ends = c.1 in
        let k = further n in
        rw (ne_eqb p.at (located_at ps at).after (λ e. omega arith)) (later n)

-- nothing is left at 0
pub nothing_left : (ps : List Located) (from at : ℕ) → Chained from ps → at < from → left_from ps at ≡ []
nothing_left ps from at c l = none_left ps at (rw (nothing_before ps from at c l) (λ n. n))

-- ---- told by what is looked at
cause_none : (v : Verdict) → IsEntry (cause_in v) → ⊥
cause_none accepted n = n
cause_none (refused_for refusal) n = n

module _ (s : List ℕ) (at : ℕ) (h : Handed) (is : h ≡ look_at s at) where
  pub steps_left : IsEntry h → left_from (located_of s) at ≡ h ∷ left_from (located_of s) (after_at s at)
  unfolding look_at after_at located_of
  steps_left n = go (eqb at 0) is
    where
      go : (b : Bool) → h ≡ pick b (cause_in (verdict_on (read_element s).answer)) (located_at (located_of s) at).entry
          → left_from (located_of s) at ≡ h ∷ left_from (located_of s) (located_at (located_of s) at).after
      go true e = absurd (cause_none (verdict_on (read_element s).answer) (subst IsEntry e n))
      go false e =
          one_left (located_of s) 1 at (placed_chained (framed_of s)) (subst IsEntry e n)
          ∙ ap (λ (x : Handed). x ∷ left_from (located_of s) (located_at (located_of s) at).after) (sym e)

  pub ends_left : (IsEntry h → ⊥) → left_from (located_of s) at ≡ []
  unfolding look_at located_of
  ends_left n = go (eqb at 0) refl is
    where
      go : (b : Bool) → eqb at 0 ≡ b → h ≡ pick b (cause_in (verdict_on (read_element s).answer)) (located_at (located_of s) at).entry → left_from (located_of s) at ≡ []
      go true q e = let zero = eqb-true at 0 q in nothing_left (located_of s) 1 at (placed_chained (framed_of s)) (omega arith)
      go false q e = none_left (located_of s) at (λ m. n (subst IsEntry (sym e) m))
