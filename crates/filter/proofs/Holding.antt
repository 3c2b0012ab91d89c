-- A filter's types are those of the components that it holds; types of one family are the same, or exclude each other.
use Rattle.std.specs.Prelude.{None, Option, Some}
use mathlib.Core.Path.{◌≡◌, refl, sym, ◌∙◌, ap}
use mathlib.Core.Bool.{Bool, true, false}
use mathlib.Core.Logic.{◌⊎◌, inl, inr}
use Prim.Native.Nat.{ℕ}
use native.Mathlib.Omega.{arith}
use lib.Dec.{eqb}
use borrow.Author.Tests.{eqb-true}
use Rattle.laws.specs.Lists.{Some as OneOf}
use Rattle.laws.specs.Says.{pick, Says}
use Rattle.laws.proofs.Says.{says_and, says_not, says_eq, says_some}
use Rattle.filter.specs.declared.component.RemoteAddress.{RemoteAddress}
use Rattle.filter.specs.declared.component.RemoteAddress.TheVariants.{Absent as no_address, V4, V6}
use Rattle.filter.specs.declared.component.Port.{Port}
use Rattle.filter.specs.declared.component.Port.TheVariants.{Absent as no_port, Is as is_port, Range}
use Rattle.filter.specs.declared.component.Class.{Class}
use Rattle.filter.specs.declared.component.Filter.{Filter}
use Rattle.filter.specs.Component.{ipv4_remote_type, ipv6_remote_type, local_port_type, local_range_type, remote_port_type, remote_range_type, type_of_address, type_of_protocol, type_of_local}
use Rattle.filter.specs.Component.{type_of_remote, type_of_index, type_of_class, type_of_label, types_of, present, family, excludes}
use Rattle.filter.specs.Build.{Component, ipv4_remote, ipv6_remote, protocol, local_port, local_range, remote_port, remote_range, index, class, label}
use Rattle.filter.specs.Build.{type_of, put, with_address, with_protocol, with_local, with_remote, with_index, with_class, with_label, excluded}
use Rattle.filter.specs.Holding.{Holds, ExcludeEachOther, 10_with_20, 20_with_10, 40_with_41, 41_with_40, 50_with_51, 51_with_50}

-- ---- A component that is present is held.
abbrev IfPresent : ℕ → (ℕ → Type 0) → Type 0
IfPresent t P = (t ≡ 0 → ⊥) → P t

module _ (f : Filter) where
  address_held : (a : RemoteAddress) → f.address ≡ a → IfPresent (type_of_address a) (Holds f)
  address_held no_address e n = absurd (n refl)
  address_held (V4 a mask) e n = record { component = ipv4_remote a mask; of_type = refl; stands = ap (λ x. with_address x f) (sym e) }
  address_held (V6 a mask) e n = record { component = ipv6_remote a mask; of_type = refl; stands = ap (λ x. with_address x f) (sym e) }

  protocol_held : (p : Option ℕ) → f.protocol ≡ p → IfPresent (type_of_protocol p) (Holds f)
  protocol_held None e n = absurd (n refl)
  protocol_held (Some x) e n = record { component = protocol x; of_type = refl; stands = ap (λ y. with_protocol y f) (sym e) }

  local_held : (p : Port) → f.local ≡ p → IfPresent (type_of_local p) (Holds f)
  local_held no_port e n = absurd (n refl)
  local_held (is_port x) e n = record { component = local_port x; of_type = refl; stands = ap (λ y. with_local y f) (sym e) }
  local_held (Range low high) e n = record { component = local_range low high; of_type = refl; stands = ap (λ y. with_local y f) (sym e) }

  remote_held : (p : Port) → f.remote ≡ p → IfPresent (type_of_remote p) (Holds f)
  remote_held no_port e n = absurd (n refl)
  remote_held (is_port x) e n = record { component = remote_port x; of_type = refl; stands = ap (λ y. with_remote y f) (sym e) }
  remote_held (Range low high) e n = record { component = remote_range low high; of_type = refl; stands = ap (λ y. with_remote y f) (sym e) }

  index_held : (i : Option ℕ) → f.index ≡ i → IfPresent (type_of_index i) (Holds f)
  index_held None e n = absurd (n refl)
  index_held (Some x) e n = record { component = index x; of_type = refl; stands = ap (λ y. with_index y f) (sym e) }

  class_held : (c : Option Class) → f.class ≡ c → IfPresent (type_of_class c) (Holds f)
  class_held None e n = absurd (n refl)
  class_held (Some m) e n = record { component = class m.class m.mask; of_type = refl; stands = ap (λ y. with_class y f) (sym e) }

  label_held : (l : Option ℕ) → f.label ≡ l → IfPresent (type_of_label l) (Holds f)
  label_held None e n = absurd (n refl)
  label_held (Some x) e n = record { component = label x; of_type = refl; stands = ap (λ y. with_label y f) (sym e) }

-- ---- A type that excludes t, and is held
abbrev Excludes : ℕ → ℕ → Type 0
Excludes t u = (u ≡ 0 → ⊥) × (family t ≡ family u)

pub record HeldInFamily (f : Filter) (t : ℕ) : Type 0 where
  pub other : ℕ
  pub held : Holds f other
  pub same : family t ≡ family other

module _ (f : Filter) (t : ℕ) where
  of : (u : ℕ) → IfPresent u (Holds f) → Excludes t u → HeldInFamily f t
  of u held h = record { other = u; held = held h.0; same = h.1 }

  one_held : OneOf (Excludes t) (types_of f) → HeldInFamily f t
  one_held (inl h) = of _ (address_held f f.address refl) h
  one_held (inr (inl h)) = of _ (protocol_held f f.protocol refl) h
  one_held (inr (inr (inl h))) = of _ (local_held f f.local refl) h
  one_held (inr (inr (inr (inl h)))) = of _ (remote_held f f.remote refl) h
  one_held (inr (inr (inr (inr (inl h))))) = of _ (index_held f f.index refl) h
  one_held (inr (inr (inr (inr (inr (inl h)))))) = of _ (class_held f f.class refl) h
  one_held (inr (inr (inr (inr (inr (inr (inl h))))))) = of _ (label_held f f.label refl) h
  one_held (inr (inr (inr (inr (inr (inr (inr x7))))))) = elim x7 [ ]

-- a component's type is among those of the filter that it is put in
type_there : (P : ℕ → Type 0) (c : Component) (f : Filter) → (present (type_of c) ≡ true → P (type_of c)) → OneOf P (types_of (put c f))
type_there P (ipv4_remote a mask) f h = inl (h refl)
type_there P (ipv6_remote a mask) f h = inl (h refl)
type_there P (protocol x) f h = inr (inl (h refl))
type_there P (local_port x) f h = inr (inr (inl (h refl)))
type_there P (local_range low high) f h = inr (inr (inl (h refl)))
type_there P (remote_port x) f h = inr (inr (inr (inl (h refl))))
type_there P (remote_range low high) f h = inr (inr (inr (inl (h refl))))
type_there P (index x) f h = inr (inr (inr (inr (inl (h refl)))))
type_there P (class x mask) f h = inr (inr (inr (inr (inr (inl (h refl))))))
type_there P (label x) f h = inr (inr (inr (inr (inr (inr (inl (h refl)))))))

says_excludes : (t u : ℕ) → Says (excludes t u) (Excludes t u)
says_excludes t u = says_and (says_not (says_eq u 0)) (says_eq (family t) (family u))

pub excluded_in_family : (f : Filter) (t : ℕ) → Says (excluded f t) (HeldInFamily f t)
unfolding excluded
excluded_in_family f t =
    record {
      to = λ e. one_held f t ((says_some (says_excludes t) (types_of f)).to e);
      from = λ h.
          let c = h.held.component in
          (says_some (says_excludes t) (types_of f)).from
          (rw h.held.stands at
          (type_there (Excludes t) c f (λ p. ((says_not (says_eq (type_of c) 0)).to p, h.same ∙ ap family (sym h.held.of_type)))));
    }

-- ---- Types of one family are the same, or exclude each other.
data Kin (t : ℕ) (g : ℕ) : Type 0 where
  own : g ≡ t → Kin t g
  addresses : t ≡ ipv6_remote_type → g ≡ ipv4_remote_type → Kin t g
  locals : t ≡ local_range_type → g ≡ local_port_type → Kin t g
  remotes : t ≡ remote_range_type → g ≡ remote_port_type → Kin t g

kin : (t : ℕ) → Kin t (family t)
kin t = go (eqb t ipv6_remote_type) (eqb t local_range_type) (eqb t remote_range_type) refl refl refl
  where
    go : (a b c : Bool) → eqb t ipv6_remote_type ≡ a → eqb t local_range_type ≡ b → eqb t remote_range_type ≡ c
        → Kin t (pick a ipv4_remote_type (pick b local_port_type (pick c remote_port_type t)))
    go true b c p q r = addresses (eqb-true t _ p) refl
    go false true c p q r = locals (eqb-true t _ q) refl
    go false false true p q r = remotes (eqb-true t _ r) refl
    go false false false p q r = own refl

siblings : (t u g : ℕ) → Kin t g → Kin u g → (t ≡ u) ⊎ ExcludeEachOther t u
siblings t u g (own p) (own q) = inl (sym p ∙ q)
siblings t u g (own p) (addresses q r) = inr (rw (← p, q, r) 10_with_20)
siblings t u g (own p) (locals q r) = inr (rw (← p, q, r) 40_with_41)
siblings t u g (own p) (remotes q r) = inr (rw (← p, q, r) 50_with_51)
siblings t u g (addresses p s) (own q) = inr (rw (← q, p, s) 20_with_10)
siblings t u g (locals p s) (own q) = inr (rw (← q, p, s) 41_with_40)
siblings t u g (remotes p s) (own q) = inr (rw (← q, p, s) 51_with_50)
siblings t u g (addresses p s) (addresses q r) = inl (p ∙ sym q)
siblings t u g (locals p s) (locals q r) = inl (p ∙ sym q)
siblings t u g (remotes p s) (remotes q r) = inl (p ∙ sym q)
siblings t u g (addresses p s) (locals q r) = inl (omega arith)
siblings t u g (addresses p s) (remotes q r) = inl (omega arith)
siblings t u g (locals p s) (addresses q r) = inl (omega arith)
siblings t u g (locals p s) (remotes q r) = inl (omega arith)
siblings t u g (remotes p s) (addresses q r) = inl (omega arith)
siblings t u g (remotes p s) (locals q r) = inl (omega arith)

pub same_or_apart : (t u : ℕ) → family t ≡ family u → (t ≡ u) ⊎ ExcludeEachOther t u
same_or_apart t u e = siblings t u (family u) (rw e at (kin t)) (kin u)

pub apart_kin : (t u : ℕ) → ExcludeEachOther t u → family t ≡ family u
apart_kin t u 10_with_20 = refl
apart_kin t u 20_with_10 = refl
apart_kin t u 40_with_41 = refl
apart_kin t u 41_with_40 = refl
apart_kin t u 50_with_51 = refl
apart_kin t u 51_with_50 = refl
