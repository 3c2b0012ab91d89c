-- An empty place is the bare filter with precedence and direction 0, and no other.
use Rattle.std.specs.Prelude.{None, Option, Some}
use mathlib.Core.Path.{◌≡◌, refl, ◌∙◌, ap}
use mathlib.Core.Bool.{true, false, not, ◌&&◌, false≢true}
use Prim.Native.Nat.{ℕ}
use lib.Dec.{eqb}
use borrow.Author.Tests.{eqb-true, not-true}
use Rattle.laws.specs.Says.{Says}
use Rattle.laws.proofs.Tests.{both, neither}
use Rattle.filter.specs.declared.component.RemoteAddress.{RemoteAddress}
use Rattle.filter.specs.declared.component.RemoteAddress.TheVariants.{Absent as no_address, V4, V6}
use Rattle.filter.specs.declared.component.Port.{Port}
use Rattle.filter.specs.declared.component.Port.TheVariants.{Absent as no_port, Is as is_port, Range}
use Rattle.filter.specs.declared.component.Class.{Class}
use Rattle.filter.specs.declared.component.Filter.{Filter}
use Rattle.filter.specs.Component.{local_port_type, local_range_type, remote_port_type, remote_range_type, type_of_address, type_of_protocol}
use Rattle.filter.specs.Component.{type_of_port, type_of_index, type_of_class, type_of_label, present}
use Rattle.filter.specs.Coding.{held, empty_place}
use Rattle.filter.specs.Build.{bare}

no_address_lem : (a : RemoteAddress) → present (type_of_address a) ≡ false → a ≡ no_address
no_address_lem no_address e = refl
no_address_lem (V4 a mask) e = absurd (false≢true (cc))
no_address_lem (V6 a mask) e = absurd (false≢true (cc))

no_protocol_lem : (p : Option ℕ) → present (type_of_protocol p) ≡ false → p ≡ None
no_protocol_lem None e = refl
no_protocol_lem (Some x) e = absurd (false≢true (cc))

-- one and range are the port's types
no_port_lem : (one range : ℕ) → present one ≡ true → present range ≡ true → (p : Port) → present (type_of_port one range p) ≡ false → p ≡ no_port
no_port_lem one range o r no_port e = refl
no_port_lem one range o r (is_port x) e = absurd (false≢true (cc))
no_port_lem one range o r (Range low high) e = absurd (false≢true (cc))

no_index_lem : (i : Option ℕ) → present (type_of_index i) ≡ false → i ≡ None
no_index_lem None e = refl
no_index_lem (Some x) e = absurd (false≢true (cc))

no_class_lem : (c : Option Class) → present (type_of_class c) ≡ false → c ≡ None
no_class_lem None e = refl
no_class_lem (Some m) e = absurd (false≢true (cc))

no_label_lem : (l : Option ℕ) → present (type_of_label l) ≡ false → l ≡ None
no_label_lem None e = refl
no_label_lem (Some x) e = absurd (false≢true (cc))

-- a filter that is not held is bare
pub unheld_bare : (f : Filter) → held f ≡ false → f ≡ bare f.precedence f.direction
unfolding held
unheld_bare f e =
    let address = neither _ _ e in
    let protocol = neither _ _ address.1 in
    let local = neither _ _ protocol.1 in
    let remote = neither _ _ local.1 in
    let index = neither _ _ remote.1 in
    let class = neither _ _ index.1 in
    let label = neither _ _ class.1 in
    let a = no_address_lem f.address address.0 in
    let p = no_protocol_lem f.protocol protocol.0 in
    let l = no_port_lem local_port_type local_range_type refl refl f.local local.0 in
    let r = no_port_lem remote_port_type remote_range_type refl refl f.remote remote.0 in
    let i = no_index_lem f.index index.0 in
    let c = no_class_lem f.class class.0 in
    let b = no_label_lem f.label label.0 in
    λ k.
    record {
      precedence = f.precedence;
      direction = f.direction;
      address = a k;
      protocol = p k;
      local = l k;
      remote = r k;
      index = i k;
      class = c k;
      label = b k;
    }

empty_bare : (f : Filter) → empty_place f ≡ true → f ≡ bare 0 0
unfolding empty_place
empty_bare f e =
    let all = both (not (held f) && eqb f.precedence 0) (eqb f.direction 0) e in
    let h = both (not (held f)) (eqb f.precedence 0) all.0 in
    unheld_bare f (not-true (held f) h.0)
    ∙ ap (λ (n : ℕ). bare n f.direction) (eqb-true f.precedence 0 h.1)
    ∙ ap (bare 0) (eqb-true f.direction 0 all.1)

pub empty_says : (f : Filter) → Says (empty_place f) (f ≡ bare 0 0)
unfolding empty_place held
empty_says f = record { to = empty_bare f; from = λ e. rw e }
