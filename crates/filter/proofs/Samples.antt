-- What the code asks of a filter: where any packet fits, the answers are yes, and where they are, the packet that the filter describes fits;
-- component by component.
use Rattle.std.specs.Prelude.{None, Option, Some}
use mathlib.Core.Path.{◌≡◌, refl, sym, ◌∙◌}
use mathlib.Core.Bool.{Bool, true, false, ◌||◌, false≢true}
use mathlib.Core.Logic.{⊎_elim}
use Prim.Native.Nat.{ℕ, ◌*◌, ◌/◌, ◌^◌}
use native.Mathlib.Omega.{arith}
use lib.Dec.{eqb, leb}
use borrow.Author.Tests.{eqb-true, eq-eqb, le-leb}
use Rattle.laws.specs.Numbers.{within}
use Rattle.laws.specs.Index.{imp}
use Rattle.laws.specs.Says.{Says}
use Rattle.laws.proofs.Says.{says_it, says_if}
use Rattle.laws.proofs.Tests.{both, either, within_low}
use Rattle.laws.proofs.Masks.{same_self}
use Rattle.filter.specs.declared.component.Address.{Address}
use Rattle.filter.specs.declared.component.RemoteAddress.{RemoteAddress}
use Rattle.filter.specs.declared.component.RemoteAddress.TheVariants.{Absent as no_address, V4, V6}
use Rattle.filter.specs.declared.component.Port.{Port}
use Rattle.filter.specs.declared.component.Port.TheVariants.{Absent as no_port, Is as is_port, Range}
use Rattle.filter.specs.declared.component.Class.{Class}
use Rattle.filter.specs.Component.{type_of_local, type_of_remote, type_of_index, present}
use Rattle.filter.specs.Coding.{label_fits}
use Rattle.filter.specs.Fit.{valid_at, carries_ports, carries_index, agrees_address, agrees_protocol, agrees_port, agrees_index, agrees_class, agrees_label}
use Rattle.filter.specs.Fittable.{sample_version, sample_address, sample_protocol, sample_port, sample_index, sample_class, sample_label}
use Rattle.filter.specs.Inner.Asked.{some_port, in_order, some_version, some_protocol}

-- ---- the version: the address and the label agree with one, so they agree with that of the sample
same : (x : ℕ) → eqb x x ≡ true
same x = eq-eqb x x refl

-- a label that agrees with a valid header is not too large
pub label_fits_lem : (l : Option ℕ) (version label : ℕ) → agrees_label l version label ≡ true → valid_at version label ≡ true → label_fits l ≡ true
label_fits_lem None version label e v = refl
label_fits_lem (Some x) version label e v =
    let h = both (eqb version 6) (eqb x label) e in
    rw (eqb-true version 6 h.0, ← eqb-true x label h.1) at v

pub version_asked : (a : RemoteAddress) (l : Option ℕ) (version : ℕ) (address : Address) (label : ℕ) → agrees_address a version address ≡ true
    → agrees_label l version label ≡ true → valid_at version label ≡ true → some_version a l ≡ true
version_asked a None version address label e g v = refl
version_asked no_address (Some x) version address label e g v = label_fits_lem (Some x) version label g v
version_asked (V4 a mask) (Some x) version address label e g v =
    let four = eqb-true version 4 (both (eqb version 4) _ e).0 in
    let six = eqb-true version 6 (both (eqb version 6) (eqb x label) g).0 in
    let no : ⊥ = omega arith in
    absurd no
version_asked (V6 a mask) (Some x) version address label e g v = label_fits_lem (Some x) version label g v

pub record VersionRight (a : RemoteAddress) (l : Option ℕ) (v : ℕ) : Type 0 where
  pub address : agrees_address a v (sample_address a) ≡ true
  pub label : agrees_label l v (sample_label l) ≡ true
  pub valid : valid_at v (sample_label l) ≡ true

own4 : (a mask : ℕ) → agrees_address (V4 a mask) 4 (sample_address (V4 a mask)) ≡ true
own4 a mask =
    let e : a * 2 ^ 32 / 2 ^ 32 ≡ a = omega arith in
    rw e (same_self 32 mask a)

own6 : (a mask : Address) → agrees_address (V6 a mask) 6 (sample_address (V6 a mask)) ≡ true
own6 a mask = rw (same_self 64 mask.high a.high, same_self 64 mask.low a.low)

pub version_right : (a : RemoteAddress) (l : Option ℕ) → some_version a l ≡ true → VersionRight a l (sample_version a l)
version_right no_address None e = record { address = refl; label = refl; valid = refl }
version_right no_address (Some x) e = record { address = refl; label = same x; valid = e }
version_right (V4 a mask) None e = record { address = own4 a mask; label = refl; valid = refl }
version_right (V4 a mask) (Some x) e = absurd (false≢true e)
version_right (V6 a mask) None e = record { address = own6 a mask; label = refl; valid = refl }
version_right (V6 a mask) (Some x) e = record { address = own6 a mask; label = same x; valid = e }

-- ---- the protocol: what the ports and the index ask of one, they have of that of the sample
-- no protocol carries ports and an index
pub apart : (x : ℕ) → carries_ports x ≡ true → carries_index x ≡ true → ⊥
apart x p i = ⊎_elim (λ e. other x 50 refl (eqb-true x 50 e) p) (λ e. other x 51 refl (eqb-true x 51 e) p) (either (eqb x 50) (eqb x 51) i)
  where
    other : (x y : ℕ) → carries_ports y ≡ false → x ≡ y → carries_ports x ≡ true → ⊥
    other x y n e p = false≢true (sym n ∙ rw (← e) p)

wants : (a b : Bool) → Says (imp a b) (a ≡ true → b ≡ true)
wants a b = says_if (says_it a) (says_it b)

pub protocol_asked : (p : Option ℕ) (ports index : Bool) (x : ℕ) → agrees_protocol p x ≡ true → (ports ≡ true → carries_ports x ≡ true)
    → (index ≡ true → carries_index x ≡ true) → some_protocol p ports index ≡ true
protocol_asked (Some y) ports index x e p i = rw (eqb-true y x e, (wants ports (carries_ports x)).from p, (wants index (carries_index x)).from i)
protocol_asked None true true x e p i = absurd (apart x (p refl) (i refl))
protocol_asked None true false x e p i = refl
protocol_asked None false index x e p i = refl

pub record ProtocolRight (p : Option ℕ) (wants_ports wants_index : Bool) (s : ℕ) : Type 0 where
  pub protocol : agrees_protocol p s ≡ true
  pub ports : wants_ports ≡ true → carries_ports s ≡ true
  pub index : wants_index ≡ true → carries_index s ≡ true

pub protocol_right : (p : Option ℕ) (ports index : Bool) → some_protocol p ports index ≡ true → ProtocolRight p ports index (sample_protocol p ports index)
protocol_right (Some x) ports index e =
    let h = both (imp ports (carries_ports x)) (imp index (carries_index x)) e in
    record { protocol = same x; ports = (wants ports (carries_ports x)).to h.0; index = (wants index (carries_index x)).to h.1 }
protocol_right None true true e = absurd (false≢true e)
protocol_right None true false e = record { protocol = refl; ports = λ _. refl; index = λ t. absurd (false≢true t) }
protocol_right None false true e = record { protocol = refl; ports = λ t. absurd (false≢true t); index = λ _. refl }
protocol_right None false false e = record { protocol = refl; ports = λ t. absurd (false≢true t); index = λ t. absurd (false≢true t) }

-- ---- the ports, the index and the class
-- the definition asks whether the ports have a type
pub ports_there : (l r : Port) → present (type_of_local l) || present (type_of_remote r) ≡ some_port l || some_port r
ports_there no_port no_port = refl
ports_there no_port (is_port x) = refl
ports_there no_port (Range low high) = refl
ports_there (is_port x) r = refl
ports_there (Range low high) r = refl

-- a port that is there and agrees is one of a protocol that carries ports
pub port_wants : (c : Port) (protocol port : ℕ) → agrees_port c protocol port ≡ true → some_port c ≡ true → carries_ports protocol ≡ true
port_wants no_port protocol port e t = absurd (false≢true t)
port_wants (is_port x) protocol port e t = (both (carries_ports protocol) (eqb x port) e).0
port_wants (Range low high) protocol port e t = (both (carries_ports protocol) (within low high port) e).0

pub port_order : (c : Port) (protocol port : ℕ) → agrees_port c protocol port ≡ true → in_order c ≡ true
port_order no_port protocol port e = refl
port_order (is_port x) protocol port e = refl
port_order (Range low high) protocol port e =
    (both (leb low low) (leb low high) (within_low low high port (both (carries_ports protocol) (within low high port) e).1)).1

pub port_right : (c : Port) (s : ℕ) → in_order c ≡ true → (some_port c ≡ true → carries_ports s ≡ true) → agrees_port c s (sample_port c) ≡ true
port_right no_port s o w = refl
port_right (is_port x) s o w = rw (w refl) (same x)
port_right (Range low high) s o w = rw (w refl, le-leb low low (omega arith)) o

pub index_wants : (c : Option ℕ) (protocol index : ℕ) → agrees_index c protocol index ≡ true → present (type_of_index c) ≡ true → carries_index protocol ≡ true
index_wants None protocol index e t = absurd (false≢true t)
index_wants (Some x) protocol index e t = (both (carries_index protocol) (eqb x index) e).0

pub index_right : (c : Option ℕ) (s : ℕ) → (present (type_of_index c) ≡ true → carries_index s ≡ true) → agrees_index c s (sample_index c) ≡ true
index_right None s w = refl
index_right (Some x) s w = rw (w refl) (same x)

pub class_right : (c : Option Class) → agrees_class c (sample_class c) ≡ true
class_right None = refl
class_right (Some m) = same_self 8 m.mask m.class
