-- Fit before and after the request that "132 carries both ports as well."
use Rattle.std.specs.Prelude.{None, Option, Some}
use mathlib.Core.Path.{◌≡◌, refl, sym, ◌∙◌, ap}
use mathlib.Core.Bool.{true, false}
use mathlib.Core.Logic.{◌⊎◌, inl, inr, ⊎_elim, ◌↔◌}
use Prim.Native.Nat.{ℕ}
use native.Mathlib.Omega.{arith}
use lib.Dec.{eqb}
use borrow.Author.Tests.{eqb-true, eq-eqb}
use Rattle.laws.proofs.Says.{which, never, says_no, says_ne, says_eq, says_it}
use Rattle.laws.proofs.Tests.{either, or_right, or_false}
use Rattle.filter.specs.declared.component.Filter.{Filter}
use Rattle.filter.specs.declared.packet.Header.{Header}
use Rattle.filter.specs.Component.{type_of_address, present}
use Rattle.filter.specs.Coding.{held}
use Rattle.filter.specs.Fit.{carries_ports, carries_index, agrees_protocol, valid_header, fits}
use Rattle.filter.specs.Fittable.{SomePacketFits}
use Rattle.filter.specs.Before.{tcp, udp, sctp, tcp_or_udp, fits_before, SomePacketFitted, NoPort, PortNoProtocol, PortOfSctp, naming, of_protocol, FitsSctpToo}
use Rattle.filter.proofs.Samples.{apart}
use Rattle.filter.proofs.Rules.{fits_alike, fits_same, portless_same, fits_carries, fits_named, has_port, of_range, some_at, some_by, fits_more, fits_no_more}

-- ---- the two answers to which protocols carry ports
carried : (p : ℕ) → tcp_or_udp p ≡ true → carries_ports p ≡ true
carried p e = ⊎_elim (known p tcp refl) (known p udp refl) (either (eqb p tcp) (eqb p udp) e)
  where
    known : (p q : ℕ) → carries_ports q ≡ true → eqb p q ≡ true → carries_ports p ≡ true
    known p q c t = rw (eqb-true p q t) c

no_index_lem : (p : ℕ) → carries_ports p ≡ true → carries_index p ≡ false
no_index_lem p t = says_no (says_it (carries_index p)) (apart p t)

any_protocol : (f : Filter) (p q : ℕ) → f.protocol ≡ None → agrees_protocol f.protocol p ≡ agrees_protocol f.protocol q
any_protocol f p q e = rw e

-- ---- SCTP is as TCP or UDP was
like : (f : Filter) (c d : Option ℕ) (h : Header) (p : ℕ) → agrees_protocol c sctp ≡ agrees_protocol d p → tcp_or_udp p ≡ true
    → fits (naming c f) (of_protocol sctp h) ≡ fits_before (naming d f) (of_protocol p h)
unfolding fits
like f c d h p same t = fits_alike carries_ports tcp_or_udp f c d h sctp p same (sym t) (sym (no_index_lem p (carried p t)))

-- a filter that names SCTP fits an SCTP packet exactly where it fitted, naming TCP or UDP, the same packet of that protocol
pub sctp_named : (f : Filter) (h : Header) (p : ℕ) → tcp_or_udp p ≡ true
    → fits (naming (Some sctp) f) (of_protocol sctp h) ≡ fits_before (naming (Some p) f) (of_protocol p h)
sctp_named f h p t = like f (Some sctp) (Some p) h p (sym (eq-eqb p p refl)) t

-- a filter without a protocol fits one exactly where it fitted the same packet of TCP or UDP
pub sctp_alike : (f : Filter) → f.protocol ≡ None → (h : Header) (p : ℕ) → tcp_or_udp p ≡ true → fits f (of_protocol sctp h) ≡ fits_before f (of_protocol p h)
sctp_alike f none h p t = like f f.protocol f.protocol h p (any_protocol f sctp p none) t

-- ---- "Held filters with a port and no protocol now fit SCTP packets too"
-- .. of which no filter with a port fitted any
pub port_before : (f : Filter) → (NoPort f → ⊥) → (h : Header) → h.protocol ≡ sctp → fits_before f h ≡ false
port_before f port h e = says_no (says_it (fits_before f h)) (λ b. never (rw e at (fits_carries tcp_or_udp f h port b)) refl)

pub sctp_too : (f : Filter) → PortNoProtocol f → SomePacketFitted f → FitsSctpToo f
unfolding valid_header
sctp_too f a s =
    let h = s.header in
    record {
      header = of_protocol sctp h;
      in_range = of_range sctp h (omega arith) s.in_range;
      valid = s.valid;
      of_sctp = refl;
      before = port_before f a.port (of_protocol sctp h) refl;
      now = sctp_alike f a.protocol h h.protocol (fits_carries tcp_or_udp f h a.port s.agrees) ∙ s.agrees;
    }

-- ---- packets of another protocol are fitted as they were
others : (p : ℕ) → (p ≡ sctp → ⊥) → carries_ports p ≡ tcp_or_udp p
others p n = rw (says_no (says_eq p sctp) n) (or_false (tcp_or_udp p))

pub other_packets : (f : Filter) (h : Header) → (h.protocol ≡ sctp → ⊥) → fits f h ≡ fits_before f h
unfolding fits
other_packets f h n = fits_same carries_ports tcp_or_udp f h (others h.protocol n)

-- ---- "every other held filter fits what it fitted before"
pub fits_still : (f : Filter) (h : Header) → fits_before f h ≡ true → fits f h ≡ true
unfolding fits
fits_still = fits_more tcp_or_udp carries_ports carried

pub other_filters : (f : Filter) → SomePacketFitted f → (PortNoProtocol f → ⊥) → (h : Header) → fits f h ≡ fits_before f h
unfolding fits
other_filters = fits_no_more tcp_or_udp carries_ports carried

-- ---- a packet that a filter fits only if it has no port is fitted as it was
pub portless_packets : (f : Filter) (h : Header) → (fits f h ≡ true → NoPort f) → fits f h ≡ fits_before f h
unfolding fits
portless_packets f h none =
    ⊎_elim (λ e. portless_same carries_ports tcp_or_udp f h (none e)) (λ n. n ∙ sym (says_no (says_it (fits_before f h)) (λ e. never (fits_still f h e) n))) (which (fits f h))

-- ---- a filter that names a protocol is held
pub named_held : (f : Filter) (x : ℕ) → f.protocol ≡ Some x → held f ≡ true
unfolding held
named_held f x q = rw q (or_right (present (type_of_address f.address)) _ refl)

-- ---- which filters some packet fits: those that some packet fitted ..
pub still_fitted : (f : Filter) → SomePacketFitted f → SomePacketFits f
still_fitted f s = some_by fits_before fits f s (fits_still f s.header s.agrees)

-- .. and those with a port and SCTP, which none fitted, that some packet would have fitted with TCP in the place of SCTP
pub sctp_unfitted : (f : Filter) → PortOfSctp f → SomePacketFitted f → ⊥
sctp_unfitted f a s = never s.agrees (port_before f a.port s.header (sym (fits_named tcp_or_udp f s.header sctp a.protocol s.agrees)))

module _ (f : Filter) where
  abbrev as_tcp : Filter
  as_tcp = naming (Some tcp) f

  abbrev WithTcp : Type 0
  WithTcp = PortOfSctp f × SomePacketFitted as_tcp

  -- the same packet of either protocol
  swapped : f.protocol ≡ Some sctp → (h : Header) → fits f (of_protocol sctp h) ≡ fits_before as_tcp (of_protocol tcp h)
  swapped q h = ap (λ (c : Option ℕ). fits (naming c f) (of_protocol sctp h)) q ∙ sctp_named f h tcp refl

  with_tcp : WithTcp → SomePacketFits f
  with_tcp w =
      let s = w.1 in
      let six = fits_named tcp_or_udp as_tcp s.header tcp refl s.agrees in
      some_at fits_before fits as_tcp f s sctp (omega arith)
      (swapped w.0.protocol s.header ∙ ap (λ (p : ℕ). fits_before as_tcp (of_protocol p s.header)) six ∙ s.agrees)

  module _ (s : SomePacketFits f) where
    abbrev h : Header
    h = s.header

    was : fits_before f h ≡ fits f h → SomePacketFitted f
    was e = some_by fits fits_before f s (e ∙ s.agrees)

    -- without a protocol, TCP would have done
    as_tcp_lem : (NoPort f → ⊥) → f.protocol ≡ None → SomePacketFitted f
    unfolding fits
    as_tcp_lem port q =
        let carries = fits_carries carries_ports f h port s.agrees in
        let same = any_protocol f tcp h.protocol q in
        some_at fits fits_before f f s tcp (omega arith)
        (fits_alike tcp_or_udp carries_ports f f.protocol f.protocol h tcp h.protocol same (sym carries) (sym (no_index_lem h.protocol carries)) ∙ s.agrees)

    of_sctp_lem : (NoPort f → ⊥) → (x : ℕ) → f.protocol ≡ Some x → h.protocol ≡ sctp → WithTcp
    unfolding fits
    of_sctp_lem port x q e =
        let named = q ∙ ap Some (fits_named carries_ports f h x q s.agrees ∙ e) in (
          record { port = port; protocol = named },
          some_at fits fits_before f as_tcp s tcp (omega arith) (sym (swapped named h) ∙ ap (λ (p : ℕ). fits f (of_protocol p h)) (sym e) ∙ s.agrees),
        )

    by_protocol : (NoPort f → ⊥) → (c : Option ℕ) → f.protocol ≡ c → SomePacketFitted f ⊎ WithTcp
    by_protocol port None q = inl (as_tcp_lem port q)
    by_protocol port (Some x) q =
        ⊎_elim (λ e. inr (of_sctp_lem port x q (eqb-true h.protocol sctp e)))
        (λ n. inl (was (sym (other_packets f h (says_ne (says_eq h.protocol sctp) n))))) (which (eqb h.protocol sctp))

    by_port : SomePacketFitted f ⊎ WithTcp
    unfolding fits
    by_port = ⊎_elim (λ n. inl (was (portless_same tcp_or_udp carries_ports f h n))) (λ port. by_protocol port f.protocol refl) (has_port f)

  pub fitted_now : SomePacketFits f ↔ (SomePacketFitted f ⊎ (PortOfSctp f × SomePacketFitted (naming (Some tcp) f)))
  fitted_now = (by_port, ⊎_elim (still_fitted f) with_tcp)
