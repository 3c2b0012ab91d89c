-- Two answers to which protocols carry ports, a and b, and what a filter fits by the one and by the other. Nothing here depends on which protocols those are.
use Rattle.std.specs.Prelude.{None, Option, Some}
use mathlib.Core.Path.{◌≡◌, refl, sym, ◌∙◌}
use mathlib.Core.Bool.{Bool, true, false, ◌||◌}
use mathlib.Core.Logic.{◌⊎◌, inl, inr, ⊎_elim}
use Prim.Native.Nat.{ℕ, ◌^◌, ◌<◌}
use lib.Dec.{eqb}
use borrow.Author.Tests.{eqb-true}
use Rattle.laws.proofs.Says.{which, never}
use Rattle.laws.proofs.Tests.{both, neither}
use Rattle.filter.specs.declared.component.Port.{Port}
use Rattle.filter.specs.declared.component.Port.TheVariants.{Absent as no_port, Is as is_port, Range}
use Rattle.filter.specs.declared.component.Filter.{Filter}
use Rattle.filter.specs.declared.packet.Header.{Header}
use Rattle.filter.specs.Fit.{valid_header, carries_index, agrees_address, agrees_protocol, agrees_port_by, agrees_index, agrees_class, agrees_label, agrees_network, fits_by}
use Rattle.filter.specs.Ranges.{HeaderInRange}
use Rattle.filter.specs.Fittable.{SomePacketFitsBy}
use Rattle.filter.specs.Before.{NoPort, PortNoProtocol, naming, of_protocol}
use Rattle.filter.specs.Inner.Asked.{some_port}

-- ---- one component
port_same : (a b : ℕ → Bool) (c : Port) (p q port : ℕ) → a p ≡ b q → agrees_port_by a c p port ≡ agrees_port_by b c q port
port_same a b no_port p q port e = refl
port_same a b (is_port x) p q port e = rw e
port_same a b (Range low high) p q port e = rw e

index_same : (c : Option ℕ) (p q index : ℕ) → carries_index p ≡ carries_index q → agrees_index c p index ≡ agrees_index c q index
index_same None p q index e = refl
index_same (Some x) p q index e = rw e

port_absent : (a : ℕ → Bool) (c : Port) (p port : ℕ) → a p ≡ false → agrees_port_by a c p port ≡ true → c ≡ no_port
port_absent a no_port p port n e = refl
port_absent a (is_port x) p port n e = never (both (a p) _ e).0 n
port_absent a (Range low high) p port n e = never (both (a p) _ e).0 n

-- ---- every component agrees
pub record AgreesBy (a : ℕ → Bool) (f : Filter) (h : Header) : Type 0 where
  pub protocol : agrees_protocol f.protocol h.protocol ≡ true
  pub local : agrees_port_by a f.local h.protocol h.local ≡ true
  pub remote : agrees_port_by a f.remote h.protocol h.remote ≡ true
  pub index : agrees_index f.index h.protocol h.index ≡ true
  pub address : agrees_address f.address h.version h.address ≡ true
  pub class : agrees_class f.class h.class ≡ true
  pub label : agrees_label f.label h.version h.label ≡ true

pub agree : (a : ℕ → Bool) (f : Filter) (h : Header) → fits_by a f h ≡ true → AgreesBy a f h
unfolding agrees_network
agree a f h e =
    let all = both _ _ e in
    let transport = both _ _ all.0 in
    let ports = both _ _ transport.0 in
    let first = both _ _ ports.0 in
    let network = both _ _ all.1 in
    let last = both _ _ network.0 in
    record {
      protocol = first.0;
      local = first.1;
      remote = ports.1;
      index = transport.1;
      address = last.0;
      class = last.1;
      label = network.1;
    }

pub fits_all : (a : ℕ → Bool) (f : Filter) (h : Header) → AgreesBy a f h → fits_by a f h ≡ true
unfolding agrees_network
fits_all a f h g = rw (g.protocol, g.local, g.remote, g.index, g.address, g.class, g.label)

-- ---- a filter by two answers
-- by a, naming c, it fits a packet of protocol p exactly where by b, naming d, it fits the same packet of protocol q: where c agrees with p as d does with q, and
-- ports and index count for p as they do for q
pub fits_alike : (a b : ℕ → Bool) (f : Filter) (c d : Option ℕ) (h : Header) (p q : ℕ) → agrees_protocol c p ≡ agrees_protocol d q → a p ≡ b q
    → carries_index p ≡ carries_index q → fits_by a (naming c f) (of_protocol p h) ≡ fits_by b (naming d f) (of_protocol q h)
unfolding agrees_network
fits_alike a b f c d h p q t e i =
    rw (t, port_same a b f.local p q h.local e, port_same a b f.remote p q h.remote e, index_same f.index p q h.index i)

-- by two that agree at a header's protocol it fits the same there
pub fits_same : (a b : ℕ → Bool) (f : Filter) (h : Header) → a h.protocol ≡ b h.protocol → fits_by a f h ≡ fits_by b f h
fits_same a b f h e = fits_alike a b f f.protocol f.protocol h h.protocol h.protocol refl e refl

-- a filter without a port fits the same by any two
pub portless_same : (a b : ℕ → Bool) (f : Filter) (h : Header) → NoPort f → fits_by a f h ≡ fits_by b f h
portless_same a b f h n = rw (n.0, n.1)

-- one that fits where no ports are carried has none ..
fits_portless : (a : ℕ → Bool) (f : Filter) (h : Header) → a h.protocol ≡ false → fits_by a f h ≡ true → NoPort f
fits_portless a f h n e =
    let g = agree a f h e in
    (port_absent a f.local h.protocol h.local n g.local, port_absent a f.remote h.protocol h.remote n g.remote)

-- .. so one with a port fits only where they are carried
pub fits_carries : (a : ℕ → Bool) (f : Filter) (h : Header) → (NoPort f → ⊥) → fits_by a f h ≡ true → a h.protocol ≡ true
fits_carries a f h port e = ⊎_elim (λ t. t) (λ n. absurd (port (fits_portless a f h n e))) (which (a h.protocol))

-- one with a protocol fits packets of that protocol alone
pub fits_named : (a : ℕ → Bool) (f : Filter) (h : Header) (x : ℕ) → f.protocol ≡ Some x → fits_by a f h ≡ true → x ≡ h.protocol
fits_named a f h x q e = eqb-true x h.protocol (rw q at (agree a f h e).protocol)

-- whether a filter has a port
pub has_port : (f : Filter) → NoPort f ⊎ (NoPort f → ⊥)
has_port f = go (which (some_port f.local || some_port f.remote))
  where
    none : (c : Port) → some_port c ≡ false → c ≡ no_port
    none no_port e = refl
    none (is_port x) e = never refl e
    none (Range low high) e = never refl e

    go : (some_port f.local || some_port f.remote ≡ true) ⊎ (some_port f.local || some_port f.remote ≡ false) → NoPort f ⊎ (NoPort f → ⊥)
    go (inl e) = inr (λ n. never e (rw (n.0, n.1)))
    go (inr e) = let h = neither (some_port f.local) (some_port f.remote) e in inl (none f.local h.0, none f.remote h.1)

-- ---- a packet that fits, with another protocol, by another test or another filter
pub of_range : (p : ℕ) (h : Header) → p < 2 ^ 8 → HeaderInRange h → HeaderInRange (of_protocol p h)
of_range p h l r =
    record {
      version = r.version;
      address = r.address;
      protocol = l;
      local = r.local;
      remote = r.remote;
      index = r.index;
      class = r.class;
      label = r.label;
    }

pub some_at : (one other : Filter → Header → Bool) (f g : Filter) (s : SomePacketFitsBy one f) (p : ℕ) → p < 2 ^ 8
    → other g (of_protocol p s.header) ≡ true → SomePacketFitsBy other g
unfolding valid_header
some_at one other f g s p l e = record { header = of_protocol p s.header; in_range = of_range p s.header l s.in_range; valid = s.valid; agrees = e }

-- .. with its own
pub some_by : (one other : Filter → Header → Bool) (f : Filter) (s : SomePacketFitsBy one f) → other f s.header ≡ true → SomePacketFitsBy other f
some_by one other f s e = some_at one other f f s s.header.protocol s.in_range.protocol e

-- ---- b has every protocol of a
module _ (a b : ℕ → Bool) (more : (p : ℕ) → a p ≡ true → b p ≡ true) where
  -- a filter fits all that it fitted by a ..
  pub fits_more : (f : Filter) (h : Header) → fits_by a f h ≡ true → fits_by b f h ≡ true
  fits_more f h e =
      ⊎_elim (λ t. sym (fits_same a b f h (t ∙ sym (more h.protocol t))) ∙ e) (λ n. portless_same b a f h (fits_portless a f h n e) ∙ e) (which (a h.protocol))

  -- .. and, if some packet fitted it and it has a protocol or no port, nothing else
  pub fits_no_more : (f : Filter) → SomePacketFitsBy (fits_by a) f → (PortNoProtocol f → ⊥) → (h : Header) → fits_by b f h ≡ fits_by a f h
  fits_no_more f s other h = by (has_port f)
    where
      fixed : (x : ℕ) → f.protocol ≡ Some x → a x ≡ true → fits_by b f h ≡ fits_by a f h
      fixed x q t = go (which (eqb x h.protocol))
        where
          go : (eqb x h.protocol ≡ true) ⊎ (eqb x h.protocol ≡ false) → fits_by b f h ≡ fits_by a f h
          go (inl e) = let p = eqb-true x h.protocol e in fits_same b a f h (rw (← p) (more x t ∙ sym t))
          go (inr n) = rw (q, n)

      chosen : (NoPort f → ⊥) → (c : Option ℕ) → f.protocol ≡ c → fits_by b f h ≡ fits_by a f h
      chosen port None q = absurd (other (record { port = port; protocol = q }))
      chosen port (Some x) q = fixed x q (rw (fits_named a f s.header x q s.agrees) (fits_carries a f s.header port s.agrees))

      by : NoPort f ⊎ (NoPort f → ⊥) → fits_by b f h ≡ fits_by a f h
      by (inl n) = portless_same b a f h n
      by (inr port) = chosen port f.protocol refl
