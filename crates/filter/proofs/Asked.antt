-- The code's questions about a filter are all answered yes exactly where the packet that the filter describes fits it.
use mathlib.Core.Path.{◌≡◌, refl, sym, subst, ap}
use mathlib.Core.Bool.{Bool, true, false, ◌&&◌, ◌||◌}
use mathlib.Core.Logic.{⊎_elim}
use lib.Dec.{eqb, leb}
use Rattle.laws.proofs.Says.{says_it, says_same}
use Rattle.laws.proofs.Tests.{both, either, or_left, or_right, or_false}
use Rattle.filter.specs.declared.component.Filter.{Filter}
use Rattle.filter.specs.declared.packet.Header.{Header}
use Rattle.filter.specs.Component.{type_of_index, present}
use Rattle.filter.specs.Coding.{held, label_fits, well_coded, empty_place, largest_direction}
use Rattle.filter.specs.Fit.{carries_ports, valid_header, fits}
use Rattle.filter.specs.Fittable.{sample_protocol, sample, fittable, place_fine}
use Rattle.filter.specs.Inner.Asked.{some_port, in_order, some_version, asked}
use Rattle.filter.proofs.Rules.{agree, fits_all}
use Rattle.filter.proofs.Samples.{ProtocolRight, label_fits_lem, version_asked, version_right, protocol_asked, protocol_right, ports_there}
use Rattle.filter.proofs.Samples.{port_wants, port_order, port_right, index_wants, index_right, class_right}

-- ---- The answers are yes where any packet fits, and then the sample does.
pub any_asked : (f : Filter) (h : Header) → valid_header h ≡ true → fits f h ≡ true → asked f ≡ true
unfolding asked valid_header fits
any_asked f h v e =
    let a = agree carries_ports f h e in
    let local = port_wants f.local h.protocol h.local a.local in
    let remote = port_wants f.remote h.protocol h.remote a.remote in
    rw (
      version_asked f.address f.label h.version h.address h.label a.address a.label v,
      protocol_asked f.protocol (some_port f.local || some_port f.remote) (present (type_of_index f.index)) h.protocol a.protocol (λ t. ⊎_elim local remote (either _ _ t)) (index_wants f.index h.protocol h.index a.index),
      port_order f.local h.protocol h.local a.local,
      port_order f.remote h.protocol h.remote a.remote,
    )

pub asked_fits : (f : Filter) → asked f ≡ true → fittable f ≡ true
unfolding asked fittable sample valid_header fits
asked_fits f e =
    let remote = both _ (in_order f.remote) e in
    let local = both _ (in_order f.local) remote.0 in
    let first = both (some_version f.address f.label) _ local.0 in
    let ports = some_port f.local || some_port f.remote in
    let index = present (type_of_index f.index) in
    let v = version_right f.address f.label first.0 in
    let p = subst (ProtocolRight f.protocol ports index) (ap (λ (b : Bool). sample_protocol f.protocol b index) (sym (ports_there f.local f.remote))) (protocol_right f.protocol ports index first.1) in
    rw v.valid
    (fits_all carries_ports f (sample f)
    (record {
      protocol = p.protocol;
      local = port_right f.local _ local.1 (λ t. p.ports (or_left _ _ t));
      remote = port_right f.remote _ remote.1 (λ t. p.ports (or_right (some_port f.local) _ t));
      index = index_right f.index _ p.index;
      address = v.address;
      class = class_right f.class;
      label = v.label;
    }))

pub fittable_is : (f : Filter) → fittable f ≡ asked f
unfolding fittable
fittable_is f =
    says_same
    (record {
      to = λ e. let h = both (valid_header (sample f)) (fits f (sample f)) e in any_asked f (sample f) h.0 h.1;
      from = asked_fits f;
    }) (says_it (asked f))

-- ---- A place: a filter that some packet fits has a label that fits, so of one that is held only the direction is left to look at.
fittable_label : (f : Filter) → fittable f ≡ true → label_fits f.label ≡ true
unfolding fittable valid_header fits
fittable_label f e =
    let h = both (valid_header (sample f)) (fits f (sample f)) e in
    label_fits_lem f.label (sample f).version (sample f).label (agree carries_ports f (sample f) h.1).label h.0

-- what follows from the last test need not be asked
needless : (a b c : Bool) → (c ≡ true → b ≡ true) → (a && b) && c ≡ a && c
needless false b c w = refl
needless true true c w = refl
needless true false true w = w refl
needless true false false w = refl

pub held_fine : (f : Filter) → held f ≡ true → place_fine f ≡ leb f.direction largest_direction && fittable f
unfolding empty_place well_coded
held_fine f h = rw h (needless (leb f.direction largest_direction) (label_fits f.label) (fittable f) (fittable_label f))

pub unheld_fine : (f : Filter) → held f ≡ false → place_fine f ≡ eqb f.precedence 0 && eqb f.direction 0
unfolding empty_place well_coded
unheld_fine f h = rw h (or_false _)
