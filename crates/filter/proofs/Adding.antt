-- What an addition leaves as it was.
use mathlib.Core.Path.{◌≡◌, refl}
use mathlib.Core.Bool.{◌||◌}
use Rattle.laws.proofs.Says.{picked}
use Rattle.filter.specs.declared.component.Filter.{Filter}
use Rattle.filter.specs.Build.{Component, ipv4_remote, ipv6_remote, protocol, local_port, local_range, remote_port, remote_range, index, class, label, type_of, put, excluded, too_large, added}

-- ---- an addition changes neither the precedence nor the direction
pub record SameStart (f g : Filter) : Type 0 where
  pub precedence : g.precedence ≡ f.precedence
  pub direction : g.direction ≡ f.direction

pub put_start : (c : Component) (f : Filter) → SameStart f (put c f)
put_start (ipv4_remote address mask) f = record { precedence = refl; direction = refl }
put_start (ipv6_remote address mask) f = record { precedence = refl; direction = refl }
put_start (protocol x) f = record { precedence = refl; direction = refl }
put_start (local_port x) f = record { precedence = refl; direction = refl }
put_start (local_range low high) f = record { precedence = refl; direction = refl }
put_start (remote_port x) f = record { precedence = refl; direction = refl }
put_start (remote_range low high) f = record { precedence = refl; direction = refl }
put_start (index x) f = record { precedence = refl; direction = refl }
put_start (class x mask) f = record { precedence = refl; direction = refl }
put_start (label x) f = record { precedence = refl; direction = refl }

pub added_start : (f : Filter) (c : Component) → SameStart f (added f c)
unfolding added
added_start f c = picked (SameStart f) (too_large c || excluded f (type_of c)) f (put c f) (record { precedence = refl; direction = refl }) (put_start c f)
