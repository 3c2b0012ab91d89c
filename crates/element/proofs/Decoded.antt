-- What the reader decodes from octets: every number in its range, and every filter well coded.
use Rattle.std.specs.Prelude.{Some}
use mathlib.Core.Path.{◌≡◌, refl, ap, subst}
use mathlib.Core.Bool.{Bool, true, false, not, ◌&&◌, ◌||◌}
use mathlib.Core.List.{List, [], ◌∷◌}
use Prim.Native.Nat.{ℕ, zero, suc, ◌+◌, ◌*◌, ◌%◌, ◌^◌, ◌≤◌, ◌<◌}
use native.Mathlib.Omega.{arith}
use lib.Dec.{eqb, leb}
use lib.ListN.{length, take, drop, length-take, length-drop}
use lib.Seq.{length-take-le}
use borrow.Author.Tests.{le-leb, le-ltb, leb-true, eqb-false, not-true}
use Rattle.std.proofs.Common.{None, Option, Some}
use Rattle.laws.specs.Says.{pick}
use Rattle.laws.specs.Lists.{All}
use Rattle.laws.specs.Octets.{be_of}
use Rattle.laws.proofs.Octets.{be_within}
use Rattle.laws.proofs.Parts.{all_take, all_drop}
use Rattle.laws.proofs.Says.{picked}
use Rattle.laws.proofs.Tests.{or_true, both}
use Rattle.filter.specs.declared.component.RemoteAddress.TheVariants.{V4, V6}
use Rattle.filter.specs.declared.component.Port.TheVariants.{Is as is_port, Range}
use Rattle.filter.specs.declared.component.Filter.{Filter}
use Rattle.filter.specs.Component.{largest_label}
use Rattle.filter.specs.Build.{Component, ipv4_remote, ipv6_remote, protocol, local_port, local_range, remote_port, remote_range, index, class, label, type_of, bare, put, excluded, too_large, added}
use Rattle.filter.specs.Coding.{held, label_fits, well_coded}
use Rattle.filter.specs.Ranges.{AddressInRange, RemoteInRange, ProtocolInRange, PortInRange, IndexInRange, ClassInRange, LabelInRange, FilterInRange}
use Rattle.filter.proofs.Adding.{put_start}
use Rattle.filter.proofs.Theorems.{label_added}
use Rattle.filter.specs.Sizes.{place_count}
use Rattle.element.specs.Head.{operation_in, extension_in, count_in}
use Rattle.element.specs.declared.answer.SetOperation.{SetOperation}
use Rattle.element.specs.declared.answer.SetOperation.TheVariants.{Create, Add, Replace}
use Rattle.element.specs.declared.answer.BareOperation.{BareOperation}
use Rattle.element.specs.declared.answer.BareOperation.TheVariants.{DeleteTft, NoOperation}
use Rattle.element.specs.Contents.{length_of, known, address_of, component_of, contents_from, contents_of, coded_of}
use Rattle.element.specs.Framing.{Raw, identifier_of, direction_of, Split, cut, split, with_raw, split_of, rest_fits, Framed, not_framed, filters, identifiers, bare as bare_frame, framed_split, framed_set, framed_identifiers, framed_bare, framed_by, framed_of}
use Rattle.element.specs.Read.{Entry, Entries, badly, coded, with_entry, entries_of}
use Rattle.element.specs.Meaning.{Octet, FilterList, CodedList}

-- whichever a test picks
-- ---- A component, from the octets of its value
abbrev ComponentInRange : Component → Type 0
ComponentInRange (ipv4_remote address mask) = RemoteInRange (V4 address mask)
ComponentInRange (ipv6_remote address mask) = RemoteInRange (V6 address mask)
ComponentInRange (protocol x) = ProtocolInRange (Some x)
ComponentInRange (local_port x) = PortInRange (is_port x)
ComponentInRange (local_range low high) = PortInRange (Range low high)
ComponentInRange (remote_port x) = PortInRange (is_port x)
ComponentInRange (remote_range low high) = PortInRange (Range low high)
ComponentInRange (index x) = IndexInRange (Some x)
ComponentInRange (class x mask) = ClassInRange (Some (record { class = x; mask = mask }))
ComponentInRange (label x) = LabelInRange (Some x)

put_in_range : (f : Filter) (c : Component) → FilterInRange f → ComponentInRange c → FilterInRange (put c f)
put_in_range f (ipv4_remote address mask) r q = record { precedence = r.precedence; direction = r.direction; address = q; protocol = r.protocol; local = r.local; remote = r.remote; index = r.index; class = r.class; label = r.label }
put_in_range f (ipv6_remote address mask) r q = record { precedence = r.precedence; direction = r.direction; address = q; protocol = r.protocol; local = r.local; remote = r.remote; index = r.index; class = r.class; label = r.label }
put_in_range f (protocol x) r q = record { precedence = r.precedence; direction = r.direction; address = r.address; protocol = q; local = r.local; remote = r.remote; index = r.index; class = r.class; label = r.label }
put_in_range f (local_port x) r q = record { precedence = r.precedence; direction = r.direction; address = r.address; protocol = r.protocol; local = q; remote = r.remote; index = r.index; class = r.class; label = r.label }
put_in_range f (local_range low high) r q = record { precedence = r.precedence; direction = r.direction; address = r.address; protocol = r.protocol; local = q; remote = r.remote; index = r.index; class = r.class; label = r.label }
put_in_range f (remote_port x) r q = record { precedence = r.precedence; direction = r.direction; address = r.address; protocol = r.protocol; local = r.local; remote = q; index = r.index; class = r.class; label = r.label }
put_in_range f (remote_range low high) r q = record { precedence = r.precedence; direction = r.direction; address = r.address; protocol = r.protocol; local = r.local; remote = q; index = r.index; class = r.class; label = r.label }
put_in_range f (index x) r q = record { precedence = r.precedence; direction = r.direction; address = r.address; protocol = r.protocol; local = r.local; remote = r.remote; index = q; class = r.class; label = r.label }
put_in_range f (class x mask) r q = record { precedence = r.precedence; direction = r.direction; address = r.address; protocol = r.protocol; local = r.local; remote = r.remote; index = r.index; class = q; label = r.label }
put_in_range f (label x) r q = record { precedence = r.precedence; direction = r.direction; address = r.address; protocol = r.protocol; local = r.local; remote = r.remote; index = r.index; class = r.class; label = q }

module _ (xs : List ℕ) (octets : All Octet xs) where
  -- the number of the first w octets, and of at most v after them
  first_fits : (w : ℕ) → be_of (take w xs) < 2 ^ (8 * w)
  first_fits w = be_within w (take w xs) (simp length-take (omega arith)) (all_take Octet w xs octets)

  rest_fits_lem : (w v : ℕ) → length xs ≤ w + v → be_of (drop w xs) < 2 ^ (8 * v)
  rest_fits_lem w v l = be_within v (drop w xs) (simp length-drop (omega arith)) (all_drop Octet w xs octets)

  address_fits : length xs ≤ 16 → AddressInRange (address_of xs)
  address_fits l = record { high = first_fits 8; low = rest_fits_lem 8 8 l }

module _ (xs : List ℕ) (octets : All Octet xs) where
  -- c, of a type whose length is n, is in range where the octets are n at most
  abbrev InLength : ℕ × Component → Type 0
  InLength t = length xs ≤ t.0 → ComponentInRange t.1

  pick_in : (b : Bool) (n m : ℕ) (c d : Component) → InLength (n, c) → InLength (m, d) → InLength (pick b n m, pick b c d)
  pick_in true n m c d p q = p
  pick_in false n m c d p q = q

  one_fits : (w : ℕ) → length xs ≤ w → be_of xs < 2 ^ (8 * w)
  one_fits w l = be_within w xs l octets

  two_fit : (w : ℕ) → length xs ≤ w + w → (be_of (take w xs) < 2 ^ (8 * w)) × (be_of (drop w xs) < 2 ^ (8 * w))
  two_fit w l = (first_fits xs octets w, rest_fits_lem xs octets w w l)

  component_in_range : (t : ℕ) → length xs ≤ length_of t → ComponentInRange (component_of t xs)
  unfolding length_of component_of
  component_in_range t =
      pick_in (eqb t 0x10) _ _ _ _ (two_fit 4)
      (pick_in (eqb t 0x20) _ _ _ _ (λ l. (
        address_fits (take 16 xs) (all_take Octet 16 xs octets) (simp length-take (omega arith)),
        address_fits (drop 16 xs) (all_drop Octet 16 xs octets) (simp length-drop (omega arith)),
      ))
      (pick_in (eqb t 0x30) _ _ _ _ (one_fits 1)
      (pick_in (eqb t 0x40) _ _ _ _ (one_fits 2)
      (pick_in (eqb t 0x41) _ _ _ _ (two_fit 2)
      (pick_in (eqb t 0x50) _ _ _ _ (one_fits 2)
      (pick_in (eqb t 0x51) _ _ _ _ (two_fit 2)
      (pick_in (eqb t 0x60) _ _ _ _ (one_fits 4)
      (pick_in (eqb t 0x70) _ _ _ _ (two_fit 1)
      (pick_in (eqb t 0x80) _ _ _ _ (λ l. omega arith)
      (λ l. omega arith))))))))))

-- "flow label, low 20 bits"
component_small : (t : ℕ) (xs : List ℕ) → too_large (component_of t xs) ≡ false
unfolding component_of
component_small t xs =
    small (eqb t 0x10) _ _ refl
    (small (eqb t 0x20) _ _ refl
    (small (eqb t 0x30) _ _ refl
    (small (eqb t 0x40) _ _ refl
    (small (eqb t 0x41) _ _ refl
    (small (eqb t 0x50) _ _ refl
    (small (eqb t 0x51) _ _ refl
    (small (eqb t 0x60) _ _ refl
    (small (eqb t 0x70) _ _ refl
    (small (eqb t 0x80) _ _ (le-ltb largest_label (be_of xs % 2 ^ 20) (omega arith)) refl)))))))))
  where
    small : (b : Bool) (c d : Component) → too_large c ≡ false → too_large d ≡ false → too_large (pick b c d) ≡ false
    small = picked (λ c. too_large c ≡ false)

-- ---- One addition
pub record Sound (f : Filter) : Type 0 where
  pub in_range : FilterInRange f
  pub direction : f.direction ≤ 3
  pub label : label_fits f.label ≡ true

put_held : (f : Filter) (c : Component) → held (put c f) ≡ true
unfolding held
put_held f (ipv4_remote address mask) = refl
put_held f (ipv6_remote address mask) = refl
put_held f (protocol x) = simp or_true
put_held f (local_port x) = simp or_true
put_held f (local_range low high) = simp or_true
put_held f (remote_port x) = simp or_true
put_held f (remote_range low high) = simp or_true
put_held f (index x) = simp or_true
put_held f (class x mask) = simp or_true
put_held f (label x) = simp or_true

added_sound : (f : Filter) (c : Component) → ComponentInRange c → Sound f → Sound (added f c)
unfolding added
added_sound f c q s =
    let b = too_large c || excluded f (type_of c) in
    record {
      in_range = picked FilterInRange b f (put c f) s.in_range (put_in_range f c s.in_range q);
      direction = picked (λ g. g.direction ≤ 3) b f (put c f) s.direction (rw (put_start c f).direction s.direction);
      label = label_added f c s.label;
    }

added_held : (f : Filter) (c : Component) → held f ≡ true → held (added f c) ≡ true
unfolding added
added_held f c h = picked (λ g. held g ≡ true) (too_large c || excluded f (type_of c)) f (put c f) h (put_held f c)

-- nothing excludes the first component
first_held : (precedence direction : ℕ) (c : Component) → too_large c ≡ false → held (added (bare precedence direction) c) ≡ true
unfolding added excluded held
first_held precedence direction (ipv4_remote address mask) e = refl
first_held precedence direction (ipv6_remote address mask) e = refl
first_held precedence direction (protocol x) e = refl
first_held precedence direction (local_port x) e = refl
first_held precedence direction (local_range low high) e = refl
first_held precedence direction (remote_port x) e = refl
first_held precedence direction (remote_range low high) e = refl
first_held precedence direction (index x) e = refl
first_held precedence direction (class x mask) e = refl
first_held precedence direction (label x) e = rw e

-- ---- A filter's contents
pub record Decoded (f : Filter) : Type 0 where
  pub sound : Sound f
  pub held : held f ≡ true

abbrev pub DecodedAs : Option Filter → Type 0
DecodedAs None = Unit {0}
DecodedAs (Some f) = Decoded f

pub well_coded_lem : (f : Filter) → Decoded f → well_coded f ≡ true
unfolding well_coded
well_coded_lem f d = rw (d.held, le-leb f.direction 3 d.sound.direction, d.sound.label)

-- the component of type t at the front of the octets
front_in_range : (t : ℕ) (xs : List ℕ) → All Octet xs → ComponentInRange (component_of t (take (length_of t) xs))
front_in_range t xs h =
    component_in_range (take (length_of t) xs) (all_take Octet (length_of t) xs h) t (simp length-take (omega arith))

contents_from_lem : (xs : List ℕ) (k : ℕ) (f : Filter) → All Octet xs → Decoded f → DecodedAs (contents_from k f xs)
unfolding contents_from
contents_from_lem [] zero f h d = d
contents_from_lem [] (suc k) f h d = tt
contents_from_lem (t ∷ xs) zero f h d =
    let c = component_of t (take (length_of t) xs) in
    picked DecodedAs (known t && not (excluded f t)) (contents_from (length_of t) (added f c) xs) None
    (contents_from_lem xs (length_of t) (added f c) h.1
    (record { sound = added_sound f c (front_in_range t xs h.1) d.sound; held = added_held f c d.held })) tt
contents_from_lem (x ∷ xs) (suc k) f h d = contents_from_lem xs k f h.1 d

pub contents_decoded : (precedence direction : ℕ) (xs : List ℕ) → precedence < 256 → direction ≤ 3 → All Octet xs
    → DecodedAs (contents_of (bare precedence direction) xs)
unfolding contents_of contents_from
contents_decoded precedence direction [] p d h = tt
contents_decoded precedence direction (t ∷ xs) p d h =
    let f = bare precedence direction in
    let c = component_of t (take (length_of t) xs) in
    let bare_sound : Sound f = record {
      in_range = record { precedence = p; direction = omega arith; address = tt; protocol = tt; local = tt; remote = tt; index = tt; class = tt; label = tt };
      direction = d;
      label = refl;
    } in
    picked DecodedAs (known t && not (excluded f t)) (contents_from (length_of t) (added f c) xs) None
    (contents_from_lem xs (length_of t) (added f c) h.1
    (record {
      sound = added_sound f c (front_in_range t xs h.1) bare_sound;
      held = first_held precedence direction c (component_small t (take (length_of t) xs));
    })) tt

-- ---- How the octets are framed
pub record RawOctets (r : Raw) : Type 0 where
  pub precedence : r.precedence < 256
  pub contents : All Octet r.contents

abbrev SplitInto : ℕ → Split → Type 0
SplitInto n cut = Unit {0}
SplitInto n (split rs rest) = (length rs ≡ n) × All RawOctets rs

after_into : (n : ℕ) (r : Raw) (s : Split) → RawOctets r → SplitInto n s → SplitInto (suc n) (with_raw r s)
after_into n r cut q h = tt
after_into n r (split rs rest) q h = (ap suc h.0, (q, h.1))

split_into : (n : ℕ) (xs : List ℕ) → All Octet xs → SplitInto n (split_of n xs)
unfolding split_of
split_into zero xs h = (refl, tt)
split_into (suc n) [] h = tt
split_into (suc n) (a ∷ []) h = tt
split_into (suc n) (a ∷ p ∷ []) h = tt
split_into (suc n) (a ∷ p ∷ l ∷ xs) h =
    let r : Raw = record { first = a; precedence = p; contents = take l xs } in
    let octets = h.1.1.1 in
    picked (SplitInto (suc n)) (leb l (length xs)) (with_raw r (split_of n (drop l xs))) cut
    (after_into n r (split_of n (drop l xs)) (record { precedence = h.1.0; contents = all_take Octet l xs octets })
    (split_into n (drop l xs) (all_drop Octet l xs octets))) tt

-- "at most 15", and not none
pub record OneTo15 (n : ℕ) : Type 0 where
  pub some : 1 ≤ n
  pub few : n ≤ 15

abbrev pub FramedInto : Framed → Type 0
FramedInto not_framed = Unit {0}
FramedInto (filters operation rs) = OneTo15 (length rs) × All RawOctets rs
FramedInto (identifiers xs) = OneTo15 (length xs)
FramedInto (bare_frame kind) = Unit {0}

module _ (e n : ℕ) (few : n ≤ 15) (xs : List ℕ) where
  split_framed : (operation : SetOperation) (s : Split) → 1 ≤ n → SplitInto n s → FramedInto (framed_split operation e s)
  split_framed operation cut l h = tt
  split_framed operation (split rs rest) l h =
      picked FramedInto (rest_fits e rest) (filters operation rs) not_framed (rw h.0 (record { some = l; few = few }), h.1) tt

  set_framed : (operation : SetOperation) → All Octet xs → FramedInto (framed_set operation e n xs)
  set_framed operation h = go (eqb n 0) refl
    where
      go : (b : Bool) → eqb n 0 ≡ b → FramedInto (pick b not_framed (framed_split operation e (split_of n xs)))
      go true q = tt
      go false q =
          let some : n ≡ 0 → ⊥ = eqb-false n 0 q in
          split_framed operation (split_of n xs) (omega arith) (split_into n xs h)

  identifiers_framed : FramedInto (framed_identifiers e n xs)
  identifiers_framed = go (not (eqb n 0) && leb n (length xs) && rest_fits e (drop n xs)) refl
    where
      go : (b : Bool) → not (eqb n 0) && leb n (length xs) && rest_fits e (drop n xs) ≡ b → FramedInto (pick b (identifiers (take n xs)) not_framed)
      go false q = tt
      go true q =
          let h = both (not (eqb n 0) && leb n (length xs)) (rest_fits e (drop n xs)) q in
          let h' = both (not (eqb n 0)) (leb n (length xs)) h.0 in
          let some : n ≡ 0 → ⊥ = eqb-false n 0 (not-true (eqb n 0) h'.0) in
          let l = length-take-le n xs (leb-true n (length xs) h'.1) in
          rw l (record { some = omega arith; few = few })

  bare_framed_lem : (operation : BareOperation) → FramedInto (framed_bare operation e n xs)
  bare_framed_lem operation = picked FramedInto (eqb n 0 && rest_fits e xs) (bare_frame operation) not_framed tt tt

  framed_by_lem : (operation : ℕ) → All Octet xs → FramedInto (framed_by operation e n xs)
  unfolding framed_by
  framed_by_lem operation h =
      framed (eqb operation 1) _ _ (set_framed Create h)
      (framed (eqb operation 2) _ _ (bare_framed_lem DeleteTft)
      (framed (eqb operation 3) _ _ (set_framed Add h)
      (framed (eqb operation 4) _ _ (set_framed Replace h)
      (framed (eqb operation 5) _ _ identifiers_framed (framed (eqb operation 6) _ _ (bare_framed_lem NoOperation) tt)))))
    where
      framed : (b : Bool) (s t : Framed) → FramedInto s → FramedInto t → FramedInto (pick b s t)
      framed = picked FramedInto

pub framed_into : (xs : List ℕ) → All Octet xs → FramedInto (framed_of xs)
unfolding framed_of
framed_into [] h = tt
framed_into (x ∷ xs) h = framed_by_lem (extension_in x) (count_in x) (omega arith) xs (operation_in x) h.1

-- ---- The entries
pub record EntryDecoded (e : Entry) : Type 0 where
  pub identifier : e.identifier < place_count
  pub filter : Decoded e.filter

abbrev pub EntriesInto : ℕ → Entries → Type 0
EntriesInto n badly = Unit {0}
EntriesInto n (coded es) = (length es ≡ n) × All EntryDecoded es

with_entry_lem : (n i : ℕ) (c : Option Filter) (es : Entries) → i < place_count → DecodedAs c → EntriesInto n es → EntriesInto (suc n) (with_entry i c es)
with_entry_lem n i None es l d h = tt
with_entry_lem n i (Some f) badly l d h = tt
with_entry_lem n i (Some f) (coded es) l d h = (ap suc h.0, (record { identifier = l; filter = d }, h.1))

pub raw_decoded : (r : Raw) → RawOctets r → DecodedAs (coded_of r)
unfolding coded_of
raw_decoded r h = contents_decoded r.precedence (direction_of r) r.contents h.precedence (omega arith) h.contents

pub entries_into : (rs : List Raw) → All RawOctets rs → EntriesInto (length rs) (entries_of rs)
unfolding entries_of
entries_into [] h = (refl, tt)
entries_into (r ∷ rs) h =
    with_entry_lem (length rs) (identifier_of r) (coded_of r) (entries_of rs) (omega arith) (raw_decoded r h.0) (entries_into rs h.1)

-- ---- What a value of octets is framed and coded as
module _ (xs : List ℕ) (octets : All Octet xs) where
  pub list_octets : (l : FilterList xs) → All RawOctets l.raws
  list_octets l =
      let into : FramedInto (filters l.operation l.raws) = subst FramedInto l.framed (framed_into xs octets) in
      into.1

  pub list_decoded : (l : CodedList xs) → All EntryDecoded l.entries
  list_decoded l = (subst (EntriesInto (length l.list.raws)) l.decoded (entries_into l.list.raws (list_octets l.list))).1
