-- `element::write::write` meets its contract: each refusal is the definition's, and past them the octets are stored from the buffer's start.
use mathlib.Core.Path.{◌≡◌, refl, sym, ap, ◌∙◌}
use mathlib.Core.Bool.{true, false}
use mathlib.Core.List.{List}
use Prim.Native.Nat.{ℕ, ◌+◌, ◌≤◌, ◌<◌}
use native.Mathlib.Omega.{arith}
use lib.ListN.{length, take, drop}
use lib.Seq.{sets, sets-eq, take_at}
use borrow.Author.Tests.{lt-leb, le-leb}
use Rattle.element.specs.declared.answer.Element.{Element}
use Rattle.element.specs.declared.write.Unwritten.TheVariants.{NotGiven, TooLong, NoRoom}
use Rattle.std.proofs.Common.{Ok}
use Rattle.element.specs.Write.{octets_of, given, leaves, wrote, write_of}
use Rattle.element.proofs.write.write.Goals as goal

module _ (e : Element) (b : List ℕ) where
  not_given : given e ≡ false → write_of e b ≡ leaves NotGiven b
  unfolding write_of
  not_given g = rw g

  too_long : given e ≡ true → 255 < length (octets_of e) → write_of e b ≡ leaves TooLong b
  unfolding write_of
  too_long g l = rw (g, lt-leb (length (octets_of e)) 255 l)

  no_room : given e ≡ true → length (octets_of e) ≤ 255 → length b < length (octets_of e) → write_of e b ≡ leaves NoRoom b
  unfolding write_of
  no_room g l m = rw (g, le-leb (length (octets_of e)) 255 l, lt-leb (length (octets_of e)) (length b) m)

  written : given e ≡ true → length (octets_of e) ≤ 255 → length (octets_of e) ≤ length b → write_of e b ≡ wrote (octets_of e) b
  unfolding write_of
  written g l m = rw (g, le-leb (length (octets_of e)) 255 l, le-leb (length (octets_of e)) (length b) m)

  -- the octets were put at the front of others
  front : (others new : List ℕ) (n : ℕ) → new ≡ sets others 0 (octets_of e) → n ≡ length (octets_of e) → n ≤ length others → take n new ≡ octets_of e
  front others new n p q l =
      rw (p, sets-eq (octets_of e) others 0 (omega arith)) (take_at (octets_of e) (drop (0 + length (octets_of e)) others) n (sym q))

pub returns-then-not-given_element : goal.returns-then-not-given_element
returns-then-not-given_element c = rw (not_given _ _ (sym c.given_element.ensures ∙ c.if-not-given_element.true)) (refl, refl)

pub returns-then-n-gt-LONGEST : goal.returns-then-n-gt-LONGEST
returns-then-n-gt-LONGEST c =
    let a = c.args in
    let holds : given a.element.now ≡ true = sym c.given_element.ensures ∙ c.if-not-given_element.false in
    let size = c.put_element-n.ensures.put.after in
    rw (too_long a.element.now a.buffer.now holds (omega arith)) (refl, refl)

pub returns-then-buffer-n : goal.returns-then-buffer-n
returns-then-buffer-n c =
    let a = c.args in
    let holds : given a.element.now ≡ true = sym c.given_element.ensures ∙ c.if-not-given_element.false in
    let size = c.put_element-n.ensures.put.after in
    rw (no_room a.element.now a.buffer.now holds (omega arith) (omega arith)) (refl, refl)

pub returns : goal.returns
returns c =
    let a = c.args in
    let holds : given a.element.now ≡ true = sym c.given_element.ensures ∙ c.if-not-given_element.false in
    let size = c.put_element-n.ensures.put.after in
    let w = written a.element.now a.buffer.now holds (omega arith) (omega arith) in
    let put = front a.element.now a.buffer.now _ _ c.put_element-n.result c.put_element-n.ensures.put.stored (omega arith) (omega arith) in
    let long : c.put_element-n.result ≡ length (octets_of a.element.now) = omega arith in
    rw w (ap Ok long, rw (c.copy_from_slice.ensures.after, put, long) refl)
