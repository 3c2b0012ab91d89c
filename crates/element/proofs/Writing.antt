-- Laws of octets stored one after the other.
use mathlib.Core.Path.{◌≡◌, refl, sym, ap, ◌∙◌}
use mathlib.Core.List.{List, [], ◌∷◌, ◌++◌, append_assoc}
use Prim.Native.Nat.{ℕ, suc, ◌+◌, ◌≤◌, ◌<◌}
use native.Mathlib.Omega.{arith}
use lib.ListN.{length, take, drop, get_or, set, length-append}
use lib.Seq.{sets, sets-eq, drop-drop}
use borrow.Rule.Slice.PartMut.{put_mid}
use Rattle.std.proofs.lemmas.List.{set_comm}
use Rattle.laws.proofs.Loops.{ByPlaces, Stored, places_end, stored_next, stored_done}
use Rattle.laws.proofs.Parts.{sets_append}
use Rattle.element.specs.Inner.Walk.{Puts}

-- a part that is written over
pub part_stores : (at k : ℕ) (out octets : List ℕ) → at + length octets ≤ length out → k ≡ length octets → put_mid at k out octets ≡ sets out at octets
part_stores at k out octets h e =
    rw (e, drop-drop (length octets) at out) (sym (sets-eq octets out at h ∙ append_assoc (take at out) octets (drop (at + length octets) out)))

pub puts_nothing : (at : ℕ) (out : List ℕ) → Puts at [] out out at
puts_nothing at out = record { after = omega arith; stored = refl }

pub puts_join : {at mid end : ℕ} {xs ys old between new : List ℕ} → Puts at xs old between mid → Puts mid ys between new end → Puts at (xs ++ ys) old new end
puts_join {at} {mid} {end} {xs} {ys} {old} {between} {new} p q =
    record {
      after = let a = p.after in let b = q.after in simp length-append (omega arith);
      stored = q.stored ∙ rw (p.stored, p.after) (sets_append xs ys old at);
    }

-- a store before others
store_before : (xs out : List ℕ) (i j v : ℕ) → i < j → set (sets out j xs) i v ≡ sets (set out i v) j xs
store_before [] out i j v h = refl
store_before (x ∷ xs) out i j v h =
    store_before xs (set out j x) i (suc j) v (omega arith) ∙ ap (λ (l : List ℕ). sets l (suc j) xs) (set_comm out j i x v (λ e. omega arith))

-- three octets before others
pub three_before : (xs out : List ℕ) (at a p l : ℕ)
    → set (set (set (sets out (at + 3) xs) at a) (at + 1) p) (at + 2) l ≡ sets out at (a ∷ p ∷ l ∷ xs)
three_before xs out at a p l =
    let e1 : at + 1 ≡ suc at = omega arith in
    let e2 : at + 2 ≡ suc (suc at) = omega arith in
    let e3 : at + 3 ≡ suc (suc (suc at)) = omega arith in
    rw (store_before xs out at (at + 3) a (omega arith)) (
    rw (store_before xs (set out at a) (at + 1) (at + 3) p (omega arith)) (
    rw (store_before xs (set (set out at a) (at + 1) p) (at + 2) (at + 3) l (omega arith)) (rw (e1, e2, e3))))

-- ---- a loop over places that stores what each gives
module _ {A : Type 0} {part : ℕ → A → List ℕ} {whole : ℕ → List A → List ℕ} (by : ByPlaces part whole) (d : A) {xs : List A} {b₀ : List ℕ} {at i : ℕ} {b : List ℕ} {o : ℕ}
    (s : Stored whole xs b₀ at i b o) where
  pub puts_next : i < length xs → {b' : List ℕ} {o' : ℕ} → Puts o (part i (get_or xs i d)) b b' o' → Stored whole xs b₀ at (i + 1) b' o'
  puts_next l {b'} {o'} p = stored_next by d s l b' o' p.stored p.after

  pub puts_done : length xs ≤ i → Puts at (whole 0 xs) b₀ b o
  puts_done l = record { after = omega (arith, s.size, ap length (places_end by d xs i l)); stored = stored_done by d s l }
