-- A message written, part by part.
-- Assumes nothing.
use mathlib.Core.Path.{◌≡◌, refl, sym, ap}
use mathlib.Core.Bool.{Bool, true, false, ◌&&◌}
use mathlib.Core.List.{List, [], ◌∷◌, ◌++◌, append_assoc}
use Prim.Native.Nat.{ℕ, zero, suc, ◌+◌, ◌-◌, ◌≤◌, ◌<◌}
use native.Mathlib.Omega.{arith}
use lib.Dec.{leb}
use native.Mathlib.Nat.{not-suc-le-zero, le_of_suc-le-suc}
use lib.ListN.{length, take, drop, replicate, length-append}
use lib.Seq.{take-append_seam, drop-append_seam, drop-drop}
use denote.Ref.{Bor}
use borrow.Author.Tests.{leb-true, le-leb, lt-leb}
use Rattle.std.specs.Prelude.{Option, Some, None, option_map, option_copied, unwrap_or}
use Rattle.laws.specs.Index.{pad}
use Rattle.laws.proofs.Parts.{pad_none}
use Rattle.laws.proofs.Tests.{both}
use Rattle.messages.specs.declared.layout.Carries.{Carries}
use Rattle.messages.specs.declared.layout.Carries.TheVariants.{Always, Maybe, Never}
use Rattle.messages.specs.Layout.{row_of, carried, type_of}
use Rattle.messages.specs.Read.{Fields}
use Rattle.messages.specs.declared.write.MessageUnwritten.TheVariants.{Unreadable, NoRoom}
use Rattle.messages.specs.Write.{largest_identity, carried_fine, longest_tft, tft_fine, writable, value_of, front_of, octets_of, leaves, wrote, write_of}
use Rattle.messages.specs.Inner.Walk.{put_of}
use Rattle.messages.proofs.Turns.{front_short}

-- ---- what can be read back
by_short : (carries : Carries) (tft : Option (List ℕ)) → tft_fine carries tft ≡ true → length (value_of tft) ≤ longest_tft
by_short Always None e = omega arith
by_short Always (Some value) e = leb-true (length value) longest_tft e
by_short Maybe None e = omega arith
by_short Maybe (Some value) e = leb-true (length value) longest_tft e
by_short Never None e = omega arith
by_short Never (Some value) e = let z : ◌≡◌ {A = ℕ} 0 1 = cc in absurd (omega arith)

module _ (f : Fields) (e : writable f ≡ true) where
  abbrev named : Bool
  named = leb f.bearer largest_identity && carried_fine (row_of f.kind).mandatory (carried f.kind)

  pub bearer_fits : f.bearer ≤ largest_identity
  unfolding writable
  bearer_fits = leb-true f.bearer largest_identity (both (leb f.bearer largest_identity) _ (both named _ e).0).0

  pub tft_short : length (value_of f.tft) ≤ longest_tft
  unfolding writable
  tft_short = by_short (row_of f.kind).tft f.tft (both named _ e).1

-- ---- the octets
pub front_few : (f : Fields) → length (front_of f) ≤ 7
front_few f = front_short (row_of f.kind).mandatory f.bearer f.transaction (type_of f.kind) (carried f.kind) (option_map length f.tft)

pub octets_long : (f : Fields) → length (octets_of f) ≡ length (front_of f) + length (value_of f.tft)
unfolding octets_of
octets_long f = length-append (front_of f) (value_of f.tft)

-- the value that the code has, where there is one
pub value_behind : (tft : Option (Bor (List ℕ))) (empty : Bor (List ℕ)) → empty.now ≡ [] → (unwrap_or tft empty).now ≡ value_of (option_copied tft)
value_behind None empty e = e
value_behind (Some value) empty e = refl

-- stored in two parts from the start of a buffer
pub stored : (xs ys b : List ℕ)
    → take (length xs) (xs ++ drop (length xs) b) ++ (ys ++ drop (length xs + length ys - length xs) (drop (length xs) (xs ++ drop (length xs) b)))
    ≡ (xs ++ ys) ++ drop (length (xs ++ ys)) b
stored xs ys b =
    let k : length xs + length ys - length xs ≡ length ys = omega arith in
    rw (take-append_seam, k, drop-append_seam, drop-drop, length-append) (sym (append_assoc xs ys (drop (length xs + length ys) b)))

-- put at the front of zeros
pub pad_behind : (n : ℕ) (xs : List ℕ) → length xs ≤ n → xs ++ drop (length xs) (replicate n 0) ≡ pad n xs
unfolding pad
pad_behind n [] l = pad_none n
pad_behind zero (x ∷ xs) l = absurd (not-suc-le-zero l)
pad_behind (suc n) (x ∷ xs) l = ap (λ (ys : List ℕ). x ∷ ys) (pad_behind n xs (le_of_suc-le-suc l))

-- ---- the writer, test by test
module _ (f : Fields) (b : List ℕ) where
  pub write_unreadable : writable f ≡ false → write_of f b ≡ leaves Unreadable b
  unfolding write_of
  write_unreadable e = rw e

  pub write_put : writable f ≡ true → write_of f b ≡ put_of (octets_of f) b
  unfolding write_of
  write_put e = rw e

  pub write_short : writable f ≡ true → length b < length (octets_of f) → write_of f b ≡ leaves NoRoom b
  unfolding write_of
  write_short e l = rw (e, lt-leb (length (octets_of f)) (length b) l)

  pub write_fit : writable f ≡ true → length (octets_of f) ≤ length b → write_of f b ≡ wrote (octets_of f) b
  unfolding write_of
  write_fit e l = rw (e, le-leb (length (octets_of f)) (length b) l)
