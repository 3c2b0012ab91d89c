-- Laws of the walks of the code over the elements of a message, and of what is put before a TFT.
-- Assumes nothing.
use mathlib.Core.Path.{◌≡◌, refl, ap, ◌∙◌}
use mathlib.Core.Bool.{Bool, true, false}
use Rattle.std.specs.Prelude.{Option, Some, None, ok_or, Result, Ok, Err}
use mathlib.Core.List.{List, [], ◌∷◌, ◌++◌}
use Prim.Native.Nat.{ℕ, zero, suc, ◌+◌, ◌%◌, ◌≤◌, ◌<◌}
use native.Mathlib.Nat.{add-zero, le_of_suc-le-suc, not-suc-le-zero}
use native.Mathlib.Numerals.{add-one}
use native.Mathlib.Omega.{arith}
use lib.Dec.{leb}
use lib.ListN.{length, drop, get_or, length-drop, drop_of_length-le, get_or-eq_default}
use lib.Seq.{drop-drop}
use borrow.Author.Tests.{leb-true, leb-false, le-leb, lt-leb, eq-eqb, ne_eqb}
use Rattle.laws.specs.Says.{pick}
use Rattle.laws.specs.Index.{pad}
use Rattle.laws.specs.Lists.{is_in}
use Rattle.laws.proofs.Parts.{drop_next}
use Rattle.messages.specs.declared.layout.Kind.{Kind}
use Rattle.messages.specs.declared.layout.Part.{Part}
use Rattle.messages.specs.declared.layout.Fault.{Fault}
use Rattle.messages.specs.declared.layout.Fault.TheVariants.{Unknown, Framing}
use Rattle.messages.specs.declared.read.Reached.{Reached}
use Rattle.messages.specs.declared.layout.Mandatory.{Mandatory}
use Rattle.messages.specs.declared.layout.Mandatory.TheVariants.{Nothing, Cause, Activation}
use Rattle.messages.specs.declared.listed.Form.{Form}
use Rattle.messages.specs.Layout.{Listed, discriminator, head_octets, kind_of, form_in, optional}
use Rattle.messages.specs.Read.{reached, ◌>>=◌, tail_of, is_barred, with_element, elements, read_named, read_of}
use Rattle.messages.specs.Write.{body_of, head_of}
use Rattle.messages.specs.Handle.{reply_types, request_of, message_of}
use Rattle.messages.specs.Inner.Walk.{step_by, step_at, padded}

-- ---- octets to pass
module _ (listed : List Listed) where
  pub pass : (k at : ℕ) (tft : Option Part) (xs : List ℕ) → k ≤ length xs → elements listed k at tft xs ≡ elements listed 0 (at + k) tft (drop k xs)
  unfolding elements
  pass zero at tft xs h = rw add-zero
  pass (suc k) at tft [] h = absurd (not-suc-le-zero h)
  pass (suc k) at tft (x ∷ xs) h =
      let e : suc at + k ≡ at + suc k = omega arith in
      pass k (suc at) tft xs (le_of_suc-le-suc h) ∙ ap (λ (n : ℕ). elements listed 0 n tft (drop k xs)) e

  pub cut : (k at : ℕ) (tft : Option Part) (xs : List ℕ) → length xs < k → elements listed k at tft xs ≡ Err Framing
  unfolding elements
  cut zero at tft xs h = absurd (not-suc-le-zero h)
  cut (suc k) at tft [] h = refl
  cut (suc k) at tft (x ∷ xs) h = cut k (suc at) tft xs (le_of_suc-le-suc h)

  pub elements_end : (tft : Option Part) (s : List ℕ) (at : ℕ) → length s ≤ at → elements listed 0 at tft (drop at s) ≡ Ok tft
  unfolding elements
  elements_end tft s at h = rw (drop_of_length-le s h)

-- ---- one element
module _ (kind : Kind) (s : List ℕ) where
  -- what is left after a step, gone on with
  abbrev pub go_on : Result Reached Fault → Result (Option Part) Fault
  go_on (Err fault) = Err fault
  go_on (Ok next) = elements (optional kind) 0 next.at next.tft (drop next.at s)

  -- by its form, with the octets after its identifier
  go_by : (listed : Option Form) (at : ℕ) (tft : Option Part) → at < length s
      → (ok_or listed Framing
      >>= λ form. pick (is_barred form tft) (Err Framing)
      (elements (optional kind) (tail_of form (drop (at + 1) s)) (suc at) (with_element form at (drop (at + 1) s) tft) (drop (at + 1) s)))
      ≡ go_on (step_by listed at (drop (at + 1) s) tft)
  go_by None at tft h = refl
  go_by (Some form) at tft h = by (is_barred form tft)
    where
      n : ℕ
      n = tail_of form (drop (at + 1) s)

      found : Option Part
      found = with_element form at (drop (at + 1) s) tft

      within : (b : Bool) → leb n (length (drop (at + 1) s)) ≡ b
          → elements (optional kind) n (suc at) found (drop (at + 1) s) ≡ go_on (pick b (Ok (reached (at + 1 + n) found)) (Err Framing))
      within true e =
          pass (optional kind) n (suc at) found (drop (at + 1) s) (leb-true n (length (drop (at + 1) s)) e)
          ∙ rw (drop-drop, add-one) refl
      within false e = cut (optional kind) n (suc at) found (drop (at + 1) s) (leb-false n (length (drop (at + 1) s)) e)

      by : (b : Bool)
          → pick b (Err Framing) (elements (optional kind) n (suc at) found (drop (at + 1) s))
          ≡ go_on (pick b (Err Framing) (pick (leb n (length (drop (at + 1) s))) (Ok (reached (at + 1 + n) found)) (Err Framing)))
      by true = refl
      by false = within (leb n (length (drop (at + 1) s))) refl

  pub element_next : (at : ℕ) (tft : Option Part) → at < length s → elements (optional kind) 0 at tft (drop at s) ≡ go_on (step_at kind s at tft)
  unfolding elements step_at
  element_next at tft h = rw (drop_next s at (at + 1) 0 refl h) (go_by (form_in (optional kind) (get_or s at 0)) at tft h)

  -- the next element is past this one, and not past the end
  pub step_inside : (at : ℕ) (tft : Option Part) (next : Reached) → at < length s → step_at kind s at tft ≡ Ok next → (at < next.at) × (next.at ≤ length s)
  unfolding step_at
  step_inside at tft next h p = listed_as (form_in (optional kind) (get_or s at 0)) p
    where
      listed_as : (listed : Option Form) → step_by listed at (drop (at + 1) s) tft ≡ Ok next → (at < next.at) × (next.at ≤ length s)
      listed_as None p = let z : ◌≡◌ {A = ℕ} 0 1 = cc in absurd (omega arith)
      listed_as (Some form) p = by (is_barred form tft) (leb n (length (drop (at + 1) s))) refl p
        where
          n : ℕ
          n = tail_of form (drop (at + 1) s)

          by : (b w : Bool) → leb n (length (drop (at + 1) s)) ≡ w
              → pick b (Err Framing) (pick w (Ok (reached (at + 1 + n) (with_element form at (drop (at + 1) s) tft))) (Err Framing)) ≡ Ok next
              → (at < next.at) × (next.at ≤ length s)
          by true w e p = let z : ◌≡◌ {A = ℕ} 0 1 = cc in absurd (omega arith)
          by false false e p = let z : ◌≡◌ {A = ℕ} 0 1 = cc in absurd (omega arith)
          by false true e p =
              let r : reached (at + 1 + n) (with_element form at (drop (at + 1) s) tft) ≡ next = cc in
              let q : at + 1 + n ≡ next.at = ap (λ (x : Reached). x.at) r in
              let g = leb-true n (length (drop (at + 1) s)) e in
              let d = length-drop (at + 1) s in
              (omega arith, omega arith)

-- ---- a request, test by test
pub request_short : (s : List ℕ) → length s < head_octets → request_of s ≡ Err Framing
unfolding request_of read_of is_in
request_short s h = rw (get_or-eq_default s 0 {n = 2} (omega arith), lt-leb head_octets (length s) h)

pub request_reply : (s : List ℕ) → is_in (get_or s 2 0) reply_types ≡ true → request_of s ≡ Err Unknown
unfolding request_of
request_reply s e = rw e

pub request_read : (s : List ℕ) → is_in (get_or s 2 0) reply_types ≡ false → request_of s ≡ read_of s
unfolding request_of
request_read s e = rw e

-- ---- a message, test by test
pub read_short : (s : List ℕ) → length s < head_octets → read_of s ≡ Err Framing
unfolding read_of
read_short s h = rw (lt-leb head_octets (length s) h)

pub read_foreign : (s : List ℕ) → head_octets ≤ length s → (get_or s 0 0 % 16 ≡ discriminator → ⊥) → read_of s ≡ Err Unknown
unfolding read_of
read_foreign s h n = rw (le-leb head_octets (length s) h, ne_eqb (get_or s 0 0 % 16) discriminator n)

pub read_ours : (s : List ℕ) → head_octets ≤ length s → get_or s 0 0 % 16 ≡ discriminator → read_of s ≡ read_named (kind_of (get_or s 2 0) (get_or s 3 0)) s
unfolding read_of
read_ours s h e = rw (le-leb head_octets (length s) h, eq-eqb (get_or s 0 0 % 16) discriminator e)

-- ---- the octets up to a TFT's value
-- they are at most seven
pub front_short : (m : Mandatory) (bearer transaction type x : ℕ) (octets : Option ℕ) → length (head_of bearer transaction type (body_of m x octets)) ≤ 7
front_short Nothing bearer transaction type x None = omega arith
front_short Nothing bearer transaction type x (Some octets) = omega arith
front_short Cause bearer transaction type x octets = omega arith
front_short Activation bearer transaction type x octets = omega arith

-- of a message without a TFT the first four
pub reply_is : (m : Mandatory) (bearer type x : ℕ)
    → let xs = head_of bearer 0 type (body_of m x None) in
    let ys = (padded xs).octets in
    record { count = length xs; octets = get_or ys 0 0 ∷ get_or ys 1 0 ∷ get_or ys 2 0 ∷ get_or ys 3 0 ∷ [] } ≡ message_of (xs ++ [])
unfolding pad
reply_is Nothing bearer type x = refl
reply_is Cause bearer type x = refl
reply_is Activation bearer type x = refl
