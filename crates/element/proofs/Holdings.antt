-- Laws of a state of portions that holds so many octets announced and these fed.
-- Assumes nothing.
use mathlib.Core.Path.{◌≡◌, refl, sym, ◌∙◌, ap}
use mathlib.Core.Bool.{Bool, true, false}
use mathlib.Core.List.{List, [], ◌∷◌, ◌++◌, append_assoc, append-nil}
use Prim.Native.Nat.{ℕ, suc, ◌+◌, ◌-◌, ◌≤◌, ◌<◌}
use native.Mathlib.Omega.{arith}
use lib.Dec.{leb}
use lib.ListN.{length, take, drop, replicate, length-append}
use lib.Seq.{length-take-le, sets}
use borrow.Author.Tests.{leb-true, eqb-true, le-leb, lt-leb}
use Rattle.std.proofs.Common.{Ok, Err}
use Rattle.laws.specs.Says.{pick, Says}
use Rattle.laws.specs.Index.{pad}
use Rattle.laws.specs.Lists.{every}
use Rattle.laws.proofs.Index.{pad_push}
use Rattle.laws.proofs.Parts.{pad_none, pad_take, pad_rests, pad_is}
use Rattle.laws.proofs.Says.{says_and, says_it, says_le, says_so, says_same}
use Rattle.laws.proofs.Tests.{both}
use Rattle.element.specs.declared.portions.Portions.{Portions}
use Rattle.element.specs.declared.portions.PortionRefusal.TheVariants.{NotTaken}
use Rattle.element.specs.declared.portions.Unfinished.TheVariants.{NotSound, Early}
use Rattle.element.specs.declared.portions.Finished.{Finished}
use Rattle.element.specs.Head.{longest}
use Rattle.element.specs.Portions.{holding, fed_of, is_zero, sound, leaving, takes, feed_of, finished, finish_of, PortionsInRange}
use Rattle.element.specs.Inner.Walk.{read_end}

abbrev pub state_of : ℕ → ℕ → List ℕ → Portions
state_of announced fed octets = record { announced = announced; fed = fed; octets = octets }

pub empty_is : (announced : ℕ) → state_of announced 0 (replicate longest 0) ≡ holding announced []
empty_is announced = ap (state_of announced 0) (pad_none longest)

-- a sound state is what it holds
sound_zero : (p : Portions) → PortionsInRange p → sound p ≡ true → p ≡ state_of p.announced p.fed (pad longest (fed_of p))
unfolding sound
sound_zero p r s =
    ap (state_of p.announced p.fed)
    (pad_is is_zero (λ x. eqb-true x 0) longest p.fed p.octets r.octets.count (both (leb p.fed p.announced) (every is_zero (drop p.fed p.octets)) s).1)

pub fed_long : (p : Portions) → PortionsInRange p → length (fed_of p) ≡ p.fed
fed_long p r = let e = r.octets.count in let l = r.fed in length-take-le p.fed p.octets (omega arith)

pub sound_is : (p : Portions) → PortionsInRange p → sound p ≡ true → p ≡ holding p.announced (fed_of p)
sound_is p r s = sound_zero p r s ∙ ap (λ (n : ℕ). state_of p.announced n (pad longest (fed_of p))) (sym (fed_long p r))

pub sound_fits : (p : Portions) → sound p ≡ true → p.fed ≤ p.announced
unfolding sound
sound_fits p s = leb-true p.fed p.announced (both (leb p.fed p.announced) (every is_zero (drop p.fed p.octets)) s).0

pub holding_sound : (n : ℕ) (xs : List ℕ) → length xs ≤ n → sound (holding n xs) ≡ true
unfolding sound
holding_sound n xs l = rw (le-leb (length xs) n l, pad_rests is_zero refl longest xs)

pub fed_holding : (n : ℕ) (xs : List ℕ) → length xs ≤ longest → fed_of (holding n xs) ≡ xs
fed_holding n xs l = pad_take longest xs l

-- ---- the calls, test by test
-- a portion is taken exactly where the state is sound and it fits
pub takes_says : (p : Portions) (n : ℕ) → Says (takes p n) ((sound p ≡ true) × (p.fed + n ≤ p.announced))
unfolding takes
takes_says p n = says_and (says_it (sound p)) (says_le (p.fed + n) p.announced)

-- of a sound state: where it is no more than what is left
pub takes_left : (p : Portions) (n left : ℕ) → sound p ≡ true → left ≡ p.announced - p.fed → leb n left ≡ takes p n
takes_left p n left s e =
    let f = sound_fits p s in
    says_same (says_so (says_le n left) (λ l. (s, omega arith)) (λ h. let l = h.1 in omega arith)) (takes_says p n)

module _ (p : Portions) (portion : List ℕ) where
  pub feed_not : takes p (length portion) ≡ false → feed_of p portion ≡ leaving p (Err NotTaken)
  unfolding feed_of
  feed_not t = rw t

  pub feed_taken : takes p (length portion) ≡ true → feed_of p portion ≡ leaving (holding p.announced (fed_of p ++ portion)) (Ok tt)
  unfolding feed_of
  feed_taken t = rw t

pub feed_fits : (n : ℕ) (xs portion : List ℕ) → length (xs ++ portion) ≤ n → n ≤ longest
    → feed_of (holding n xs) portion ≡ leaving (holding n (xs ++ portion)) (Ok tt)
feed_fits n xs portion l s =
    let e = length-append xs portion in
    feed_taken (holding n xs) portion ((takes_says (holding n xs) (length portion)).from (holding_sound n xs (omega arith), omega arith))
    ∙ ap (λ (ys : List ℕ). leaving (holding n (ys ++ portion)) (Ok tt)) (fed_holding n xs (omega arith))

module _ (p : Portions) where
  pub finish_unsound : sound p ≡ false → finish_of p ≡ finished (Err NotSound) []
  unfolding finish_of
  finish_unsound s = rw s

  pub finish_early : sound p ≡ true → p.fed < p.announced → finish_of p ≡ finished (Err Early) []
  unfolding finish_of
  finish_early s l = rw (s, lt-leb p.announced p.fed l)

  pub finish_read : sound p ≡ true → p.announced ≤ p.fed → finish_of p ≡ finished (Ok tt) (fed_of p)
  unfolding finish_of
  finish_read s l = rw (s, le-leb p.announced p.fed l)

  abbrev finish_by : Bool → Bool → Finished
  finish_by b d = pick b (pick d (finished (Ok tt) (fed_of p)) (finished (Err Early) [])) (finished (Err NotSound) [])

  read_by : (b d : Bool) → finish_by b d ≡ finished (finish_by b d).answer (take (read_end (finish_by b d).answer p.fed) p.octets)
  read_by true true = refl
  read_by true false = refl
  read_by false d = refl

  -- what is read, by the answer
  pub finish_by_lem : finish_of p ≡ finished (finish_of p).answer (take (read_end (finish_of p).answer p.fed) p.octets)
  unfolding finish_of
  finish_by_lem = read_by (sound p) (leb p.announced p.fed)

-- ---- a portion laid after what was fed
lay : (n : ℕ) (ys xs : List ℕ) → sets (pad n xs) (length xs) ys ≡ pad n (xs ++ ys)
lay n [] xs = ap (pad n) (sym (append-nil xs))
lay n (y ∷ ys) xs =
    let e : length (xs ++ y ∷ []) ≡ suc (length xs) = simp length-append (omega arith) in
    ap (λ (l : List ℕ). sets l (suc (length xs)) ys) (pad_push n xs y)
    ∙ ap (λ (k : ℕ). sets (pad n (xs ++ y ∷ [])) k ys) (sym e)
    ∙ lay n ys (xs ++ y ∷ [])
    ∙ ap (pad n) (append_assoc xs (y ∷ []) ys)

pub laid : (p : Portions) → PortionsInRange p → sound p ≡ true → (portion octets : List ℕ) → octets ≡ sets p.octets p.fed portion
    → state_of p.announced (p.fed + length portion) octets ≡ holding p.announced (fed_of p ++ portion)
laid p r s portion octets e =
    let zero : p.octets ≡ pad longest (fed_of p) = ap (λ (q : Portions). q.octets) (sound_zero p r s) in
    let long = fed_long p r in
    let there : octets ≡ pad longest (fed_of p ++ portion) =
    e ∙ ap (λ (l : List ℕ). sets l p.fed portion) zero ∙ ap (λ (k : ℕ). sets (pad longest (fed_of p)) k portion) (sym long) ∙ lay longest portion (fed_of p) in
    rw (there, length-append (fed_of p) portion, long) refl
