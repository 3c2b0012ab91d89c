-- The follow-up list, as it grows by one bearer at a time.
use mathlib.Core.Path.{◌≡◌, sym, ◌∙◌, ap}
use mathlib.Core.Bool.{Bool, true, false}
use mathlib.Core.List.{List, [], ◌∷◌, ◌++◌, append-nil}
use Prim.Native.Nat.{ℕ, ◌+◌, ◌≤◌}
use native.Mathlib.Omega.{arith}
use lib.ListN.{length, set, length-append}
use Rattle.laws.specs.Says.{pick}
use Rattle.laws.specs.Index.{picks, pad}
use Rattle.laws.proofs.Index.{picks_start, picks_more, picks_le, pad_push}
use Rattle.table.specs.Bearers.{bearer_count, identity_of}
use Rattle.calls.specs.declared.reply.FollowUps.{FollowUps}
use Rattle.calls.specs.Reply.{follow_of}

abbrev follow : ℕ → List ℕ → FollowUps
follow count bearers = record { count = count; bearers = bearers }

-- ---- a loop that names the bearers with p, the index i being next
module _ (p : ℕ → Bool) where
  abbrev pub follow_below : ℕ → FollowUps
  follow_below i = follow_of (picks p identity_of i)

  pub follow_start : follow_of [] ≡ follow_below 0
  follow_start = ap follow_of (picks_start p identity_of)

  module _ (i : ℕ) {s : FollowUps} (so : s ≡ follow_below i) where
    pub follow_room : s.count ≤ i
    follow_room = omega (arith, ap (λ (s : FollowUps). s.count) so, picks_le p identity_of i)

    -- the bearer follows
    pub follow_more : p i ≡ true → follow (s.count + 1) (set s.bearers s.count (identity_of i)) ≡ follow_below (i + 1)
    follow_more q =
        let xs = picks p identity_of i in
        ap (λ (s : FollowUps). follow (s.count + 1) (set s.bearers s.count (identity_of i))) so
        ∙ ap (λ (n : ℕ). follow n (set (pad bearer_count xs) (length xs) (identity_of i))) (sym (length-append xs (identity_of i ∷ [])))
        ∙ ap (follow (length (xs ++ identity_of i ∷ []))) (pad_push bearer_count xs (identity_of i))
        ∙ ap (λ (b : Bool). follow_of (xs ++ pick b (identity_of i ∷ []) [])) (sym q) ∙ ap follow_of (picks_more p identity_of i)

    -- .. or not
    pub follow_skip : p i ≡ false → s ≡ follow_below (i + 1)
    follow_skip q =
        let xs = picks p identity_of i in
        so ∙ ap follow_of (sym (append-nil xs)) ∙ ap (λ (b : Bool). follow_of (xs ++ pick b (identity_of i ∷ []) [])) (sym q) ∙ ap follow_of (picks_more p identity_of i)
