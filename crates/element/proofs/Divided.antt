-- The theorems of elements that arrive split.
use mathlib.Core.Path.{◌≡◌, refl, sym, ◌∙◌, ap}
use mathlib.Core.Bool.{Bool, true, false}
use mathlib.Core.List.{List, [], ◌∷◌, ◌++◌, map, flatten, append_assoc, append-nil}
use mathlib.Core.Logic.{inl, inr, ⊎_elim}
use Prim.Native.Nat.{ℕ, ◌+◌, ◌≤◌, ◌<◌}
use native.Mathlib.Omega.{arith}
use lib.Dec.{leb}
use lib.ListN.{length, length-append}
use borrow.Author.Tests.{leb-true, leb-false, le-leb}
use Rattle.laws.specs.Says.{pick, Says}
use Rattle.laws.specs.Lists.{fold}
use Rattle.laws.proofs.Says.{which, says_ne}
use Rattle.laws.proofs.Lists.{fold_append}
use Rattle.laws.proofs.Parts.{all_take}
use Rattle.element.specs.declared.answer.Answer.{Answer}
use Rattle.element.specs.declared.answer.Answer.TheVariants.{Filters, Identifiers, Bare, Refused}
use Rattle.element.specs.declared.answer.Cause.{Cause}
use Rattle.element.specs.declared.answer.Cause.TheVariants.{Operation, Semantics, Coding}
use Rattle.element.specs.declared.portions.Portions.{Portions}
use Rattle.element.specs.declared.portions.PortionRefusal.TheVariants.{TooLong, NotTaken}
use Rattle.element.specs.Head.{longest}
use Rattle.element.specs.Numbers.{cause_number, number_of, portions_number, finish_number}
use Rattle.element.specs.Framing.{framed_of}
use Rattle.element.specs.Read.{read_element}
use Rattle.element.specs.Meaning.{Octet}
use Rattle.std.proofs.Common.{Ok, Err}
use Rattle.element.specs.Portions.{PortionsOutcome, holding, fed_of, sound, leaving, takes, announce_of, feed_of, finished, finish_of, PortionsInRange}
use Rattle.element.specs.Portions.{PortionCall, announce, feed, finish, after, state_after, number_at, Reached, Feeds, none, fed, refused, finishing}
use Rattle.element.specs.Portions.{AnnounceGives, FeedGives, FinishGives}
use Rattle.element.proofs.Holdings.{sound_is, sound_fits, holding_sound, fed_holding, fed_long, takes_says, feed_not, feed_fits, finish_unsound, finish_early, finish_read}
use Rattle.element.proofs.Theorems.{reader_42}

-- ---- "A refused portion or finish leaves everything fed before as it stood"
module _ (p : Portions) (portion : List ℕ) where
  abbrev feed_by : Bool → PortionsOutcome
  feed_by b = pick b (leaving (holding p.announced (fed_of p ++ portion)) (Ok tt)) (leaving p (Err NotTaken))

  stays_by_lem : (b : Bool) → portions_number (feed_by b).answer ≡ 13 → (feed_by b).state ≡ p
  stays_by_lem true q = absurd (omega arith)
  stays_by_lem false q = refl

  pub refused_stays : number_at p (feed portion) ≡ 13 → after p (feed portion) ≡ p
  unfolding feed_of
  refused_stays = stays_by_lem (takes p (length portion))

-- .. anywhere in a sequence of calls on any state: with it and without it the same state is left
module _ (p : Portions) (before rest : List PortionCall) where
  stays_anywhere : (c : PortionCall) → after (state_after p before) c ≡ state_after p before → state_after p (before ++ c ∷ rest) ≡ state_after p (before ++ rest)
  unfolding state_after fold
  stays_anywhere c e =
      fold_append after before (c ∷ rest) p ∙ ap (λ (s : Portions). fold after s rest) e ∙ sym (fold_append after before rest p)

  pub refused_anywhere : (portion : List ℕ) → number_at (state_after p before) (feed portion) ≡ 13
      → state_after p (before ++ feed portion ∷ rest) ≡ state_after p (before ++ rest)
  refused_anywhere portion q = stays_anywhere (feed portion) (refused_stays (state_after p before) portion q)

  pub finish_anywhere : state_after p (before ++ finish ∷ rest) ≡ state_after p (before ++ rest)
  finish_anywhere = stays_anywhere finish refl

-- ---- "42 on announcing above 255", and then the state is the one that announcing 0 gives
announce_fits : (n : ℕ) → n ≤ longest → announce_of n ≡ leaving (holding n []) (Ok tt)
unfolding announce_of
announce_fits n l = rw (le-leb n longest l)

announce_by : (P : ℕ → PortionsOutcome → Type 0) (n : ℕ) → (n ≤ longest → P n (leaving (holding n []) (Ok tt))) → (longest < n → P n (leaving (holding 0 []) (Err TooLong)))
    → P n (announce_of n)
unfolding announce_of
announce_by P n fits past = go (leb n longest) refl
  where
    go : (b : Bool) → leb n longest ≡ b → P n (pick b (leaving (holding n []) (Ok tt)) (leaving (holding 0 []) (Err TooLong)))
    go true q = fits (leb-true n longest q)
    go false q = past (leb-false n longest q)

pub announce_gives : (n : ℕ) → AnnounceGives n (announce_of n)
announce_gives n =
    announce_by AnnounceGives n
    (λ l.
    record {
      is42 = (λ q. absurd (omega arith), λ h. absurd (omega arith));
      is0 = (λ q. l, λ h. refl);
      begins = λ h. refl;
      refused = λ h. absurd (omega arith);
    })
    (λ l.
    record {
      is42 = (λ q. l, λ h. refl);
      is0 = (λ q. absurd (omega arith), λ h. absurd (omega arith));
      begins = λ h. absurd (omega arith);
      refused = λ h. ap (λ (o : PortionsOutcome). o.state) (sym (announce_fits 0 (omega arith)));
    })

-- ---- "a state no calls give"
-- every state that calls give holds so many octets announced, at most 255, and no more fed
record Holds (p : Portions) : Type 0 where
  announced : ℕ
  octets : List ℕ
  fits : length octets ≤ announced
  short : announced ≤ longest
  is : p ≡ holding announced octets

holds_announced : (n : ℕ) → Holds (announce_of n).state
holds_announced n =
    announce_by (λ n o. Holds o.state) n
    (λ l. record { announced = n; octets = []; fits = omega arith; short = l; is = refl })
    (λ l. record { announced = 0; octets = []; fits = omega arith; short = omega arith; is = refl })

holds_fed : (p : Portions) (portion : List ℕ) → Holds p → Holds (feed_of p portion).state
holds_fed p portion h = rw h.is (⊎_elim took stood (which (takes (holding n xs) (length portion))))
  where
    n : ℕ
    n = h.announced

    xs : List ℕ
    xs = h.octets

    took : takes (holding n xs) (length portion) ≡ true → Holds (feed_of (holding n xs) portion).state
    took t =
        let l = ((takes_says (holding n xs) (length portion)).to t).1 in
        let e = length-append xs portion in
        rw (feed_fits n xs portion (omega arith) h.short) (record { announced = n; octets = xs ++ portion; fits = omega arith; short = h.short; is = refl })

    stood : takes (holding n xs) (length portion) ≡ false → Holds (feed_of (holding n xs) portion).state
    stood t = rw (feed_not (holding n xs) portion t) (record { announced = n; octets = xs; fits = h.fits; short = h.short; is = refl })

holds_after : (p : Portions) → Holds p → (c : PortionCall) → Holds (after p c)
holds_after p h (announce n) = holds_announced n
holds_after p h (feed portion) = holds_fed p portion h
holds_after p h finish = h

holds_all : (cs : List PortionCall) (p : Portions) → Holds p → Holds (state_after p cs)
unfolding state_after fold
holds_all [] p h = h
holds_all (c ∷ cs) p h = holds_all cs (after p c) (holds_after p h c)

-- no sequence of calls, refused ones among them, reaches another
pub reached_sound : (p : Portions) → Reached p → sound p ≡ true
reached_sound p r =
    let h = holds_all r.calls (announce_of r.announced).state (holds_announced r.announced) in
    ap sound (sym r.is ∙ h.is) ∙ holding_sound h.announced h.octets h.fits

after_one : (p : Portions) (portion : List ℕ) → state_after p (feed portion ∷ []) ≡ (feed_of p portion).state
unfolding state_after fold
after_one p portion = refl

-- and every such state is reached by an announcement and one portion
pub one_portion : (p : Portions) → PortionsInRange p → sound p ≡ true → state_after (announce_of p.announced).state (feed (fed_of p) ∷ []) ≡ p
one_portion p r s =
    let within = sound_fits p s in
    let short = r.announced in
    let long = fed_long p r in
    ap (λ (o : PortionsOutcome). state_after o.state (feed (fed_of p) ∷ [])) (announce_fits p.announced (omega arith)) ∙ after_one _ (fed_of p)
    ∙ ap (λ (o : PortionsOutcome). o.state) (feed_fits p.announced [] (fed_of p) (omega arith) (omega arith)) ∙ sym (sound_is p r s)

pub sound_says : (p : Portions) → PortionsInRange p → Says (sound p) (Reached p)
sound_says p r =
    record {
      to = λ s.
          record {
            announced = p.announced;
            calls = feed (fed_of p) ∷ [];
            octets = (all_take Octet p.fed p.octets r.octets.all, tt);
            is = one_portion p r s;
          };
      from = reached_sound p;
    }

-- ---- "However it was divided, the reading or cause is the one for the whole string."
-- the portions are taken, the calls between them change nothing
module _ (n : ℕ) (short : n ≤ longest) where
  feeds_all : {p : Portions} {cs : List PortionCall} {ps : List (List ℕ)} → Feeds p cs ps → (xs : List ℕ) → p ≡ holding n xs → length (xs ++ flatten ps) ≤ n
      → state_after p cs ≡ holding n (xs ++ flatten ps)
  unfolding state_after fold flatten
  feeds_all none xs q l = q ∙ ap (holding n) (sym (append-nil xs))
  feeds_all (fed {p} {portion} {calls} {portions} f) xs q l =
      let whole = append_assoc xs portion (flatten portions) in
      let e = ap length whole in
      let g = length-append (xs ++ portion) (flatten portions) in
      let taken = ap (λ (p : Portions). after p (feed portion)) q ∙ ap (λ (o : PortionsOutcome). o.state) (feed_fits n xs portion (omega arith) short) in
      feeds_all f (xs ++ portion) taken (omega arith) ∙ ap (holding n) whole
  feeds_all (refused {p} {portion} r f) xs q l = feeds_all f xs (refused_stays p portion r ∙ q) l
  feeds_all (finishing f) xs q l = feeds_all f xs q l

-- .. so far: what was fed is those portions, and one that still fits is taken
module _ (n : ℕ) (short : n ≤ longest) (calls : List PortionCall) (portions : List (List ℕ)) (feeds : Feeds (announce_of n).state calls portions) where
  abbrev now : Portions
  now = state_after (announce_of n).state calls

  pub state_so_far : length (flatten portions) ≤ n → now ≡ holding n (flatten portions)
  state_so_far = feeds_all n short feeds [] (ap (λ (o : PortionsOutcome). o.state) (announce_fits n short))

  pub fed_so_far : length (flatten portions) ≤ n → fed_of now ≡ flatten portions
  fed_so_far l = ap fed_of (state_so_far l) ∙ fed_holding n (flatten portions) (omega arith)

  pub portion_taken : (portion : List ℕ) → length (flatten portions ++ portion) ≤ n → feed_of now portion ≡ leaving (holding n (flatten portions ++ portion)) (Ok tt)
  portion_taken portion l =
      let e = length-append (flatten portions) portion in
      ap (λ (p : Portions). feed_of p portion) (state_so_far (omega arith)) ∙ feed_fits n (flatten portions) portion l short

-- .. and when all was fed
module _ (xs : List ℕ) (short : length xs ≤ longest) (portions : List (List ℕ)) (divided : flatten portions ≡ xs) where
  all_fed : finish_of (holding (length xs) xs) ≡ finished (Ok tt) xs
  all_fed =
      finish_read (holding (length xs) xs) (holding_sound (length xs) xs (omega arith)) (omega arith) ∙ ap (finished (Ok tt)) (fed_holding (length xs) xs short)

  within : length (flatten portions) ≤ length xs
  within = rw divided (omega arith)

  pub divided_between : (calls : List PortionCall) → Feeds (announce_of (length xs)).state calls portions
      → finish_of (state_after (announce_of (length xs)).state calls) ≡ finished (Ok tt) xs
  divided_between calls feeds =
      ap finish_of (state_so_far (length xs) short calls portions feeds within ∙ ap (holding (length xs)) divided) ∙ all_fed

  pub divided_fed : (calls : List PortionCall) → Feeds (announce_of (length xs)).state calls portions → fed_of (state_after (announce_of (length xs)).state calls) ≡ xs
  divided_fed calls feeds = fed_so_far (length xs) short calls portions feeds within ∙ divided

  pub divided_reads : finish_of (state_after (announce_of (length xs)).state (map feed portions)) ≡ finished (Ok tt) xs
  divided_reads = divided_between (map feed portions) (plainly portions (announce_of (length xs)).state)
    where
      plainly : (ps : List (List ℕ)) (p : Portions) → Feeds p (map feed ps) ps
      plainly [] p = none
      plainly (q ∷ ps) p = fed (plainly ps (after p (feed q)))

-- "Announcing 0 finishes with 42."
pub announced_nothing : finish_number (finish_of (announce_of 0).state) ≡ 42
unfolding state_after fold flatten framed_of
announced_nothing = ap finish_number (divided_reads [] (omega arith) [] refl) ∙ (reader_42 []).1 (inr refl)

-- ---- what each call gives
module _ (p : Portions) (r : PortionsInRange p) (portion : List ℕ) where
  pub feed_gives : FeedGives p portion (feed_of p portion)
  unfolding feed_of
  feed_gives = go (takes p (length portion)) refl
    where
      go : (b : Bool) → takes p (length portion) ≡ b → FeedGives p portion (feed_by p portion b)
      go true t =
          let h = (takes_says p (length portion)).to t in
          let reached = (sound_says p r).to h.0 in
          let l = h.1 in
          record {
            is13 = (λ q. absurd (omega arith), λ h. absurd (⊎_elim (λ past. absurd (omega arith)) (λ no. no reached) h));
            is0 = (λ q. (reached, l), λ h. refl);
            taken = λ q. refl;
            refused = λ q. absurd (omega arith);
          }
      go false t =
          let not = says_ne (takes_says p (length portion)) t in
          record {
            is13 = (
              λ q.
                  ⊎_elim (λ l. inr (λ reached. not (reached_sound p reached, leb-true _ _ l))) (λ l. inl (leb-false _ _ l))
                  (which (leb (p.fed + length portion) p.announced)),
              λ h. refl,
            );
            is0 = (λ q. absurd (omega arith), λ h. absurd (not (reached_sound p h.0, h.1)));
            taken = λ q. absurd (omega arith);
            refused = λ q. refl;
          }

-- the reader's numbers are 0 and those from 42 on
cause_least : (c : Cause) → 42 ≤ cause_number c
cause_least Operation = omega arith
cause_least Semantics = omega arith
cause_least Coding = omega arith

not_between : (a : Answer) (n : ℕ) → 0 < n → n < 42 → number_of a ≡ n → ⊥
not_between (Filters operation) n l m q = absurd (omega arith)
not_between Identifiers n l m q = absurd (omega arith)
not_between (Bare kind) n l m q = absurd (omega arith)
not_between (Refused refusal) n l m q = let c = cause_least refusal.cause in absurd (omega arith)

module _ (p : Portions) (r : PortionsInRange p) where
  pub finish_gives : FinishGives p (finish_of p)
  finish_gives = ⊎_elim held unsound (which (sound p))
    where
      unsound : sound p ≡ false → FinishGives p (finish_of p)
      unsound s =
          let no = says_ne (sound_says p r) s in
          rw (finish_unsound p s)
          (record {
            is13 = (λ q. no, λ h. refl);
            is14 = (λ q. absurd (omega arith), λ h. absurd (no h.0));
            whole = λ h q. absurd (no h);
            reads = λ h q. absurd (no h);
            refused = λ h. refl;
          })

      held : sound p ≡ true → FinishGives p (finish_of p)
      held s = ⊎_elim whole early (which (leb p.announced p.fed))
        where
          reached : Reached p
          reached = (sound_says p r).to s

          early : leb p.announced p.fed ≡ false → FinishGives p (finish_of p)
          early f =
              let l = leb-false p.announced p.fed f in
              rw (finish_early p s l)
              (record {
                is13 = (λ q. absurd (omega arith), λ no. absurd (no reached));
                is14 = (λ q. (reached, l), λ h. refl);
                whole = λ h q. absurd (omega arith);
                reads = λ h q. absurd (omega arith);
                refused = λ h. refl;
              })

          whole : leb p.announced p.fed ≡ true → FinishGives p (finish_of p)
          whole f =
              let l = leb-true p.announced p.fed f in
              let never = not_between (read_element (fed_of p)).answer in
              rw (finish_read p s l)
              (record {
                is13 = (λ q. absurd (never 13 (omega arith) (omega arith) q), λ no. absurd (no reached));
                is14 = (λ q. absurd (never 14 (omega arith) (omega arith) q), λ h. absurd (let m = h.1 in omega arith));
                whole = λ h q. refl;
                reads = λ h q. refl;
                refused = ⊎_elim (λ q. absurd (never 13 (omega arith) (omega arith) q)) (λ q. absurd (never 14 (omega arith) (omega arith) q));
              })
