-- "The radio side hands us elements in portions. We want to announce the length, feed portions of 0 or more octets, and finish."
use Rattle.std.specs.Prelude.{Result, Ok, Err, ◌≡◌, ℕ, ◌+◌, ◌≤◌, ◌<◌, Bool, ◌&&◌, List, [], ◌∷◌, ◌++◌, ◌⊎◌, ◌↔◌, eqb, leb, length, take, drop}
use Rattle.laws.specs.Says.{pick}
use Rattle.laws.specs.Index.{pad}
use Rattle.laws.specs.Lists.{All, every, fold, Each}
use Rattle.element.specs.declared.portions.Portions.{Portions}
use Rattle.element.specs.declared.portions.PortionRefusal.{PortionRefusal}
use Rattle.element.specs.declared.portions.PortionRefusal.TheVariants.{TooLong, NotTaken}
use Rattle.element.specs.declared.portions.Unfinished.{Unfinished}
use Rattle.element.specs.declared.portions.Unfinished.TheVariants.{NotSound, Early}
use Rattle.element.specs.declared.portions.Finished.{Finished}
use Rattle.element.specs.Head.{longest}
use Rattle.element.specs.Numbers.{number_of, portions_number, finish_number}
use Rattle.element.specs.Read.{read_element}
use Rattle.element.specs.Meaning.{Octet}

-- ---- A state
-- so many octets announced, and xs fed: these, and zero after them
abbrev pub holding : ℕ → List ℕ → Portions
holding announced xs = record { announced = announced; fed = length xs; octets = pad longest xs }

-- what was fed
abbrev pub fed_of : Portions → List ℕ
fed_of p = take p.fed p.octets

abbrev pub is_zero : ℕ → Bool
is_zero x = eqb x 0

-- "a state no calls give" is every other than this: no more fed than announced, and zero past what was fed (the theorem `sound_says`)
unfoldable pub sound : Portions → Bool
sound p = leb p.fed p.announced && every is_zero (drop p.fed p.octets)

-- ---- The calls
pub record PortionsOutcome : Type 0 where
  pub state : Portions
  pub answer : Result (Unit {0}) PortionRefusal

abbrev pub leaving : Portions → Result (Unit {0}) PortionRefusal → PortionsOutcome
leaving p answer = record { state = p; answer = answer }

-- "announce the length": "42 on announcing above 255", and then the state is the one that announcing 0 gives
unfoldable pub announce_of : ℕ → PortionsOutcome
announce_of n = pick (leb n longest) (leaving (holding n []) (Ok tt)) (leaving (holding 0 []) (Err TooLong))

-- "feed portions of 0 or more octets": "13 when a portion would pass the announced length, or on a state no calls give"; "A refused portion .. leaves
-- everything fed before as it stood"
unfoldable pub takes : Portions → ℕ → Bool
takes p n = sound p && leb (p.fed + n) p.announced

unfoldable pub feed_of : Portions → List ℕ → PortionsOutcome
feed_of p portion = pick (takes p (length portion)) (leaving (holding p.announced (fed_of p ++ portion)) (Ok tt)) (leaving p (Err NotTaken))

-- "and finish": 13 "on a state no calls give", "14 when finishing early"; else "the reading or cause is the one for the whole string". It gives no state
abbrev pub finished : Result (Unit {0}) Unfinished → List ℕ → Finished
finished answer xs = record { answer = answer; element = read_element xs }

unfoldable pub finish_of : Portions → Finished
finish_of p = pick (sound p) (pick (leb p.announced p.fed) (finished (Ok tt) (fed_of p)) (finished (Err Early) [])) (finished (Err NotSound) [])

-- ---- Sequences of calls
pub data PortionCall : Type 0 where
  announce : (n : ℕ) → PortionCall
  feed : (portion : List ℕ) → PortionCall
  finish : PortionCall

-- the state after a call. An announcement, refused or not, begins anew, whatever was fed before; a finish takes the state by value and gives none back, so
-- who holds it still has it
abbrev pub after : Portions → PortionCall → Portions
after p (announce n) = (announce_of n).state
after p (feed portion) = (feed_of p portion).state
after p finish = p

-- .. and after several, refused ones among them
unfoldable pub state_after : Portions → List PortionCall → Portions
state_after p cs = fold after p cs

-- the number with which a call is answered
abbrev pub number_at : Portions → PortionCall → ℕ
number_at p (announce n) = portions_number (announce_of n).answer
number_at p (feed portion) = portions_number (feed_of p portion).answer
number_at p finish = finish_number (finish_of p)

-- a state as the code's types hold it
pub record PortionsInRange (p : Portions) : Type 0 where
  pub announced : Octet p.announced
  pub fed : Octet p.fed
  pub octets : Each Octet longest p.octets

-- what is asked of a call, and no more: a portion's octets are octets
abbrev pub OfOctets : PortionCall → Type 0
OfOctets (announce n) = Unit {0}
OfOctets (feed portion) = All Octet portion
OfOctets finish = Unit {0}

-- an announcement and calls after it, refused ones among them, give this state
pub record Reached (p : Portions) : Type 0 where
  pub announced : ℕ
  pub calls : List PortionCall
  pub octets : All OfOctets calls
  pub is : state_after (announce_of announced).state calls ≡ p

-- the calls are these portions, in this order, and anywhere among them portions that are refused where they stand, and finishes, refused or not
pub data Feeds : Portions → List PortionCall → List (List ℕ) → Type 0 where
  none : {p : Portions} → Feeds p [] []
  fed : {p : Portions} {portion : List ℕ} {calls : List PortionCall} {portions : List (List ℕ)}
      → Feeds (after p (feed portion)) calls portions → Feeds p (feed portion ∷ calls) (portion ∷ portions)
  refused : {p : Portions} {portion : List ℕ} {calls : List PortionCall} {portions : List (List ℕ)}
      → number_at p (feed portion) ≡ 13 → Feeds (after p (feed portion)) calls portions → Feeds p (feed portion ∷ calls) portions
  finishing : {p : Portions} {calls : List PortionCall} {portions : List (List ℕ)} → Feeds p calls portions → Feeds p (finish ∷ calls) portions

-- ---- What each call gives, in the request's words: each number exactly where its refusal holds, and what comes with it
-- the theorem `announce_gives`
pub record AnnounceGives (n : ℕ) (o : PortionsOutcome) : Type 0 where
  pub is42 : (portions_number o.answer ≡ 42) ↔ (longest < n)
  pub is0 : (portions_number o.answer ≡ 0) ↔ (n ≤ longest)
  pub begins : n ≤ longest → o.state ≡ holding n []
  pub refused : longest < n → o.state ≡ (announce_of 0).state

-- the theorem `feed_gives`
pub record FeedGives (p : Portions) (portion : List ℕ) (o : PortionsOutcome) : Type 0 where
  pub is13 : (portions_number o.answer ≡ 13) ↔ ((p.announced < p.fed + length portion) ⊎ (Reached p → ⊥))
  pub is0 : (portions_number o.answer ≡ 0) ↔ (Reached p × (p.fed + length portion ≤ p.announced))
  pub taken : portions_number o.answer ≡ 0 → o.state ≡ holding p.announced (fed_of p ++ portion)
  pub refused : portions_number o.answer ≡ 13 → o.state ≡ p

-- the theorem `finish_gives`: a refused finish gives the element of a value without octets, which no one takes for a reading, since it is a cause
pub record FinishGives (p : Portions) (f : Finished) : Type 0 where
  pub is13 : (finish_number f ≡ 13) ↔ (Reached p → ⊥)
  pub is14 : (finish_number f ≡ 14) ↔ (Reached p × (p.fed < p.announced))
  pub whole : Reached p → p.fed ≡ p.announced → f ≡ finished (Ok tt) (fed_of p)
  pub reads : Reached p → p.fed ≡ p.announced → finish_number f ≡ number_of (read_element (fed_of p)).answer
  pub refused : (finish_number f ≡ 13) ⊎ (finish_number f ≡ 14) → f.element ≡ read_element []
