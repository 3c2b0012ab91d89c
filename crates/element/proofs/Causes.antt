-- Where the reader gives each of its causes: the step that refuses the value, and none before it. Places have no part in it.
use mathlib.Core.Path.{◌≡◌, refl, sym, ◌∙◌, ap, subst}
use mathlib.Core.Bool.{Bool, true, false, false≢true, ◌&&◌}
use mathlib.Core.Logic.{◌⊎◌, inl, inr, ◌↔◌}
use mathlib.Core.List.{List, [], ◌∷◌}
use Prim.Native.Nat.{ℕ, ◌≤◌}
use native.Mathlib.Omega.{arith}
use lib.Dec.{leb}
use lib.ListN.{length}
use borrow.Author.Tests.{leb-true, leb-false, le-leb}
use Rattle.std.proofs.Common.{None, Option, Some as Well}
use Rattle.laws.specs.Says.{Says, pick}
use Rattle.laws.specs.Lists.{every, All, Some}
use Rattle.laws.proofs.Says.{by_test, says_true, says_and, says_le, says_no}
use Rattle.filter.specs.declared.component.Filter.{Filter}
use Rattle.filter.specs.Fittable.{SomePacketFits}
use Rattle.filter.proofs.Theorems.{fittable_says}
use Rattle.element.specs.declared.answer.Cause.{Cause}
use Rattle.element.specs.declared.answer.Cause.TheVariants.{Operation, Semantics, Coding}
use Rattle.element.specs.declared.answer.Answer.{Answer}
use Rattle.element.specs.declared.answer.Answer.TheVariants.{Filters, Identifiers, Bare, Refused}
use Rattle.element.specs.declared.answer.Element.{Element}
use Rattle.element.specs.Head.{longest}
use Rattle.element.specs.Numbers.{cause_number, number_of}
use Rattle.element.specs.Framing.{Raw, identifier_of, Framed, not_framed, filters, identifiers, bare, framed_of}
use Rattle.element.specs.Read.{refused, Entry, entry_fittable, Entries, badly, coded, with_entry, entries_of, twice, filter_set, judged_entries, judged_frame, read_value, unplaced}
use Rattle.element.specs.Contents.{coded_of}
use Rattle.element.specs.Meaning.{Octet, NoPacketFits, FilterList, CodedList, TooLongOrUnframed, SomeFilterBadlyCoded, SomeFilterUnfit, SomethingTwice}
use Rattle.element.proofs.Decoded.{EntryDecoded, list_decoded}

-- ---- The numbers tell the causes apart, and from no cause
pub some_number : {A : Type 0} (cause : Cause) → cause_number cause ≡ 0 → A
some_number Operation q = absurd (omega arith)
some_number Semantics q = absurd (omega arith)
some_number Coding q = absurd (omega arith)

same_cause : (c d : Cause) → cause_number c ≡ cause_number d → c ≡ d
same_cause Operation Operation q = refl
same_cause Operation Semantics q = absurd (omega arith)
same_cause Operation Coding q = absurd (omega arith)
same_cause Semantics Operation q = absurd (omega arith)
same_cause Semantics Semantics q = refl
same_cause Semantics Coding q = absurd (omega arith)
same_cause Coding Operation q = absurd (omega arith)
same_cause Coding Semantics q = absurd (omega arith)
same_cause Coding Coding q = refl

-- ---- Step 7: a filter is badly coded, or all are well coded
some_badly : (rs : List Raw) → entries_of rs ≡ badly → Some (λ r. coded_of r ≡ None) rs
unfolding entries_of
some_badly [] q = absurd (let z : ◌≡◌ {A = ℕ} 0 1 = cc in omega arith)
some_badly (r ∷ rs) q = go (coded_of r) refl (entries_of rs) refl q (some_badly rs)
  where
    go : (c : Option Filter) → coded_of r ≡ c → (E : Entries) → entries_of rs ≡ E → with_entry (identifier_of r) c E ≡ badly
        → (entries_of rs ≡ badly → Some (λ r. coded_of r ≡ None) rs) → Some (λ r. coded_of r ≡ None) (r ∷ rs)
    go None p E e q rest = inl p
    go (Well f) p badly e q rest = inr (rest e)
    go (Well f) p (coded es) e q rest = absurd (let z : ◌≡◌ {A = ℕ} 0 1 = cc in omega arith)

entries_badly : (rs : List Raw) → Some (λ r. coded_of r ≡ None) rs → entries_of rs ≡ badly
unfolding entries_of
entries_badly (r ∷ rs) (inl h) = rw h
entries_badly (r ∷ rs) (inr h) = rw (entries_badly rs h) (go (coded_of r))
  where
    go : (c : Option Filter) → with_entry (identifier_of r) c badly ≡ badly
    go None = refl
    go (Well f) = refl
entries_badly [] x' = elim x' [ ]

-- ---- Step 8: some filter fits no packet, or each fits some
every_says : (es : List Entry) → All EntryDecoded es → Says (every entry_fittable es) (All (λ e. SomePacketFits e.filter) es)
unfolding every
every_says [] d = says_true tt
every_says (e ∷ es) d = says_and (fittable_says e.filter d.0.filter.sound.in_range) (every_says es d.1)

some_unfit : (es : List Entry) → All EntryDecoded es → every entry_fittable es ≡ false → Some NoPacketFits es
unfolding every
some_unfit [] d q = absurd (false≢true (sym q))
some_unfit (e ∷ es) d q = go (entry_fittable e) refl (some_unfit es d.1)
  where
    go : (b : Bool) → entry_fittable e ≡ b → (every entry_fittable es ≡ false → Some NoPacketFits es) → Some NoPacketFits (e ∷ es)
    go true f rest = inr (rest (ap (λ (b : Bool). b && every entry_fittable es) (sym f) ∙ q))
    go false f rest = inl (λ s. false≢true (sym f ∙ (fittable_says e.filter d.0.filter.sound.in_range).from s))

unfit_not_fit : (es : List Entry) → Some NoPacketFits es → All (λ e. SomePacketFits e.filter) es → ⊥
unfit_not_fit (e ∷ es) (inl u) fit = u fit.0
unfit_not_fit (e ∷ es) (inr u) fit = unfit_not_fit es u fit.1
unfit_not_fit [] x'' fit = elim x'' [ ]

module _ (xs : List ℕ) where
  -- where a cause is the reader's, and what is known of the value where that is said
  abbrev Refuses : Cause → Type 0
  Refuses Operation = TooLongOrUnframed xs
  Refuses Semantics = SomeFilterUnfit xs
  Refuses Coding = SomeFilterBadlyCoded xs ⊎ SomethingTwice xs

  abbrev Known : Cause → Type 0
  Known Operation = Unit {0}
  Known Semantics = All Octet xs
  Known Coding = All Octet xs

  abbrev Why : Answer → Type 0
  Why (Filters operation) = Unit {0}
  Why Identifiers = Unit {0}
  Why (Bare kind) = Unit {0}
  Why (Refused refusal) = Known refusal.cause → Refuses refusal.cause

  -- ---- From what the reader gives to why
  abbrev WhyGiven : Element → Type 0
  WhyGiven e = Why e.answer

  coded_why : (l : CodedList xs) → WhyGiven (judged_entries l.list.operation (coded l.entries))
  coded_why l =
      by_test WhyGiven (every entry_fittable l.entries) _ _
      (λ f. by_test WhyGiven (twice l.entries) (refused Coding) (filter_set l.list.operation l.entries)
      (λ again octets. inr (record { list = l; fit = (every_says l.entries (list_decoded xs octets l)).to f; again = again })) (λ again. tt))
      (λ f octets. record { list = l; unfit = some_unfit l.entries (list_decoded xs octets l) f })

  entries_why : (l : FilterList xs) (E : Entries) → entries_of l.raws ≡ E → WhyGiven (judged_entries l.operation E)
  entries_why l badly q = λ octets. inl (record { list = l; badly = some_badly l.raws q })
  entries_why l (coded es) q = coded_why (record { list = l; entries = es; decoded = q })

  frame_why : length xs ≤ longest → (F : Framed) → framed_of xs ≡ F → WhyGiven (judged_frame F)
  frame_why short not_framed q = λ _. inr q
  frame_why short (filters operation rs) q =
      entries_why (record { short = short; operation = operation; raws = rs; framed = q }) (entries_of rs) refl
  frame_why short (identifiers ys) q = tt
  frame_why short (bare kind) q = tt

  why : Why (unplaced xs).answer
  unfolding unplaced read_value
  why =
      by_test WhyGiven (leb (length xs) longest) (judged_frame (framed_of xs)) (refused Operation)
      (λ l. frame_why (leb-true (length xs) longest l) (framed_of xs) refl)
      (λ l _. inl (λ short. let long = leb-false (length xs) longest l in omega arith))

  -- ---- From why to what the reader gives
  list_read : (l : FilterList xs) → unplaced xs ≡ judged_entries l.operation (entries_of l.raws)
  unfolding unplaced read_value
  list_read l = rw (le-leb (length xs) longest l.short, l.framed)

  coded_read : (l : CodedList xs) → unplaced xs ≡ judged_entries l.list.operation (coded l.entries)
  coded_read l = list_read l.list ∙ ap (judged_entries l.list.operation) l.decoded

  refuses : (cause : Cause) → Known cause → Refuses cause → unplaced xs ≡ refused cause
  unfolding unplaced read_value
  refuses Operation known (inl long) = rw (says_no (says_le (length xs) longest) long)
  refuses Operation known (inr q) = rw q (go (leb (length xs) longest))
    where
      go : (b : Bool) → pick b (refused Operation) (refused Operation) ≡ refused Operation
      go true = refl
      go false = refl
  refuses Semantics octets s =
      let u : every entry_fittable s.list.entries ≡ false
      = says_no (every_says s.list.entries (list_decoded xs octets s.list)) (unfit_not_fit s.list.entries s.unfit) in
      coded_read s.list ∙ rw u
  refuses Coding octets (inl s) = list_read s.list ∙ rw (entries_badly s.list.raws s.badly)
  refuses Coding octets (inr s) =
      coded_read s.list ∙ rw ((every_says s.list.entries (list_decoded xs octets s.list)).from s.fit, s.again)

  told : (a : Answer) (cause : Cause) → number_of a ≡ cause_number cause → Why a → Known cause → Refuses cause
  told (Filters operation) cause q w = some_number cause (sym q)
  told Identifiers cause q w = some_number cause (sym q)
  told (Bare kind) cause q w = some_number cause (sym q)
  told (Refused refusal) cause q w = subst (λ (c : Cause). Known c → Refuses c) (same_cause refusal.cause cause q) w

  -- the reader gives a cause's number exactly where its steps refuse the value
  pub cause_says : (cause : Cause) → Known cause → (number_of (unplaced xs).answer ≡ cause_number cause) ↔ Refuses cause
  cause_says cause known =
      (λ q. told (unplaced xs).answer cause q why known, λ r. ap (λ (e : Element). number_of e.answer) (refuses cause known r))
