-- "Numbers given": the number of a cause, of what the reader gives ("0, or the reader's cause") and hands out, and of what the writer gives.
use Rattle.std.specs.Prelude.{Result, Ok, Err, ℕ, ◌+◌, ◌*◌}
use Rattle.element.specs.declared.answer.Cause.{Cause}
use Rattle.element.specs.declared.answer.Cause.TheVariants.{Operation, Semantics, Coding}
use Rattle.element.specs.declared.answer.Refusal.{Refusal}
use Rattle.element.specs.declared.answer.Answer.{Answer}
use Rattle.element.specs.declared.answer.Answer.TheVariants.{Filters, Identifiers, Bare, Refused}
use Rattle.element.specs.declared.entries.Handed.{Handed}
use Rattle.element.specs.declared.entries.Handed.TheVariants.{Filter, Identifier, Refused as refused_at_once, End}
use Rattle.element.specs.declared.portions.PortionRefusal.{PortionRefusal}
use Rattle.element.specs.declared.portions.PortionRefusal.TheVariants.{TooLong as announced_too_long, NotTaken}
use Rattle.element.specs.declared.portions.Unfinished.{Unfinished}
use Rattle.element.specs.declared.portions.Unfinished.TheVariants.{NotSound, Early}
use Rattle.element.specs.declared.portions.Finished.{Finished}
use Rattle.element.specs.declared.write.Unwritten.{Unwritten}
use Rattle.element.specs.declared.write.Unwritten.TheVariants.{NotGiven, TooLong, NoRoom}

abbrev pub cause_number : Cause → ℕ
cause_number Operation = 42
cause_number Semantics = 44
cause_number Coding = 45

abbrev pub number_of : Answer → ℕ
number_of (Filters operation) = 0
number_of Identifiers = 0
number_of (Bare kind) = 0
number_of (Refused refusal) = cause_number refusal.cause

-- for the C side: cause and place in one number, 0 of what reads
abbrev pub placed_number : Answer → ℕ
placed_number (Filters operation) = 0
placed_number Identifiers = 0
placed_number (Bare kind) = 0
placed_number (Refused refusal) = cause_number refusal.cause * 256 + refusal.place

-- "or the reader's cause": whether an answer is one
pub data Verdict : Type 0 where
  accepted : Verdict
  refused_for : Refusal → Verdict

abbrev pub verdict_on : Answer → Verdict
verdict_on (Filters operation) = accepted
verdict_on Identifiers = accepted
verdict_on (Bare kind) = accepted
verdict_on (Refused refusal) = refused_for refusal

abbrev pub handed_number : Handed → ℕ
handed_number (Filter identifier f) = 0
handed_number (Identifier identifier) = 0
handed_number (refused_at_once refusal) = cause_number refusal.cause
handed_number End = 0

abbrev pub written_number : Result ℕ Unwritten → ℕ
written_number (Ok n) = 0
written_number (Err NotGiven) = 10
written_number (Err TooLong) = 11
written_number (Err NoRoom) = 9

-- of an announcement and of a portion
abbrev pub portions_number : Result (Unit {0}) PortionRefusal → ℕ
portions_number (Ok u) = 0
portions_number (Err announced_too_long) = 42
portions_number (Err NotTaken) = 13

-- .. and of a finish: where it reads, the reader's
abbrev pub finish_number_by : Result (Unit {0}) Unfinished → Answer → ℕ
finish_number_by (Ok u) answer = number_of answer
finish_number_by (Err NotSound) answer = 13
finish_number_by (Err Early) answer = 14

abbrev pub finish_number : Finished → ℕ
finish_number finished = finish_number_by finished.answer finished.element.answer
