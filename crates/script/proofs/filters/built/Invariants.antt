use Rattle.std.proofs.Common.{length}
use Rattle.script.proofs.filters.built.Given as goal

abbrev pub decreases-loop-word : goal.decreases-loop-word
decreases-loop-word l = length l.words.rest.now
