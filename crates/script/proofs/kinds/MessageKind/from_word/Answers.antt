use Rattle.std.proofs.Common.{rules}
use Rattle.std.proofs.lemmas.Slice.Eq.{text_from_reads}
use Rattle.script.proofs.kinds.MessageKind.from_word.Goals as goal

pub returns-in-100-clause-ok : goal.returns-in-100-clause-ok
returns-in-100-clause-ok c = text_from_reads _ _ (search rules) (search rules)

pub returns-in-100-2-clause-ok : goal.returns-in-100-2-clause-ok
returns-in-100-2-clause-ok c = text_from_reads _ _ (search rules) (search rules)

pub returns-in-100-3-clause-ok : goal.returns-in-100-3-clause-ok
returns-in-100-3-clause-ok c = text_from_reads _ _ (search rules) (search rules)

pub returns-in-100-4-clause-ok : goal.returns-in-100-4-clause-ok
returns-in-100-4-clause-ok c = text_from_reads _ _ (search rules) (search rules)

pub returns-in-100-5-clause-ok : goal.returns-in-100-5-clause-ok
returns-in-100-5-clause-ok c = text_from_reads _ _ (search rules) (search rules)

pub returns-in-109-clause-ok : goal.returns-in-109-clause-ok
returns-in-109-clause-ok c = text_from_reads _ _ (search rules) (search rules)

pub returns-in-109-2-clause-ok : goal.returns-in-109-2-clause-ok
returns-in-109-2-clause-ok c = text_from_reads _ _ (search rules) (search rules)

pub returns-in-109-3-clause-ok : goal.returns-in-109-3-clause-ok
returns-in-109-3-clause-ok c = text_from_reads _ _ (search rules) (search rules)

pub returns-in-109-4-clause-ok : goal.returns-in-109-4-clause-ok
returns-in-109-4-clause-ok c = text_from_reads _ _ (search rules) (search rules)
