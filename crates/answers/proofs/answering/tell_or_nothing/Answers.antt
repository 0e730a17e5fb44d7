use Rattle.std.proofs.Common.{rules}
use Rattle.answers.proofs.answering.tell_or_nothing.Goals as goal

pub returns-then-is_err-clause-same : goal.returns-then-is_err-clause-same
returns-then-is_err-clause-same g c = search rules
