use Rattle.std.proofs.Common.{rules}
use Rattle.import_session.proofs.closing.close_where.Goals as goal

pub returns-then-not-ends-clause-done : goal.returns-then-not-ends-clause-done
returns-then-not-ends-clause-done g c = search rules

pub returns-clause-done : goal.returns-clause-done
returns-clause-done g c refs = rw c.if-not-ends.false (c.close.ensures.done refs)
