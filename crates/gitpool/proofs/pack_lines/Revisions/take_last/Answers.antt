use Rattle.std.proofs.Common.{◌∙◌, sym}
use Rattle.gitpool.proofs.RevisionLemmas.{last_empty, last_taken}
use Rattle.gitpool.proofs.pack_lines.Revisions.take_last.Goals as goal

pub returns-then-is_empty : goal.returns-then-is_empty
returns-then-is_empty c = last_empty c.args.line.now _ _ tt (sym c.is_empty.ensures ∙ c.if-is_empty.true)

pub returns : goal.returns
returns c = last_taken c.args.line.now _ _ _ _ _ (sym c.is_empty.ensures ∙ c.if-is_empty.false) c.take_line.ensures
