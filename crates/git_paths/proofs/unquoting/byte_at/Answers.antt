use Rattle.git_paths.proofs.Inside.{unquoted_escape, unquoted_itself}
use Rattle.git_paths.proofs.unquoting.byte_at.Goals as goal

pub returns-then-first-eq92-clause-read : goal.returns-then-first-eq92-clause-read
returns-then-first-eq92-clause-read c =
    rw (c.if-first-eq92.true, unquoted_escape c.args.remaining.now) c.escape_at.ensures.read

pub returns-else-first-eq92-clause-read : goal.returns-else-first-eq92-clause-read
returns-else-first-eq92-clause-read c =
    unquoted_itself c.args.first c.args.remaining.now c.requires c.if-first-eq92.false
