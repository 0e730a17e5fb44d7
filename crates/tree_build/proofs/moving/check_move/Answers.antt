use Rattle.std.proofs.Common.{rules}
use Rattle.tree_build.proofs.moving.check_move.Goals as goal

pub returns-then-files-eq0-clause-ok : goal.returns-then-files-eq0-clause-ok
returns-then-files-eq0-clause-ok c = tt

pub returns-then-fits_below-clause-ok : goal.returns-then-fits_below-clause-ok
returns-then-fits_below-clause-ok c = search rules
