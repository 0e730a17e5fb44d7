use Rattle.std.proofs.lemmas.Bool.{false≢true}
use Rattle.pool_file_format.specs.Shown.{object_of}
use Rattle.pool_file_checks.proofs.RefLemmas.{no_target}
use Rattle.pool_file_checks.proofs.targets.may_target.Goals as goal

pub returns-in-None : goal.returns-in-None
returns-in-None c = (
  λ e. absurd (false≢true e),
  λ q. absurd (no_target c.args.name.now (object_of c.args.target.now) c.in-None.ensures q),
)
