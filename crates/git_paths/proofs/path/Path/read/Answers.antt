use Rattle.std.proofs.Common.{subst}
use Rattle.git_paths.specs.Faults.{Gives}
use Rattle.git_paths.specs.Written.{shown}
use Rattle.git_paths.proofs.Found.{found, path_at-Writes}
use Rattle.git_paths.proofs.path.Path.read.Goals as goal

pub returns-clause-found : goal.returns-clause-found
returns-clause-found c =
    found c.args.place c.args.text.now c.read_from.result c.read_from.ensures.exact c.read_from.ensures.path

pub returns-clause-only : goal.returns-clause-only
returns-clause-only c = λ path rest begins.
    subst (λ read. Gives shown c.read_from.result read)
    (path_at-Writes c.args.place c.args.text.now path rest begins.is_path begins.limits begins.written) c.read_from.ensures.exact
