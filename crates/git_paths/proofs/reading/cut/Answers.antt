use Rattle.std.proofs.Common.{rules}
use Rattle.git_paths.proofs.reading.cut.Goals as goal

pub returns-in_ok-at-in-Source : goal.returns-in_ok-at-in-Source
returns-in_ok-at-in-Source c = search rules
