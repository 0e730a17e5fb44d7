use Rattle.std.proofs.Common.{rules}
use Rattle.stream_parts.specs.Branches.{ref_meant}
use Rattle.stream_parts.proofs.branches.meant.Goals as goal

pub returns-in-None : goal.returns-in-None
unfolding ref_meant
returns-in-None c = search rules
