use Rattle.std.proofs.Common.{rules}
use Rattle.stream_parts.proofs.entries.tree_of.Goals as goal

pub returns-in-None : goal.returns-in-None
returns-in-None g c = search rules
