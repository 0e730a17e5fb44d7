use Rattle.std.proofs.Common.{rules}
use Rattle.stream_parts.proofs.entries.append_entry.Goals as goal

pub returns-in-Some : goal.returns-in-Some
returns-in-Some c = search rules
