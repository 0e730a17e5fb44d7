use Rattle.std.proofs.Common.{rules}
use Rattle.stream_parts.specs.Marks.{has_room}
use Rattle.stream_parts.proofs.marks.has_room.Goals as goal

pub returns-else-contains : goal.returns-else-contains
unfolding has_room
returns-else-contains c = search rules
