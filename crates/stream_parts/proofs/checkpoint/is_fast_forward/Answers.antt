use Rattle.std.proofs.Common.{rules}
use Rattle.stream_parts.proofs.checkpoint.is_fast_forward.Goals as goal

pub returns-in_ok-reaches-in-Ok-clause-judged : goal.returns-in_ok-reaches-in-Ok-clause-judged
returns-in_ok-reaches-in-Ok-clause-judged g c = search rules
