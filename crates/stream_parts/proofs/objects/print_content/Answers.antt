use Rattle.std.proofs.Common.{rules}
use Rattle.stream_parts.proofs.objects.print_content.Goals as goal

pub returns-in_ok-print_missing-in-None : goal.returns-in_ok-print_missing-in-None
returns-in_ok-print_missing-in-None c = search rules
