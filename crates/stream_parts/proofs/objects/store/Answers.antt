use Rattle.std.proofs.Common.{rules}
use Rattle.stream_parts.proofs.objects.store.Goals as goal

pub returns-in-Ok-clause-stores : goal.returns-in-Ok-clause-stores
returns-in-Ok-clause-stores g c = search rules
