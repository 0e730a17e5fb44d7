use Rattle.std.proofs.Common.{rules}
use Rattle.stream_parts.proofs.commit_ishes.resolve_words.Goals as goal

pub returns : goal.returns
returns g c = search rules
