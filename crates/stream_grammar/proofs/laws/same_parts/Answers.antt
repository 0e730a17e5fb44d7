use Rattle.stream_grammar.proofs.SameParts.{same-equal, equal-same}
use Rattle.stream_grammar.proofs.laws.same_parts.Goals as goal

pub returns : goal.returns
returns c part other = (same-equal part other, equal-same part other)
