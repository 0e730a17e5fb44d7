use Rattle.std.proofs.Common.{false}
use Rattle.stream_lex.proofs.Walks.{reading-append}
use Rattle.stream_lex.proofs.laws.prefixes_agree.Goals as goal

pub returns : goal.returns
returns c bytes more = reading-append bytes more false
