use Rattle.stream_lex.proofs.Agrees.{read_so}
use Rattle.stream_lex.proofs.laws.readings_agree.Goals as goal

pub returns : goal.returns
returns c bytes items tail reads = read_so reads
