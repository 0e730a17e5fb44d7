use Rattle.stream_lex.proofs.Walks.{faults-stay}
use Rattle.stream_lex.proofs.laws.faults_stay.Goals as goal

pub returns : goal.returns
returns c bytes more fault failed = faults-stay bytes more fault failed
