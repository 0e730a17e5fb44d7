use Rattle.stream_lex.proofs.Exists.{readings}
use Rattle.stream_lex.proofs.laws.readings_exist.Goals as goal

pub returns : goal.returns
returns c bytes = readings bytes
