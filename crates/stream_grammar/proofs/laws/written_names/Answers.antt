use Rattle.stream_grammar.proofs.Printed.{dataref_of-encode_lower}
use Rattle.stream_grammar.proofs.laws.written_names.Goals as goal

pub returns : goal.returns
returns c = dataref_of-encode_lower
