use Rattle.stream_grammar.proofs.Placed.{ArePlaced-commands}
use Rattle.stream_grammar.proofs.Refused.{FindsPlace-stream}
use Rattle.stream_grammar.proofs.Streams.{AreCommands-stream}
use Rattle.stream_grammar.proofs.laws.whole_streams.Goals as goal

pub returns-clause-placed : goal.returns-clause-placed
returns-clause-placed c = ArePlaced-commands

pub returns-clause-found : goal.returns-clause-found
returns-clause-found c = FindsPlace-stream

pub returns-clause-filled : goal.returns-clause-filled
returns-clause-filled c = AreCommands-stream
