use Rattle.stream_grammar.proofs.Regular.{mode-regular}
use Rattle.stream_grammar.proofs.changes.split_mode.Goals as goal

pub returns-in-Some : goal.returns-in-Some
returns-in-Some c = mode-regular c.args.text.now _ c.in-Some.ensures
