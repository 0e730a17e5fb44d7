use Rattle.stream_lex.specs.Looking.{item_of}
use Rattle.stream_grammar.proofs.Meanings.{asked}
use Rattle.stream_grammar.proofs.command.take.Goals as goal

pub returns-after-is_commit-clause-asks : goal.returns-after-is_commit-clause-asks
returns-after-is_commit-clause-asks c =
    asked c.args.now.now.stage c.args.now.now.mark c.inner_act.new.mark c.opened_of-opened.result c.part_of-part.result
    (item_of c.args.item) _ c.opened_of-opened.ensures c.part_of-part.ensures c.in-Stands.ensures.means.0 c.requires
    c.in_ok-act-in-Stands.ensures.brings
