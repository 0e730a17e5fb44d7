use Rattle.std.proofs.Common.{rules}
use Rattle.stream_commands.proofs.commit_ishes.words_named.Goals as goal

pub returns-in-None-clause-named : goal.returns-in-None-clause-named
returns-in-None-clause-named g c committed good =
    let found = c.resolve_words.ensures.found good (c.requires.chain good) in search rules

pub returns-in-None-clause-chain : goal.returns-in-None-clause-chain
returns-in-None-clause-chain g c good = c.resolve_words.ensures.chain good (c.requires.chain good)
