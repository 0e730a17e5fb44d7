use Rattle.std.proofs.Common.{◌≡◌, map, take, Ok}
use Rattle.stream_grammar.specs.Commands.{commands, top}
use Rattle.stream_lex.specs.Looking.{item_of}
use Rattle.uses.proofs.checking.check.Given as goal

-- what the items so far leave
abbrev pub invariant-loop-item : goal.invariant-loop-item
invariant-loop-item l =
    l.parser ≡ (commands (Ok top) (map item_of (take l.item-index l.items))).rest
