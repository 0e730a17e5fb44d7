use Rattle.std.proofs.Common.{◌≡◌, drop, map}
use Rattle.stream_grammar.specs.Parts.{part_by_word, first_fit}
use Rattle.stream_grammar.proofs.Rows.{shown}
use Rattle.stream_grammar.proofs.part.part_by_word.Given as goal

abbrev pub invariant-loop-word : goal.invariant-loop-word
invariant-loop-word l =
    part_by_word l.line ≡ first_fit (map shown (drop l.word-index l.word-items)) l.line
