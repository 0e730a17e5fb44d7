use Rattle.std.proofs.Common.{sym, arith}
use Rattle.stream_lex.specs.Headers.{HasNoLineEnd}
use Rattle.stream_lex.proofs.Delimiters.{none_in-take}
use Rattle.stream_lex.proofs.Firsts.{first-too_long, first-unfinished}
use Rattle.stream_lex.proofs.Lookings.{line_from_start, none_from_start}
use Rattle.stream_lex.proofs.look.line.Goals as goal

pub whole-requires-clause-first : goal.whole-requires-clause-first
whole-requires-clause-first c =
    line_from_start c.args.bytes.now c.args.search.now.seen c.in-Some.end c.requires.seen c.requires.no_line_end c.in-Some.ensures.found

pub returns-else-end-le-LONGEST_LINE-clause-first : goal.returns-else-end-le-LONGEST_LINE-clause-first
returns-else-end-le-LONGEST_LINE-clause-first c =
    let at = line_from_start c.args.bytes.now c.args.search.now.seen c.in-Some.end c.requires.seen c.requires.no_line_end c.in-Some.ensures.found in
    sym (first-too_long c.args.bytes.now (omega arith))

pub returns-then-bytes-le-LONGEST_LINE-clause-first : goal.returns-then-bytes-le-LONGEST_LINE-clause-first
returns-then-bytes-le-LONGEST_LINE-clause-first c =
    let none : HasNoLineEnd c.args.bytes.now = none_from_start c.args.bytes.now c.args.search.now.seen c.requires.seen c.requires.no_line_end c.in-None.ensures.found in
    sym (first-unfinished c.args.bytes.now (omega arith) (omega arith))

pub returns-then-bytes-le-LONGEST_LINE-clause-placed : goal.returns-then-bytes-le-LONGEST_LINE-clause-placed
returns-then-bytes-le-LONGEST_LINE-clause-placed c =
    let none = none_from_start c.args.bytes.now c.args.search.now.seen c.requires.seen c.requires.no_line_end c.in-None.ensures.found in
    (none_in-take c.line_end.new.self.seen c.args.bytes.now none, λ wish. cc)

pub returns-else-bytes-le-LONGEST_LINE-clause-first : goal.returns-else-bytes-le-LONGEST_LINE-clause-first
returns-else-bytes-le-LONGEST_LINE-clause-first c =
    let none : HasNoLineEnd c.args.bytes.now = none_from_start c.args.bytes.now c.args.search.now.seen c.requires.seen c.requires.no_line_end c.in-None.ensures.found in
    sym (first-too_long c.args.bytes.now (omega arith))
