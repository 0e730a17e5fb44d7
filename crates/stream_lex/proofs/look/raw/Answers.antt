use Rattle.std.proofs.Common.{◌≡◌, ◌+◌, ◌-◌, length, take, drop, sym, ap, ◌∙◌, arith}
use Rattle.stream_lex.specs.Items.{Data}
use Rattle.stream_lex.specs.Reading.{Gives}
use Rattle.stream_lex.proofs.Firsts.{before-too_large, before-whole}
use Rattle.stream_lex.proofs.look.raw.Goals as goal

pub returns-then-size-gt-LARGEST_DATA-clause-first : goal.returns-then-size-gt-LARGEST_DATA-clause-first
returns-then-size-gt-LARGEST_DATA-clause-first c delimiter long =
    sym (before-too_large (c.args.line - c.args.header) delimiter c.args.header c.args.bytes.now (omega arith))

pub returns-else-size-gt-LARGEST_DATA-clause-first : goal.returns-else-size-gt-LARGEST_DATA-clause-first
returns-else-size-gt-LARGEST_DATA-clause-first c delimiter long =
    let size = c.args.line - c.args.header in
    let data_raw = c.split_at-else-size-gt-LARGEST_DATA.ensures.front ∙ ap (take size) c.split_at.ensures.back in
    let remaining : c.args.end + 1 ≡ c.args.header + size + length delimiter + 1 = omega arith in
    ap (λ l. Gives (Data l) (c.args.end + 1)) data_raw
    ∙ ap (λ n. Gives (Data (take size (drop c.args.header c.args.bytes.now))) n) remaining
    ∙ sym (before-whole size delimiter c.args.header c.args.bytes.now (omega arith))
