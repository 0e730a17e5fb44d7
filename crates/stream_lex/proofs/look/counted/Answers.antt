use Rattle.std.proofs.Common.{◌+◌, take, sym, ap, ◌∙◌, arith}
use Rattle.stream_lex.specs.Reading.{counted_data, Gives}
use Rattle.stream_lex.specs.Items.{Data}
use Rattle.stream_lex.proofs.Firsts.{counted-too_large, counted-unfinished, counted-whole}
use Rattle.stream_lex.proofs.Lookings.{at_once}
use Rattle.stream_lex.proofs.look.counted.Goals as goal

pub returns-then-size-clause-first : goal.returns-then-size-clause-first
returns-then-size-clause-first c =
    let bytes = c.args.bytes.now in
    let now = at_once bytes (counted_data c.args.size c.args.header) c.requires.leads in
    sym (now ∙ counted-too_large c.args.size c.args.header bytes (omega arith))

pub returns-then-remaining-size-clause-first : goal.returns-then-remaining-size-clause-first
returns-then-remaining-size-clause-first c =
    let bytes = c.args.bytes.now in
    let now = at_once bytes (counted_data c.args.size c.args.header) c.requires.leads in
    sym (now ∙ counted-unfinished c.args.size c.args.header bytes (omega arith) (omega arith))

pub returns-else-remaining-size-clause-first : goal.returns-else-remaining-size-clause-first
returns-else-remaining-size-clause-first c =
    let bytes = c.args.bytes.now in
    let now = at_once bytes (counted_data c.args.size c.args.header) c.requires.leads in
    let raw = c.split_at-else-remaining-size.ensures.front ∙ ap (take c.args.size) c.split_at.ensures.back in
    ap (λ data_raw. Gives (Data data_raw) (c.args.header + c.args.size)) raw
    ∙ sym (now ∙ counted-whole c.args.size c.args.header bytes (omega arith) (omega (arith, c.split_at.ensures.back_len)))
