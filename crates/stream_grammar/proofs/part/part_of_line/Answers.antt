use Rattle.std.proofs.Common.{codes, Some}
use Rattle.std.proofs.lemmas.Bool.Decides.{Decides-eqb}
use Rattle.std.proofs.lemmas.Slice.Eq.{strip_prefix_is}
use Rattle.stream_grammar.proofs.Regular.{part-regular}
use Rattle.stream_grammar.proofs.part.part_of_line.Goals as goal

pub returns : goal.returns
returns c =
    let begins = strip_prefix_is Decides-eqb c.args.line.now (codes "M ") (Some c.in-Some.text) c.in-Some.ensures.cases in
    part-regular c.args.line.now c.in-Some.text.now c.in-Some-len1-up.field-0.now begins
    c.in-Some-len1-up.ensures c.in-Some-len1-up.len_at_least c.if-first-ne105.true
