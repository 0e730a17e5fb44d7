use Rattle.std.proofs.Common.{None, Some}
use Rattle.std.proofs.lemmas.Bool.Decides.{Decides-eqb}
use Rattle.std.proofs.lemmas.Slice.Eq.{strip_prefix_is}
use Rattle.git_objects.proofs.Lines.{line_front, no_line}
use Rattle.git_objects.proofs.header.take_line.Goals as goal

pub returns-in_err-remaining : goal.returns-in_err-remaining
returns-in_err-remaining c =
    rw c.from_residual.ensures (no_line c.args.word.now c.args.bytes.now (strip_prefix_is Decides-eqb c.args.bytes.now c.args.word.now None c.in_err-remaining.ensures.cases))

pub returns : goal.returns
returns c =
    line_front c.args.word.now c.args.bytes.now c.in_ok-remaining.remaining.now _
    (strip_prefix_is Decides-eqb c.args.bytes.now c.args.word.now (Some c.in_ok-remaining.remaining) c.in_ok-remaining.ensures.cases) c.split_at_byte.ensures
