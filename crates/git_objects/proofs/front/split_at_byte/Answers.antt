use Rattle.std.proofs.Common.{Some, None}
use Rattle.git_objects.proofs.Splits.{split_front}
use Rattle.git_objects.proofs.front.split_at_byte.Goals as goal

pub returns-in_err-at : goal.returns-in_err-at
returns-in_err-at c =
    rw c.from_residual.ensures (split_front c.args.end c.args.bytes.now None c.in_err-at.ensures)

pub returns : goal.returns
returns c =
    rw (c.split_at.ensures.front, c.split_at-2.ensures.back) (split_front c.args.end c.args.bytes.now (Some c.in_ok-at.at) c.in_ok-at.ensures)
