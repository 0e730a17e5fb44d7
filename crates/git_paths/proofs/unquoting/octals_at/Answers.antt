use Rattle.git_paths.proofs.Inside.{octals_short, octals_fail, octals_give, rest_of}
use Rattle.git_paths.proofs.unquoting.octals_at.Goals as goal

pub returns-in_default-clause-read : goal.returns-in_default-clause-read
returns-in_default-clause-read c = octals_short c.args.x c.args.text.now c.in_default.len_below

pub returns-in_err-byte-clause-read : goal.returns-in_err-byte-clause-read
returns-in_err-byte-clause-read c =
    rw c.from_residual.ensures (octals_fail c.args.x c.args.text.now c.in-len2-up.len_at_least c.in_err-byte.ensures.none)

pub returns-clause-read : goal.returns-clause-read
returns-clause-read c =
    let test = c.in_ok-byte.ensures.some in
    rw rest_of (octals_give c.args.x c.args.text.now c.in_ok-byte.byte c.in-len2-up.len_at_least test.0 test.1)
