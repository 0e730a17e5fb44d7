use Rattle.std.proofs.Common.{◌<◌, length, arith}
use Rattle.git_paths.proofs.Inside.{rest_of}
use Rattle.git_paths.proofs.Places.{bytes_at-quote, bytes_at-other, bytes_at-nothing}
use Rattle.git_paths.proofs.reading.read_bytes.Goals as goal

pub returns-in-empty : goal.returns-in-empty
returns-in-empty c =
    let none : length c.args.text.now < 1 = omega arith in
    rw (bytes_at-nothing c.args.place c.args.text.now none) c.read_unquoted.ensures

pub returns-then-first-eq34 : goal.returns-then-first-eq34
returns-then-first-eq34 c =
    rw (bytes_at-quote c.args.place c.args.text.now c.in-len1-up.len_at_least c.if-first-eq34.true) (rw (rest_of 1 c.args.text.now) at c.read_quoted.ensures)

pub returns-else-first-eq34 : goal.returns-else-first-eq34
returns-else-first-eq34 c =
    rw (bytes_at-other c.args.place c.args.text.now c.if-first-eq34.false) c.read_unquoted-else-first-eq34.ensures
