use Rattle.pool_file_format.proofs.Takes.{reads_lent}
use Rattle.pool_file_format.proofs.fields.read_contents.Goals as goal

pub returns-in-Some : goal.returns-in-Some
returns-in-Some g c =
    rw c.lent_contents.ensures.same
    (reads_lent c.args.bound c.args.count _ _ c.in-Some.bytes.now c.in-Some.ensures.lent c.lent_contents.ensures.small)
