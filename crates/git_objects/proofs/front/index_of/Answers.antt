use Rattle.git_objects.proofs.Splits.{found_is_position}
use Rattle.git_objects.proofs.front.index_of.Goals as goal

pub returns : goal.returns
returns c = found_is_position c.args.sought c.args.bytes.now c.memchr.result c.memchr.ensures
