use Rattle.git_paths.proofs.Printed as printed
use Rattle.git_paths.proofs.laws.printed_is_read.Goals as goal

pub returns : goal.returns
returns c = printed.printed_is_read
