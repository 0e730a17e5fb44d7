use Rattle.tree_build.proofs.Walks.{walk-few}
use Rattle.tree_build.proofs.files.Files.walk_reads_few.Goals as goal

pub returns : goal.returns
returns c = walk-few c.args.self.now.root c.args.path.now
