use Rattle.git_paths.proofs.Found.{path_at-done}
use Rattle.git_paths.proofs.path.Path.read_from.Goals as goal

pub of-requires : goal.of-requires
of-requires c = (path_at-done c.args.place c.args.text.now _ _ c.in_ok-bytes.ensures).0
