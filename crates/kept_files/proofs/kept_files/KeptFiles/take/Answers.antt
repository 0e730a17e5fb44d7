use Rattle.kept_files.proofs.Branches.{taken_branch}
use Rattle.kept_files.proofs.kept_files.KeptFiles.take.Goals as goal

pub returns-clause-branches : goal.returns-clause-branches
returns-clause-branches c os all =
    taken_branch os c.args.commit.now c.take_from.result c.self.inside.kept.items
    c.take_from.new.kept.items c.take_from.ensures.taken c.take_from.ensures.same (rw c.self.view_is all)
