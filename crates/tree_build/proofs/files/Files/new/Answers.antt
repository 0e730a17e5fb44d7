use Rattle.tree_build.proofs.Empty.{bare_files, bare_branch}
use Rattle.tree_build.proofs.files.Files.new.Goals as goal

pub returns-clause-files : goal.returns-clause-files
returns-clause-files c =
    λ os. bare_files os c.empty.result.tree c.empty.result.entries 0 c.empty.ensures.entries

pub returns-clause-branch : goal.returns-clause-branch
returns-clause-branch c =
    λ os. bare_branch os c.empty.result.tree c.empty.result.entries 0 c.empty.ensures.tree
    c.empty.ensures.entries
