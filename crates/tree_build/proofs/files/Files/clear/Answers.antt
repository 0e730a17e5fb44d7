use Rattle.std.proofs.Common.{◌≡◌, sym, subst}
use Rattle.std.specs.FinMap as map
use Rattle.tree_build.specs.Branch.{files_in, IsBranch}
use Rattle.tree_build.specs.Nodes.{held}
use Rattle.tree_build.proofs.Empty.{bare_files, bare_branch}
use Rattle.tree_build.proofs.files.Files.clear.Goals as goal

pub returns-clause-files : goal.returns-clause-files
returns-clause-files c =
    λ os. subst (λ n. files_in os (record { root = held n; files = 0; reads = c.self.inside.reads }) ≡ map.empty)
    (sym c.replace-root.ensures.after)
    (bare_files os c.empty.result.tree c.empty.result.entries c.self.inside.reads c.empty.ensures.entries)

pub returns-clause-branch : goal.returns-clause-branch
returns-clause-branch c =
    λ os. subst (λ n. IsBranch os (record { root = held n; files = 0; reads = c.self.inside.reads }))
    (sym c.replace-root.ensures.after)
    (bare_branch os c.empty.result.tree c.empty.result.entries c.self.inside.reads
    c.empty.ensures.tree c.empty.ensures.entries)
