use Rattle.std.proofs.Common.{sym, ap, ◌∙◌, subst}
use Rattle.std.proofs.lemmas.Result.{on_ok_weaker}
use Rattle.tree_build.specs.Branch.{IsBranch, files_in}
use Rattle.tree_build.specs.Nodes.{held}
use Rattle.tree_build.proofs.Branches.{opened_branch, opened_files}
use Rattle.tree_build.proofs.files.Files.open_to.Goals as goal

pub returns-clause-branch : goal.returns-clause-branch
returns-clause-branch g c =
    let os = c.args.objects.now in
    on_ok_weaker c.open_below.result
    (λ opens. opened_branch os _ (subst (IsBranch os) (sym c.self.view_is) c.requires.branch) c.args.path.now
    (held c.open_below.new.node) opens c.open_below.new.reads)
    c.open_below.ensures.opens

pub returns-clause-files : goal.returns-clause-files
returns-clause-files g c =
    let os = c.args.objects.now in
    on_ok_weaker c.open_below.result
    (λ opens. opened_files os (record { root = held c.self.inside.root; files = c.self.inside.files; reads = c.self.inside.reads })
    (record { root = held c.open_below.new.node; files = c.self.inside.files; reads = c.open_below.new.reads }) opens.files
    ∙ ap (files_in os) c.self.view_is)
    c.open_below.ensures.opens
