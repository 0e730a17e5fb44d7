use Rattle.std.proofs.Common.{ap, ◌∙◌}
use Rattle.std.proofs.lemmas.Result.{on_ok_weaker}
use Rattle.tree_build.specs.Nodes.{shape_of}
use Rattle.tree_build.proofs.Searched.{shape_append}
use Rattle.tree_build.proofs.names.append.Goals as goal

pub returns : goal.returns
returns c =
    on_ok_weaker c.push.result
    (λ is. ap shape_of is ∙ shape_append c.args.name c.args.node c.args.entries.now.items c.requires)
    c.push.ensures
