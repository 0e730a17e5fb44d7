use Rattle.std.proofs.Common.{ap, ◌∙◌, rules}
use Rattle.file_maps.proofs.KnownTrees.{plain-sum}
use Rattle.tree_build.specs.Opened.{files_of}
use Rattle.tree_build.proofs.counting.count_stored.Goals as goal

pub returns-in-Some : goal.returns-in-Some
returns-in-Some g c =
    let is = ap files_of (c.in-Some.ensures ∙ plain-sum c.args.objects.now c.args.id.now _ c.requires) in search (rules, is)

pub returns-in-None : goal.returns-in-None
returns-in-None g c =
    ap files_of (c.in-None.ensures ∙ plain-sum c.args.objects.now c.args.id.now _ c.requires)
