use Rattle.std.proofs.lemmas.Bool.Decides.{Decides-eqb}
use Rattle.std.proofs.lemmas.Slice.Eq.{strip_prefix_is}
use Rattle.tree_build.proofs.Begun.{if-some}
use Rattle.tree_build.proofs.matching.after.Goals as goal

pub returns : goal.returns
returns c =
    if-some c.strip_prefix.result _ _
    (strip_prefix_is Decides-eqb c.args.text.now c.args.front.now c.strip_prefix.result c.strip_prefix.ensures.cases)
