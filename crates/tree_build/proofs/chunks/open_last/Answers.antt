use Rattle.std.proofs.Common.{sym, ap, ◌∙◌, subst}
use Rattle.tree_build.specs.Chunks.{all, AreStarts}
use Rattle.tree_build.proofs.Spots.{one_more, starts_more}
use Rattle.tree_build.proofs.chunks.open_last.Goals as goal

pub returns-clause-same : goal.returns-clause-same
returns-clause-same c =
    ap all c.in_ok-push.ensures.items ∙ one_more c.args.chunks.now.items c.empty.result c.empty.ensures.entries

pub returns-clause-starts : goal.returns-clause-starts
returns-clause-starts c =
    subst AreStarts (sym c.in_ok-push.ensures.items)
    (starts_more c.args.chunks.now.items c.empty.result (c.empty.ensures.start ∙ c.requires.len) c.requires.starts)
