use Rattle.std.proofs.Common.{◌≡◌, ◌++◌, length, drop, ap, ◌∙◌, arith, codes}
use Rattle.std.proofs.lemmas.List.{length-append, drop_at}
use Rattle.git_model.specs.Commit.{line}
use Rattle.commit_walk.specs.HeaderLines.{after_tree}
use Rattle.commit_walk.proofs.HeaderLines.{long_line, contents_parted}
use Rattle.commit_walk.proofs.lines.after_tree.Goals as goal

pub returns : goal.returns
returns c = λ front rest is e.
    let parts : c.args.contents.now ≡ line (codes "tree ") front.tree ++ after_tree front rest =
    e ∙ contents_parted front rest in
    let long = long_line (codes "tree ") front.tree is.tree in
    let whole = ap length parts ∙ length-append (line (codes "tree ") front.tree) (after_tree front rest) in
    let cut : c.min.result ≡ 46 = omega (arith, c.min.ensures, long, whole) in
    c.split_at.ensures.back ∙ ap (drop c.min.result) parts
    ∙ drop_at (line (codes "tree ") front.tree) (after_tree front rest) c.min.result (omega (arith, cut, long))
