use Rattle.std.proofs.Common.{◌≢◌, [], sym, ap, ◌∙◌}
use Rattle.std.specs.Prelude.{Some}
use Rattle.tree_build.specs.declared.dir.Node.{Node}
use Rattle.tree_build.specs.Shape.{opened}
use Rattle.tree_build.specs.Moving.{standing, rest_of}
use Rattle.tree_build.specs.Nodes.{held}
use Rattle.tree_build.proofs.Copies.{stands_nowhere, rest_opened, rest_other}
use Rattle.tree_build.proofs.dropping.take_from.Goals as goal

pub returns-in-Opened-clause-rest : goal.returns-in-Opened-clause-rest
returns-in-Opened-clause-rest c =
    let some : c.args.path.now ≢ [] = λ z. cc (sym c.in-Some.ensures ∙ z) in
    let tree = c.take_at.ensures.tree some in
    let entries = c.take_at.ensures.entries in
    (λ i. record { what = opened (tree i); inside = entries i })
    ∙ sym (rest_opened c.args.path.now some c.in-Opened.dir.tree c.in-Opened.dir.entries)
    ∙ ap (λ (n : Node). rest_of c.args.path.now (held n)) (sym c.in-Opened.is)

pub returns-in-Opened-clause-node : goal.returns-in-Opened-clause-node
returns-in-Opened-clause-node c =
    let some : c.args.path.now ≢ [] = λ z. cc (sym c.in-Some.ensures ∙ z) in
    c.take_at.ensures.node some
    ∙ ap (λ (n : Node). standing c.args.path.now (Some (held n))) (sym c.in-Opened.is)

pub returns-in_default-root-clause-rest : goal.returns-in_default-root-clause-rest
returns-in_default-root-clause-rest c =
    rest_other c.args.root.now c.in_default-root.not-Opened c.args.path.now
    (λ z. cc (sym c.in-Some.ensures ∙ z))

pub returns-in_default-root-clause-node : goal.returns-in_default-root-clause-node
returns-in_default-root-clause-node c =
    sym (stands_nowhere c.args.root.now c.in_default-root.not-Opened c.args.path.now
    (λ z. cc (sym c.in-Some.ensures ∙ z)))
