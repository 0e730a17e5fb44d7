use Rattle.std.proofs.Common.{ap, ◌∙◌, Some}
use Rattle.std.proofs.lemmas.Option.{none-some}
use Rattle.git_objects.proofs.LookedCommits.{no_tree, tree_said}
use Rattle.git_objects.proofs.commit.look_commit_tree.Goals as goal

pub returns-in_default-clause-first : goal.returns-in_default-clause-first
returns-in_default-clause-first c = λ digits rest names e.
    none-some _ (c.in_default.ensures.front.only digits rest names e)

pub returns-in_default-clause-commit : goal.returns-in_default-clause-commit
returns-in_default-clause-commit c = λ readable.
    absurd (no_tree c.args.contents.now c.in_default.ensures.front readable)

pub returns-clause-first : goal.returns-clause-first
returns-clause-first c = (
  c.in-Some.first.0.1.now,
  c.in-Some.first.1.now,
  c.in-Some.ensures.front.found.0,
  c.in-Some.ensures.front.found.1,
  c.in-Some.ensures.name,
)

pub returns-clause-commit : goal.returns-clause-commit
returns-clause-commit c = λ readable.
    ap (λ tree. Some tree)
    (c.in-Some.ensures.name
    ∙ tree_said c.args.contents.now c.in-Some.first.0.1.now c.in-Some.first.1.now c.in-Some.ensures.front readable)
