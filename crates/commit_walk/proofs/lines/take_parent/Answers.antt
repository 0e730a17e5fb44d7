use Rattle.std.proofs.Common.{drop, ap, ◌∙◌, codes}
use Rattle.std.proofs.lemmas.List.{drop_at}
use Rattle.git_model.specs.Commit.{line}
use Rattle.commit_walk.proofs.HeaderLines.{long_line, parent_read, parent_unread}
use Rattle.commit_walk.proofs.lines.take_parent.Goals as goal

pub returns-in_err-id-clause-there : goal.returns-in_err-id-clause-there
returns-in_err-id-clause-there c = λ digits rest is e.
    absurd (parent_unread digits rest c.args.text.now _ is e c.split_at.ensures.front c.in_err-id.ensures)

pub returns-clause-there : goal.returns-clause-there
returns-clause-there c = λ digits rest is e. (
  parent_read digits rest c.args.text.now _ _ is e c.split_at.ensures.front c.in_ok-id.ensures,
  c.split_at.ensures.back ∙ ap (drop 48) e
      ∙ drop_at (line (codes "parent ") digits) rest 48 (long_line (codes "parent ") digits is),
)
