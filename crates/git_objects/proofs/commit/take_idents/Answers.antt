use Rattle.std.proofs.Common.{codes}
use Rattle.git_model.specs.Ident.{IsWrittenIdent}
use Rattle.git_model.specs.Commit.{line}
use Rattle.git_objects.proofs.Fronts.{second_missing, both_there}
use Rattle.git_objects.proofs.commit.take_idents.Goals as goal

pub returns-in_err-committer : goal.returns-in_err-committer
returns-in_err-committer c =
    rw c.from_residual-in_err-committer.ensures (second_missing IsWrittenIdent IsWrittenIdent (line (codes "author ")) (line (codes "committer ")) c.args.bytes.now c.in_ok-author.author.now c.in_ok-author.rest.now c.in_ok-author.ensures c.in_err-committer.ensures)

pub returns : goal.returns
returns c =
    both_there IsWrittenIdent IsWrittenIdent (line (codes "author "))
    (line (codes "committer ")) c.args.bytes.now c.in_ok-author.author.now c.in_ok-author.rest.now c.in_ok-committer.committer.now c.in_ok-committer.rest.now c.in_ok-author.ensures c.in_ok-committer.ensures
