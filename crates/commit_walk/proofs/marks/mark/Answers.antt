use Rattle.std.proofs.Common.{arith}
use Rattle.commit_walk.proofs.Flags.{Marks-skip}
use Rattle.commit_walk.proofs.marks.mark.Goals as goal

pub returns-in_default : goal.returns-in_default
returns-in_default g c =
    let e = c.in_default.ensures in Marks-skip _ _ _ _ (λ above there within. omega arith)
