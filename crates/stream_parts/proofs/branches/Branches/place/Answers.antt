use Rattle.stream_parts.proofs.BranchLemmas.{AreRefNames-with_branch}
use Rattle.stream_parts.proofs.branches.Branches.place.Goals as goal

pub invariant_of-self-2 : goal.invariant_of-self-2
invariant_of-self-2 c = rw c.in_ok-insert.ensures.entries (AreRefNames-with_branch _ _ _
    (c.as_bytes-text.ensures.well_formed, c.as_bytes-text.ensures.short) c.self.invariant)
