use Rattle.pool_file.proofs.ListedContents.{AreBelow}
use Rattle.pool_file.proofs.listing.contents_in.Given as goal

-- The contents are those in the slots before the place of the loop.
abbrev pub invariant-loop-cell : goal.invariant-loop-cell
invariant-loop-cell g l = AreBelow l.pool l.seen l.contents.items l.cell-index
