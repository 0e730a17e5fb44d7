use Rattle.std.proofs.Common.{◌≡◌, take}
use Rattle.store_format.specs.Chains.{chained_on}
use Rattle.store_format.specs.Rows.{row_text}
use Rattle.store_format.specs.Shown.{rows_of}
use Rattle.store_format.proofs.chains.rows_chained.Given as goal

-- The chain before the place of the loop.
abbrev pub invariant-loop-row : goal.invariant-loop-row
invariant-loop-row g l = l.after ≡ chained_on g.N.Naming.digest_of row_text l.fn.chain (rows_of (take l.row-index l.rows))
