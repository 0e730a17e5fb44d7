use Rattle.std.proofs.Common.{◌≡◌, take}
use Rattle.store_format.specs.Chains.{chained_on}
use Rattle.store_format.specs.Records.{record_text}
use Rattle.store_format.specs.Shown.{records_of}
use Rattle.store_format.proofs.chains.records_chained.Given as goal

-- The chain before the place of the loop.
abbrev pub invariant-loop-tenant : goal.invariant-loop-tenant
invariant-loop-tenant g l = l.after ≡ chained_on g.N.Naming.digest_of record_text l.fn.chain (records_of (take l.tenant-index l.records))
