use Rattle.std.proofs.Common.{drop}
use Rattle.std.specs.List.{flat_map}
use Rattle.pool_file_format.specs.Format.{tenant_text}
use Rattle.pool_file_format.specs.Shown.{tenants_of}
use Rattle.pool_file_format.proofs.Pieces.{HasTaken}
use Rattle.pool_file_format.proofs.printing.put_many_tenants.Given as goal

-- The sink took all before the place of the loop.
abbrev pub invariant-loop-tenant : goal.invariant-loop-tenant
invariant-loop-tenant g l = HasTaken g.S.Sink.Took l.fn.sink l.sink (flat_map (tenant_text l.version) (tenants_of l.tenants))
    (flat_map (tenant_text l.version) (tenants_of (drop l.tenant-index l.tenants)))
