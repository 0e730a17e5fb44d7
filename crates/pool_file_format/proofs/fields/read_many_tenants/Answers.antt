use Rattle.std.proofs.Common.{◌-◌, ◌+◌, arith}
use Rattle.std.proofs.lemmas.List.{map_push}
use Rattle.pool_file_format.specs.Lengths.{tenant_at, many_at}
use Rattle.pool_file_format.specs.Shown.{tenant_of, tenants_of}
use Rattle.pool_file_format.proofs.Readings.{goes_start, goes_starved, goes_on, goes_fails, goes_done, stops}
use Rattle.pool_file_format.proofs.fields.read_many_tenants.Goals as goal

pub returns-in_err-tenant : goal.returns-in_err-tenant
returns-in_err-tenant g c =
    stops _ _ _ c.from_residual.ensures.1 (goes_fails (tenant_at c.args.version) c.args.count (c.args.count - c.loop.counter) (c.args.count - (c.loop.counter + 1)) c.in_err-tenant.field-0.0 _ _ _
    (tenants_of c.loop.tenants.items) (let t = c.loop-test.true in omega (arith, t)) c.loop.invariant c.in_err-tenant.ensures)

pub loop-preserved : goal.loop-preserved
loop-preserved g c =
    rw (c.in_ok-push.ensures.items, map_push tenant_of c.loop.tenants.items c.in_ok-tenant.tenant)
    (goes_on (tenant_at c.args.version) c.args.count (c.args.count - c.loop.counter) (c.args.count - (c.loop.counter + 1)) _ _ _ (tenants_of c.loop.tenants.items) (tenant_of c.in_ok-tenant.tenant)
    (let t = c.loop-test.true in omega (arith, t)) c.loop.invariant c.in_ok-tenant.ensures)

pub returns : goal.returns
returns g c =
    goes_done (tenant_at c.args.version) c.args.count (c.args.count - c.loop.counter) _ _ (tenants_of c.loop.tenants.items) (let t = c.loop-test.false in omega (arith, t)) c.loop.invariant

pub loop-init : goal.loop-init
loop-init g c = rw c.new-tenants.ensures.items (goes_start (tenant_at c.args.version) c.args.count (c.args.count - 0) _ (omega arith))

pub returns-in_err-push : goal.returns-in_err-push
returns-in_err-push g c =
    stops _ _ _ c.from_residual-in_err-push.ensures.1 (goes_starved (tenant_at c.args.version) (many_at (tenant_at c.args.version) c.args.count) c.args.count (c.args.count - (c.loop.counter + 1)) _ _ _
    (goes_on (tenant_at c.args.version) c.args.count (c.args.count - c.loop.counter) (c.args.count - (c.loop.counter + 1)) _ _ _ (tenants_of c.loop.tenants.items) (tenant_of c.in_ok-tenant.tenant)
    (let t = c.loop-test.true in omega (arith, t)) c.loop.invariant c.in_ok-tenant.ensures))
