use Rattle.pool_file.proofs.Views.{view_more}
use Rattle.pool_file.proofs.saving.views_of.Goals as goal

pub loop-tenant-preserved : goal.loop-tenant-preserved
loop-tenant-preserved c =
    view_more c.args.tenants.now c.loop-tenant.views.items c.push.new.self.items
    c.loop-tenant.tenant-index c.tenant-item.result c.view.result c.loop-tenant-test.true
    c.tenant-item.is c.loop-tenant.invariant c.in_ok-push.ensures.items c.view.ensures
