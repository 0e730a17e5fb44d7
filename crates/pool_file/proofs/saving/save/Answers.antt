use Rattle.std.proofs.Common.{List, sym, ap, subst, ◌∙◌}
use Rattle.byte_devices.specs.Device.{device_of, seen}
use Rattle.pool_file_checks.specs.Repositories.{Named, file_text}
use Rattle.pool_file.specs.declared.tenant_view.TenantView.{TenantView}
use Rattle.pool_file.specs.Saves.{Saves}
use Rattle.pool_file.specs.Worth.{AllStand, to_save}
use Rattle.pool_file.proofs.Views.{views_stand, views_saved}
use Rattle.pool_file.proofs.saving.save.Goals as goal

pub save_views-requires : goal.save_views-requires
save_views-requires g c =
    subst (λ (views : List TenantView). AllStand g.N.Naming.digest_of c.args.pool.now views)
    (sym c.deref.ensures.value)
    (views_stand g.N.Naming.digest_of c.args.pool.now c.in_ok-views.views.items c.args.tenants.now
    c.in_ok-views.ensures c.requires)

pub returns : goal.returns
returns g c =
    subst (λ (all : List Named). Saves
    (seen (g.W.Write.contents (device_of c.args.writer.now)) c.args.writer.now) c.save_views.result
    (seen (g.W.Write.contents (device_of c.save_views.new.writer)) c.save_views.new.writer)
    (file_text g.N.Naming.digest_of all))
    (ap (to_save c.args.pool.now) c.deref.ensures.value
    ∙ views_saved c.args.pool.now c.in_ok-views.views.items c.args.tenants.now c.in_ok-views.ensures)
    c.save_views.ensures
