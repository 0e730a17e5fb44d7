use Rattle.std.proofs.Common.{◌≡◌, ◌∙◌}
use Rattle.std.proofs.lemmas.Result.{err_from_is_err_and}
use Rattle.byte_devices.specs.Device.{device_of, seen}
use Rattle.pool_file_format.specs.Shown.{lent_file}
use Rattle.pool_file_checks.specs.Repositories.{raw_of}
use Rattle.pool_file.specs.Worth.{to_save}
use Rattle.pool_file.proofs.Planning.{written_so, broken_so}
use Rattle.pool_file.proofs.saving.save_views.Goals as goal

pub returns-in_err-write_lent : goal.returns-in_err-write_lent
returns-in_err-write_lent g c =
    let p = err_from_is_err_and c.from_residual-in_err-write_lent.result c.from_residual-in_err-write_lent.ensures.1 in
    let same : lent_file c.deref.result.now c.deref-2.result.now
    ≡ lent_file c.in_ok-plan.plan.objects.items c.in_ok-plan.plan.tenants.items =
    λ i. lent_file (c.deref.ensures.value i) (c.deref-2.ensures.value i) in
    rw (p.1, p.2) (broken_so g.N.Naming.digest_of
    (seen (g.W.Write.contents (device_of c.args.writer.now)) c.args.writer.now)
    (seen (g.W.Write.contents (device_of c.write_lent.new.writer)) c.write_lent.new.writer)
    (lent_file c.deref.result.now c.deref-2.result.now)
    (raw_of 2 (to_save c.args.pool.now c.args.tenants.now))
    (same ∙ c.in_ok-plan.ensures) c.in_err-write_lent.ensures)

pub returns : goal.returns
returns g c =
    let same : lent_file c.deref.result.now c.deref-2.result.now
    ≡ lent_file c.in_ok-plan.plan.objects.items c.in_ok-plan.plan.tenants.items =
    λ i. lent_file (c.deref.ensures.value i) (c.deref-2.ensures.value i) in
    written_so g.N.Naming.digest_of
    (seen (g.W.Write.contents (device_of c.args.writer.now)) c.args.writer.now)
    (seen (g.W.Write.contents (device_of c.write_lent.new.writer)) c.write_lent.new.writer)
    (lent_file c.deref.result.now c.deref-2.result.now)
    (raw_of 2 (to_save c.args.pool.now c.args.tenants.now))
    (same ∙ c.in_ok-plan.ensures) c.in_ok-write_lent.ensures
