use Rattle.byte_devices.specs.Device.{Device, device_of, seen}
use Rattle.tenant_service.proofs.PackLemmas.{told-pack}
use Rattle.tenant_service.proofs.service.Service.write_pack.Goals as goal

pub returns : goal.returns
returns g c =
    let old : Device = seen (g.W.Write.contents (device_of c.args.writer.now)) c.args.writer.now in
    let new : Device = seen (g.W.Write.contents (device_of c.write_missing.new.writer)) c.write_missing.new.writer in
    told-pack g.N.Naming.digest_of c.args.tenant.now c.args.self.now c.in_ok-objects.objects c.args.wants.now c.args.haves.now old new
    c.write_missing.result (c.is_sound.ensures c.args.tenant.now) c.in_ok-objects.ensures.0 c.in_ok-objects.ensures.1 c.write_missing.ensures.written
