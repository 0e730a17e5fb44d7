use Rattle.std.proofs.Common.{sym, ap, ◌∙◌}
use Rattle.byte_devices.specs.Device.{device_of, seen}
use Rattle.tenant_service.specs.Extracting.{extract_refusal}
use Rattle.tenant_service.proofs.ExtractLemmas.{extracts-saved}
use Rattle.tenant_service.proofs.service.Service.extract.Goals as goal

pub returns-in-Ok : goal.returns-in-Ok
returns-in-Ok g c =
    let free = c.in_ok-name.ensures c.self.inside.pool in
    extracts-saved g.N.Naming.digest_of c.args.self.now c.args.tenant.now c.in_ok-name.name
    (extract_refusal c.args.tenant.now c.args.self.now)
    (seen (g.W.Write.contents (device_of c.args.writer.now)) c.args.writer.now)
    (seen (g.W.Write.contents (device_of c.save_only.new.writer)) c.save_only.new.writer)
    (ap (extract_refusal c.args.tenant.now) (sym c.self.view_is) ∙ free.0) free.1 c.in-Ok.ensures
