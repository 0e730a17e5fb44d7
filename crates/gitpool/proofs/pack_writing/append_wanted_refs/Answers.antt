use Rattle.std.proofs.Common.{refl}
use Rattle.gitpool.proofs.PackLemmas.{nobody_wants}
use Rattle.gitpool.proofs.pack_writing.append_wanted_refs.Goals as goal

pub returns-in-None : goal.returns-in-None
returns-in-None g c = nobody_wants c.args.out.now.items c.args.all c.args.tenant.now c.args.service.now (c.in-None.ensures.unseen refl)
