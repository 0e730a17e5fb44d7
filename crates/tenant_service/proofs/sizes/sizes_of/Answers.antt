use Rattle.tenant_service.proofs.SizeLemmas.{sizes-seen}
use Rattle.tenant_service.proofs.sizes.sizes_of.Goals as goal

pub returns : goal.returns
returns g c =
    sizes-seen c.args.pool.now c.args.view.now _ _ _ _ _ c.as_bytes.ensures.text
    (c.object_count.ensures c.args.pool.now) c.totals-bytes.ensures.all c.totals-bytes.ensures.own c.len.ensures
