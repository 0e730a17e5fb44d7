use Rattle.std.proofs.Common.{arith}
use Rattle.pool_file.proofs.Placed.{place_among}
use Rattle.pool_file.proofs.tenant_view.TenantView.place.Goals as goal

pub returns : goal.returns
returns c = λ pool.
    let v = c.args.self.now in
    let among = place_among pool v.table.now.entries c.args.id.now v.objects c.object_count-count.result
    c.place.result c.place.ensures (c.object_count-count.ensures pool) in
    let chosen = c.unwrap_or.ensures in
    let least = c.min.ensures in omega (arith, among, chosen, least)
