use Rattle.std.proofs.Common.{arith}
use Rattle.pool_file.proofs.Built.{room_for}
use Rattle.pool_file.proofs.building.has_room.Goals as goal

pub returns : goal.returns
returns g c =
    let small = c.args.tenants.now.small in
    let ok = c.args.tenants.now.ok in
    room_for g.N.Naming.digest_of _ c.args.pool.now c.args.tenants.now.items c.requires
    (omega (arith, small, ok))
