use Rattle.std.proofs.Common.{◌<◌, length, arith}
use Rattle.tenant_tables.proofs.Positions.{told_live, object_told, nothing_told}
use Rattle.tenant_tables.proofs.objects.Objects.at.Goals as goal

pub returns-in_err-id : goal.returns-in_err-id
returns-in_err-id g c =
    let lt : c.args.place < length c.args.self.now = let n = c.len.ensures in omega arith in
    let none = c.from_residual.ensures in
    rw none (nothing_told c.self.inside.pool.now c.self.inside.sight c.self.inside.table.now c.args.place
    c.args.self.now c.self.view_is lt (c.in_err-id.ensures))

pub get-kind-requires : goal.get-kind-requires
get-kind-requires g c =
    told_live _ _ c.self.inside.table.now.entries c.args.place c.in_ok-id.id c.in_ok-id.slot
    c.self.invariant (c.in_ok-id.ensures)

pub returns : goal.returns
returns g c =
    let lt : c.args.place < length c.args.self.now = let n = c.len.ensures in omega arith in
    object_told c.self.inside.pool.now c.self.inside.sight c.self.inside.table.now c.args.place
    c.args.self.now c.self.view_is lt c.in_ok-id.id c.in_ok-id.slot _ (c.in_ok-id.ensures) c.get-kind.ensures
