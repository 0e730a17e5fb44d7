use Rattle.std.proofs.Common.{◌<◌, ◌≤◌, length, arith}
use Rattle.tenant_tables.proofs.Positions.{place_found, place_unseen, place_missing}
use Rattle.tenant_tables.proofs.objects.Objects.place.Goals as goal

pub returns-in_err-place : goal.returns-in_err-place
returns-in_err-place g c =
    let none = c.from_residual.ensures in
    rw none (place_missing c.self.inside.pool.now c.self.inside.sight c.self.inside.table.now c.args.id.now
    c.args.self.now c.self.view_is (c.in_err-place.ensures))

pub returns-then-place-len : goal.returns-then-place-len
returns-then-place-len g c =
    let lt : c.in_ok-place.place < length c.args.self.now = let n = c.len.ensures in omega arith in (
      place_found c.self.inside.pool.now c.self.inside.sight c.self.inside.table.now c.args.id.now
          c.args.self.now c.self.view_is c.in_ok-place.place (c.in_ok-place.ensures) lt,
      lt,
    )

pub returns-else-place-len : goal.returns-else-place-len
returns-else-place-len g c =
    let le : length c.args.self.now ≤ c.in_ok-place.place = let n = c.len.ensures in omega arith in
    place_unseen c.self.inside.pool.now c.self.inside.sight c.self.inside.table.now c.args.id.now
    c.args.self.now c.self.view_is c.in_ok-place.place (c.in_ok-place.ensures) le
