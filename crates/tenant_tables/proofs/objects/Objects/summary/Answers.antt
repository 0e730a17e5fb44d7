use Rattle.std.proofs.Common.{◌<◌, ◌≤◌, length, arith}
use Rattle.tenant_tables.proofs.Backed.{summary_seen, summary_unseen, no_summary}
use Rattle.tenant_tables.proofs.objects.Objects.summary.Goals as goal

pub returns-in_err-place : goal.returns-in_err-place
returns-in_err-place g c =
    rw c.from_residual.ensures
    (no_summary g.N.Naming.digest_of c.self.inside.pool.now c.self.inside.sight c.self.inside.table.now c.args.self.now
    c.self.invariant c.self.view_is c.args.id.now c.in_err-place.ensures.entry)

pub returns-then-place-len : goal.returns-then-place-len
returns-then-place-len g c =
    let lt : c.in_ok-place.place < length c.args.self.now = let n = c.len.ensures in omega arith in
    summary_seen g.N.Naming.digest_of c.self.inside.pool.now c.self.inside.sight c.self.inside.table.now c.args.self.now
    c.self.invariant c.self.view_is c.args.id.now c.in_ok-place.place c.in_ok-place.entry c.in_ok-place.ensures.place
    c.in_ok-place.ensures.entry lt

pub returns-else-place-len : goal.returns-else-place-len
returns-else-place-len g c =
    let le : length c.args.self.now ≤ c.in_ok-place.place = let n = c.len.ensures in omega arith in
    summary_unseen g.N.Naming.digest_of c.self.inside.pool.now c.self.inside.sight c.self.inside.table.now c.args.self.now
    c.self.invariant c.self.view_is c.args.id.now c.in_ok-place.place c.in_ok-place.ensures.place le
