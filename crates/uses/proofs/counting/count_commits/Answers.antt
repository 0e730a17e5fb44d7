use Rattle.std.proofs.Common.{arith}
use Rattle.uses.proofs.Counted.{logged}
use Rattle.uses.proofs.counting.count_commits.Goals as goal

pub returns : goal.returns
returns g c = (
  c.in_ok-commits.commits.items,
  (let len = c.len.ensures in let ok = c.in_ok-commits.commits.ok.0 in omega (arith, len, ok)),
  logged g.N.Naming.digest_of _ c.in-Some.pool.now c.in-Some.table.now c.in-Some.refs.now c.args.text.now _
      c.in-Some.ensures.shown (c.is_sound.ensures c.args.tenant.now) c.in_ok-commits.ensures,
)
