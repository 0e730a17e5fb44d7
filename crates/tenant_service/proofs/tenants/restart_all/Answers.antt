use Rattle.std.proofs.Common.{ap, ◌∙◌, arith}
use Rattle.tenant_service.specs.Tenants.{holdings}
use Rattle.tenant_service.specs.OneStep.{restarted_at}
use Rattle.tenant_service.proofs.RestartLemmas.{one-more, all-tenants}
use Rattle.tenant_service.proofs.tenants.restart_all.Goals as goal

pub loop-place-preserved : goal.loop-place-preserved
loop-place-preserved g c = record {
  accounts = c.restart_at.ensures.accounts;
  count = c.restart_at.ensures.len ∙ c.loop-place.invariant.count;
  closed =
      c.restart_at.ensures.closed ∙ ap (restarted_at c.loop-place.place) c.loop-place.invariant.closed
      ∙ one-more c.loop-place.place (holdings c.args.pool.now c.args.tenants.now.entries);
}

pub returns-clause-closed : goal.returns-clause-closed
returns-clause-closed g c =
    c.loop-place.invariant.closed
    ∙ all-tenants c.args.pool.now c.args.tenants.now.entries c.loop-place.place
    (let n = c.len-place-end.ensures.len in let a = c.loop-place.auto.place-end in let b = c.loop-place-test.false in omega (arith, n, a, b))
