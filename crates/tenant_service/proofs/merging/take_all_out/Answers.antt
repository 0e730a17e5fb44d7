use Rattle.tenant_service.specs.Tenants.{holdings}
use Rattle.tenant_service.proofs.MergeLemmas.{all-without, without-more}
use Rattle.tenant_service.proofs.merging.take_all_out.Goals as goal

pub take_out-requires : goal.take_out-requires
take_out-requires g c = c.loop-one.invariant.accounts

pub loop-one-preserved : goal.loop-one-preserved
loop-one-preserved g c =
    let at = c.loop-one in record {
      accounts = c.take_out.ensures.accounts;
      held =
          without-more c.args.lent.now at.one-index c.one-item.result
          (holdings c.args.pool.now c.args.tenants.now.entries)
          (holdings at.pool at.tenants.entries)
          (holdings c.take_out.new.pool c.take_out.new.tenants.entries)
          c.loop-one-test.true c.one-item.is at.invariant.held c.take_out.ensures.left;
    }

pub returns-clause-held : goal.returns-clause-held
returns-clause-held g c =
    all-without c.args.lent.now c.loop-one.one-index
    (holdings c.args.pool.now c.args.tenants.now.entries)
    (holdings c.loop-one.pool c.loop-one.tenants.entries) c.loop-one-test.false
    c.loop-one.invariant.held
