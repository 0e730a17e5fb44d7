use Rattle.std.proofs.Common.{◌<◌, length, ap, ◌∙◌, arith}
use Rattle.tenant_service.specs.TenantState.{held_of}
use Rattle.tenant_service.specs.Tenants.{holdings}
use Rattle.tenant_service.proofs.MergeLemmas.{come-more, held-before, none-come, nothing-here}
use Rattle.tenant_service.proofs.merging.take_all_in.Goals as goal

pub take_in-requires-clause-nothing : goal.take_in-requires-clause-nothing
take_in-requires-clause-nothing g c =
    let at = c.loop-place in
    let one = c.index-lent-place in
    let before = holdings c.args.pool.now c.args.tenants.now.entries in
    let lt : at.place < length c.args.lent.now = omega arith in
    at.invariant.held one.result.name.now
    ∙ held-before c.args.from.now c.args.lent.now at.place one.result before c.requires.distinct lt one.is
    ∙ nothing-here before c.args.lent.now at.place one.result lt one.is c.requires.free

pub returns-in-Err-clause-err : goal.returns-in-Err-clause-err
returns-in-Err-clause-err g c =
    let at = c.loop-place in
    none-come c.args.from.now c.args.lent.now at.place
    (holdings c.args.pool.now c.args.tenants.now.entries)
    (holdings c.take_in.new.pool c.take_in.new.tenants.entries)
    (holdings c.take_all_out.new.pool c.take_all_out.new.tenants.entries) c.requires.free
    (λ t. ap (held_of t) c.in-Err.ensures.err.same ∙ at.invariant.held t)
    c.take_all_out.ensures.held

pub loop-place-preserved : goal.loop-place-preserved
loop-place-preserved g c =
    let at = c.loop-place in
    let one = c.index-lent-place in
    let lt : at.place < length c.args.lent.now = omega arith in
    let come = c.in_default.ensures.ok in record {
      accounts = come.accounts;
      held =
          come-more c.args.from.now c.args.lent.now at.place one.result
          (holdings c.args.pool.now c.args.tenants.now.entries)
          (holdings at.pool at.tenants.entries)
          (holdings c.take_in.new.pool c.take_in.new.tenants.entries)
          c.requires.distinct lt one.is at.invariant.held come.here come.others;
    }
