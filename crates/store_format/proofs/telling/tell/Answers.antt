use Rattle.std.proofs.Common.{subst}
use Rattle.std.proofs.lemmas.Result.{err_from_is_err_and}
use Rattle.store_format.specs.Shown.{records_of}
use Rattle.store_format.specs.Telling.{tells}
use Rattle.store_format.specs.ShownTold.{told_of}
use Rattle.store_format.proofs.Tellings.{told_on, told_fails}
use Rattle.store_format.proofs.telling.tell.Goals as goal

pub returns-in_err-told : goal.returns-in_err-told
returns-in_err-told c =
    let p = err_from_is_err_and c.from_residual-in_err-told.result c.from_residual-in_err-told.ensures.1 in
    rw (p.1, p.2) (told_fails (told_of c.loop-tenant.told) c.in_err-told.field-0.0 c.loop-tenant.path.items c.pop.new.self.items c.pop.result c.in-Some.tenant
    (tells (records_of c.args.records.now) c.args.number) c.pop.ensures.items c.in-Some.is c.in_err-told.ensures c.loop-tenant.invariant)

pub loop-tenant-preserved : goal.loop-tenant-preserved
loop-tenant-preserved c =
    told_on (told_of c.loop-tenant.told) (told_of c.in_ok-told.told) c.loop-tenant.path.items c.pop.new.self.items c.pop.result c.in-Some.tenant
    (tells (records_of c.args.records.now) c.args.number) c.pop.ensures.items c.in-Some.is c.in_ok-told.ensures c.loop-tenant.invariant
