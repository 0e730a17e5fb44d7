use Rattle.std.proofs.Common.{length, refl, ap}
use Rattle.std.proofs.lemmas.Option.{slice_get_read}
use Rattle.tenant_tables.specs.View.{View}
use Rattle.pool_file.proofs.Built.{one_stands, begins_alike, same_set}
use Rattle.pool_file.proofs.building.build_beside.Goals as goal

pub build_tenant-requires-clause-other : goal.build_tenant-requires-clause-other
build_tenant-requires-clause-other g c =
    let all = c.args.tenants.now.items in
    let i = c.in-Some.ensures.item in
    one_stands g.N.Naming.digest_of c.args.slots.now c.args.pool.now all c.args.shared.place c.in-Some.other.now c.requires.under
    (slice_get_read all (length all) c.args.shared.place c.in-Some.other.now refl i.3.0 c.in-Some.ensures.value)

pub build_tenant-requires-clause-alike : goal.build_tenant-requires-clause-alike
build_tenant-requires-clause-alike g c =
    let all = c.args.tenants.now.items in
    let i = c.in-Some.ensures.item in
    begins_alike c.args.slots.now c.args.tenant.now.numbers.items all c.args.shared c.in-Some.other.now c.requires.shared
    (slice_get_read all (length all) c.args.shared.place c.in-Some.other.now refl i.3.0 c.in-Some.ensures.value)

pub returns-in-Some-clause-same : goal.returns-in-Some-clause-same
returns-in-Some-clause-same g c =
    let all = c.args.tenants.now.items in
    let i = c.in-Some.ensures.item in
    same_set all c.args.shared.place c.in-Some.other.now (record c.in-Some.other.now { table = c.build_tenant.new.other })
    (slice_get_read all (length all) c.args.shared.place c.in-Some.other.now refl i.3.0 c.in-Some.ensures.value)
    (ap (λ (v : View). record c.in-Some.other.now { table = v }) c.build_tenant.ensures.same)
