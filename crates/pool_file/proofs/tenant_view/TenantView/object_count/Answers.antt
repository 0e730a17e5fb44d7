use Rattle.std.proofs.Common.{arith}
use Rattle.std.proofs.lemmas.List.{length-take}
use Rattle.tenant_tables.specs.Objects.{objects}
use Rattle.tenant_tables.proofs.TableLemmas.{length-objects}
use Rattle.pool_file.proofs.tenant_view.TenantView.object_count.Goals as goal

pub returns : goal.returns
returns c = λ pool.
    let v = c.args.self.now in
    let a = length-take v.objects (objects pool v.table.now.entries) in
    let b = length-objects pool v.table.now.entries in
    let n = c.len.ensures.value in
    let least = c.min.ensures in omega (arith, a, b, n, least)
