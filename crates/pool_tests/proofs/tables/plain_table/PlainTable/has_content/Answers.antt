use Rattle.std.proofs.Common.{refl}
use Rattle.tenant_tables.proofs.AddLemmas.{found_none, found_some, found_live, same_kind}
use Rattle.pool_tests.proofs.tables.plain_table.PlainTable.has_content.Goals as goal

pub returns-in_default : goal.returns-in_default
returns-in_default g c =
    rw (found_none c.args.pool.now c.args.id.now c.args.self.now.entries c.in_default.ensures) refl

pub get-requires : goal.get-requires
get-requires g c = found_live _ _ _ _ _ c.requires c.in-Some.ensures

pub returns : goal.returns
returns g c =
    let same = c.eq.ensures in
    let kinds = same_kind c.args.kind c.get.result.0 in
    let stored = c.get.ensures in
    rw (found_some c.args.pool.now c.args.id.now c.args.self.now.entries c.in-Some.slot c.in-Some.ensures, ← stored, same, kinds) refl
