use Rattle.std.proofs.Common.{ℕ, Option, List, sym, ap, ◌∙◌}
use Rattle.store_format.specs.declared.tenant_record.TenantRecord.{TenantRecord as CodeTenantRecord}
use Rattle.store_format.specs.Shown.{records_of}
use Rattle.store_format.specs.Telling.{told_upon, tells}
use Rattle.store_format.specs.ShownTold.{lent_records_of}
use Rattle.store_format.proofs.Tellings.{stands, path_on, path_fails}
use Rattle.store_format.proofs.telling.path_of.Goals as goal

pub returns-in_default-get : goal.returns-in_default-get
returns-in_default-get c =
    let total = tells (records_of c.args.records.now) c.args.number in
    path_fails c.loop-next.path.items c.loop-next.before.now c.in-Some.at total c.in_default-get.ensures.lookup.3
    (ap (λ (n : Option ℕ). told_upon (stands (records_of c.loop-next.before.now) n) (lent_records_of c.loop-next.path.items)) (sym c.in-Some.is) ∙ c.loop-next.invariant)

pub loop-next-preserved : goal.loop-next-preserved
loop-next-preserved c =
    let total = tells (records_of c.args.records.now) c.args.number in
    let base = c.in-Some-get.tenant.now.base in
    ap (λ (l : List CodeTenantRecord). told_upon (stands (records_of l) base) (lent_records_of c.push.new.self.items)) c.split_at.ensures.front
    ∙ path_on c.loop-next.path.items c.push.new.self.items c.loop-next.before.now c.in-Some.at c.in-Some-get.tenant total
    c.in-Some-get.ensures.lookup.3.0 c.in-Some-get.ensures.lookup.1 c.in_ok-push.ensures.items
    (ap (λ (n : Option ℕ). told_upon (stands (records_of c.loop-next.before.now) n) (lent_records_of c.loop-next.path.items)) (sym c.in-Some.is) ∙ c.loop-next.invariant)
