use Rattle.std.proofs.Common.{◌≡◌, ◌-◌, length, take, max, ap, ◌∙◌, arith}
use Rattle.name_index.specs.Index.{most_shared}
use Rattle.tenant_tables.specs.View.{Entries, names}
use Rattle.tenant_tables.proofs.Shared.{seen}
use Rattle.tenant_tables.proofs.SharedDigits.{most_joined}
use Rattle.tenant_tables.proofs.table.Table.most_shared.Goals as goal

pub returns : goal.returns
returns c =
    let id = c.args.id.now in
    let n = c.len_in_sight-seen.result in
    let others = rw c.len.ensures at c.most_shared.ensures in
    let both : c.max.result
    ≡ max (most_shared c.args.id.now (names c.self.inside.front))
    (most_shared c.args.id.now (names (take (c.len_in_sight-seen.result - length c.self.inside.front) c.self.inside.own.entries))) =
    omega (arith, c.max.ensures, c.most_shared-shared.ensures, others) in
    let s = seen c.args.self.now c.args.sight c.self.inside.front c.self.inside.own.entries _ n c.self.invariant c.self.view_is c.len_in_sight-seen.ensures in
    both ∙ most_joined id n _ _ s.shared ∙ ap (λ (es : Entries). most_shared id (names es)) s.are
