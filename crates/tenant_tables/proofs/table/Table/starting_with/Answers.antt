use Rattle.std.proofs.Common.{ℕ, ◌-◌, ◌++◌, filter, take, ap, ◌∙◌}
use Rattle.tenant_tables.specs.Abbreviation.{begins, found_among, only_of}
use Rattle.tenant_tables.specs.View.{Entries, names}
use Rattle.tenant_tables.proofs.Shared.{begun, seen}
use Rattle.tenant_tables.proofs.table.Table.starting_with.Goals as goal

pub returns : goal.returns
returns c =
    let ds = c.args.digits.now in
    let own = c.self.inside.own.entries in
    let n = c.len_in_sight-seen.result in
    let shared = filter (begins ds) (names c.self.inside.front) in
    let others = filter (begins ds) (names (take (n - c.len.result) own)) in
    let found = c.both.ensures shared others c.starting_with-shared.ensures c.starting_with.ensures in
    let size =
    ap (λ (k : ℕ). only_of (shared ++ filter (begins ds) (names (take (n - k) own)))) c.len.ensures in
    let s = seen c.args.self.now c.args.sight c.self.inside.front own _ n c.self.invariant c.self.view_is c.len_in_sight-seen.ensures in
    found ∙ size ∙ begun ds n _ own s.shared ∙ ap (λ (es : Entries). found_among ds (names es)) s.are
