use Rattle.std.proofs.Common.{◌≡◌, ◌∷◌, [], take, slice_get, Some, sym, ap, ◌∙◌, arith}
use Rattle.name_index.specs.Index.{most_shared}
use Rattle.name_index.proofs.SharedDigits.{max_is, most_shared-append}
use Rattle.tenant_tables.specs.View.{names}
use Rattle.tenant_tables.proofs.Joined.{next_name}
use Rattle.tenant_tables.proofs.entry_list.EntryList.most_among_first.Goals as goal

pub loop-place-preserved : goal.loop-place-preserved
loop-place-preserved c =
    let es = c.args.self.now.entries in
    let at : slice_get c.args.self.now.entries c.loop-place.place ≡ Some c.in-Some.entry =
    sym c.at.ensures.entry ∙ c.in-Some.is in
    let more = ap (most_shared c.args.id.now)
    (next_name c.loop-place.place c.args.self.now.entries c.in-Some.entry.0 c.in-Some.entry.1 at)
    ∙ most_shared-append c.args.id.now (names (take c.loop-place.place c.args.self.now.entries)) (c.in-Some.entry.0 ∷ []) in
    let before = c.loop-place.invariant in
    omega (arith, before, more, c.shared_apart.ensures, c.max-most.ensures, max_is)
