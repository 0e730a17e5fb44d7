use Rattle.std.proofs.Common.{◌≡◌, rules, ap}
use Rattle.std.specs.Ordering.{is_lt}
use Rattle.std.proofs.lemmas.Cmp.{nat_list_cmp_total}
use Rattle.std.proofs.lemmas.Fn.{always_returns_same}
use Rattle.std.proofs.lemmas.List.Sorted.{ranks_by}
use Rattle.tenant_refs.proofs.Merges.{comes_before, sorted_changes}
use Rattle.tenant_refs.proofs.changed_entries.sort_changes.Goals as goal

pub returns-clause-same : goal.returns-clause-same
returns-clause-same c =
    sorted_changes _ _ (c.sort_by.ensures.stable comes_before
    (ranks_by nat_list_cmp_total (λ change. change.ref_name))
    (always_returns_same _ (λ a r. is_lt r ≡ comes_before a.0.now a.1.0.now) _
    (λ a r g called. search rules)))
