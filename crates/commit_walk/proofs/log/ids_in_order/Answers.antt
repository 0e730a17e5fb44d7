use Rattle.std.proofs.Common.{map, ap, ◌∙◌}
use Rattle.std.proofs.lemmas.List.Filters.{dedup_is}
use Rattle.commit_walk.specs.Logs.{LogKey, log_cmp}
use Rattle.commit_walk.proofs.Orders.{sorted_in_order}
use Rattle.commit_walk.proofs.LogOrder.{log_cmp_total, log_cmp_same, key_ties}
use Rattle.commit_walk.proofs.log.ids_in_order.Goals as goal

pub returns : goal.returns
returns c =
    c.in_ok-ids.ensures
    ∙ ap (map (λ (k : LogKey). k.id))
    (c.deref.ensures.value ∙ dedup_is _ _ _ c.dedup.ensures.filtered
    ∙ sorted_in_order log_cmp log_cmp_total log_cmp_same _ key_ties c.args.keys.items _
    c.sort_unstable.ensures.permutation c.sort_unstable.ensures.sorted)
