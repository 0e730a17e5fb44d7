use Rattle.std.proofs.Common.{ap, ◌∙◌}
use Rattle.std.specs.Ordering.{nat_cmp}
use Rattle.std.specs.Cmp.Lexicographic.{slice_cmp, texts_ties}
use Rattle.std.specs.FinMap.{nat_cmp-IsAntisymmetric, slice_cmp-IsAntisymmetric}
use Rattle.std.proofs.lemmas.Cmp.{nat_list_cmp_total}
use Rattle.std.proofs.lemmas.List.Filters.{dedup_is}
use Rattle.commit_walk.proofs.Orders.{sorted_in_order}
use Rattle.export_text.specs.Reached.{each_once}
use Rattle.export_text.proofs.tag_refs.tag_refs.Goals as goal

pub returns : goal.returns
returns g c refs good are =
    dedup_is _ _ _ c.dedup.ensures.filtered
    ∙ sorted_in_order (slice_cmp nat_cmp) nat_list_cmp_total (slice_cmp-IsAntisymmetric nat_cmp-IsAntisymmetric) _ texts_ties
    c.in_ok-names.names.items _ c.sort_unstable.ensures.permutation c.sort_unstable.ensures.sorted
    ∙ ap each_once (c.in_ok-names.ensures refs good are)
