use Rattle.std.proofs.Common.{sym, ◌∙◌}
use Rattle.content_pool.proofs.PoolLemmas.{IsPool-once}
use Rattle.pool_tests.proofs.PoolsInLists.{slots_of, filter_map-slots_of, count_by-slots_of}
use Rattle.content_pool.proofs.StoredLemmas.{stored_sizes-live_contents, stored_sizes-ListsLive}
use Rattle.pool_tests.proofs.pools.plain_pool.PlainPool.stored.Goals as goal

pub returns-clause-live : goal.returns-clause-live
returns-clause-live g c =
    let sizes = stored_sizes-live_contents (slots_of c.self.inside.cells.items) c.self.invariant.counted (IsPool-once _ _ c.self.invariant) in
    let shown = rw (count_by-slots_of c.self.inside.cells.items, filter_map-slots_of c.self.inside.cells.items) at sizes in
    rw (← c.self.view_is, c.total_size.ensures, c.as_slice-cells.ensures.value) (sym shown)

pub returns-clause-any_list : goal.returns-clause-any_list
returns-clause-any_list g c = λ cs lists.
    let sizes = stored_sizes-live_contents (slots_of c.self.inside.cells.items) c.self.invariant.counted (IsPool-once _ _ c.self.invariant) in
    let shown = rw (count_by-slots_of c.self.inside.cells.items, filter_map-slots_of c.self.inside.cells.items) at sizes in
    rw (c.total_size.ensures, c.as_slice-cells.ensures.value) (sym shown ∙ stored_sizes-ListsLive _ cs (rw c.self.view_is lists))
