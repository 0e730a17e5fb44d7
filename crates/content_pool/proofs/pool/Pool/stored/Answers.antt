use Rattle.std.proofs.Common.{sym, ◌∙◌}
use Rattle.content_pool.proofs.PoolLemmas.{IsPool-once}
use Rattle.content_pool.proofs.StoredLemmas.{stored_sizes-live_contents, stored_sizes-ListsLive}
use Rattle.content_pool.proofs.pool.Pool.stored.Goals as goal

pub returns-clause-live : goal.returns-clause-live
returns-clause-live g c =
    let sound = c.self.invariant.0 in
    rw (← c.self.view_is, c.len.ensures, c.total_size.ensures) (sym (stored_sizes-live_contents _ sound.counted (IsPool-once _ _ sound)))

pub returns-clause-any_list : goal.returns-clause-any_list
returns-clause-any_list g c = λ cs lists.
    let sound = c.self.invariant.0 in
    rw (c.len.ensures, c.total_size.ensures) (sym (stored_sizes-live_contents _ sound.counted (IsPool-once _ _ sound)) ∙ stored_sizes-ListsLive _ cs (rw c.self.view_is lists))
