use Rattle.std.proofs.Common.{◌≡◌, ◌+◌, ◌-◌, ◌≤◌, ◌^◌, min, length, sum_by}
use Rattle.slab.specs.Slab.{entries}
use Rattle.content_pool.proofs.pool.total_size.Given as goal

-- what is left, added to the total so far, gives the whole
abbrev pub invariant-loop-stored : goal.invariant-loop-stored
invariant-loop-stored l =
    (goal.iterator-loop-stored).can_next l.stored-iterator ×
    (goal.iterator-loop-stored).is_finite l.stored-iterator ×
    (l.total ≤ 2 ^ 64 - 1) ×
    (min (l.total + sum_by (λ e. length e.1.bytes) l.stored-iterator) (2 ^ 64 - 1) ≡ min (sum_by (λ e. length e.1.bytes) (entries l.cells)) (2 ^ 64 - 1))
