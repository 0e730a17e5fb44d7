use Rattle.std.proofs.Common.{◌≡◌, ◌+◌, ◌++◌, ◌≤◌, List, ℕ}
use Rattle.std.specs.Vec.{vec_capacity, vec_len}
use Rattle.std.specs.Vec.Iter.{into_iter_items, into_iter_len}
use Rattle.std.specs.VecDeque.{deque_len}
use Rattle.tenant_refs.specs.Changes.{store_of, with_changes}
use Rattle.tenant_refs.specs.Place.{IsInOrder}
use Rattle.tenant_refs.proofs.changed_entries.merge_changes.Given as goal

-- what is left to make
abbrev pub invariant-loop-change : goal.invariant-loop-change
invariant-loop-change l = record {
  in_order : IsInOrder (l.entries.items ++ l.rest.items);
  changed : (head : List ℕ)
      → with_changes (store_of (l.entries.items ++ l.rest.items) head) (into_iter_items l.left)
      ≡ with_changes (store_of (l.fn.entries.items ++ l.fn.rest.items) head) l.fn.changes.items;
  longer : vec_len l.entries + deque_len l.rest + into_iter_len l.left
      ≤ vec_len l.fn.entries + deque_len l.fn.rest + vec_len l.fn.changes;
  room : vec_len l.entries + deque_len l.rest + into_iter_len l.left ≤ vec_capacity l.entries;
}

abbrev pub decreases-loop-change : goal.decreases-loop-change
decreases-loop-change l = into_iter_len l.left
