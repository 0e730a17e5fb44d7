use Rattle.std.proofs.Common.{◌≡◌, ◌+◌, ◌++◌, ◌≤◌}
use Rattle.std.specs.Vec.{vec_capacity, vec_len}
use Rattle.std.specs.VecDeque.{deque_len}
use Rattle.tenant_refs.proofs.changed_entries.move_up_to.Given as goal

abbrev pub invariant-loop-entries : goal.invariant-loop-entries
invariant-loop-entries l = record {
  all : l.entries.items ++ l.rest.items ≡ l.fn.entries.items ++ l.fn.rest.items;
  len : vec_len l.entries + deque_len l.rest ≡ vec_len l.fn.entries + deque_len l.fn.rest;
  capacity : vec_capacity l.fn.entries ≤ vec_capacity l.entries;
}

abbrev pub decreases-loop-entries : goal.decreases-loop-entries
decreases-loop-entries l = deque_len l.rest
