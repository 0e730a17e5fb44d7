use Rattle.std.proofs.Common.{ℕ, List, ◌≡◌, ◌<◌, ◌≤◌, ◌-◌, true, false, not, length}
use Rattle.std.specs.Prelude.{slice_index_or}
use Rattle.git_model.specs.Tree.{order_key}
use Rattle.git_objects.specs.Parts.{entry_of}
use Rattle.tree_build.specs.declared.dir.Node.{Node}
use Rattle.tree_build.specs.Nodes.{shape_of}
use Rattle.tree_build.specs.Searches.{AreOrdered, is_after}
use Rattle.tree_build.proofs.names.place_by_halves.Given as goal

abbrev pub decreases-loop-low : goal.decreases-loop-low
decreases-loop-low l = l.high - l.low

abbrev pub invariant-loop-low : goal.invariant-loop-low
invariant-loop-low l = record {
  order : l.low ≤ l.high;
  within : l.high ≤ length l.entries.items;
  halves : AreOrdered (shape_of l.entries.items)
      → ((i : ℕ) (d : List ℕ × Node) → i < l.low
      → not (is_after (order_key (entry_of l.entry)) (slice_index_or l.entries.items i d)) ≡ true)
      × ((i : ℕ) (d : List ℕ × Node) → l.high ≤ i → i < length l.entries.items
      → not (is_after (order_key (entry_of l.entry)) (slice_index_or l.entries.items i d)) ≡ false);
}
