use Rattle.std.proofs.Common.{arith}
use Rattle.pool_tests.proofs.TwoTables.{one_entry}
use Rattle.pool_tests.proofs.tables.adds_trees_with_the_sizes_of_their_file_maps.Goals as goal

pub add_tree_of-requires-clause-writable : goal.add_tree_of-requires-clause-writable
add_tree_of-requires-clause-writable g c =
    one_entry _ (c.is_entry_name.ensures.0 c.if-not-is_entry_name.false) c.has_twenty_bytes.ensures

pub add_tree_of-requires-2-clause-writable : goal.add_tree_of-requires-2-clause-writable
add_tree_of-requires-2-clause-writable g c =
    one_entry _
    (c.is_entry_name-2.ensures.0 c.if-not-is_entry_name-2.false) c.has_twenty_bytes-2.ensures

pub add_tree_of-requires-clause-within : goal.add_tree_of-requires-clause-within
add_tree_of-requires-clause-within g c =
    record { files = omega arith; depth = omega arith; longest = omega arith }

pub add_tree_of-requires-2-clause-within : goal.add_tree_of-requires-2-clause-within
add_tree_of-requires-2-clause-within g c =
    record { files = omega arith; depth = omega arith; longest = omega arith }
