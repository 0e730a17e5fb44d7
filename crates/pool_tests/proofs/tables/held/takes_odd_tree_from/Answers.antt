use Rattle.std.proofs.Common.{refl}
use Rattle.git_model.specs.Tree.{tree_contents}
use Rattle.git_model.specs.TreeReading.{entries_after, first_entry, mode_named_by}
use Rattle.tenant_tables.specs.SumIn.{have_own_names, are_in_order, is_tree_text}
use Rattle.pool_tests.proofs.HeldTables.{none_named, none_stand, odd_summed, put_lives, still_lives}
use Rattle.pool_tests.proofs.tables.held.takes_odd_tree_from.Goals as goal

pub add_held-requires-clause-stands : goal.add_held-requires-clause-stands
add_held-requires-clause-stands g c = none_stand _ _ _ c.requires.none

pub add_held-requires-clause-new : goal.add_held-requires-clause-new
add_held-requires-clause-new g c = none_named _ _ c.requires.none

pub add_held-requires-clause-summed : goal.add_held-requires-clause-summed
unfolding entries_after first_entry mode_named_by have_own_names are_in_order is_tree_text
add_held-requires-clause-summed g c =
    odd_summed _ _ _ _ c.in_ok-slot.ensures.puts.has refl refl refl

pub release-requires : goal.release-requires
release-requires g c =
    still_lives c.put.new.self c.add_held.new.pool c.args.table.now.entries c.add_held.new.self.entries c.in_ok-slot.slot c.requires.none
    (put_lives _ _ c.in_ok-slot.slot _ c.in_ok-slot.ensures.puts) c.in_ok-add_held.ensures.others
