use Rattle.std.proofs.Common.{None, sym, subst}
use Rattle.git_model.specs.Content.{Content}
use Rattle.tenant_tables.specs.Summed.{SummedAfter}
use Rattle.tenant_tables.proofs.PlainSums.{other-summed}
use Rattle.pool_tests.proofs.HeldTables.{put_lives, none_stand, none_named, still_lives}
use Rattle.pool_tests.proofs.tables.held.takes_hello_from.Goals as goal

pub add_held-requires-clause-stands : goal.add_held-requires-clause-stands
add_held-requires-clause-stands g c = none_stand _ _ _ c.requires.none

pub add_held-requires-clause-new : goal.add_held-requires-clause-new
add_held-requires-clause-new g c = none_named _ _ c.requires.none

pub add_held-requires-clause-summed : goal.add_held-requires-clause-summed
add_held-requires-clause-summed g c =
    subst (λ (x : Content). SummedAfter c.args.table.now.entries x None) (sym c.in_ok-slot.ensures.puts.has)
    (other-summed c.args.table.now.entries _ (λ e. cc e))

pub release-requires : goal.release-requires
release-requires g c =
    still_lives c.put.new.self c.add_held.new.pool c.args.table.now.entries c.add_held.new.self.entries c.in_ok-slot.slot c.requires.none
    (put_lives _ _ c.in_ok-slot.slot _ c.in_ok-slot.ensures.puts) c.in_ok-add_held.ensures.others
