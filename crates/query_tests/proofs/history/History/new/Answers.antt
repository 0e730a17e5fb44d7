use Rattle.tenant_tables.proofs.RoomLemmas.{room-none}
use Rattle.file_maps.proofs.Turns.{stands-none}
use Rattle.query_tests.proofs.history.History.new.Goals as goal

pub invariant_of-result : goal.invariant_of-result
invariant_of-result g c =
    (stands-none g.N.Naming.digest_of _ _ c.new-3.ensures.entries, room-none _ _ c.new-2.ensures)
