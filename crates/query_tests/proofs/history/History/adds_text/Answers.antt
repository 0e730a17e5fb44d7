use Rattle.tenant_tables.proofs.RoomLemmas.{has_room}
use Rattle.query_tests.proofs.history.History.adds_text.Goals as goal

pub add-requires : goal.add-requires
add-requires g c = record {
  stands = c.self.invariant.0;
  room = has_room g.N.Naming.digest_of _ _ c.self.invariant.0 c.self.invariant.1;
  no_tree = c.requires;
}
