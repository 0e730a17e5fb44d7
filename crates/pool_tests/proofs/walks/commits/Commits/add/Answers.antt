use Rattle.pool_tests.proofs.TwoTables.{Share-room, Share-first}
use Rattle.pool_tests.proofs.walks.commits.Commits.add.Goals as goal

pub add-requires : goal.add-requires
add-requires g c = record {
  stands = c.self.invariant.first;
  room = Share-room _ _ _ _ c.self.invariant;
  no_tree = λ same. cc same;
}

pub invariant_of-self : goal.invariant_of-self
invariant_of-self g c =
    Share-first _ _ _ _ _ _ c.self.invariant c.add.ensures.stands c.add.ensures.others
