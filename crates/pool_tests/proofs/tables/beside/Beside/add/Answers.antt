use Rattle.pool_tests.proofs.TwoTables.{Share-room, Share-first}
use Rattle.pool_tests.proofs.tables.beside.Beside.add.Goals as goal

pub add-answer-requires : goal.add-answer-requires
add-answer-requires g c = record {
  stands = c.self.invariant.0.first;
  room = Share-room _ _ _ _ c.self.invariant.0;
  no_tree = λ same. cc same;
}

pub add-requires : goal.add-requires
add-requires g c = record {
  stands = c.self.invariant.1.first;
  room = Share-room _ _ _ _ c.self.invariant.1;
  no_tree = λ same. cc same;
}

pub invariant_of-self : goal.invariant_of-self
invariant_of-self g c = (
  Share-first _ _ _ _ _ _ c.self.invariant.0 c.add-answer.ensures.stands c.add-answer.ensures.others,
  Share-first _ _ _ _ _ _ c.self.invariant.1 c.add.ensures.stands c.add.ensures.others,
)
