use Rattle.pool_tests.proofs.TwoTables.{Share-first}
use Rattle.pool_tests.proofs.tables.beside.Beside.roll_back.Goals as goal

pub invariant_of-self : goal.invariant_of-self
invariant_of-self g c = (
  Share-first _ _ _ _ _ _ c.self.invariant.0 c.roll_back.ensures.stands c.roll_back.ensures.others,
  Share-first _ _ _ _ _ _ c.self.invariant.1 c.roll_back-2.ensures.stands c.roll_back-2.ensures.others,
)
