use Rattle.pool_tests.proofs.TwoTables.{Share-second}
use Rattle.pool_tests.proofs.tables.two.Two.roll_back_second.Goals as goal

pub invariant_of-self : goal.invariant_of-self
invariant_of-self g c =
    Share-second _ _ _ _ _ _ c.self.invariant c.roll_back.ensures.stands c.roll_back.ensures.others
