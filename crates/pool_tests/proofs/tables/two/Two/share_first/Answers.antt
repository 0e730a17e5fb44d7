use Rattle.std.proofs.Common.{◌≡◌, length, arith}
use Rattle.std.proofs.lemmas.Bool.Decides.{nat_tests}
use Rattle.std.proofs.lemmas.List.{nil_from_length}
use Rattle.pool_tests.proofs.TwoTables.{Share-room_for_all, Share-shared}
use Rattle.pool_tests.proofs.tables.two.Two.share_first.Goals as goal

pub share-requires-clause-stands : goal.share-requires-clause-stands
share-requires-clause-stands g c = c.self.invariant.first

pub share-requires-clause-room : goal.share-requires-clause-room
share-requires-clause-room g c = Share-room_for_all _ _ _ _ c.self.invariant

pub invariant_of-self-2 : goal.invariant_of-self-2
invariant_of-self-2 g c =
    let none : length c.self.inside.second.entries ≡ 0 =
    grind (arith, nat_tests, c.len.ensures.value, c.if-len-gt0.false) in
    let shared = c.in_ok-self-inside.ensures.ok in
    rw c.share.ensures.same
    (Share-shared _ _ _ _ _ _ c.self.invariant (nil_from_length _ none) shared.stands shared.others)
