use Rattle.std.proofs.Common.{◌<◌, ◌≤◌, arith}
use Rattle.std.proofs.lemmas.Bool.Decides.{nat_tests}
use Rattle.name_index.proofs.Searched.{found, none}
use Rattle.name_index.proofs.run.between.Goals as goal

pub returns-then-start-end : goal.returns-then-start-end
returns-then-start-end c =
    let lt : c.from-start.result < c.past-end.result = grind (arith, nat_tests, c.if-start-end.true) in
    found _ _ _ _ _ c.from-start.ensures.point c.past-end.ensures.point lt

pub returns-else-start-end : goal.returns-else-start-end
returns-else-start-end c =
    let le : c.past-end.result ≤ c.from-start.result = grind (arith, nat_tests, c.if-start-end.false) in
    none _ _ _ _ _ c.from-start.ensures.point c.past-end.ensures.point le
