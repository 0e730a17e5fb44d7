use Rattle.std.proofs.Common.{arith}
use Rattle.name_index.proofs.SharedDigits.{nearest}
use Rattle.name_index.proofs.run.most_shared.Goals as goal

pub returns-then-start-gt0 : goal.returns-then-start-gt0
returns-then-start-gt0 c =
    let both = c.max.ensures in
    let le =
    nearest c.args.id.now c.args.names.now c.from-start.result c.after.result c.max.result c.requires
    c.from-start.ensures.within c.from-start.ensures.point c.after.ensures.from c.after.ensures.same c.after.ensures.next
    (λ lt. let v = c.shared_at-next.ensures.value lt in omega (arith, v, both))
    (λ lt. let w = c.from-start.ensures.within in let v = c.shared_at.ensures.value (omega arith) in
    omega (arith, v, both)) in
    omega (arith, le, both, c.shared_at.ensures.reached, c.shared_at-next.ensures.reached)

pub returns-else-start-gt0 : goal.returns-else-start-gt0
returns-else-start-gt0 c =
    let none = c.if-start-gt0.false in
    let le =
    nearest c.args.id.now c.args.names.now c.from-start.result c.after.result c.shared_at-next.result c.requires
    c.from-start.ensures.within c.from-start.ensures.point c.after.ensures.from c.after.ensures.same c.after.ensures.next
    (λ lt. let v = c.shared_at-next.ensures.value lt in omega (arith, v))
    (λ lt. absurd (omega arith)) in
    omega (arith, le, c.shared_at-next.ensures.reached)
