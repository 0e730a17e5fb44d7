use Rattle.std.proofs.Common.{length, ap, arith}
use Rattle.uses.proofs.asking.ask_all.Goals as goal

pub returns : goal.returns
returns g c =
    let all = c.in_ok-run.ensures.all in
    let empty = ap (λ xs. length xs) c.new-replies.ensures.items in
    let lent = ap (λ xs. length xs) c.deref.ensures.value in
    let told = c.loop-query.invariant in
    let past = c.loop-query-test.false in
    let within = c.loop-query.auto.query-index-end in
    omega (arith, all, empty, lent, told, past, within)
