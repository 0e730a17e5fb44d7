use Rattle.std.proofs.Common.{arith, ◌∙◌}
use Rattle.git_names.proofs.NameOrder.{fronts_decide}
use Rattle.git_names.proofs.name.order_of.Goals as goal

pub returns-then-first-second : goal.returns-then-first-second
returns-then-first-second c = c.cmp.ensures ∙ fronts_decide _ _ c.args.ours.now c.args.theirs.now c.fits-ours c.fits-theirs
    (omega (arith, c.told-ours)) (omega (arith, c.told-theirs))
    c.front_of-first.ensures c.front_of-second.ensures c.if-first-second.true
