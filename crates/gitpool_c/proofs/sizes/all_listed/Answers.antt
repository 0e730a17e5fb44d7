use Rattle.gitpool_c.proofs.Lists.{listed-more}
use Rattle.gitpool_c.proofs.sizes.all_listed.Goals as goal

pub loop-sizes-preserved : goal.loop-sizes-preserved
loop-sizes-preserved c =
    listed-more c.args.all.now c.loop-sizes.list.items _ _ c.loop-sizes.sizes-index _ c.loop-sizes.invariant
    c.loop-sizes-test.true c.in_ok-push.ensures.items c.in_ok-one.ensures
