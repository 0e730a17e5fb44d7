use Rattle.pool_file.proofs.SeenSlots.{keeps_more}
use Rattle.pool_file.proofs.seen_slots.reach.Goals as goal

pub loop-seen-preserved : goal.loop-seen-preserved
loop-seen-preserved c =
    keeps_more c.args.seen.now.items c.loop-seen.seen.items c.push.new.self.items
    c.loop-seen.invariant c.in_ok-push.ensures.items
