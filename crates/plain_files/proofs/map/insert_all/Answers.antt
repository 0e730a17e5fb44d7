use Rattle.plain_files.proofs.Lists.{put_turn}
use Rattle.plain_files.proofs.map.insert_all.Goals as goal

pub loop-path-preserved : goal.loop-path-preserved
loop-path-preserved c =
    put_turn _ _ _ _ _ _ _ _ c.loop-path.invariant c.pop.ensures.items c.in-Some.is c.in_ok-insert.ensures.entries
