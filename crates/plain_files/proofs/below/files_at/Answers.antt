use Rattle.plain_files.proofs.Groups.{found_turn, lost_turn}
use Rattle.plain_files.proofs.below.files_at.Goals as goal

pub loop-path-preserved-in-Continue-1 : goal.loop-path-preserved-in-Continue-1
loop-path-preserved-in-Continue-1 c =
    found_turn c.args.top.now c.loop-path.yielded c.in-Some.path c.in-Some.entry _ _ c.strip_prefix.result c.in-Some-strip_prefix.path
    c.loop-path.invariant c.in-Some-strip_prefix.is c.strip_prefix.ensures c.in_ok-push-in-Some-strip_prefix.ensures.items

pub loop-path-preserved : goal.loop-path-preserved
loop-path-preserved c =
    lost_turn c.args.top.now c.loop-path.yielded c.in-Some.path c.in-Some.entry _ c.strip_prefix.result c.loop-path.invariant c.in-None-strip_prefix.is c.strip_prefix.ensures
