use Rattle.std.proofs.Common.{refl, sym, ◌∙◌}
use Rattle.plain_files.proofs.Lists.{moved_turn, moved_none}
use Rattle.plain_files.proofs.map.push_moved.Goals as goal

pub loop-path-preserved-in-Continue-1 : goal.loop-path-preserved-in-Continue-1
loop-path-preserved-in-Continue-1 c =
    moved_turn c.args.to.now c.args.from.now c.loop-path.yielded c.in-Some.path c.in-Some.entry _ _ _ c.in-Some-strip_prefix.rest _
    c.loop-path.invariant c.in-Some-strip_prefix.is c.strip_prefix.ensures refl c.in_ok-push_joined-in-Some-strip_prefix.ensures

pub loop-path-preserved : goal.loop-path-preserved
loop-path-preserved c =
    c.loop-path.invariant
    ∙ sym
    (moved_none c.args.to.now c.args.from.now c.loop-path.yielded c.in-Some.path c.in-Some.entry (sym c.in-None-strip_prefix.is ∙ c.strip_prefix.ensures))
