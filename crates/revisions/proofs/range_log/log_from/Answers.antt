use Rattle.std.proofs.Common.{◌∙◌}
use Rattle.git_model.specs.Reach.{reaches}
use Rattle.revisions.proofs.Differences.{reached_commit}
use Rattle.revisions.proofs.range_log.log_from.Goals as goal

pub returns : goal.returns
returns g c held =
    c.in_ok-ids.ensures (reaches c.args.objects.now c.args.tip.now) held
    (c.deref.ensures.value ∙ c.in_ok-flags.ensures.reached held) (reached_commit c.args.objects.now c.args.tip.now)
