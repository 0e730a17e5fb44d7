use Rattle.std.proofs.Common.{◌∙◌, ap, false, length}
use Rattle.std.proofs.lemmas.List.{length-replicate}
use Rattle.std.proofs.lemmas.Result.{on_ok_weaker}
use Rattle.commit_walk.proofs.Answers.{no_flags, all_tell}
use Rattle.commit_walk.proofs.reach.mark_reached.Goals as goal

pub returns-in_default : goal.returns-in_default
returns-in_default g c good =
    c.requires ∙ no_flags c.args.objects.now c.args.tip.now c.in_default.ensures

pub returns : goal.returns
returns g c good =
    let blank = ap length c.requires ∙ length-replicate (length c.args.objects.now) false in
    on_ok_weaker c.walk.result
    (λ reached. all_tell _ c.args.objects.now good c.args.tip.now c.in-Some.top c.walk.new.flags
    c.in-Some.ensures.0 c.in-Some.ensures.1 c.in-Some.ensures.2 (c.walk.auto.flags ∙ blank) reached)
    (c.walk.ensures good)
