use Rattle.std.proofs.Common.{List, map, ap, ◌∙◌}
use Rattle.commit_walk.specs.Logs.{LogKey, log_of, in_log_order}
use Rattle.commit_walk.proofs.log.log_of.Goals as goal

pub returns : goal.returns
unfolding log_of
returns g c set good is commits =
    c.in_ok-ids.ensures
    ∙ ap (λ (keys : List LogKey). map (λ (k : LogKey). k.id) (in_log_order keys)) (c.in_ok-keys.ensures set good is commits)
