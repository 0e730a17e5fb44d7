use Rattle.commit_walk.proofs.LogOrder.{one_log}
use Rattle.commit_walk.proofs.log.a_log_is_one_list.Goals as goal

pub returns : goal.returns
returns c os set log = one_log os set log
