use Rattle.pool_file_format.specs.Shown.{objects_of}
use Rattle.pool_file_checks.proofs.whole.judge_file.Goals as goal

pub returns-in-Ok-check_in_order : goal.returns-in-Ok-check_in_order
returns-in-Ok-check_in_order c = record {
  checks = λ digest same. c.in-Ok-check_in_order.ensures digest same;
  known = λ digest same. c.none.ensures digest (objects_of c.args.file.now.objects.items);
}
