use Rattle.pool_file_checks.proofs.FrontLemmas.{none_is_front}
use Rattle.pool_file_checks.proofs.fronts.Front.new.Goals as goal

pub returns : goal.returns
returns c = λ digest os. none_is_front digest os _ c.in_ok-with_capacity.ensures.items c.in_ok-with_capacity-2.ensures.empty c.in_ok-with_capacity-3.ensures.items
