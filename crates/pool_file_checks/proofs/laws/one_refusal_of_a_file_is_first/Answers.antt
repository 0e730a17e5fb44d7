use Rattle.pool_file_checks.specs.Whole.{file_checks}
use Rattle.pool_file_checks.proofs.CheckLemmas.{refuses_once, passes_or_refuses}
use Rattle.pool_file_checks.proofs.laws.one_refusal_of_a_file_is_first.Goals as goal

pub returns-clause-once : goal.returns-clause-once
returns-clause-once c = λ digest f r s p q. refuses_once (file_checks digest f) r s p q

pub returns-clause-none : goal.returns-clause-none
returns-clause-none c = λ digest f r p q. passes_or_refuses (file_checks digest f) r p q
