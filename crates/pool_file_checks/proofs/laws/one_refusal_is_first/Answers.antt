use Rattle.std.proofs.Common.{None}
use Rattle.pool_file_checks.specs.Objects.{object_checks}
use Rattle.pool_file_checks.proofs.CheckLemmas.{refuses_once, passes_or_refuses}
use Rattle.pool_file_checks.proofs.laws.one_refusal_is_first.Goals as goal

pub returns-clause-once : goal.returns-clause-once
returns-clause-once c = λ os r s p q. refuses_once (object_checks None os) r s p q

pub returns-clause-none : goal.returns-clause-none
returns-clause-none c = λ os r p q. passes_or_refuses (object_checks None os) r p q
