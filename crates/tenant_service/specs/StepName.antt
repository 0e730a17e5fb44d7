-- The name that a step is given. The step is a call of the tenant of this name, if the name is
-- good.
use Rattle.std.specs.Prelude.{ℕ, List, []}
use Rattle.service_steps.specs.declared.step.Step.{Step}
use Rattle.service_steps.specs.declared.step.Step.TheVariants as step

-- A restart has none.
abbrev pub name_of : Step → List ℕ
name_of (step.Open given) = given.now
name_of (step.Feed given bytes) = given.now
name_of (step.End given) = given.now
name_of (step.Ask given query) = given.now
name_of step.Restart = []
