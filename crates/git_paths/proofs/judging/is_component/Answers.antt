use Rattle.std.proofs.Common.{sym, ◌∙◌}
use Rattle.git_paths.proofs.Decided.{IsComponent-from_test, test-from_IsComponent}
use Rattle.git_paths.proofs.judging.is_component.Goals as goal

pub returns : goal.returns
returns c = (
  λ h. IsComponent-from_test c.args.name.now (sym c.is_name.ensures ∙ h),
  λ h. c.is_name.ensures ∙ test-from_IsComponent c.args.name.now h,
)
