use Rattle.std.proofs.Common.{◌≡◌, ◌+◌, ◌++◌, ℕ, false, List, length, drop}
use Rattle.std.specs.List.{AllByRecursion}
use Rattle.tenant_service.specs.Headline.{IsIsolated, IsRefused, told_since, run_of}
use Rattle.tenant_service.specs.Kept.{may_change}
use Rattle.tenant_service.specs.TenantState.{held_of}
use Rattle.tenant_service.proofs.service.Service.run.Given as goal

-- the steps so far are a run
abbrev pub invariant-loop-step : goal.invariant-loop-step
invariant-loop-step g l = record {
  own : (tenant : List ℕ) → IsIsolated g.N.Naming.digest_of tenant (held_of tenant l.fn.self)
      (run_of l.steps (told_since l.fn.replies.items l.replies.items)) (held_of tenant l.self);
  kept : (tenant : List ℕ) → AllByRecursion (λ s. may_change tenant s ≡ false) l.steps
      → held_of tenant l.self ≡ held_of tenant l.fn.self;
  appended : l.replies.items ≡ l.fn.replies.items ++ drop (length l.fn.replies.items) l.replies.items;
  count : length l.replies.items ≡ length l.fn.replies.items + l.step-index;
  bad_names : AllByRecursion IsRefused (run_of l.steps (told_since l.fn.replies.items l.replies.items));
}
