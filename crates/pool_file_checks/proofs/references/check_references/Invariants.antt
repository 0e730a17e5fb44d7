use Rattle.std.proofs.Common.{ℕ, ◌<◌}
use Rattle.std.specs.Prelude.{All}
use Rattle.git_model.specs.References.{references_in, object_at}
use Rattle.git_model.specs.GoodRepository.{StandsBefore}
use Rattle.pool_file_checks.specs.Objects.{CanStore}
use Rattle.pool_file_checks.specs.Own.{objects_in}
use Rattle.pool_file_format.specs.Shown.{objects_of}
use Rattle.pool_file_checks.proofs.references.check_references.Given as goal

-- What the objects so far refer to stands before them.
abbrev pub invariant-loop-place : goal.invariant-loop-place
invariant-loop-place l = All CanStore (objects_of l.objects) → (k : ℕ) → k < l.place
    → All (StandsBefore (objects_in (objects_of l.objects) l.index.entries) k)
    (references_in (object_at k (objects_in (objects_of l.objects) l.index.entries)).content)
