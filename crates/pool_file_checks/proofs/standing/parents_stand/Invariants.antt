use Rattle.std.proofs.Common.{take}
use Rattle.std.specs.Prelude.{All}
use Rattle.git_model.specs.declared.kind.Kind.TheVariants as kind
use Rattle.git_model.specs.References.{reference}
use Rattle.git_model.specs.GoodRepository.{StandsBefore}
use Rattle.pool_file_checks.specs.Own.{objects_in}
use Rattle.pool_file_format.specs.Shown.{objects_of}
use Rattle.pool_file_checks.proofs.standing.parents_stand.Given as goal

abbrev pub invariant-loop-parent : goal.invariant-loop-parent
invariant-loop-parent l = All (λ id. StandsBefore (objects_in (objects_of l.objects) l.index.entries) l.place (reference kind.Commit id))
    (take l.parent-index l.parents)
