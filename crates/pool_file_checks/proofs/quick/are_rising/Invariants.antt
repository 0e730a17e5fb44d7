use Rattle.std.proofs.Common.{drop, map}
use Rattle.std.specs.Option.{option_map}
use Rattle.pool_file_format.specs.Shown.{object_of, objects_of}
use Rattle.pool_file_checks.specs.Objects.{object_key}
use Rattle.pool_file_checks.proofs.TenantLemmas.{Rises}
use Rattle.pool_file_checks.proofs.quick.are_rising.Given as goal

-- What is left decides all.
abbrev pub invariant-loop-object : goal.invariant-loop-object
invariant-loop-object l = Rises (option_map (λ o. object_key (object_of o.now)) l.last)
    (map object_key (objects_of (drop l.object-index l.objects))) (map object_key (objects_of l.objects))
