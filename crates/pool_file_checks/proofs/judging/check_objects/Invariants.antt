use Rattle.std.proofs.Common.{None, drop}
use Rattle.std.specs.Option.{option_map}
use Rattle.pool_file_format.specs.Shown.{object_of, objects_of}
use Rattle.pool_file_checks.specs.Objects.{object_key, object_checks}
use Rattle.pool_file_checks.proofs.CheckLemmas.{Leads}
use Rattle.pool_file_checks.proofs.judging.check_objects.Given as goal

-- What is left of the checks decides them.
abbrev pub invariant-loop-object : goal.invariant-loop-object
invariant-loop-object l = Leads (object_checks (option_map (λ o. object_key (object_of o.now)) l.last) (objects_of (drop l.object-index l.objects)))
    (object_checks None (objects_of l.objects))
