use Rattle.std.proofs.Common.{drop, map}
use Rattle.std.specs.Option.{option_map}
use Rattle.pool_file_format.specs.Shown.{refs_of}
use Rattle.pool_file_checks.proofs.TenantLemmas.{Rises}
use Rattle.pool_file_checks.proofs.refs.are_rising.Given as goal

-- What is left decides all.
abbrev pub invariant-loop-one : goal.invariant-loop-one
invariant-loop-one l = Rises (option_map (λ o. o.now) l.last)
    (map (λ r. r.name) (refs_of (drop l.one-index l.refs))) (map (λ r. r.name) (refs_of l.refs))
