use Rattle.std.proofs.Common.{◌≡◌, map, take}
use Rattle.content_pool.specs.Pool.{Cells}
use Rattle.git_model.specs.RefStore.{listed_refs}
use Rattle.pool_file_format.specs.Shown.{refs_of}
use Rattle.pool_file_checks.specs.Repositories.{raw_ref}
use Rattle.pool_file.specs.Worth.{named_in}
use Rattle.pool_file.proofs.raw_refs.raw_refs.Given as goal

-- The refs are those before the place of the loop.
abbrev pub invariant-loop-position : goal.invariant-loop-position
invariant-loop-position l = (pool : Cells) → refs_of l.refs.items
    ≡ map (raw_ref (named_in pool l.tenant)) (take l.position (listed_refs l.tenant.refs.now))
