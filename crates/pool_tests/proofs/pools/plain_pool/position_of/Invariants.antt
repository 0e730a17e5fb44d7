use Rattle.std.proofs.Common.{ℕ, ◌<◌, map, Some}
use Rattle.git_model.specs.Content.{content_from}
use Rattle.content_pool.specs.Index.{Stores}
use Rattle.pool_tests.proofs.pools.plain_pool.position_of.Given as goal

abbrev pub invariant-loop-position : goal.invariant-loop-position
invariant-loop-position l =
    (s : ℕ) → s < l.position → Stores (map Some l.cells) s (content_from l.kind l.bytes) → ⊥
