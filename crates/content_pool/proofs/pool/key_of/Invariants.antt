use Rattle.std.proofs.Common.{ℕ, ◌<◌, get_or}
use Rattle.git_model.specs.Content.{content_from}
use Rattle.content_pool.specs.Index.{Stores}
use Rattle.content_pool.proofs.pool.key_of.Given as goal

-- the content is stored under none of the keys so far
abbrev pub invariant-loop-key : goal.invariant-loop-key
invariant-loop-key l =
    (k : ℕ) → k < l.key-index → Stores l.cells.slots (get_or l.keys k 0) (content_from l.kind l.bytes) → ⊥
