use Rattle.std.proofs.Common.{◌≡◌, take}
use Rattle.git_model.specs.RefStore.{RefStore}
use Rattle.tenant_refs.specs.Changes.{with_changes}
use Rattle.stream_parts.specs.Checkpoints.{by_tags}
use Rattle.stream_parts.proofs.checkpoint.add_tags.Given as goal

-- those before the index were added
abbrev pub invariant-loop-ref_name : goal.invariant-loop-ref_name
invariant-loop-ref_name l = (store : RefStore) → with_changes store l.changes.items
    ≡ by_tags (with_changes store l.fn.changes.items) (take l.ref_name-index l.tags)
