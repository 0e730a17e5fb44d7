-- Checkpoints: git-fast-import(1), "checkpoint"; and "fast-forward" of gitglossary(7).
use Rattle.std.specs.Prelude.{ℕ, ◌||◌, Bool, true, if◌then◌else◌, List, [], ◌++◌, length, fold, flat_map, Option, None, Some, Result, Ok, Err, codes}
use Rattle.git_model.specs.RefStore.{RefStore, target_of, with_ref, without_ref}
use Rattle.stream_parts.specs.declared.branches.Tip.{Tip}
use Rattle.stream_parts.specs.declared.branches.Tip.TheVariants.{Unborn, Deleted, At}
use Rattle.stream_parts.specs.declared.fault.Fault.{Fault}
use Rattle.stream_parts.specs.declared.fault.Fault.TheVariants as fault
use Rattle.stream_parts.specs.Branches.{Branches}
use Rattle.stream_commands.specs.Workspace.{Workspace, Effect}
use Rattle.stream_parts.specs.Checkpoints.{is_fast_forward, by_tags, by_head, fit}

-- A ref may be set to a tip if there is no ref yet, or by a fast-forward, or by force. It is
-- compared with the refs as last saved.
abbrev pub may_set : Workspace → List ℕ → Option (List ℕ) → Bool
may_set workspace tip None = true
may_set workspace tip (Some old) =
    workspace.stream.forces || is_fast_forward workspace.objects old tip

-- Whether a checkpoint sets a ref to this tip.
abbrev pub moves : Workspace → List ℕ → List ℕ → Bool
moves workspace ref tip = may_set workspace tip (target_of workspace.refs ref)

-- What a branch does to the refs: an unborn branch leaves its ref, a deleted one removes it, and
-- any other sets it if it may.
abbrev pub saved_by : Workspace → RefStore → List ℕ → Tip → RefStore
saved_by workspace store ref Unborn = store
saved_by workspace store ref Deleted = without_ref store ref
saved_by workspace store ref (At tip) =
    if moves workspace ref tip then with_ref store ref tip else store

-- If it may not, this is printed: 'kept' SP <ref> LF
abbrev pub kept_by : Workspace → List ℕ → Tip → List ℕ
kept_by workspace ref Unborn = []
kept_by workspace ref Deleted = []
kept_by workspace ref (At tip) =
    if moves workspace ref tip then [] else codes "kept " ++ ref ++ codes "\n"

-- The lines of all refs that a checkpoint does not set.
abbrev pub kept_lines : Workspace → Branches → List ℕ
kept_lines workspace branches =
    flat_map (λ branch. kept_by workspace branch.0 branch.1) branches

-- The refs after each branch in turn.
abbrev pub by_branches : Workspace → RefStore → Branches → RefStore
by_branches workspace store branches =
    fold (λ saved branch. saved_by workspace saved branch.0 branch.1) store branches

-- The refs that a checkpoint leaves: first by the branches, in the order of their first appearance,
-- then by the tags, then by HEAD.
abbrev pub saved_refs : Workspace → RefStore
saved_refs workspace = by_head
    (by_tags (by_branches workspace workspace.refs workspace.stream.branches) workspace.stream.tags)
    workspace.stream.head

-- The refs and HEAD are saved, no tag waits any longer, and all objects so far are committed.
abbrev pub checkpointed : Workspace → Workspace
checkpointed workspace = record workspace {
  refs = saved_refs workspace;
  committed = length workspace.objects;
  stream = record workspace.stream { tags = []; head = None };
}

-- 'checkpoint': all of this, and the kept refs are printed; or nothing of it, if there would be too
-- many refs.
abbrev pub checkpoint : Workspace → Result Effect Fault
checkpoint workspace =
    if fit (saved_refs workspace)
    then Ok (record {
      workspace = checkpointed workspace;
      reply = kept_lines workspace workspace.stream.branches;
    })
    else Err fault.Limit
