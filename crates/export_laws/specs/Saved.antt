-- The workspace once all objects of an export are told and saved: git-fast-import(1), "checkpoint".
use Rattle.std.specs.Prelude.{◌≡◌, ℕ, true, false, List, [], ◌∷◌, length, None, Some}
use Rattle.std.specs.List.{Contains}
use Rattle.git_model.specs.RefStore.{target_of}
use Rattle.git_model.specs.Repository.{Repository}
use Rattle.export_text.specs.ExportItems.{scratch}
use Rattle.export_text.specs.Reached.{tag_refs}
use Rattle.stream_parts.specs.declared.branches.Tip.TheVariants.{Unborn}
use Rattle.open_commits.specs.OpenCommit.{OpenCommit}
use Rattle.stream_parts.specs.OpenCommand.{Reset}
use Rattle.stream_parts.specs.StreamOf.{StreamOf}
use Rattle.stream_commands.specs.Workspace.{Workspace}
use Rattle.export_laws.specs.Told.{Told}

-- What the stream has of its own then: its marks, and the scratch branch, which was reset and is
-- unborn. It updates refs by force, and nothing waits for the next checkpoint.
abbrev pub stream_saved : Told → StreamOf OpenCommit
stream_saved told = record {
  marks = told.marks;
  branches = (scratch, Unborn) ∷ [];
  tags = [];
  command = Reset scratch;
  head = None;
  forces = true;
  needs_done = false;
}

-- All that was told is committed. The refs are those that the tags leave, and HEAD is that of the
-- repository.
pub record IsSaved (repository : Repository) (told : Told) (saved : Workspace) : Type 0 where
  pub objects : saved.objects ≡ told.objects
  pub committed : saved.committed ≡ length told.objects
  pub of_tags : (ref id : List ℕ) → target_of saved.refs ref ≡ Some id
      → Contains (tag_refs repository) ref
  pub head : saved.refs.head ≡ repository.refs.head
  pub stream : saved.stream ≡ stream_saved told
