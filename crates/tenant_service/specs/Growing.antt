-- What a stream leaves of the objects of its repository: all of them.
use Rattle.std.specs.Prelude.{◌≡◌, ◌≤◌, List, ◌++◌, length}
use Rattle.git_model.specs.Repository.{Object}
use Rattle.stream_commands.specs.Workspace.{Workspace}

-- A workspace has the objects of an earlier one, and perhaps more after them. No fewer of them are
-- committed.
pub record KeepsObjects (before after : Workspace) : Type 0 where
  pub more : List Object
  pub objects : after.objects ≡ before.objects ++ more
  pub committed : before.committed ≤ after.committed
  pub within : after.committed ≤ length after.objects
