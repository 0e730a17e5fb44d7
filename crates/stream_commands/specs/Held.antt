-- What a session holds of its commits: the files of the open one and of the last ones that ended, and
-- what is kept of walks along first parents and along tags.
use Rattle.std.specs.Prelude.{ℕ, List}
use Rattle.git_model.specs.Repository.{Object}
use Rattle.git_model.specs.HeldObjects.{AreHeld}
use Rattle.content_pool.specs.Pool.{Cells}
use Rattle.tenant_tables.specs.Objects.{objects}
use Rattle.tenant_tables.specs.View.{View}
use Rattle.kept_files.specs.KeptCommits.{AreBranches}
use Rattle.open_commits.specs.OpenCommit.{HeldCommit, Stands}
use Rattle.revisions.specs.declared.tag_ends.ChainCache.{ChainCache}
use Rattle.revisions.specs.TagEnds.{AreChains}
use Rattle.stream_parts.specs.OpenCommand.{OpenCommand, Changes, Inline}
use Rattle.stream_commands.specs.State.{StreamState}

-- The files of the open commit are a branch among the objects, if there is one.
abbrev pub HoldsOpen : List Object → OpenCommand HeldCommit → Type 0
HoldsOpen os (Changes commit) = Stands os commit
HoldsOpen os (Inline commit file) = Stands os commit
HoldsOpen os _ = Unit {0}

-- Among good objects a chain of commits is one of first parents, and tags lead to what is kept as
-- their ends.
abbrev pub ChainStands : (List ℕ → List ℕ) → List Object → ChainCache → Type 0
ChainStands digest os chain = AreHeld digest os → AreChains os chain

-- All files are branches among the objects: each tree that they name is one of them. The chain stands
-- among them too.
pub record HoldsFiles (digest : List ℕ → List ℕ) (os : List Object) (state : StreamState) : Type 0 where
  pub command : HoldsOpen os state.stream.command
  pub kept : AreBranches os state.kept
  pub chain : ChainStands digest os state.chain

-- The same among those of a table over a pool.
abbrev pub FilesStand : (List ℕ → List ℕ) → StreamState → Cells → View → Type 0
FilesStand digest state pool table = HoldsFiles digest (objects pool table.entries) state

-- Among whatever objects all stood before a call, all stand after it.
abbrev pub KeepsBranchFiles : StreamState → StreamState → Type 0
KeepsBranchFiles old new = (digest : List ℕ → List ℕ) (os : List Object) → HoldsFiles digest os old
    → HoldsFiles digest os new
