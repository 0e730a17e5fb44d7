-- Acts that are carried out one after another: git-fast-import(1), "Commands".
use Rattle.std.specs.Prelude.{◌≡◌, ℕ, List, [], ◌∷◌, Ok}
use Rattle.stream_grammar.specs.Commands.{Done}
use Rattle.stream_commands.specs.Workspace.{Workspace, quiet}
use Rattle.import_session.specs.Commits.{closed_where}
use Rattle.import_session.specs.Meaning.{after_act}

-- Acts, carried out one after another, lead from one workspace to another. Each first ends the open
-- commit, if its item ends one. None is refused, and none prints anything.
pub data Leaves (digest : List ℕ → List ℕ) : List Done → Workspace → Workspace → Type 0 where
  nothing : (workspace : Workspace) → Leaves digest [] workspace workspace
  first_act : (done : Done) (later : List Done) (before ready next left : Workspace)
      → closed_where digest done.ends_commit before ≡ Ok ready
      → after_act digest done.act ready ≡ quiet next
      → Leaves digest later next left
      → Leaves digest (done ∷ later) before left
