-- What each command does: git-fast-import(1), "Commands". Each group of commands is a file.
use Rattle.std.specs.Prelude.{ℕ, List, Result}
use Rattle.stream_grammar.specs.Acts.{Act, Wait, Object, Commit, Change, Ref, Reply, Control}
use Rattle.stream_parts.specs.declared.fault.Fault.{Fault}
use Rattle.stream_commands.specs.Workspace.{Workspace, Effect, quiet}
use Rattle.stream_commands.specs.Objects.{object_stored}
use Rattle.import_session.specs.Commits.{commit_said}
use Rattle.import_session.specs.Changes.{files_changed}
use Rattle.stream_commands.specs.Refs.{ref_set}
use Rattle.stream_commands.specs.Replies.{replied}
use Rattle.stream_commands.specs.Controls.{controlled}

-- What an act leaves and prints, or the fault that refuses it.
unfoldable pub after_act : (List ℕ → List ℕ) → Act → Workspace → Result Effect Fault
after_act digest Wait workspace = quiet workspace
after_act digest (Object command) workspace = object_stored digest command workspace
after_act digest (Commit command) workspace = commit_said command workspace
after_act digest (Change change) workspace = files_changed digest change workspace
after_act digest (Ref command) workspace = ref_set command workspace
after_act digest (Reply command) workspace = replied digest command workspace
after_act digest (Control command) workspace = controlled command workspace
