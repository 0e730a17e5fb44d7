-- The stream itself: git-fast-import(1), "checkpoint", "done", "feature" and "option".
use Rattle.std.specs.Prelude.{ℕ, true, if◌then◌else◌, List, Some, Result, Err, codes}
use Rattle.std.specs.Str.{bytes_eq}
use Rattle.stream_grammar.specs.declared.fault.Fault.TheVariants as text_fault
use Rattle.stream_grammar.specs.declared.feature.Feature.{Feature}
use Rattle.stream_grammar.specs.declared.feature.Feature.TheVariants as feature
use Rattle.stream_grammar.specs.declared.act.ControlCommand.{ControlCommand}
use Rattle.stream_grammar.specs.declared.act.ControlCommand.TheVariants as control
use Rattle.stream_parts.specs.declared.fault.Fault.{Fault}
use Rattle.stream_parts.specs.declared.fault.Fault.TheVariants as fault
use Rattle.stream_commands.specs.Workspace.{Workspace, Effect, quiet}
use Rattle.stream_commands.specs.Checkpoints.{checkpoint}

-- A feature is a switch, or a promise of what is always there.
abbrev pub feature_set : Feature → Workspace → Workspace
feature_set feature.Done workspace =
    record workspace { stream = record workspace.stream { needs_done = true } }
feature_set feature.Force workspace =
    record workspace { stream = record workspace.stream { forces = true } }
feature_set _ workspace = workspace

-- The ref that HEAD names, for this stream at once and for the repository from the next checkpoint.
-- It cannot be `HEAD` itself.
abbrev pub head_set : List ℕ → Workspace → Result Effect Fault
head_set ref workspace =
    if bytes_eq ref (codes "HEAD") then Err (fault.Text text_fault.BadRefName)
    else quiet (record workspace { stream = record workspace.stream { head = Some ref } })

-- What a command of the stream itself leaves.
unfoldable pub controlled : ControlCommand → Workspace → Result Effect Fault
-- 'checkpoint', and 'done', after which nothing is read: the refs are saved.
controlled control.Checkpoint workspace = checkpoint workspace
controlled control.Done workspace = checkpoint workspace
-- 'feature'.
controlled (control.Feature feature) workspace = quiet (feature_set feature workspace)
-- 'option gitpool head'.
controlled (control.Head ref) workspace = head_set ref workspace
