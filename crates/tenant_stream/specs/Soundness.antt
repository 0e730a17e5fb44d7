-- Sound streams: what they leave.
use Rattle.std.specs.Prelude.{ℕ, List, Result, Ok, Err}
use Rattle.stream_commands.specs.Workspace.{Workspace}
use Rattle.import_session.specs.Stream.{StreamStatus, Runs, Refused, last_checkpoint}
use Rattle.import_session.specs.Sound.{IsSound, IsSoundRepository}
use Rattle.tenant_stream.specs.declared.stream_error.StreamError.{StreamError}

-- A running stream is sound if its workspace is. A refused stream is sound if the repository that
-- it left is.
abbrev pub IsSoundStreamStatus : (List ℕ → List ℕ) → StreamStatus → Type 0
IsSoundStreamStatus digest (Runs now tail) = IsSound digest now.workspace
IsSoundStreamStatus digest (Refused code repository) = IsSoundRepository digest repository

-- What a piece leaves of a sound stream: a sound one, or a sound repository at the last checkpoint.
abbrev pub LeavesSound : (List ℕ → List ℕ) → Result Unit StreamError → Workspace → Type 0
LeavesSound digest (Ok u) workspace = IsSound digest workspace
LeavesSound digest (Err stop) workspace = IsSoundRepository digest (last_checkpoint workspace)
