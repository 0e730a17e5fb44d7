-- Printing a line: what it does, and what a call that prints one answers and leaves.
use Rattle.std.specs.Prelude.{ℕ, List, ◌++◌, Result, Ok, codes}
use Rattle.stream_parts.specs.declared.fault.Fault.{Fault}
use Rattle.stream_commands.specs.Workspace.{Workspace, Effect}

-- A line is printed, with its line end.
abbrev pub prints : Workspace → List ℕ → Result Effect Fault
prints workspace line = Ok (record { workspace = workspace; reply = line ++ codes "\n" })
