-- What a stream has of its own apart from its objects.
use Rattle.std.specs.Prelude.{ℕ, Bool, false, List, [], Option, None}
use Rattle.stream_parts.specs.Marks.{Marks}
use Rattle.stream_parts.specs.Branches.{Branches}
use Rattle.stream_parts.specs.Tags.{PendingTags}
use Rattle.stream_parts.specs.OpenCommand.{OpenCommand, Nothing, command_with}

-- Its marks, branches and pending tags; the open command; the ref that HEAD is to name, if the
-- stream set one; whether refs are updated by force, and whether the stream must end with `done`.
pub record StreamOf (Held : Type 0) : Type 0 where
  pub marks : Marks
  pub branches : Branches
  pub tags : PendingTags
  pub command : OpenCommand Held
  pub head : Option (List ℕ)
  pub forces : Bool
  pub needs_done : Bool

-- A stream before its first item.
abbrev pub new_stream : {Held : Type 0} → StreamOf Held
new_stream = record {
  marks = [];
  branches = [];
  tags = [];
  command = Nothing;
  head = None;
  forces = false;
  needs_done = false;
}

-- The same stream with its commit held in another way.
abbrev pub stream_with : {Held Other : Type 0} → (Held → Other) → StreamOf Held → StreamOf Other
stream_with to stream = record {
  marks = stream.marks;
  branches = stream.branches;
  tags = stream.tags;
  command = command_with to stream.command;
  head = stream.head;
  forces = stream.forces;
  needs_done = stream.needs_done;
}
