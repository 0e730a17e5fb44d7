-- Commits from their first line to their end: git-fast-import(1), "commit".
use Rattle.std.specs.Prelude.{ℕ, Bool, true, false, List, Option, None, Some, Result, Ok}
use Rattle.git_model.specs.declared.kind.Kind.TheVariants as kind
use Rattle.git_model.specs.Repository.{Object}
use Rattle.stream_grammar.specs.Acts.{CommitCommand, Begin, Author, Committer, Encoding, Message, From, Merge}
use Rattle.stream_grammar.specs.Names.{CommitIsh}
use Rattle.open_commits.specs.OpenCommit.{Header, OpenCommit, begun}
use Rattle.open_commits.specs.Parents.{started_from, merged}
use Rattle.open_commits.specs.Ends.{Closed, closed}
use Rattle.stream_parts.specs.declared.branches.Tip.TheVariants.{At}
use Rattle.stream_parts.specs.declared.fault.Fault.{Fault}
use Rattle.stream_parts.specs.declared.headers.CommitHeader.{CommitHeader}
use Rattle.git_model.specs.Results.{and_then}
use Rattle.stream_commands.specs.Faults.{changed_or}
use Rattle.stream_parts.specs.Headers.{new_commit_header}
use Rattle.stream_parts.specs.OpenCommand.{OpenCommand, Nothing, Commit, Changes, already_said, commit_header_in}
use Rattle.stream_commands.specs.Workspace.{Workspace, Effect, quiet, with_command}
use Rattle.stream_parts.specs.Marks.{room_for, with_mark}
use Rattle.stream_parts.specs.Branches.{branch_set, with_branch, tip_commit, tip_for}
use Rattle.stream_commands.specs.Lines.{in_changes, in_commit_header}
use Rattle.stream_commands.specs.CommitIshes.{ref_in, commit_in, start_in}

-- ---- its message

-- The header that these lines give. One of them must name a committer.
abbrev pub header_of : Option ℕ → CommitHeader → List ℕ → Header
header_of mark said committer = record {
  ref = said.ref_name;
  mark = mark;
  author = said.author;
  committer = committer;
  encoding = said.encoding;
}

-- What the header lines of a commit have said, which must have a committer.
abbrev pub header_said : Option ℕ → CommitHeader → Result Header Fault
header_said mark said =
    and_then (already_said said.committer) (λ committer. Ok (header_of mark said committer))

-- This commit is the first parent, if there is one.
abbrev pub begun_from : List Object → Option (List ℕ) → OpenCommit → Result OpenCommit Fault
begun_from objects None commit = Ok commit
begun_from objects (Some id) commit = changed_or (started_from objects id commit)

-- The commit opens on its branch, which is one of the stream's from then on. If the stream has that
-- branch at a commit, this is the first parent, and its files come first.
abbrev pub commit_opened : Option ℕ → List ℕ → CommitHeader → Workspace → Result Effect Fault
commit_opened mark message said workspace =
    and_then (header_said mark said) (λ header.
    let first = tip_commit workspace.stream.branches header.ref in
    and_then (branch_set workspace.stream.branches header.ref (tip_for first)) (λ branches.
    and_then (begun_from workspace.objects first (begun header message)) (λ opening.
    quiet (record workspace {
      stream = record workspace.stream { branches = branches; command = Changes opening };
    }))))

-- 'data': the commit opens with this message.
abbrev pub message_said : Option ℕ → List ℕ → Workspace → Result Effect Fault
message_said mark message workspace =
    and_then (commit_header_in workspace.stream.command) (λ said.
    commit_opened mark message said workspace)

-- ---- its lines

-- 'from': the first parent, whose files are those of the commit then.
abbrev pub commit_started : Workspace → CommitIsh → OpenCommit → Result OpenCommit Fault
commit_started workspace from commit =
    and_then (start_in workspace commit.header.ref from) (λ id.
    changed_or (started_from workspace.objects id commit))

-- 'merge': one more parent.
abbrev pub commit_merged : Workspace → CommitIsh → OpenCommit → Result OpenCommit Fault
commit_merged workspace other commit =
    and_then (commit_in workspace other) (λ id. changed_or (merged id commit))

-- What a line of a commit leaves, up to its changes.
unfoldable pub commit_said : CommitCommand → Workspace → Result Effect Fault
-- 'commit': names its branch.
commit_said (Begin ref) workspace =
    quiet (with_command workspace (Commit (new_commit_header (ref_in workspace ref))))
-- 'author', 'committer' and 'encoding'.
commit_said (Author ident) workspace =
    in_commit_header (λ header. record header { author = Some ident }) workspace
commit_said (Committer ident) workspace =
    in_commit_header (λ header. record header { committer = Some ident }) workspace
commit_said (Encoding encoding) workspace =
    in_commit_header (λ header. record header { encoding = Some encoding }) workspace
-- 'data'.
commit_said (Message mark message) workspace = message_said mark message workspace
-- 'from' and 'merge'.
commit_said (From from) workspace = in_changes (commit_started workspace from) workspace
commit_said (Merge other) workspace = in_changes (commit_merged workspace other) workspace

-- ---- its end

-- The mark of the commit is set to it, its branch moves to it, and no commit is open.
abbrev pub closed_at : Workspace → Header → Closed → Workspace
closed_at workspace header end = record workspace {
  objects = end.objects;
  stream = record workspace.stream {
    marks = with_mark workspace.stream.marks header.mark kind.Commit end.id;
    branches = with_branch workspace.stream.branches header.ref (At end.id);
    command = Nothing;
  };
}

-- The end of a commit stores its trees, children first, and then the commit. The limit on marks is
-- judged first.
abbrev pub commit_closed : (List ℕ → List ℕ) → Workspace → OpenCommit → Result Workspace Fault
commit_closed digest workspace commit =
    and_then (room_for workspace.stream.marks commit.header.mark) (λ _.
    and_then (changed_or (closed digest workspace.objects commit)) (λ end.
    Ok (closed_at workspace commit.header end)))

-- The open commit ends, if there is one and the item ends it.
abbrev pub open_closed : (List ℕ → List ℕ) → Workspace → OpenCommand OpenCommit
    → Result Workspace Fault
open_closed digest workspace (Changes commit) = commit_closed digest workspace commit
open_closed digest workspace _ = Ok workspace

-- Where it has to end, the open commit ends; else the workspace stays as it is.
abbrev pub closed_where : (List ℕ → List ℕ) → Bool → Workspace → Result Workspace Fault
closed_where digest false workspace = Ok workspace
closed_where digest true workspace = open_closed digest workspace workspace.stream.command
