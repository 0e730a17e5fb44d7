-- Acts: what one item of a stream asks for, git-fast-import(1), "Commands".
use Rattle.std.specs.Prelude.{ℕ, List, Option, Result, Ok}
use Rattle.git_model.specs.declared.file_mode.FileMode.{FileMode}
use Rattle.stream_grammar.specs.declared.act.ControlCommand.{ControlCommand}
use Rattle.stream_grammar.specs.declared.fault.Fault.{Fault}
use Rattle.stream_grammar.specs.declared.data_ref.DataRef.{DataRef}
use Rattle.stream_grammar.specs.Names.{CommitIsh}
use Rattle.stream_grammar.specs.Changes.{Path}

-- 'blob', 'tag': a blob is whole, perhaps with a mark; a tag with this ref begins; its target, its
-- tagger; its message, which ends it.
pub data ObjectCommand : Type 0 where
  Blob : Option ℕ → List ℕ → ObjectCommand
  BeginTag : List ℕ → ObjectCommand
  TagTarget : CommitIsh → ObjectCommand
  Tagger : List ℕ → ObjectCommand
  Tag : Option ℕ → List ℕ → ObjectCommand

-- 'commit', 'from', 'merge': a commit on this branch begins; its author, its committer, its
-- encoding; its message, after which its files may change; what it starts from and what it merges.
pub data CommitCommand : Type 0 where
  Begin : List ℕ → CommitCommand
  Author : List ℕ → CommitCommand
  Committer : List ℕ → CommitCommand
  Encoding : List ℕ → CommitCommand
  Message : Option ℕ → List ℕ → CommitCommand
  From : CommitIsh → CommitCommand
  Merge : CommitIsh → CommitCommand

-- 'M', 'D', 'C', 'R', 'deleteall': a file of the open commit is put, by an object or by the next
-- data; one is deleted, copied, renamed; all are deleted.
pub data FileChange : Type 0 where
  Modify : FileMode → DataRef → Path → FileChange
  ModifyInline : FileMode → Path → FileChange
  InlineData : List ℕ → FileChange
  Delete : Path → FileChange
  Copy : Path → Path → FileChange
  Rename : Path → Path → FileChange
  DeleteAll : FileChange

-- 'reset', 'alias': a branch becomes unborn, and is then perhaps set; a mark is set to a commit.
pub data RefCommand : Type 0 where
  Reset : List ℕ → RefCommand
  ResetFrom : CommitIsh → RefCommand
  Alias : ℕ → CommitIsh → RefCommand

-- 'get-mark', 'cat-blob', 'ls', 'progress': the name of the object of a mark is printed, a blob, an
-- entry of a tree or of the open commit, this line.
pub data ReplyCommand : Type 0 where
  GetMark : ℕ → ReplyCommand
  CatBlob : DataRef → ReplyCommand
  Ls : DataRef → Path → ReplyCommand
  LsInCommit : Path → ReplyCommand
  Progress : List ℕ → ReplyCommand

-- What an item asks for. `Wait` is nothing: the command is not whole yet, or has no effect.
pub data Act : Type 0 where
  Wait : Act
  Object : ObjectCommand → Act
  Commit : CommitCommand → Act
  Change : FileChange → Act
  Ref : RefCommand → Act
  Reply : ReplyCommand → Act
  Control : ControlCommand → Act

-- What a part of the open command gives: the mark that the command has after it, and an act.
pub record Effect : Type 0 where
  pub mark : Option ℕ
  pub act : Act

-- A part brings a mark and an act.
abbrev pub brings : Option ℕ → Act → Result Effect Fault
brings mark act = Ok (record { mark = mark; act = act })
