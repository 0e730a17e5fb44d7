-- Tags: their refs, their objects and their number: git-fast-import(1), "tag".
pub use Rattle.git_model.specs.Limits.{tag_limit}
use Rattle.stream_parts.specs.declared.fault.Fault.{Fault}
use Rattle.stream_parts.specs.declared.headers.TagHeader.{TagHeader}
use Rattle.std.specs.Prelude.{ℕ, nat_lt, if◌then◌else◌, List, length, drop, Option, None, Some, Result, Ok, Err, codes}
use Rattle.git_model.specs.declared.kind.Kind.{Kind}
use Rattle.git_model.specs.declared.kind.Kind.TheVariants as kind
use Rattle.git_model.specs.Tag.{tag_contents}
use Rattle.git_model.specs.Content.{Content, content_from}
use Rattle.stream_parts.specs.declared.fault.Fault.TheVariants as fault

-- Tags that wait for the next checkpoint: the ref of each, and the name of its object.
abbrev pub PendingTags : Type 0
PendingTags = List (List ℕ × List ℕ)

-- A stream has at most this many pending tags. Two of one name count as two.
abbrev pub room_for_tag : PendingTags → Result Unit Fault
room_for_tag tags = if nat_lt (length tags) tag_limit then Ok tt else Err fault.Limit

-- A commit, a blob or a tag may be tagged, but not a tree.
abbrev pub tagged_kind : Option Kind → Result Kind Fault
tagged_kind None = Err fault.UnknownRevision
tagged_kind (Some kind.Tree) = Err fault.WrongKind
tagged_kind (Some kind.Commit) = Ok kind.Commit
tagged_kind (Some kind.Blob) = Ok kind.Blob
tagged_kind (Some kind.Tag) = Ok kind.Tag

-- The tag object that a tag makes. Its own name is its ref without `refs/tags/`.
abbrev pub tag_content : TagHeader → List ℕ → List ℕ → Kind → Content
tag_content header message target target_kind = content_from kind.Tag (tag_contents (record {
  target = target;
  kind = target_kind;
  name = drop (length (codes "refs/tags/")) header.ref_name;
  tagger = header.tagger;
  message = message;
}))
