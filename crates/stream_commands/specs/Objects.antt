-- Blobs and tags: git-fast-import(1), "blob" and "tag".
use Rattle.std.specs.Prelude.{ℕ, List, Option, Some, Result}
use Rattle.git_model.specs.declared.kind.Kind.TheVariants as kind
use Rattle.git_model.specs.Content.{Content, content_from, name_by}
use Rattle.stream_grammar.specs.Acts.{ObjectCommand, Blob, BeginTag, TagTarget, Tagger, Tag}
use Rattle.stream_parts.specs.declared.fault.Fault.{Fault}
use Rattle.git_model.specs.Results.{and_then}
use Rattle.stream_parts.specs.Headers.{new_tag_header}
use Rattle.stream_parts.specs.Marks.{room_for, with_mark}
use Rattle.stream_parts.specs.OpenCommand as open_command
use Rattle.stream_parts.specs.OpenCommand.{tag_header_in}
use Rattle.stream_parts.specs.Storing.{with_content}
use Rattle.stream_commands.specs.Workspace.{Workspace, Effect, quiet, with_command}
use Rattle.stream_commands.specs.Lines.{in_tag_header}
use Rattle.stream_commands.specs.Tags.{tag_stored}

-- A blob is stored, and then its mark is set. The limit on marks is judged first.
abbrev pub blob_stored : (List ℕ → List ℕ) → Option ℕ → Content → Workspace → Result Effect Fault
blob_stored digest mark content workspace =
    and_then (room_for workspace.stream.marks mark) (λ _.
    and_then (with_content digest content workspace.objects) (λ objects.
    quiet (record workspace {
      objects = objects;
      stream = record workspace.stream {
        marks = with_mark workspace.stream.marks mark kind.Blob (name_by digest content);
      };
    })))

-- What a line of a blob or of a tag leaves.
unfoldable pub object_stored : (List ℕ → List ℕ) → ObjectCommand → Workspace → Result Effect Fault
-- 'blob', at its data: the blob is stored.
object_stored digest (Blob mark contents) workspace =
    blob_stored digest mark (content_from kind.Blob contents) workspace
-- 'tag': names the ref of the tag.
object_stored digest (BeginTag ref) workspace =
    quiet (with_command workspace (open_command.Tag (new_tag_header ref)))
-- 'from': the object to tag. It is looked up at the data of the tag.
object_stored digest (TagTarget target) workspace =
    in_tag_header (λ header. record header { target = Some target }) workspace
-- 'tagger'.
object_stored digest (Tagger ident) workspace =
    in_tag_header (λ header. record header { tagger = Some ident }) workspace
-- 'data': the tag is stored with this message.
object_stored digest (Tag mark message) workspace =
    and_then (tag_header_in workspace.stream.command) (λ header.
    tag_stored digest mark message header workspace)
