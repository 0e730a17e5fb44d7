-- What storing a tag does: git-fast-import(1), "tag".
use Rattle.std.specs.Prelude.{ℕ, List, [], ◌∷◌, ◌++◌, Option, Result, Ok}
use Rattle.git_model.specs.declared.kind.Kind.{Kind}
use Rattle.git_model.specs.declared.kind.Kind.TheVariants as kind
use Rattle.git_model.specs.Content.{Content, name_by}
use Rattle.git_model.specs.References.{kind_named}
use Rattle.stream_parts.specs.declared.fault.Fault.{Fault}
use Rattle.stream_parts.specs.declared.headers.TagHeader.{TagHeader}
use Rattle.git_model.specs.Results.{and_then}
use Rattle.stream_commands.specs.Workspace.{Workspace, Effect, quiet}
use Rattle.stream_parts.specs.Marks.{room_for, with_mark}
use Rattle.stream_commands.specs.CommitIshes.{named_in}
use Rattle.stream_parts.specs.OpenCommand.{Nothing, already_said}
use Rattle.stream_parts.specs.Storing.{with_content}
use Rattle.stream_parts.specs.Tags.{room_for_tag, tagged_kind, tag_content}

-- The tag's object is stored, its mark is set to it, and it waits for the next checkpoint.
abbrev pub tag_made : (List ℕ → List ℕ) → Option ℕ → List ℕ → Content → Workspace
    → Result Effect Fault
tag_made digest mark ref tag workspace =
    and_then (with_content digest tag workspace.objects) (λ objects.
    quiet (record workspace {
      objects = objects;
      stream = record workspace.stream {
        marks = with_mark workspace.stream.marks mark kind.Tag (name_by digest tag);
        tags = workspace.stream.tags ++ (ref, name_by digest tag) ∷ [];
        command = Nothing;
      };
    }))

-- The tagged object and its kind. It is looked up at the data of the tag, and is not peeled. The
-- limits on marks and on pending tags are judged after it.
abbrev pub tagged : Option ℕ → TagHeader → Workspace → Result (List ℕ × Kind) Fault
tagged mark header workspace =
    and_then (already_said header.target) (λ said.
    and_then (named_in workspace said) (λ target.
    and_then (tagged_kind (kind_named target workspace.objects)) (λ target_kind.
    and_then (room_for workspace.stream.marks mark) (λ _.
    and_then (room_for_tag workspace.stream.tags) (λ _. Ok (target, target_kind))))))

-- Then the tag is stored.
abbrev pub tag_stored : (List ℕ → List ℕ) → Option ℕ → List ℕ → TagHeader → Workspace
    → Result Effect Fault
tag_stored digest mark message header workspace =
    and_then (tagged mark header workspace) (λ target.
    tag_made digest mark header.ref_name (tag_content header message target.0 target.1) workspace)
