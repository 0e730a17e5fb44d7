-- What storing a tag leaves, and what refuses it.
use Rattle.std.proofs.Common.{◌≡◌, ◌≢◌, ℕ, List, [], ◌∷◌, ◌++◌, Option, Ok, Err, refl, rules}
use Rattle.git_model.specs.declared.kind.Kind.{Kind}
use Rattle.git_model.specs.declared.kind.Kind.TheVariants as object_kind
use Rattle.git_model.specs.Content.{name_by}
use Rattle.git_model.specs.RefStore.{RefStore}
use Rattle.git_model.specs.Repository.{Object}
use Rattle.content_pool.specs.Pool.{Cells}
use Rattle.tenant_tables.specs.Objects.{objects}
use Rattle.tenant_tables.specs.View.{View}
use Rattle.stream_parts.specs.declared.fault.Fault.{Fault}
use Rattle.stream_parts.specs.declared.fault.Fault.TheVariants as fault
use Rattle.stream_parts.specs.declared.headers.TagHeader.{TagHeader}
use Rattle.stream_parts.specs.Marks.{Marks, with_mark}
use Rattle.stream_parts.specs.OpenCommand.{Nothing}
use Rattle.stream_parts.specs.Tags.{PendingTags, tag_content}
use Rattle.stream_commands.specs.Workspace.{Workspace, quiet}
use Rattle.stream_parts.specs.Storing.{with_content}
use Rattle.stream_commands.specs.Tags.{tag_made, tag_stored, tagged}
use Rattle.stream_commands.specs.State.{CarriesOut, StreamState, state_with, workspace_in}
use Rattle.stream_commands.proofs.ActLemmas.{first_refused, first_then}

-- where its tag is stored
abbrev stored_in : (List ℕ → List ℕ) → Option ℕ → List ℕ → TagHeader → Workspace → List ℕ → Kind
    → List Object → Workspace
stored_in digest mark message header w target kind os =
    let name = name_by digest (tag_content header message target kind) in
    record w {
      objects = os;
      stream = record w.stream {
        marks = with_mark w.stream.marks mark object_kind.Tag name;
        tags = w.stream.tags ++ (header.ref_name, name) ∷ [];
        command = Nothing;
      };
    }

pub tag_refused : (digest : List ℕ → List ℕ) (mark : Option ℕ) (message : List ℕ) (header : TagHeader)
    (w new : Workspace) (out : List ℕ) (e : Fault)
    → (e ≢ fault.Memory → tagged mark header w ≡ Err e)
    → CarriesOut (tag_stored digest mark message header w) new out out (Err e)
tag_refused digest mark message header w new out e refused =
    first_refused (tagged mark header w) (λ target.
    tag_made digest mark header.ref_name (tag_content header message target.0 target.1) w)
    new out out e refused

pub tag_not_stored : (digest : List ℕ → List ℕ) (mark : Option ℕ) (message : List ℕ)
    (header : TagHeader) (w new : Workspace) (out : List ℕ) (e : Fault) (target : List ℕ) (kind : Kind)
    → tagged mark header w ≡ Ok (target, kind)
    → (e ≢ fault.Memory
    → with_content digest (tag_content header message target kind) w.objects ≡ Err e)
    → CarriesOut (tag_stored digest mark message header w) new out out (Err e)
tag_not_stored digest mark message header w new out e target kind is refused =
    first_then (tagged mark header w) (target, kind) (λ target.
    tag_made digest mark header.ref_name (tag_content header message target.0 target.1) w)
    new out out (Err e) is
    (first_refused (with_content digest (tag_content header message target kind) w.objects)
    (λ os. quiet (stored_in digest mark message header w target kind os)) new out out e refused)

pub tag_kept : (digest : List ℕ → List ℕ) (mark : Option ℕ) (message : List ℕ)
    (header : TagHeader) (w new : Workspace) (out : List ℕ) (target : List ℕ) (kind : Kind)
    (os : List Object)
    → tagged mark header w ≡ Ok (target, kind)
    → with_content digest (tag_content header message target kind) w.objects ≡ Ok os
    → stored_in digest mark message header w target kind os ≡ new
    → CarriesOut (tag_stored digest mark message header w) new out out (Ok tt)
tag_kept digest mark message header w new out target kind os is stored left =
    first_then (tagged mark header w) (target, kind) (λ target.
    tag_made digest mark header.ref_name (tag_content header message target.0 target.1) w)
    new out out (Ok tt) is
    (first_then (with_content digest (tag_content header message target kind) w.objects) os
    (λ os. quiet (stored_in digest mark message header w target kind os)) new out out (Ok tt) stored
    (left, search rules))

-- what is left, by its parts
pub tag_left : (state left : StreamState) (mark : Option ℕ) (ref id name : List ℕ) (marks : Marks)
    (tags : PendingTags) (p : Cells) (t : View) (q : Cells) (v : View) (refs : RefStore)
    → left ≡ state_with state Nothing → marks ≡ with_mark left.stream.marks mark object_kind.Tag id
    → tags ≡ left.stream.tags ++ (ref, id) ∷ [] → id ≡ name → v.committed ≡ t.committed
    → record (workspace_in state p t refs) {
      objects = objects q v.entries;
      stream = record (workspace_in state p t refs).stream {
        marks = with_mark state.stream.marks mark object_kind.Tag name;
        tags = state.stream.tags ++ (ref, name) ∷ [];
        command = Nothing;
      };
    } ≡ workspace_in (record left { stream = record left.stream { marks = marks; tags = tags } })
    q v refs
tag_left state left mark ref id name marks tags p t q v refs e m s n c = rw (m, s, e, n, c) refl
