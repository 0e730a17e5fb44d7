-- A tag is told: it is stored and marked, and its ref waits for the next checkpoint.
use Rattle.std.proofs.Common.{◌≡◌, ◌≢◌, ℕ, ◌<◌, List, [], ◌∷◌, ◌++◌, length, Option, None, Some, Ok, refl, subst}
use Rattle.std.proofs.lemmas.Bool.{lt-ltb}
use Rattle.git_model.specs.declared.kind.Kind.{Kind}
use Rattle.git_model.specs.declared.kind.Kind.TheVariants as kind
use Rattle.git_model.specs.Content.{content_from, name_by}
use Rattle.git_model.specs.References.{kind_named}
use Rattle.git_model.specs.Repository.{with_object}
use Rattle.git_model.specs.Tag.{Tag, tag_contents}
use Rattle.tenant_tables.specs.Adding.{store_fault}
use Rattle.stream_grammar.specs.Acts.{Object as ObjectAct}
use Rattle.stream_grammar.specs.Acts.{BeginTag, TagTarget, Tagger, Tag as TagCommand}
use Rattle.stream_grammar.specs.Commands.{Done}
use Rattle.stream_grammar.specs.Names.{Marked}
use Rattle.stream_parts.specs.declared.headers.TagHeader.{TagHeader}
use Rattle.stream_parts.specs.Marks.{marked_name, room_for, with_mark}
use Rattle.import_session.specs.Meaning.{after_act}
use Rattle.stream_commands.specs.Objects.{object_stored}
use Rattle.stream_parts.specs.Tags.{room_for_tag, tag_limit, tagged_kind}
use Rattle.stream_parts.specs.Headers.{new_tag_header}
use Rattle.stream_parts.specs.OpenCommand as open_command
use Rattle.stream_commands.specs.Workspace.{Workspace, quiet, with_command}
use Rattle.export_text.specs.ExportActs.{asks, asks_if, tagger_act, wait_if}
use Rattle.export_text.specs.Reached.{tag_ref}
use Rattle.export_laws.specs.Leaving.{Leaves, nothing}
use Rattle.export_laws.proofs.Acts.{asked}
use Rattle.export_laws.proofs.Blobs.{waits}

-- ---- the lines of a tag

abbrev with_header : Workspace → TagHeader → Workspace
with_header w header = with_command w (open_command.Tag header)

abbrev header_by : List ℕ → ℕ → Option (List ℕ) → TagHeader
header_by ref n tagger = record { ref_name = ref; target = Some (Marked n); tagger = tagger }

begins : (digest : List ℕ → List ℕ) (w : Workspace) (ref : List ℕ)
    → after_act digest (ObjectAct (BeginTag ref)) w ≡ quiet (with_header w (new_tag_header ref))
unfolding after_act object_stored
begins digest w ref = refl

targets : (digest : List ℕ → List ℕ) (w : Workspace) (ref : List ℕ) (n : ℕ)
    → after_act digest (ObjectAct (TagTarget (Marked n))) (with_header w (new_tag_header ref))
    ≡ quiet (with_header w (header_by ref n None))
unfolding after_act object_stored
targets digest w ref n = refl

taggers : (digest : List ℕ → List ℕ) (w : Workspace) (ref : List ℕ) (n : ℕ) (ident : List ℕ)
    → after_act digest (ObjectAct (Tagger ident)) (with_header w (header_by ref n None))
    ≡ quiet (with_header w (header_by ref n (Some ident)))
unfolding after_act object_stored
taggers digest w ref n ident = refl

-- ---- its data

no_tree : (k : Kind) → k ≢ kind.Tree → tagged_kind (Some k) ≡ Ok k
no_tree kind.Tree other = absurd (other refl)
no_tree kind.Commit other = refl
no_tree kind.Blob other = refl
no_tree kind.Tag other = refl

-- What is asked of a workspace in which a tag is to be stored.
pub record MayTag (digest : List ℕ → List ℕ) (w : Workspace) (mark : Option ℕ) (t : Tag) (n : ℕ)
    : Type 0 where
  pub target : marked_name w.stream.marks n ≡ Ok t.target
  pub kind_is : kind_named t.target w.objects ≡ Some t.kind
  pub no_tree : t.kind ≢ kind.Tree
  pub marks : room_for w.stream.marks mark ≡ Ok tt
  pub tags : length w.stream.tags < tag_limit
  pub unrefused : store_fault (name_by digest (content_from kind.Tag (tag_contents t)))
      (content_from kind.Tag (tag_contents t)) w.objects ≡ None

abbrev pub tagged_in : (List ℕ → List ℕ) → Workspace → Option ℕ → Tag → Workspace
tagged_in digest w mark t =
    let c = content_from kind.Tag (tag_contents t) in
    record w {
      objects = with_object (name_by digest c) c w.objects;
      stream = record w.stream {
        marks = with_mark w.stream.marks mark kind.Tag (name_by digest c);
        tags = w.stream.tags ++ (tag_ref t.name, name_by digest c) ∷ [];
        command = open_command.Nothing;
      };
    }

tag-stored : (digest : List ℕ → List ℕ) (w : Workspace) (mark : Option ℕ) (t : Tag) (n : ℕ)
    → MayTag digest w mark t n
    → after_act digest (ObjectAct (TagCommand mark t.message)) (with_header w (header_by (tag_ref t.name) n t.tagger))
    ≡ quiet (tagged_in digest w mark t)
unfolding after_act object_stored
tag-stored digest w mark t n may =
    let few : room_for_tag w.stream.tags ≡ Ok tt = room_there in
    rw (may.target, may.kind_is, no_tree t.kind may.no_tree, may.marks, few, may.unrefused) refl
  where
    room_there : room_for_tag w.stream.tags ≡ Ok tt
    room_there = rw (lt-ltb (length w.stream.tags) tag_limit may.tags) refl

-- ---- all of them

abbrev acts_for : ℕ → Option ℕ → Tag → List Done
acts_for n mark t = asks (ObjectAct (BeginTag (tag_ref t.name))) ∷ wait_if mark
    ++ asks (ObjectAct (TagTarget (Marked n))) ∷ []
    ++ asks_if tagger_act t.tagger ++ asks (ObjectAct (TagCommand mark t.message)) ∷ []

module _ (digest : List ℕ → List ℕ) (w : Workspace) (n : ℕ) where
  from-target : (mark : Option ℕ) (t : Tag) → MayTag digest w mark t n → (tagger : Option (List ℕ))
      → t.tagger ≡ tagger
      → Leaves digest (asks (ObjectAct (TagTarget (Marked n))) ∷ [] ++ asks_if tagger_act tagger ++ asks (ObjectAct (TagCommand mark t.message)) ∷ [])
      (with_header w (new_tag_header (tag_ref t.name))) (tagged_in digest w mark t)
  from-target mark t may None is =
      asked digest _ _ _ _ _ (targets digest w (tag_ref t.name) n)
      (asked digest _ _ _ _ _
      (subst (λ (tagger : Option (List ℕ)). after_act digest (ObjectAct (TagCommand mark t.message)) (with_header w (header_by (tag_ref t.name) n tagger)) ≡ quiet (tagged_in digest w mark t))
      is (tag-stored digest w mark t n may)) (nothing _))
  from-target mark t may (Some ident) is =
      asked digest _ _ _ _ _ (targets digest w (tag_ref t.name) n)
      (asked digest _ _ _ _ _ (taggers digest w (tag_ref t.name) n ident)
      (asked digest _ _ _ _ _
      (subst (λ (tagger : Option (List ℕ)). after_act digest (ObjectAct (TagCommand mark t.message)) (with_header w (header_by (tag_ref t.name) n tagger)) ≡ quiet (tagged_in digest w mark t))
      is (tag-stored digest w mark t n may)) (nothing _)))

  -- the acts of a tag, with or without a mark
  pub tag-leaves : (mark : Option ℕ) (t : Tag) → MayTag digest w mark t n
      → Leaves digest (acts_for n mark t) w (tagged_in digest w mark t)
  tag-leaves None t may =
      asked digest _ _ _ _ _ (begins digest w (tag_ref t.name))
      (from-target None t may t.tagger refl)
  tag-leaves (Some mark) t may =
      asked digest _ _ _ _ _ (begins digest w (tag_ref t.name))
      (asked digest _ _ _ _ _ (waits digest _) (from-target (Some mark) t may t.tagger refl))
