-- What the items of an export ask for: git-fast-import(1), "Commands".
use Rattle.std.specs.Prelude.{◌≡◌, ℕ, ◌+◌, true, false, if◌then◌else◌, List, [], ◌∷◌, ◌++◌, map, replicate, Option, None, Some, Ok}
use Rattle.std.specs.List.{flat_map}
use Rattle.std.specs.Str.{bytes_eq}
use Rattle.git_model.specs.declared.file_mode.FileMode.{FileMode}
use Rattle.git_model.specs.declared.file_mode.FileMode.TheVariants as mode
use Rattle.git_model.specs.declared.kind.Kind.{Kind}
use Rattle.git_model.specs.declared.kind.Kind.TheVariants as kind
use Rattle.git_model.specs.Commit.{Commit}
use Rattle.git_model.specs.CommitReading.{commit_read}
use Rattle.git_model.specs.Tag.{Tag}
use Rattle.git_model.specs.TagReading.{tag_read}
use Rattle.git_model.specs.RefStore.{RefStore, first_head, listed_refs}
use Rattle.git_model.specs.Repository.{Object, Repository}
use Rattle.git_model.specs.References.{place_of}
use Rattle.file_maps.specs.declared.entry.Entry.{Entry}
use Rattle.file_maps.specs.FileMap.{Path, listed}
use Rattle.file_maps.specs.StoredFiles.{stored_map}
use Rattle.stream_grammar.specs.declared.data_ref.DataRef.{DataRef}
use Rattle.stream_grammar.specs.declared.data_ref.DataRef.TheVariants as data_ref
use Rattle.stream_grammar.specs.declared.feature.Feature.TheVariants as feature
use Rattle.stream_grammar.specs.Names.{CommitIsh, Marked, Expression}
use Rattle.stream_grammar.specs.declared.act.ControlCommand.TheVariants as control
use Rattle.stream_grammar.specs.Acts.{Act, Wait, Object as ObjectAct, Commit as CommitAct, Change}
use Rattle.stream_grammar.specs.Acts.{Ref, Control}
use Rattle.stream_grammar.specs.Acts.{Blob, BeginTag, TagTarget, Tagger, Tag as TagCommand}
use Rattle.stream_grammar.specs.Acts.{Begin, Author, Committer, Encoding, Message, From, Merge}
use Rattle.stream_grammar.specs.Acts.{Modify, DeleteAll}
use Rattle.stream_grammar.specs.Acts.{Reset, ResetFrom}
use Rattle.stream_grammar.specs.Commands.{Done, commands, end_of, top}
use Rattle.export_text.specs.Reached.{tag_ref, reached_objects, by_target, in_order}
use Rattle.export_text.specs.ExportItems.{scratch}
use Rattle.export_text.specs.Export.{export_items}

-- An item asks for an act, and ends no commit before it.
abbrev pub asks : Act → Done
asks act = record { ends_commit = false; act = act }

-- A blank line ends a commit, and asks for nothing.
abbrev pub ends : Done
ends = record { ends_commit = true; act = Wait }

-- ---- one object, as in ExportItems

abbrev pub number_of : List Object → List ℕ → ℕ
number_of os id = place_of id os + 1

-- A commit may have an encoding, and a tag a tagger.
abbrev pub encoding_act : List ℕ → Act
encoding_act text = CommitAct (Encoding text)

abbrev pub tagger_act : List ℕ → Act
tagger_act ident = ObjectAct (Tagger ident)

abbrev pub asks_if : (List ℕ → Act) → Option (List ℕ) → List Done
asks_if act None = []
asks_if act (Some text) = asks (act text) ∷ []

abbrev pub blob_acts : List Object → List ℕ → List ℕ → List Done
blob_acts os id bytes =
    asks Wait ∷ asks Wait ∷ asks (ObjectAct (Blob (Some (number_of os id)) bytes)) ∷ []

abbrev pub fresh_acts : List (List ℕ) → List Done
fresh_acts [] = asks (Ref (Reset scratch)) ∷ []
fresh_acts (first ∷ others) = []

abbrev pub merges : List Object → List ℕ → Done
merges os id = asks (CommitAct (Merge (Marked (number_of os id))))

abbrev pub parent_acts : List Object → List (List ℕ) → List Done
parent_acts os [] = []
parent_acts os (first ∷ others) =
    asks (CommitAct (From (Marked (number_of os first)))) ∷ map (merges os) others

abbrev pub dataref : List Object → FileMode → List ℕ → DataRef
dataref os mode.Gitlink id = data_ref.Name id
dataref os file id = data_ref.Mark (number_of os id)

abbrev pub act_of_file : List Object → Path × Entry → Done
act_of_file os f = asks (Change (Modify f.1.mode (dataref os f.1.mode f.1.name) f.0))

abbrev pub file_acts : List Object → List ℕ → List Done
file_acts os tree = asks (Change DeleteAll) ∷ map (act_of_file os) (listed (stored_map os tree))

abbrev pub head_acts_of : Commit → List Done
head_acts_of c = fresh_acts c.parents
    ++ asks (CommitAct (Begin scratch)) ∷ asks Wait
    ∷ asks (CommitAct (Author c.author)) ∷ asks (CommitAct (Committer c.committer))
    ∷ asks_if encoding_act c.encoding

abbrev pub commit_acts : List Object → List ℕ → Commit → List Done
commit_acts os id c = head_acts_of c
    ++ asks (CommitAct (Message (Some (number_of os id)) c.message)) ∷ []
    ++ parent_acts os c.parents ++ file_acts os c.tree ++ ends ∷ []

abbrev pub wait_if : Option ℕ → List Done
wait_if None = []
wait_if (Some mark) = asks Wait ∷ []

abbrev pub tag_acts : List Object → Option ℕ → Tag → List Done
tag_acts os mark t = asks (ObjectAct (BeginTag (tag_ref t.name))) ∷ wait_if mark
    ++ asks (ObjectAct (TagTarget (Marked (number_of os t.target)))) ∷ []
    ++ asks_if tagger_act t.tagger ++ asks (ObjectAct (TagCommand mark t.message)) ∷ []

abbrev pub acts_of : List Object → List ℕ → Kind → List ℕ → List Done
acts_of os id kind.Blob bytes = blob_acts os id bytes
acts_of os id kind.Tree bytes = []
acts_of os id kind.Commit bytes = commit_acts os id (commit_read bytes)
acts_of os id kind.Tag bytes = tag_acts os (Some (number_of os id)) (tag_read bytes)

abbrev pub acts_of_object : List Object → Object → List Done
acts_of_object os o = acts_of os o.id o.content.kind o.content.bytes

-- ---- all of them, as in Export

unfoldable pub head_acts : List ℕ → List Done
head_acts head = if bytes_eq head first_head then [] else asks (Control (control.Head head)) ∷ []

abbrev pub opening_acts : RefStore → List Done
opening_acts store = asks (Control (control.Feature feature.Force)) ∷ head_acts store.head

abbrev pub object_acts : Repository → List Done
object_acts repository = flat_map (acts_of_object repository.objects) (reached_objects repository)

abbrev pub saving_acts : List Done
saving_acts = asks (Ref (Reset scratch)) ∷ asks (Control control.Checkpoint) ∷ []

-- A reset, its `from`, and a blank line.
abbrev pub reset_acts : List ℕ → CommitIsh → List Done
reset_acts ref to = asks (Ref (Reset ref)) ∷ asks (Ref (ResetFrom to)) ∷ asks Wait ∷ []

abbrev pub removal_acts : List ℕ → List Done
removal_acts ref = reset_acts ref (Expression (replicate 40 48))

abbrev pub ref_acts : List Object → List ℕ → List ℕ → Kind → List ℕ → List Done
ref_acts os ref id kind.Tag bytes = tag_acts os None (tag_read bytes)
ref_acts os ref id other bytes = reset_acts ref (Marked (number_of os id))

abbrev pub acts_of_ref : List Object → List ℕ × List ℕ → List Done
acts_of_ref = by_target ref_acts

abbrev pub all_ref_acts : Repository → List Done
all_ref_acts repository =
    flat_map (acts_of_ref repository.objects) (listed_refs repository.refs)

-- What an export asks for, item by item.
abbrev pub export_acts : Repository → List Done
export_acts = in_order opening_acts acts_of_object saving_acts removal_acts acts_of_ref

-- The commands of an export are these acts, and it ends where a stream may end, outside a commit.
pub record AsksFor (repository : Repository) : Type 0 where
  pub given : (commands (Ok top) (export_items repository)).given ≡ export_acts repository
  pub end : end_of (commands (Ok top) (export_items repository)).rest ≡ Ok false
