-- Changes of the files of a commit, by those of its file map.
use Rattle.std.proofs.Common.{◌≡◌, ◌≢◌, ℕ, List, Option, None, Some, Result, Ok, Err, refl, sym, ap, ◌∙◌, subst}
use Rattle.git_model.specs.declared.file_mode.FileMode.{FileMode}
use Rattle.git_model.specs.declared.file_mode.FileMode.TheVariants as mode
use Rattle.git_model.specs.declared.kind.Kind.TheVariants as kind
use Rattle.git_model.specs.Content.{content_from}
use Rattle.git_model.specs.Repository.{Object}
use Rattle.tenant_tables.specs.SumIn.{sum_in}
use Rattle.file_maps.specs.declared.fault.Fault.{Fault as FilesFault}
use Rattle.file_maps.specs.Calls.{Edits}
use Rattle.file_maps.specs.FileMap.{Path, Listed, FileMap}
use Rattle.file_maps.specs.Edits.{moved, put_tree_at, put_fault}
use Rattle.file_maps.specs.Grafts.{Grafts, graft_fault, or_else, tree_fault}
use Rattle.file_maps.specs.StoredFiles.{stored_files}
use Rattle.file_maps.proofs.Grafting.{unrefused-summary}
use Rattle.file_maps.proofs.KnownTrees.{known-files}
use Rattle.file_maps.proofs.Standing.{the_summary}
use Rattle.open_commits.specs.declared.fault.Fault.{Fault}
use Rattle.open_commits.specs.declared.fault.Fault.TheVariants as fault
use Rattle.open_commits.specs.Faults.{editing_fault}
use Rattle.open_commits.specs.OpenCommit.{OpenCommit}
use Rattle.open_commits.specs.Parents.{changed_to}
use Rattle.open_commits.specs.Changes.{contents_put, blob_put}
use Rattle.open_commits.proofs.Closings.{not_memory}

-- a call that was refused leaves the same, whatever it would have left
refused-edits : (r : Result (Unit {0}) FilesFault) (old new one other : FileMap) (e : FilesFault)
    → Edits r old new (Some e) one → Edits r old new (Some e) other
refused-edits (Ok u) old new one other e h = absurd (let no : Some e ≡ None = h.0 in cc no)
refused-edits (Err f) old new one other e h = h

-- a stored tree is put with the files that the function gives
pub grafts-stored : (os : List Object) (r : Result (Unit {0}) FilesFault) (id : List ℕ) (path : Path)
    (old new : FileMap) → Grafts r os id path old new
    → let after = put_tree_at old path (stored_files os id) in
    Edits r old new (graft_fault os id (moved path (stored_files os id)) after) after
grafts-stored os r id path old new grafts = by (tree_fault os id) refl
  where
    put : Listed → FileMap
    put l = put_tree_at old path l

    known : tree_fault os id ≡ None → grafts.files ≡ stored_files os id
    known none =
        let s = the_summary (sum_in os id) (unrefused-summary os id none) in
        (known-files os id s.0 s.1).0.only grafts.files (grafts.listed none).listed

    by : (f : Option FilesFault) → tree_fault os id ≡ f
        → Edits r old new (or_else (tree_fault os id) (put_fault (moved path (stored_files os id)) (put (stored_files os id)))) (put (stored_files os id))
    by None none =
        subst (λ (l : Listed). Edits r old new (or_else (tree_fault os id) (put_fault (moved path l) (put l))) (put l))
        (known none) grafts.edits
    by (Some e) is =
        let told = subst (λ (f : Option FilesFault). Edits r old new (or_else f (put_fault (moved path grafts.files) (put grafts.files))) (put grafts.files))
        is grafts.edits in
        subst (λ (f : Option FilesFault). Edits r old new (or_else f (put_fault (moved path (stored_files os id)) (put (stored_files os id)))) (put (stored_files os id)))
        (sym is) (refused-edits r old new (put grafts.files) (put (stored_files os id)) e told)

pub put-done : (commit : OpenCommit) (new after : FileMap) (refusal : Option FilesFault)
    → Edits {A = Unit {0}} (Ok tt) commit.files new refusal after
    → changed_to commit after refusal ≡ Ok (record commit { files = new })
put-done commit new after refusal edits =
    ap (changed_to commit after) edits.0
    ∙ ap (λ (m : FileMap). Ok (record commit { files = m })) (sym edits.1)

pub put-refused : (commit : OpenCommit) (new after : FileMap) (refusal : Option FilesFault)
    (e : FilesFault) (f : Fault) → f ≡ editing_fault e
    → Edits {A = Unit {0}} (Err e) commit.files new refusal after
    → f ≢ fault.Memory
    → (changed_to commit after refusal ≡ Err f) × (record commit { files = new } ≡ commit)
put-refused commit new after refusal e f is edits ne =
    let told = edits (not_memory e f is ne) in (
      ap (changed_to commit after) told.0 ∙ ap (λ (x : Fault). Err x) (sym is),
      ap (λ (m : FileMap). record commit { files = m }) told.1,
    )

-- a file that may have contents is put with them
pub contents-put : (digest : List ℕ → List ℕ) (os : List Object) (m : FileMode) (path : Path)
    (bytes : List ℕ) (commit : OpenCommit) → m ≢ mode.Gitlink → m ≢ mode.Directory
    → contents_put digest os m path bytes commit
    ≡ blob_put digest os m path (content_from kind.Blob bytes) commit
contents-put digest os mode.Regular path bytes commit link directory = refl
contents-put digest os mode.Executable path bytes commit link directory = refl
contents-put digest os mode.Symlink path bytes commit link directory = refl
contents-put digest os mode.Gitlink path bytes commit link directory = absurd (link refl)
contents-put digest os mode.Directory path bytes commit link directory = absurd (directory refl)
