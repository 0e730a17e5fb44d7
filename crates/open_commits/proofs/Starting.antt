-- A commit starts from another: the stored tree takes the place of all files.
use Rattle.std.proofs.Common.{◌≡◌, ◌≢◌, ℕ, List, [], ◌∷◌, Option, None, Some, Result, Ok, Err, refl, sym, ap, ◌∙◌}
use Rattle.std.specs.FinMap as finmap
use Rattle.std.specs.FinMap.{same_map, get-retain_keys, get-empty}
use Rattle.git_model.specs.Repository.{Object}
use Rattle.git_paths.specs.Order.{path_cmp, path_cmp-total, path_cmp-IsAntisymmetric}
use Rattle.file_maps.specs.declared.fault.Fault.{Fault as FilesFault}
use Rattle.file_maps.specs.FileMap.{Listed, FileMap, is_apart}
use Rattle.file_maps.specs.Edits.{moved, with_files, put_tree_at}
use Rattle.file_maps.specs.Grafts.{graft_fault}
use Rattle.file_maps.specs.StoredFiles.{stored_files, tree_of_commit, commit_map}
use Rattle.open_commits.specs.declared.fault.Fault.{Fault}
use Rattle.open_commits.specs.declared.fault.Fault.TheVariants as fault
use Rattle.open_commits.specs.OpenCommit.{OpenCommit}
use Rattle.open_commits.specs.Parents.{changed_to, started_from}
use Rattle.open_commits.specs.Changes.{tree_put}

-- nothing stands apart from the root
root-clears : (m : FileMap) → finmap.retain_keys m (is_apart []) ≡ finmap.empty
root-clears m =
    same_map path_cmp-total path_cmp-IsAntisymmetric _ _ (λ q.
    get-retain_keys m (is_apart []) q (λ x e. ap (is_apart []) (sym (path_cmp-IsAntisymmetric q x e)))
    ∙ sym (get-empty path_cmp q))

moved-root : (files : Listed) → moved [] files ≡ files
moved-root [] = refl
moved-root (f ∷ files) = ap (λ (l : Listed). f ∷ l) (moved-root files)

pub root-put : (m : FileMap) (files : Listed)
    → put_tree_at m [] files ≡ with_files finmap.empty files
root-put m files =
    ap (with_files (finmap.retain_keys m (is_apart []))) (moved-root files)
    ∙ ap (λ (held : FileMap). with_files held files) (root-clears m)

-- the same commit with one parent, where there is one
abbrev pub with_parent : List ℕ → Result OpenCommit Fault → Result OpenCommit Fault
with_parent id (Ok commit) = Ok (record commit { parents = id ∷ [] })
with_parent id (Err e) = Err e

parent-changed : (id : List ℕ) (commit : OpenCommit) (files : FileMap) (refusal : Option FilesFault)
    → changed_to (record commit { parents = id ∷ [] }) files refusal
    ≡ with_parent id (changed_to commit files refusal)
parent-changed id commit files None = refl
parent-changed id commit files (Some e) = refl

pub starts : (os : List Object) (id tree : List ℕ) (commit : OpenCommit)
    → tree ≡ tree_of_commit os id
    → started_from os id commit ≡ with_parent id (tree_put os [] tree commit)
starts os id tree commit is =
    let own = tree_of_commit os id in
    let files = stored_files os own in
    parent-changed id commit (commit_map os id) (graft_fault os own files (commit_map os id))
    ∙ ap (λ (m : FileMap). with_parent id (changed_to commit m (graft_fault os own files m)))
    (sym (root-put commit.files files))
    ∙ ap (λ (l : Listed). with_parent id (changed_to commit (put_tree_at commit.files [] files)
    (graft_fault os own l (put_tree_at commit.files [] files)))) (sym (moved-root files))
    ∙ ap (λ (t : List ℕ). with_parent id (tree_put os [] t commit)) (sym is)

pub start-done : (os : List Object) (id tree : List ℕ) (parents : List (List ℕ))
    (commit next : OpenCommit)
    → tree ≡ tree_of_commit os id → tree_put os [] tree commit ≡ Ok next → parents ≡ id ∷ []
    → started_from os id commit ≡ Ok (record next { parents = parents })
start-done os id tree parents commit next is put one =
    starts os id tree commit is ∙ ap (with_parent id) put
    ∙ ap (λ (l : List (List ℕ)). Ok (record next { parents = l })) (sym one)

pub start-refused : (os : List Object) (id tree : List ℕ) (commit new : OpenCommit) (e f : Fault)
    → tree ≡ tree_of_commit os id → f ≡ e
    → (e ≢ fault.Memory → (tree_put os [] tree commit ≡ Err e) × (new ≡ commit))
    → f ≢ fault.Memory → (started_from os id commit ≡ Err f) × (new ≡ commit)
start-refused os id tree commit new e f is same refused ne =
    let told = refused (λ at. ne (same ∙ at)) in (
      starts os id tree commit is ∙ ap (with_parent id) told.0
          ∙ ap (λ (x : Fault). Err x) (sym same),
      told.1,
    )
