-- An open commit stays what it is while an object is stored.
use Rattle.std.proofs.Common.{◌≡◌, ℕ, zero, List, [], Some, Result, Ok, Err, refl, sym, ap, ◌∙◌, subst, arith}
use Rattle.std.specs.Prelude.{OnOk}
use Rattle.git_model.specs.declared.file_mode.FileMode.{FileMode}
use Rattle.git_model.specs.Content.{Content, name_by}
use Rattle.git_model.specs.Repository.{Object}
use Rattle.file_maps.specs.FileMap.{Path, FileMap, listed}
use Rattle.file_maps.specs.Edits.{files_at}
use Rattle.file_maps.specs.Trees.{tree_id}
use Rattle.file_maps.proofs.ListedOrder.{cut-root}
use Rattle.tree_build.specs.Shape.{What, file, unopened, opened, Shape, none, row}
use Rattle.tree_build.specs.Branch.{Branch, files_in, root_name, closed_by, closed_along, closed_from, CountsAtMost}
use Rattle.tree_build.proofs.Growing.{branch_stays}
use Rattle.open_commits.specs.declared.fault.Fault.{Fault}
use Rattle.git_model.specs.Results.{and_then}
use Rattle.open_commits.specs.OpenCommit.{OpenCommit, HeldCommit, Stands, open_commit_in}
use Rattle.open_commits.specs.Storing.{stored}
use Rattle.open_commits.specs.Calls.{Gives}
use Rattle.open_commits.specs.Ends.{KeepsFiles}
use Rattle.open_commits.specs.Changes.{entry_of, file_put, blob_put, left_with}
use Rattle.open_commits.proofs.GoodCommits.{stored-ok}

-- it stands where it stood, and means what it meant
pub stored-keeps : (digest : List ℕ → List ℕ) (content : Content) (os more : List Object)
    (held : HeldCommit) → stored digest content os ≡ Ok more → Stands os held
    → Stands more held × (open_commit_in more held ≡ open_commit_in os held)
stored-keeps digest content os more held is stands =
    let stay = branch_stays (name_by digest content) content os held.files stands in
    subst (λ (l : List Object). Stands l held × (open_commit_in l held ≡ open_commit_in os held))
    (stored-ok digest content os more is).is
    (stay.0, ap (λ (m : FileMap). record (open_commit_in os held) { files = m }) stay.1)

pub blob-done : (digest : List ℕ → List ℕ) (os more : List Object) (mode : FileMode) (path : Path)
    (content : Content) (commit next last : OpenCommit)
    → file_put path (entry_of mode (name_by digest content)) commit ≡ Ok next
    → stored digest content os ≡ Ok more → last ≡ next
    → blob_put digest os mode path content commit ≡ Ok (left_with more last)
blob-done digest os more mode path content commit next last put is same =
    ap (λ (r : Result OpenCommit Fault). and_then r (λ next.
    and_then (stored digest content os) (λ more. Ok (left_with more next)))) put
    ∙ ap (λ (r : Result (List Object) Fault). and_then r (λ more. Ok (left_with more next))) is
    ∙ ap (λ (commit : OpenCommit). Ok (left_with more commit)) (sym same)

-- it stands after its own commit was stored
pub closed-held : (digest : List ℕ → List ℕ) (content : Content) (os more : List Object)
    (held : HeldCommit) (r : Result (List ℕ) Fault)
    → Gives (stored digest content os) (λ _. more) r → Stands os held → OnOk r (Stands more held)
closed-held digest content os more held (Ok id) gives stands =
    (stored-keeps digest content os more held gives stands).0
closed-held digest content os more held (Err e) gives stands = tt

-- a walk to the root reads nothing
none-at-root : (what : What) (inside : Shape) → closed_by what (closed_along inside []) zero ≡ zero
none-at-root (file e) inside = refl
none-at-root (unopened id) inside = refl
none-at-root (opened tree) none = refl
none-at-root (opened tree) (row c what inside rest) = refl

none-read : (old new : Branch) → CountsAtMost old new (closed_from old.root []) → new.reads ≡ old.reads
none-read old new read =
    let none = none-at-root old.root.what old.root.inside in
    let most = read.bounded in let least = read.counted in omega arith

-- its files are then what they were, known as the tree that was stored, with nothing read
pub closed-files : (digest : List ℕ → List ℕ) (content : Content) (os mid more : List Object)
    (old after : HeldCommit) (tree : List ℕ) (r : Result (List ℕ) Fault)
    → Gives (stored digest content mid) (λ _. more) r → Stands mid after
    → files_in mid after.files ≡ files_in os old.files
    → tree ≡ tree_id digest (files_at (files_in os old.files) [])
    → root_name after.files ≡ Some tree
    → CountsAtMost old.files after.files (closed_from old.files.root [])
    → OnOk r (KeepsFiles digest os more old after)
closed-files digest content os mid more old after tree (Ok id) gives stands same is known read = record {
  files =
      ap (λ (commit : OpenCommit). commit.files) (stored-keeps digest content mid more after gives stands).1
      ∙ same;
  known = known ∙ ap (λ (t : List ℕ). Some t) (is ∙ ap (tree_id digest) (cut-root (listed (files_in os old.files))));
  reads = none-read old.files after.files read;
}
closed-files digest content os mid more old after tree (Err e) gives stands same is known read = tt
